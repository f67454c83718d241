-- Each kind of request: what is read is spelled so, and what is spelled so is read.
use Rattle.std.proofs.Common.{◌≡◌, ℕ, refl}
use Rattle.link_fields.specs.declared.fault.Flaw.TheVariants.{Range}
use Rattle.link_fields.specs.Basic.{url}
use Rattle.link_fields.specs.Lawful.{IsLawful}
use Rattle.link_fields.proofs.FieldLaws.{nothing_law, pair_law, u32_law, text_law, url_law, flags_law, truth_law, optional_law}
use Rattle.link_fields.proofs.ValueLaws.{never_law}
use Rattle.link_fields.proofs.KindLaws.{row_or_law, row_or_key}
use Rattle.link_wire.proofs.EntryLaws.{target_law}
use Rattle.link_fields.proofs.DataLaws.{data_law}
use Rattle.agent_terms.specs.declared.request.Request.{Request}
use Rattle.link_wire.specs.Requests.{next_kind, sync_kind, frame_kind, drop_kind, open_kind, link_kind, go_kind, name_kind, disown_kind, close_kind, post_kind, domain_kind, more_kind, request_spelled, kind_of, request_row}

pub request_row_law : (tag : ℕ) → IsLawful (request_row tag)
request_row_law tag =
    row_or_law request_spelled tag next_kind _ (nothing_law tt) (λ x. refl)
    (row_or_law request_spelled tag sync_kind _ u32_law (λ x. refl)
    (row_or_law request_spelled tag frame_kind _ (pair_law _ _ u32_law (pair_law _ _ text_law (pair_law _ _ flags_law (optional_law url url_law)))) (λ x. refl)
    (row_or_law request_spelled tag drop_kind _ (pair_law _ _ u32_law u32_law) (λ x. refl)
    (row_or_law request_spelled tag open_kind _ (pair_law _ _ u32_law (pair_law _ _ (optional_law url url_law) (pair_law _ _ text_law (pair_law _ _ truth_law truth_law)))) (λ x. refl)
    (row_or_law request_spelled tag link_kind _ (pair_law _ _ u32_law (pair_law _ _ url_law (pair_law _ _ text_law (pair_law _ _ truth_law truth_law)))) (λ x. refl)
    (row_or_law request_spelled tag go_kind _ (pair_law _ _ u32_law (pair_law _ _ u32_law (pair_law _ _ url_law truth_law))) (λ x. refl)
    (row_or_law request_spelled tag name_kind _ (pair_law _ _ u32_law (pair_law _ _ u32_law text_law)) (λ x. refl)
    (row_or_law request_spelled tag disown_kind _ (pair_law _ _ u32_law u32_law) (λ x. refl)
    (row_or_law request_spelled tag close_kind _ (pair_law _ _ u32_law (pair_law _ _ u32_law truth_law)) (λ x. refl)
    (row_or_law request_spelled tag post_kind _ (pair_law _ _ u32_law (pair_law _ _ u32_law (pair_law _ _ target_law data_law))) (λ x. refl)
    (row_or_law request_spelled tag domain_kind _ (pair_law _ _ u32_law text_law) (λ x. refl)
    (row_or_law request_spelled tag more_kind _ (nothing_law tt) (λ x. refl)
    (never_law Range)))))))))))))

-- what a row reads is of its kind
pub request_key : (tag : ℕ) (r : Request) → (request_row tag).Fits r → kind_of r ≡ tag
request_key tag r =
    row_or_key request_spelled tag next_kind _ r (λ x. refl)
    (row_or_key request_spelled tag sync_kind _ r (λ x. refl)
    (row_or_key request_spelled tag frame_kind _ r (λ x. refl)
    (row_or_key request_spelled tag drop_kind _ r (λ x. refl)
    (row_or_key request_spelled tag open_kind _ r (λ x. refl)
    (row_or_key request_spelled tag link_kind _ r (λ x. refl)
    (row_or_key request_spelled tag go_kind _ r (λ x. refl)
    (row_or_key request_spelled tag name_kind _ r (λ x. refl)
    (row_or_key request_spelled tag disown_kind _ r (λ x. refl)
    (row_or_key request_spelled tag close_kind _ r (λ x. refl)
    (row_or_key request_spelled tag post_kind _ r (λ x. refl)
    (row_or_key request_spelled tag domain_kind _ r (λ x. refl)
    (row_or_key request_spelled tag more_kind _ r (λ x. refl)
    (λ h. absurd h)))))))))))))
