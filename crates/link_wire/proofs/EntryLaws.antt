-- Entries: what is read is spelled so, and what is spelled so is read.
use Rattle.std.proofs.Common.{◌≡◌, ℕ, zero, suc, eqb, refl, sym, ap, arith}
use Rattle.tree_log.specs.declared.entry.Entry.{Entry}
use Rattle.tree_log.specs.declared.entry.Target.{Target}
use Rattle.tree_log.specs.declared.entry.Target.TheVariants as targets
use Rattle.tree_log.specs.declared.entry.What.{What}
use Rattle.tree_log.specs.declared.entry.What.TheVariants as whats
use Rattle.link_fields.specs.declared.fault.Flaw.TheVariants.{Range}
use Rattle.link_fields.specs.Field.{◌⊗◌, only}
use Rattle.link_fields.specs.Basic.{u8, u16, u32, small, url, optional}
use Rattle.link_fields.specs.Origins.{origin}
use Rattle.link_fields.specs.Lawful.{IsLawful}
use Rattle.link_fields.proofs.FieldLaws.{at_most, nothing_law, pair_law, only_law, mapped_law, keyed_law, u8_law, u16_law, u32_law, small_law, text_law, url_law, flags_law, optional_law}
use Rattle.link_fields.proofs.ValueLaws.{row_law, either_law, either_key, never_law}
use Rattle.link_fields.proofs.KindLaws.{row_or_law, row_or_key}
use Rattle.link_fields.proofs.OriginLaws.{origin_law, any_host_law}
use Rattle.link_fields.proofs.DataLaws.{data_law}
use Rattle.frame_grammar.specs.Parts.{target_tag, target_inside, target_row, target, load, cause_at, cause_number, cause}
use Rattle.frame_grammar.specs.Entries.{open_kind, frame_kind, drop_kind, name_kind, begin_kind, commit_kind, fragment_kind, opener_kind, post_kind, fire_kind, lapse_kind, closing_kind, gone_kind, lost_kind, sync_kind, hidden_kind, domain_kind, what_spelled, what_tag, is_what_tag, what_body, what_row, entry_rest, entry}

-- ---- targets, loads, causes

target_row_law : (tag : ℕ) → IsLawful (target_row tag)
target_row_law tag =
    either_law (eqb tag 0) _ _ (nothing_law targets.Any)
    (either_law (eqb tag 1) _ _ (nothing_law targets.Never)
    (either_law (eqb tag 2) _ _ (row_law target_inside (λ o. targets.Origin o) origin origin_law (λ o. refl))
    (never_law Range)))

target_key : (tag : ℕ) (t : Target) → (small 2).Fits tag → (target_row tag).Fits t → target_tag t ≡ tag
target_key tag t s =
    either_key target_tag tag 0 _ _ t (λ h. ap target_tag h)
    (either_key target_tag tag 1 _ _ t (λ h. ap target_tag h)
    (either_key target_tag tag 2 _ _ t (λ h. ap target_tag (sym h.2))
    (λ h. absurd h)))

pub target_law : IsLawful target
target_law = keyed_law target_tag (small 2) target_row (small_law 2) target_row_law target_key

pub load_law : IsLawful load
load_law = mapped_law _ _ (u32 ⊗ u16 ⊗ origin ⊗ url) (λ x h. refl) (pair_law _ _ u32_law (pair_law _ _ u16_law (pair_law _ _ origin_law url_law)))

cause_back : (n : ℕ) → (small 1).Fits n → cause_number (cause_at n) ≡ n
cause_back zero h = refl
cause_back (suc zero) h = refl
cause_back (suc (suc n)) h = let le = at_most (suc (suc n)) 1 h.1 in absurd (omega arith)

pub cause_law : IsLawful cause
cause_law = mapped_law cause_at cause_number (small 1) cause_back (small_law 1)

-- ---- what happened

what_row_law : (tag : ℕ) → IsLawful (what_row tag)
what_row_law tag =
    row_or_law what_spelled tag open_kind _ (pair_law _ _ u32_law (pair_law _ _ u32_law (pair_law _ _ u32_law (pair_law _ _ u16_law (pair_law _ _ origin_law (pair_law _ _ text_law (pair_law _ _ (optional_law u32 u32_law) (pair_law _ _ flags_law (pair_law _ _ (optional_law u32 u32_law) (optional_law load load_law)))))))))) (λ x. refl)
    (row_or_law what_spelled tag frame_kind _ (pair_law _ _ u32_law (pair_law _ _ u32_law (pair_law _ _ u16_law (pair_law _ _ origin_law (pair_law _ _ text_law (pair_law _ _ flags_law (optional_law load load_law))))))) (λ x. refl)
    (row_or_law what_spelled tag drop_kind _ u32_law (λ x. refl)
    (row_or_law what_spelled tag name_kind _ (pair_law _ _ u32_law text_law) (λ x. refl)
    (row_or_law what_spelled tag begin_kind _ (pair_law _ _ u32_law load_law) (λ x. refl)
    (row_or_law what_spelled tag commit_kind _ (pair_law _ _ u32_law (pair_law _ _ u32_law u32_law)) (λ x. refl)
    (row_or_law what_spelled tag fragment_kind _ (pair_law _ _ u32_law (pair_law _ _ u32_law url_law)) (λ x. refl)
    (row_or_law what_spelled tag opener_kind _ (pair_law _ _ u32_law (optional_law u32 u32_law)) (λ x. refl)
    (row_or_law what_spelled tag post_kind _ (pair_law _ _ u32_law (pair_law _ _ u32_law (pair_law _ _ origin_law (pair_law _ _ target_law data_law)))) (λ x. refl)
    (row_or_law what_spelled tag fire_kind _ (pair_law _ _ u32_law u32_law) (λ x. refl)
    (row_or_law what_spelled tag lapse_kind _ (pair_law _ _ u32_law (pair_law _ _ u32_law cause_law)) (λ x. refl)
    (row_or_law what_spelled tag closing_kind _ u32_law (λ x. refl)
    (row_or_law what_spelled tag gone_kind _ u32_law (λ x. refl)
    (row_or_law what_spelled tag lost_kind _ u16_law (λ x. refl)
    (row_or_law what_spelled tag sync_kind _ (nothing_law tt) (λ x. refl)
    (row_or_law what_spelled tag hidden_kind _ (nothing_law tt) (λ x. refl)
    (row_or_law what_spelled tag domain_kind _ (pair_law _ _ u32_law any_host_law) (λ x. refl)
    (never_law Range)))))))))))))))))

what_key : (tag : ℕ) (w : What) → (what_row tag).Fits w → what_tag w ≡ tag
what_key tag w =
    row_or_key what_spelled tag open_kind _ w (λ x. refl)
    (row_or_key what_spelled tag frame_kind _ w (λ x. refl)
    (row_or_key what_spelled tag drop_kind _ w (λ x. refl)
    (row_or_key what_spelled tag name_kind _ w (λ x. refl)
    (row_or_key what_spelled tag begin_kind _ w (λ x. refl)
    (row_or_key what_spelled tag commit_kind _ w (λ x. refl)
    (row_or_key what_spelled tag fragment_kind _ w (λ x. refl)
    (row_or_key what_spelled tag opener_kind _ w (λ x. refl)
    (row_or_key what_spelled tag post_kind _ w (λ x. refl)
    (row_or_key what_spelled tag fire_kind _ w (λ x. refl)
    (row_or_key what_spelled tag lapse_kind _ w (λ x. refl)
    (row_or_key what_spelled tag closing_kind _ w (λ x. refl)
    (row_or_key what_spelled tag gone_kind _ w (λ x. refl)
    (row_or_key what_spelled tag lost_kind _ w (λ x. refl)
    (row_or_key what_spelled tag sync_kind _ w (λ x. refl)
    (row_or_key what_spelled tag hidden_kind _ w (λ x. refl)
    (row_or_key what_spelled tag domain_kind _ w (λ x. refl)
    (λ h. absurd h)))))))))))))))))

-- the row of what happened spells its fields
pub what_is : (w : What) → (what_row (what_tag w)).spell w ≡ what_body w
what_is (whats.Open nav doc group home o name opener fl navigator l) = refl
what_is (whats.Frame nav doc home o name fl l) = refl
what_is (whats.Drop nav) = refl
what_is (whats.Name nav name) = refl
what_is (whats.Begin nav l) = refl
what_is (whats.Commit nav doc begin) = refl
what_is (whats.Fragment nav doc u) = refl
what_is (whats.Opener nav to) = refl
what_is (whats.Post to from o t body) = refl
what_is (whats.Fire doc post) = refl
what_is (whats.Lapse doc post c) = refl
what_is (whats.Closing nav) = refl
what_is (whats.Gone nav) = refl
what_is (whats.Lost renderer) = refl
what_is whats.Sync = refl
what_is whats.Hidden = refl
what_is (whats.Domain doc domain) = refl

-- ---- entries

entry_rest_law : (tag : ℕ) → IsLawful (entry_rest tag)
entry_rest_law tag = mapped_law _ _ (optional u16 ⊗ optional u32 ⊗ what_row tag) (λ x h. refl) (pair_law _ _ (optional_law u16 u16_law) (pair_law _ _ (optional_law u32 u32_law) (what_row_law tag)))

pub entry_law : IsLawful entry
unfolding entry
entry_law = keyed_law (λ (e : Entry). what_tag e.what) (only Range is_what_tag u8) entry_rest (only_law Range is_what_tag u8 u8_law) entry_rest_law (λ tag e s h. what_key tag e.what h.0.1.1)
