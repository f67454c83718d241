-- Origins: what is read is spelled so, and what is spelled so is read.
use Rattle.std.proofs.Common.{◌≡◌, ℕ, zero, suc, Bool, eqb, refl, sym, ap, arith}
use Rattle.std.specs.Prelude.{Some, is_some}
use Rattle.origin_core.specs.Host.{host_kind}
use Rattle.origin_core.specs.Tuple.{TupleParts, is_own_port, within_limit}
use Rattle.origin_core.specs.declared.origin.Scheme.{Scheme}
use Rattle.origin_core.specs.declared.origin.Origin.{Origin}
use Rattle.origin_core.specs.declared.origin.Origin.TheVariants as origins
use Rattle.link_fields.specs.declared.fault.Flaw.TheVariants.{Range}
use Rattle.link_fields.specs.Field.{◌⊗◌}
use Rattle.link_fields.specs.Basic.{u16, u32, small, truth, text, optional}
use Rattle.link_fields.specs.Origins.{scheme_at, scheme_number, scheme, is_kind, host, any_host, port, tuple_at, located, tuple, origin_tag, origin_inside, origin_row, origin}
use Rattle.link_fields.specs.Lawful.{IsLawful}
use Rattle.link_fields.proofs.FieldLaws.{at_most, pair_law, only_law, mapped_law, keyed_law, u16_law, u32_law, small_law, truth_law, text_law, optional_law}
use Rattle.link_fields.proofs.ValueLaws.{row_law, either_law, either_key, never_law}

number_back : (n : ℕ) → (small 1).Fits n → scheme_number (scheme_at n) ≡ n
number_back zero h = refl
number_back (suc zero) h = refl
number_back (suc (suc n)) h = let le = at_most (suc (suc n)) 1 h.1 in absurd (omega arith)

pub scheme_law : IsLawful scheme
scheme_law = mapped_law scheme_at scheme_number (small 1) number_back (small_law 1)

pub any_host_law : IsLawful any_host
any_host_law = only_law Range (λ h. is_some (host_kind h)) text text_law

located_law : (k : Scheme × Bool) → IsLawful (located k)
located_law k =
    only_law Range (λ t. is_some (within_limit t)) _
    (mapped_law (tuple_at k) (λ t. (t.host, t.port)) (host k.1 ⊗ optional (port k.0)) (λ x h. refl)
    (pair_law (host k.1) (optional (port k.0)) (only_law Range (λ t. is_kind k.1 (host_kind t)) text text_law) (optional_law (port k.0) (only_law Range (λ n. is_own_port k.0 (Some n)) u16 u16_law))))

pub tuple_law : IsLawful tuple
tuple_law =
    keyed_law (λ t. (t.scheme, t.ip)) (scheme ⊗ truth) located (pair_law scheme truth scheme_law truth_law) located_law
    (λ k t s h. ap (λ (p : TupleParts). (p.scheme, p.ip)) (sym h.0.1))

origin_row_law : (tag : ℕ) → IsLawful (origin_row tag)
origin_row_law tag =
    either_law (eqb tag 0) _ _ (row_law origin_inside (λ t. origins.Tuple t) tuple tuple_law (λ t. refl))
    (either_law (eqb tag 1) _ _ (row_law origin_inside (λ n. origins.Opaque n) u32 u32_law (λ n. refl))
    (never_law Range))

origin_key : (tag : ℕ) (o : Origin) → (small 1).Fits tag → (origin_row tag).Fits o → origin_tag o ≡ tag
origin_key tag o s =
    either_key origin_tag tag 0 _ _ o (λ h. ap origin_tag (sym h.2))
    (either_key origin_tag tag 1 _ _ o (λ h. ap origin_tag (sym h.2))
    (λ h. absurd h))

pub origin_law : IsLawful origin
origin_law = keyed_law origin_tag (small 1) origin_row (small_law 1) origin_row_law origin_key
