-- "Same origin-domain" is an equivalence: it compares what a document's origin and domain let it reach.
use Rattle.std.proofs.Common.{◌≡◌, ◌⊎◌, ℕ, Bool, true, false, ◌∙◌, sym, ap, refl, inl, inr, Some, None, List, nat_eq, eq-eqb, arith}
use Rattle.std.specs.Prelude.{Option, ◌&&◌, bytes_eq}
use Rattle.std.proofs.lemmas.Bool.{and_parts}
use Rattle.std.proofs.lemmas.Bool.Decides.{nat_tests}
use Rattle.std.proofs.lemmas.Slice.Eq.{bytes_eq-Decides}
use Rattle.origin_core.specs.declared.origin.Scheme.{Scheme}
use Rattle.origin_core.specs.declared.origin.Origin.{Origin}
use Rattle.origin_core.specs.declared.origin.Origin.TheVariants.{Tuple, Opaque}
use Rattle.origin_core.specs.Tuple.{TupleParts}
use Rattle.origin_core.specs.Origin.{is_same_scheme, is_same_tuple, is_same_origin, is_same_origin_domain}
use Rattle.origin_core.proofs.SameLaw as law
use Rattle.origin_core.proofs.SameLaw.{same_scheme, own_scheme, same_tuple, own_origin, truths_agree}

-- documents of one tuple origin; those of one scheme and domain; or those of one opaque origin
data Reach : Type 0 where
  Whole : (tuple : TupleParts) → Reach
  Relaxed : (scheme : Scheme) (domain : List ℕ) → Reach
  Alone : (doc : ℕ) → Reach

abbrev reach : Origin → Option (List ℕ) → Reach
reach (Opaque n) c = Alone n
reach (Tuple t) None = Whole t
reach (Tuple t) (Some c) = Relaxed t.scheme c

abbrev is_same : Reach → Reach → Bool
is_same (Whole a) (Whole b) = is_same_tuple a b
is_same (Relaxed s c) (Relaxed t d) = is_same_scheme s t && bytes_eq c d
is_same (Alone m) (Alone n) = nat_eq m n
is_same x y = false

by_reach : (a b : Origin) (c d : Option (List ℕ)) → is_same_origin_domain a c b d ≡ is_same (reach a c) (reach b d)
by_reach (Tuple a) (Tuple b) None None = refl
by_reach (Tuple a) (Tuple b) (Some c) (Some d) = refl
by_reach (Tuple a) (Tuple b) (Some c) None = refl
by_reach (Tuple a) (Tuple b) None (Some d) = refl
by_reach (Opaque m) (Opaque n) None None = refl
by_reach (Opaque m) (Opaque n) (Some c) (Some d) = refl
by_reach (Opaque m) (Opaque n) (Some c) None = refl
by_reach (Opaque m) (Opaque n) None (Some d) = refl
by_reach (Tuple a) (Opaque n) None None = refl
by_reach (Tuple a) (Opaque n) (Some c) (Some d) = refl
by_reach (Tuple a) (Opaque n) (Some c) None = refl
by_reach (Tuple a) (Opaque n) None (Some d) = refl
by_reach (Opaque m) (Tuple b) None None = refl
by_reach (Opaque m) (Tuple b) (Some c) (Some d) = refl
by_reach (Opaque m) (Tuple b) (Some c) None = refl
by_reach (Opaque m) (Tuple b) None (Some d) = refl

same_is : (x y : Reach) → is_same x y ≡ true → x ≡ y
same_is (Whole a) (Whole b) same = ap Whole (same_tuple a b same)
same_is (Relaxed s c) (Relaxed t d) same =
    let parts = and_parts _ _ same in
    let scheme = same_scheme s t parts.0 in
    let domain = (bytes_eq-Decides c d).0 parts.1 in
    λ i. Relaxed (scheme i) (domain i)
same_is (Alone m) (Alone n) same = ap Alone (grind (arith, nat_tests))
same_is (Whole a) (Relaxed t d) same = cc
same_is (Whole a) (Alone n) same = cc
same_is (Relaxed s c) (Whole b) same = cc
same_is (Relaxed s c) (Alone n) same = cc
same_is (Alone m) (Whole b) same = cc
same_is (Alone m) (Relaxed t d) same = cc

own : (x : Reach) → is_same x x ≡ true
own (Whole a) = own_origin (Tuple a)
own (Relaxed s c) = rw (own_scheme s, (bytes_eq-Decides c c).1 refl) refl
own (Alone n) = eq-eqb n n refl

equal_is : (x y : Reach) → x ≡ y → is_same x y ≡ true
equal_is x y equal = ap (is_same x) (sym equal) ∙ own x

same_reach : (a b : Origin) (c d : Option (List ℕ)) → is_same_origin_domain a c b d ≡ true → reach a c ≡ reach b d
same_reach a b c d same = same_is (reach a c) (reach b d) (sym (by_reach a b c d) ∙ same)

reach_same : (a b : Origin) (c d : Option (List ℕ)) → reach a c ≡ reach b d → is_same_origin_domain a c b d ≡ true
reach_same a b c d equal = by_reach a b c d ∙ equal_is (reach a c) (reach b d) equal

pub reflexive : (a : Origin) (c : Option (List ℕ)) → is_same_origin_domain a c a c ≡ true
reflexive a c = reach_same a a c c refl

pub symmetric : (a b : Origin) (c d : Option (List ℕ)) → is_same_origin_domain a c b d ≡ is_same_origin_domain b d a c
symmetric a b c d =
    truths_agree _ _ (λ same. reach_same b a d c (sym (same_reach a b c d same))) (λ same. reach_same a b c d (sym (same_reach b a d c same)))

pub transitive : (a b c : Origin) (d e f : Option (List ℕ)) → is_same_origin_domain a d b e ≡ true → is_same_origin_domain b e c f ≡ true → is_same_origin_domain a d c f ≡ true
transitive a b c d e f ab bc = reach_same a c d f (same_reach a b d e ab ∙ same_reach b c e f bc)

pub unset : (a b : Origin) → is_same_origin_domain a None b None ≡ is_same_origin a b
unset a b = refl

-- ---- the cases of it

-- tuple origins of one scheme, whose documents have set one domain
pub record IsRelaxed (a b : Origin) (c d : Option (List ℕ)) : Type 0 where
  pub first : TupleParts
  pub second : TupleParts
  pub domain : List ℕ
  pub first_is : a ≡ Tuple first
  pub second_is : b ≡ Tuple second
  pub scheme : first.scheme ≡ second.scheme
  pub first_domain : c ≡ Some domain
  pub second_domain : d ≡ Some domain

relaxed_tuples : (a b : TupleParts) (c d : List ℕ) → is_same_scheme a.scheme b.scheme && bytes_eq c d ≡ true → IsRelaxed (Tuple a) (Tuple b) (Some c) (Some d)
relaxed_tuples a b c d same =
    let parts = and_parts _ _ same in
    record {
      first = a;
      second = b;
      domain = c;
      first_is = refl;
      second_is = refl;
      scheme = same_scheme a.scheme b.scheme parts.0;
      first_domain = refl;
      second_domain = ap Some (sym ((bytes_eq-Decides c d).0 parts.1));
    }

-- the origins are the same, or their documents have set one domain
pub same_cases : (a b : Origin) (c d : Option (List ℕ)) → is_same_origin_domain a c b d ≡ true → (a ≡ b) ⊎ IsRelaxed a b c d
same_cases a b None None same = inl (law.same_is a b same)
same_cases (Tuple a) (Tuple b) (Some c) (Some d) same = inr (relaxed_tuples a b c d same)
same_cases (Opaque m) (Opaque n) (Some c) (Some d) same = inl (law.same_is (Opaque m) (Opaque n) same)
same_cases (Tuple a) (Opaque n) (Some c) (Some d) same = absurd cc
same_cases (Opaque m) (Tuple b) (Some c) (Some d) same = absurd cc
same_cases (Opaque m) (Opaque n) (Some c) None same = inl (law.same_is (Opaque m) (Opaque n) same)
same_cases (Tuple a) b (Some c) None same = absurd cc
same_cases (Opaque m) (Tuple b) (Some c) None same = absurd cc
same_cases (Opaque m) (Opaque n) None (Some d) same = inl (law.same_is (Opaque m) (Opaque n) same)
same_cases (Tuple a) b None (Some d) same = absurd cc
same_cases (Opaque m) (Tuple b) None (Some d) same = absurd cc
