-- Two origins are the same where they are equal.
use Rattle.std.proofs.Common.{◌≡◌, ℕ, Bool, true, false, ◌∙◌, sym, ap, refl, Some, None, nat_eq, eq-eqb, arith}
use Rattle.std.specs.Prelude.{Option, IsTrue, ◌↔◌}
use Rattle.std.specs.Option.{option_eq}
use Rattle.std.proofs.lemmas.Bool.{and_parts}
use Rattle.std.proofs.lemmas.Bool.Decides.{nat_tests}
use Rattle.std.proofs.lemmas.Slice.Eq.{bytes_eq-Decides}
use Rattle.origin_core.specs.declared.origin.Scheme.{Scheme}
use Rattle.origin_core.specs.declared.origin.Scheme.TheVariants.{Http, Https}
use Rattle.origin_core.specs.declared.origin.Origin.{Origin}
use Rattle.origin_core.specs.declared.origin.Origin.TheVariants.{Tuple, Opaque}
use Rattle.origin_core.specs.Tuple.{TupleParts}
use Rattle.origin_core.specs.Origin.{is_same_scheme, is_same_truth, is_same_tuple, is_same_origin}

pub same_scheme : (a b : Scheme) → is_same_scheme a b ≡ true → a ≡ b
same_scheme Http Http same = refl
same_scheme Https Https same = refl
same_scheme Http Https same = cc
same_scheme Https Http same = cc

pub own_scheme : (a : Scheme) → is_same_scheme a a ≡ true
own_scheme Http = refl
own_scheme Https = refl

pub same_truth : (a b : Bool) → is_same_truth a b ≡ true → a ≡ b
same_truth true b same = sym same
same_truth false true same = cc
same_truth false false same = refl

own_truth : (a : Bool) → is_same_truth a a ≡ true
own_truth true = refl
own_truth false = refl

same_port : (a b : Option ℕ) → option_eq nat_eq a b ≡ true → a ≡ b
same_port None None same = refl
same_port (Some a) (Some b) same = ap Some (grind (arith, nat_tests))
same_port None (Some b) same = cc
same_port (Some a) None same = cc

own_port : (a : Option ℕ) → option_eq nat_eq a a ≡ true
own_port None = refl
own_port (Some a) = eq-eqb a a refl

pub same_tuple : (a b : TupleParts) → is_same_tuple a b ≡ true → a ≡ b
same_tuple a b same =
    let last = and_parts _ _ same in
    let kinds = and_parts _ _ last.0 in
    let front = and_parts _ _ kinds.0 in
    let scheme = same_scheme a.scheme b.scheme front.0 in
    let host = (bytes_eq-Decides a.host b.host).0 front.1 in
    let ip = same_truth a.ip b.ip kinds.1 in
    let port = same_port a.port b.port last.1 in
    λ i. record { scheme = scheme i; host = host i; ip = ip i; port = port i }

pub own_origin : (a : Origin) → is_same_origin a a ≡ true
own_origin (Tuple a) = rw (own_scheme a.scheme, (bytes_eq-Decides a.host a.host).1 refl, own_truth a.ip, own_port a.port) refl
own_origin (Opaque n) = eq-eqb n n refl

pub same_is : (a b : Origin) → is_same_origin a b ≡ true → a ≡ b
same_is (Tuple a) (Tuple b) same = ap Tuple (same_tuple a b same)
same_is (Opaque m) (Opaque n) same = ap Opaque (grind (arith, nat_tests))
same_is (Tuple a) (Opaque n) same = cc
same_is (Opaque m) (Tuple b) same = cc

pub equal_is : (a b : Origin) → a ≡ b → is_same_origin a b ≡ true
equal_is a b equal = ap (is_same_origin a) (sym equal) ∙ own_origin a

pub same_iff : (a b : Origin) (r : Bool) → r ≡ is_same_origin a b → IsTrue r ↔ (a ≡ b)
same_iff a b r value = (λ yes. same_is a b (sym value ∙ yes), λ equal. value ∙ equal_is a b equal)

-- ---- it is an equivalence

pub truths_agree : (x y : Bool) → (x ≡ true → y ≡ true) → (y ≡ true → x ≡ true) → x ≡ y
truths_agree true y to from = sym (to refl)
truths_agree false true to from = from refl
truths_agree false false to from = refl

pub reflexive : (a : Origin) → is_same_origin a a ≡ true
reflexive a = own_origin a

pub symmetric : (a b : Origin) → is_same_origin a b ≡ is_same_origin b a
symmetric a b =
    truths_agree _ _ (λ same. equal_is b a (sym (same_is a b same))) (λ same. equal_is a b (sym (same_is b a same)))

pub transitive : (a b c : Origin) → is_same_origin a b ≡ true → is_same_origin b c ≡ true → is_same_origin a c ≡ true
transitive a b c ab bc = equal_is a c (same_is a b ab ∙ same_is b c bc)

pub equality : (a b : Origin) → (is_same_origin a b ≡ true) ↔ (a ≡ b)
equality a b = (same_is a b, equal_is a b)
