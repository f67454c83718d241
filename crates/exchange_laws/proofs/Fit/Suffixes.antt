-- What stands behind a dot of a domain ends in a number where the domain does.
use Rattle.std.proofs.Common.{◌≡◌, ℕ, ◌+◌, ◌-◌, ◌<◌, List, [], ◌∷◌, ◌++◌, length, take, drop, Option, Some, None, Bool, true, false, refl, sym, ap, subst, ◌∙◌, arith, append_assoc}
use Rattle.std.specs.Prelude.{◌==◌, ◌&&◌, ◌||◌, not, if◌then◌else◌}
use Rattle.std.specs.List.{list_all}
use Rattle.std.specs.Char.{is_ascii_digit}
use Rattle.std.proofs.lemmas.List.{drop_all}
use Rattle.url.specs.Input.{is_empty, rsplit_once, rsplit_step}
use Rattle.url.specs.Ipv4.{last_label_of, last_label, is_number, parse_number, ends_in_a_number}
use Rattle.url.proofs.InputLemmas.{split_around, is_empty_nonempty}
use Rattle.origin_core.proofs.DomainLaw.{IsBelow}

-- what stands before the last dot, once a dot stands before all
abbrev behind_dot : Option (List ℕ) → List ℕ
behind_dot None = []
behind_dot (Some front) = 46 ∷ front

dot_step : (o : Option (List ℕ)) (b : List ℕ) → rsplit_step 46 46 o b ≡ (Some (behind_dot o), b)
dot_step None b = refl
dot_step (Some front) b = refl

after_dot : (v : List ℕ) (o : Option (List ℕ)) (b : List ℕ) → rsplit_once 46 v ≡ (o, b) → rsplit_once 46 (46 ∷ v) ≡ (Some (behind_dot o), b)
unfolding rsplit_once
after_dot v o b e = ap (λ (r : Option (List ℕ) × List ℕ). rsplit_step 46 46 r.0 r.1) e ∙ dot_step o b

behind : (xs ys front b : List ℕ) → rsplit_once 46 ys ≡ (Some front, b) → rsplit_once 46 (xs ++ ys) ≡ (Some (xs ++ front), b)
unfolding rsplit_once
behind [] ys front b e = e
behind (x ∷ xs) ys front b e = ap (λ (r : Option (List ℕ) × List ℕ). rsplit_step 46 x r.0 r.1) (behind xs ys front b e)

abbrev at_dot : Bool → ℕ → List ℕ → Option (List ℕ) × List ℕ
at_dot t x b = if t then (Some [], b) else (None, x ∷ b)

step_whole : (x : ℕ) (o : Option (List ℕ)) (b v : List ℕ) → (o ≡ None → b ≡ v) → (rsplit_step 46 x o b).0 ≡ None → (rsplit_step 46 x o b).1 ≡ x ∷ v
step_whole x (Some front) b v whole none = absurd cc
step_whole x None b v whole none = by_test (x == 46) none
  where
    by_test : (t : Bool) → (at_dot t x b).0 ≡ None → (at_dot t x b).1 ≡ x ∷ v
    by_test true e = absurd cc
    by_test false e = ap (λ (l : List ℕ). x ∷ l) (whole refl)

whole_if_none : (v : List ℕ) → (rsplit_once 46 v).0 ≡ None → (rsplit_once 46 v).1 ≡ v
unfolding rsplit_once
whole_if_none [] e = refl
whole_if_none (x ∷ v) e = step_whole x (rsplit_once 46 v).0 (rsplit_once 46 v).1 v (whole_if_none v) e

same_last : (xs v : List ℕ) → 0 < length v → last_label (xs ++ 46 ∷ v) ≡ last_label v
same_last xs v some = by_split (rsplit_once 46 v).0 (rsplit_once 46 v).1 refl
  where
    if_empty : (t : Bool) (a b c : List ℕ) → a ≡ b → (if t then a else c) ≡ (if t then b else c)
    if_empty true a b c e = e
    if_empty false a b c e = refl

    by_split : (o : Option (List ℕ)) (b : List ℕ) → rsplit_once 46 v ≡ (o, b) → last_label (xs ++ 46 ∷ v) ≡ last_label v
    by_split None b e =
        let whole : b ≡ v = sym (ap (λ (r : Option (List ℕ) × List ℕ). r.1) e) ∙ whole_if_none v (ap (λ (r : Option (List ℕ) × List ℕ). r.0) e) in
        let full : is_empty b ≡ false = subst (λ (l : List ℕ). is_empty l ≡ false) (sym whole) (is_empty_nonempty v some) in
        let one = behind xs (46 ∷ v) [] b (after_dot v None b e) in
        ap (λ (r : Option (List ℕ) × List ℕ). last_label_of r.0 r.1) one ∙ rw full (sym (ap (λ (r : Option (List ℕ) × List ℕ). last_label_of r.0 r.1) e))
    by_split (Some front) b e =
        let one = behind xs (46 ∷ v) (46 ∷ front) b (after_dot v (Some front) b e) in
        let inner = behind_inner front (rsplit_once 46 front).0 (rsplit_once 46 front).1 refl in
        ap (λ (r : Option (List ℕ) × List ℕ). last_label_of r.0 r.1) one ∙ if_empty (is_empty b) (rsplit_once 46 (xs ++ 46 ∷ front)).1 (rsplit_once 46 front).1 b inner
        ∙ sym (ap (λ (r : Option (List ℕ) × List ℕ). last_label_of r.0 r.1) e)
      where
        behind_inner : (l : List ℕ) (o : Option (List ℕ)) (c : List ℕ) → rsplit_once 46 l ≡ (o, c) → (rsplit_once 46 (xs ++ 46 ∷ l)).1 ≡ (rsplit_once 46 l).1
        behind_inner l o c f = ap (λ (r : Option (List ℕ) × List ℕ). r.1) (behind xs (46 ∷ l) (behind_dot o) c (after_dot l o c f)) ∙ sym (ap (λ (r : Option (List ℕ) × List ℕ). r.1) f)

ends_same : (xs v : List ℕ) → 0 < length v → ends_in_a_number (xs ++ 46 ∷ v) ≡ ends_in_a_number v
unfolding ends_in_a_number
ends_same xs v some = ap (λ (last : List ℕ). (not (is_empty last) && list_all is_ascii_digit last) || is_number (parse_number last)) (same_last xs v some)

-- the host is something, a dot and the value
pub cut_at_dot : (host value : List ℕ) → IsBelow host value → (front : List ℕ) × (host ≡ front ++ 46 ∷ value)
cut_at_dot host value b =
    let last : ℕ = length b.front - 1 in
    let some : 0 < length b.front = b.some in
    let around = split_around b.front last 46 (omega arith) b.stop in
    let none : drop (last + 1) b.front ≡ [] = drop_all (last + 1) b.front (omega arith) in
    let front : List ℕ = take last b.front in
    (front, b.joined ∙ ap (λ (l : List ℕ). l ++ value) (around ∙ ap (λ (l : List ℕ). front ++ 46 ∷ l) none) ∙ append_assoc front (46 ∷ []) value)

pub suffix_ends : (host value : List ℕ) → IsBelow host value → 0 < length value → ends_in_a_number host ≡ false → ends_in_a_number value ≡ false
suffix_ends host value b some h =
    let cut = cut_at_dot host value b in
    sym (ends_same cut.0 value some) ∙ ap ends_in_a_number (sym cut.1) ∙ h
