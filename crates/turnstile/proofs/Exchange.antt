-- What a pass had seen and what it has seen fix what its exchange found.
use Rattle.std.proofs.Common.{◌≡◌, ℕ, ◌==◌, Bool, true, false, List, [], ◌∷◌, ◌++◌, length, drop, Option, Some, refl, sym, ap, ◌∙◌, arith}
use Rattle.std.specs.Prelude.{if◌then◌else◌, ◌&&◌}
use Rattle.std.specs.List.{All, list_all}
use Rattle.std.proofs.lemmas.List.{append_assoc}
use Rattle.std.proofs.Math.Seq.{drop-append_seam}
use Rattle.std.proofs.lemmas.List.Elements.{All-head, All-tail}
use Rattle.std.proofs.lemmas.Bool.Decides.{nat_tests}
use Rattle.turnstile.specs.Histories.{Enters, Extends, NamesOther}
use Rattle.turnstile.specs.Before.{is_seat, trimmed, before}

same_seat : (n k : ℕ) → k ≡ n → (k == n) ≡ true
same_seat n k e = grind (arith, nat_tests)

other_seat : (n k : ℕ) → (k ≡ n → ⊥) → (k == n) ≡ false
other_seat n k e = grind (arith, nat_tests)

if_is : {A : Type 0} (b : Bool) (x y : A) → b ≡ true → (if b then x else y) ≡ x
if_is true x y e = refl
if_is false x y e = absurd (cc e)

if_not : {A : Type 0} (b : Bool) (x y : A) → b ≡ false → (if b then x else y) ≡ y
if_not true x y e = absurd (cc e)
if_not false x y e = refl

and_true : (a b : Bool) → a ≡ true → b ≡ true → (a && b) ≡ true
and_true true b e f = f
and_true false b e f = absurd (cc e)

and_false : (a b : Bool) → a ≡ false → (a && b) ≡ false
and_false true b e = absurd (cc e)
and_false false b e = refl

module _ {I : Type 0} (names : I → Option ℕ) (n : ℕ) where
  mine : (x : I) → names x ≡ Some n → is_seat n (names x) ≡ true
  mine x e = ap (is_seat n) e ∙ same_seat n n refl

  not_mine : (x : I) → NamesOther names n x → is_seat n (names x) ≡ false
  not_mine x h = ap (is_seat n) h.1 ∙ other_seat n h.0 h.2

  all_mine : (own : List I) → All (λ x. names x ≡ Some n) own → list_all (λ y. is_seat n (names y)) own ≡ true
  all_mine [] h = refl
  all_mine (x ∷ own) h = and_true (is_seat n (names x)) (list_all (λ y. is_seat n (names y)) own) (mine x (All-head (λ x. names x ≡ Some n) x own h)) (all_mine own (All-tail (λ x. names x ≡ Some n) x own h))

  trims_own : (own : List I) → All (λ x. names x ≡ Some n) own → trimmed names n own ≡ []
  trims_own [] h = refl
  trims_own (x ∷ own) h = if_is (list_all (λ y. is_seat n (names y)) (x ∷ own)) [] (x ∷ trimmed names n own) (all_mine (x ∷ own) h)

  trims : (rest own : List I) → All (NamesOther names n) rest → All (λ x. names x ≡ Some n) own → trimmed names n (rest ++ own) ≡ rest
  trims [] own h g = trims_own own g
  trims (x ∷ rest) own h g =
      if_not (list_all (λ y. is_seat n (names y)) (x ∷ (rest ++ own))) [] (x ∷ trimmed names n (rest ++ own))
      (and_false (is_seat n (names x)) (list_all (λ y. is_seat n (names y)) (rest ++ own)) (not_mine x (All-head (NamesOther names n) x rest h)))
      ∙ ap (λ l. x ∷ l) (trims rest own (All-tail (NamesOther names n) x rest h) g)

  pub before_is : (seen entry now : List I) → Enters names n seen entry → Extends names n entry now → before names n seen now ≡ entry
  before_is seen entry now e x =
      let all : now ≡ seen ++ (e.0 ++ x.0) = x.1 ∙ (ap (λ l. l ++ x.0) e.1 ∙ append_assoc seen e.0 x.0) in
      let past : drop (length seen) now ≡ e.0 ++ x.0 = ap (drop (length seen)) all ∙ drop-append_seam seen (e.0 ++ x.0) in
      ap (λ l. seen ++ trimmed names n l) past ∙ (ap (λ l. seen ++ l) (trims e.0 x.0 e.2 x.2) ∙ sym e.1)
