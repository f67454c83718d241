-- The lesser of two places, and how a first place grows with a log.
use Rattle.std.proofs.Common.{◌≡◌, ℕ, suc, ◌≤◌, Option, Some, None, Bool, true, false, refl, sym, ap, ◌∙◌, arith, ne_eqb}
use Rattle.std.specs.Prelude.{◌==◌, ◌||◌, nat_lt, is_some, is_none, if◌then◌else◌}
use Rattle.std.specs.Option.{option_or}
use Rattle.std.proofs.lemmas.Bool.Decides.{nat_tests}
use Rattle.tree_log.specs.Facts.{at}
use Rattle.document_ends.specs.Ended.{sooner}

-- NUMBERS

abbrev pub lesser : ℕ → ℕ → ℕ
lesser a b = if nat_lt b a then b else a

lesser_left : (a b : ℕ) → a ≤ b → lesser a b ≡ a
lesser_left a b h = grind (arith, nat_tests)

lesser_right : (a b : ℕ) → b ≤ a → lesser a b ≡ b
lesser_right a b h = grind (arith, nat_tests)

lesser_assoc : (a b c : ℕ) → lesser (lesser a b) c ≡ lesser a (lesser b c)
lesser_assoc a b c = grind (arith, nat_tests)

pub sooner_assoc : (a b c : Option ℕ) → sooner (sooner a b) c ≡ sooner a (sooner b c)
sooner_assoc None b c = refl
sooner_assoc (Some a) None c = refl
sooner_assoc (Some a) (Some b) None = refl
sooner_assoc (Some a) (Some b) (Some c) = ap (λ (n : ℕ). Some n) (lesser_assoc a b c)

pub sooner_none : (a : Option ℕ) → sooner a None ≡ a
sooner_none None = refl
sooner_none (Some a) = refl

pub some_sooner : (a b : Option ℕ) → is_some (sooner a b) ≡ is_some a || is_some b
some_sooner None b = refl
some_sooner (Some a) None = refl
some_sooner (Some a) (Some b) = refl

pub none_left : (a b : Option ℕ) → sooner a b ≡ None → a ≡ None
none_left None b h = refl
none_left (Some a) None h = absurd cc
none_left (Some a) (Some b) h = absurd cc

pub none_right : (a b : Option ℕ) → sooner a b ≡ None → b ≡ None
none_right None b h = h
none_right (Some a) None h = refl
none_right (Some a) (Some b) h = absurd cc

pub none_of : (o : Option ℕ) → is_some o ≡ false → o ≡ None
none_of None h = refl
none_of (Some a) h = absurd cc

pub none_is : (o : Option ℕ) → is_none o ≡ true → o ≡ None
none_is None h = refl
none_is (Some a) h = absurd cc

pub sooner_zero : (o : Option ℕ) → sooner (Some 0) o ≡ Some 0
sooner_zero None = refl
sooner_zero (Some a) = ap (λ (n : ℕ). Some n) (lesser_left 0 a (omega arith))

-- WHAT A NEW PLACE CHANGES

-- a place that is at most l
abbrev pub AtMost : ℕ → Option ℕ → Type 0
AtMost l None = Unit {0}
AtMost l (Some a) = a ≤ l

-- none, or the place l
abbrev pub IsNow : ℕ → Option ℕ → Type 0
IsNow l None = Unit {0}
IsNow l (Some a) = a ≡ l

-- a place of at most l stays, and where none was there is none or l
abbrev pub Grows : ℕ → Option ℕ → Option ℕ → Type 0
Grows l None b = IsNow l b
Grows l (Some a) None = ⊥
Grows l (Some a) (Some b) = (b ≡ a) × (a ≤ l)

pub grows_or : (l : ℕ) (o x : Option ℕ) → AtMost l o → IsNow l x → Grows l o (option_or o x)
grows_or l None x le now = now
grows_or l (Some a) x le now = (refl, le)

pub sooner_grows : (l : ℕ) (a x b y : Option ℕ) → Grows l a x → Grows l b y → Grows l (sooner a b) (sooner x y)
sooner_grows l None None b y g h = h
sooner_grows l None (Some x) None None g h = g
sooner_grows l None (Some x) None (Some y) g h = lesser_left x y (omega arith) ∙ g
sooner_grows l None (Some x) (Some b) None g h = absurd h
sooner_grows l None (Some x) (Some b) (Some y) g h = let same : y ≡ b = h.0 in let le : b ≤ l = h.1 in (lesser_right x y (omega arith) ∙ same, le)
sooner_grows l (Some a) None b y g h = absurd g
sooner_grows l (Some a) (Some x) None None g h = g
sooner_grows l (Some a) (Some x) None (Some y) g h = let same : x ≡ a = g.0 in let le : a ≤ l = g.1 in (lesser_left x y (omega arith) ∙ same, le)
sooner_grows l (Some a) (Some x) (Some b) None g h = absurd h
sooner_grows l (Some a) (Some x) (Some b) (Some y) g h =
    let la : a ≤ l = g.1 in let lb : b ≤ l = h.1 in
    (ap (λ (n : ℕ). lesser n y) g.0 ∙ ap (lesser a) h.0, grind (arith, nat_tests))

pub grown_some : (l a : ℕ) (x : Option ℕ) → Grows l (Some a) x → x ≡ Some a
grown_some l a None g = absurd g
grown_some l a (Some b) g = ap (λ (n : ℕ). Some n) g.0

pub grown_none : (l p : ℕ) (x : Option ℕ) → IsNow l x → x ≡ Some p → p ≡ l
grown_none l p None g h = absurd cc
grown_none l p (Some b) g h = let same : b ≡ p = cc in sym same ∙ g

pub most_or : (l : ℕ) (o x : Option ℕ) → AtMost l o → AtMost l x → AtMost (suc l) (option_or o x)
most_or l None None h k = tt
most_or l None (Some b) h k = omega arith
most_or l (Some a) x h k = omega arith

pub now_most : (l : ℕ) (o : Option ℕ) → IsNow l o → AtMost l o
now_most l None h = tt
now_most l (Some a) h = omega arith

-- WHAT IS SAID OF A NUMBER

pub at_apart : (asked number x : ℕ) → (number ≡ asked → ⊥) → at asked number x ≡ None
at_apart asked number x other = rw (ne_eqb number asked other) refl

pub at_now : (asked number l : ℕ) → IsNow l (at asked number l)
at_now asked number l = by_test (number == asked)
  where
    by_test : (b : Bool) → IsNow l (if b then Some l else None)
    by_test true = refl
    by_test false = tt

pub at_most : (asked number x l : ℕ) → x ≤ l → AtMost l (at asked number x)
at_most asked number x l le = by_test (number == asked)
  where
    by_test : (b : Bool) → AtMost l (if b then Some x else None)
    by_test true = le
    by_test false = tt
