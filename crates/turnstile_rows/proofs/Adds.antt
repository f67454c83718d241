-- What a seat added stands where the seat put it.
use Rattle.std.proofs.Common.{◌≡◌, ℕ, ◌==◌, Bool, true, false, List, [], ◌∷◌, ◌++◌, Some, refl, ap, ◌∙◌, arith}
use Rattle.std.specs.List.{All}
use Rattle.std.specs.Result.{OnOk, OnErr}
use Rattle.std.specs.Prelude.{Result, Ok, Err}
use Rattle.std.specs.Bool.{if◌then◌else◌}
use Rattle.std.proofs.lemmas.List.{append-nil}
use Rattle.std.proofs.lemmas.List.Elements.{All-head, All-tail}
use Rattle.std.proofs.lemmas.Bool.Decides.{nat_tests}
use Rattle.turnstile.specs.Histories.{Follows, Enters}
use Rattle.turnstile_rows.specs.declared.log.Item.{Item}
use Rattle.turnstile_rows.specs.Made.{made, who}

if_append : (b : Bool) (v : ℕ) (a c d : List ℕ) → a ≡ c ++ d → (if b then v ∷ a else a) ≡ (if b then v ∷ c else c) ++ d
if_append true v a c d e = ap (λ l. v ∷ l) e
if_append false v a c d e = e

if_none : (b : Bool) (v : ℕ) (a : List ℕ) → (b ≡ true → ⊥) → a ≡ [] → (if b then v ∷ a else a) ≡ []
if_none true v a never e = absurd (never refl)
if_none false v a never e = e

if_true : (b : Bool) (v : ℕ) → b ≡ true → (if b then v ∷ [] else []) ≡ v ∷ []
if_true true v e = refl
if_true false v e = absurd (cc e)

same_number : (m n : ℕ) → (m == n) ≡ true → m ≡ n
same_number m n e = grind (arith, nat_tests)

self_same : (n : ℕ) → (n == n) ≡ true
self_same n = grind (arith, nat_tests)

pub made-append : (n : ℕ) (xs ys : List Item) → made n (xs ++ ys) ≡ made n xs ++ made n ys
made-append n [] ys = refl
made-append n (x ∷ xs) ys = if_append (x.by == n) x.value (made n (xs ++ ys)) (made n xs) (made n ys) (made-append n xs ys)

pub made_none : (n : ℕ) (xs : List Item) → All (λ x. who x ≡ Some n → ⊥) xs → made n xs ≡ []
made_none n [] h = refl
made_none n (x ∷ xs) h = if_none (x.by == n) x.value (made n xs) (λ e. All-head (λ y. who y ≡ Some n → ⊥) x xs h (ap Some (same_number x.by n e))) (made_none n xs (All-tail (λ y. who y ≡ Some n → ⊥) x xs h))

pub made_follows : (n : ℕ) (xs ys : List Item) → Follows who n xs ys → made n ys ≡ made n xs
made_follows n xs ys f = ap (made n) f.1 ∙ (made-append n xs f.0 ∙ (ap (λ l. made n xs ++ l) (made_none n f.0 f.2) ∙ append-nil (made n xs)))

pub made_enters : (n : ℕ) (xs ys : List Item) → Enters who n xs ys → made n ys ≡ made n xs
made_enters n xs ys f = made_follows n xs ys (f.0, f.1, λ k d lt e. let h = f.2 k d lt in h.2 (cc (h.1, e)))

pub made_own : (n value : ℕ) → made n (record { by = n; value = value } ∷ []) ≡ value ∷ []
made_own n value = if_true (n == n) value (self_same n)

-- one more, after what others added
pub made_more : (n value : ℕ) (seen entry now : List Item) → Enters who n seen entry → now ≡ entry ++ record { by = n; value = value } ∷ [] → made n now ≡ made n seen ++ value ∷ []
made_more n value seen entry now f e = ap (made n) e ∙ (made-append n entry (record { by = n; value = value } ∷ []) ∙ (ap (λ l. l ++ made n (record { by = n; value = value } ∷ [])) (made_enters n seen entry f) ∙ ap (λ l. made n seen ++ l) (made_own n value)))

pub on_ok : {A E : Type 0} (r : Result A E) (P Q : Type 0) → (P → Q) → OnOk r P → OnOk r Q
on_ok (Ok x) P Q f h = f h
on_ok (Err x) P Q f h = h

pub on_err : {A E : Type 0} (r : Result A E) (P Q : Type 0) → (P → Q) → OnErr r P → OnErr r Q
on_err (Ok x) P Q f h = h
on_err (Err x) P Q f h = f h
