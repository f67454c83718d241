-- Lists of numbers that are all less than one.
use Rattle.std.proofs.Common.{◌≡◌, ℕ, ◌<◌, ◌≤◌, List, [], ◌∷◌, ◌++◌, Some, Bool, true, false, refl, ◌∙◌, sym, if◌then◌else◌, arith}
use Rattle.std.specs.Prelude.{filter, flat_map, find, ◌==◌, ◌||◌}
use Rattle.std.proofs.lemmas.Bool.{false≢true, eqb-true}
use Rattle.coordinator_rules.specs.Navigation.{is_in}
use Rattle.agent_laws.specs.Wellness.{AllBelow}

pub more_below : (n m : ℕ) → n ≤ m → (xs : List ℕ) → AllBelow n xs → AllBelow m xs
more_below n m le [] h = tt
more_below n m le (x ∷ xs) h = let lt : x < n = h.0 in (omega arith, more_below n m le xs h.1)

pub last_below : (m d : ℕ) → d < m → (xs : List ℕ) → AllBelow m xs → AllBelow m (xs ++ d ∷ [])
last_below m d lt [] h = (lt, tt)
last_below m d lt (x ∷ xs) h = (h.0, last_below m d lt xs h.1)

pub append_below : (n : ℕ) (xs ys : List ℕ) → AllBelow n xs → AllBelow n ys → AllBelow n (xs ++ ys)
append_below n [] ys h k = k
append_below n (x ∷ xs) ys h k = (h.0, append_below n xs ys h.1 k)

filter_front : (n : ℕ) (b : Bool) (x : ℕ) (xs ys : List ℕ) → x < n → AllBelow n ys → AllBelow n (if b then x ∷ ys else ys)
filter_front n true x xs ys lt h = (lt, h)
filter_front n false x xs ys lt h = h

pub filter_below : (n : ℕ) (p : ℕ → Bool) (xs : List ℕ) → AllBelow n xs → AllBelow n (filter p xs)
filter_below n p [] h = tt
filter_below n p (x ∷ xs) h = filter_front n (p x) x xs (filter p xs) h.0 (filter_below n p xs h.1)

pub flat_map_below : (m n : ℕ) (f : ℕ → List ℕ) → ((x : ℕ) → x < m → AllBelow n (f x)) → (xs : List ℕ) → AllBelow m xs → AllBelow n (flat_map f xs)
flat_map_below m n f h [] k = tt
flat_map_below m n f h (x ∷ xs) k = append_below n (f x) (flat_map f xs) (h x k.0) (flat_map_below m n f h xs k.1)

pub find_step : (p : ℕ → Bool) (x : ℕ) (xs : List ℕ) (b : Bool) → p x ≡ b → find p (x ∷ xs) ≡ (if b then Some x else find p xs)
find_step p x xs b e = rw e

pub found_below : (n : ℕ) (p : ℕ → Bool) (y : ℕ) (xs : List ℕ) → AllBelow n xs → find p xs ≡ Some y → y < n
found_below n p y [] h e = absurd cc
found_below n p y (x ∷ xs) h e = found_here (p x) refl (λ k. found_below n p y xs h.1 (sym (find_step p x xs false k) ∙ e))
  where
    found_here : (b : Bool) → p x ≡ b → (p x ≡ false → y < n) → y < n
    found_here true k later = let same : Some x ≡ Some y = sym (find_step p x xs true k) ∙ e in let one : x ≡ y = cc in rw (sym one) (h.0)
    found_here false k later = later k

-- a number of the list
pub in_below : (n m : ℕ) (xs : List ℕ) → AllBelow n xs → is_in m xs ≡ true → m < n
in_below n m [] h e = absurd (false≢true e)
in_below n m (x ∷ xs) h e = in_here (x == m) refl e (λ i. in_below n m xs h.1 i)
  where
    in_here : (b : Bool) → (x == m) ≡ b → (b || is_in m xs) ≡ true → (is_in m xs ≡ true → m < n) → m < n
    in_here true k i later = let same : x ≡ m = eqb-true x m k in let lt : x < n = h.0 in omega arith
    in_here false k i later = later i
