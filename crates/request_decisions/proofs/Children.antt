-- Whether a number is among those that are looked at one by one.
use Rattle.std.proofs.Common.{◌≡◌, ℕ, ◌+◌, List, [], ◌∷◌, drop, Some, None, true, false, zero, suc, refl, sym, ap, ◌∙◌, arith}
use Rattle.std.specs.Prelude.{slice_get, ◌==◌, ◌||◌}
use Rattle.coordinator_rules.specs.Navigation.{is_in}

rest_at : (xs : List ℕ) (i c : ℕ) → slice_get xs i ≡ Some c → drop i xs ≡ c ∷ drop (i + 1) xs
rest_at [] i c h = absurd cc
rest_at (x ∷ xs) zero c h = let same : x ≡ c = cc in ap (λ y. y ∷ xs) same
rest_at (x ∷ xs) (suc i) c h = let more : suc (i + 1) ≡ suc i + 1 = omega arith in rest_at xs i c h ∙ ap (λ k. c ∷ drop k (x ∷ xs)) more

none_at : (xs : List ℕ) (i : ℕ) → slice_get xs i ≡ None → drop i xs ≡ []
none_at [] i h = nothing i where
  nothing : (k : ℕ) → drop k (let none : List ℕ = [] in none) ≡ []
  nothing zero = refl
  nothing (suc k) = refl
none_at (x ∷ xs) zero h = absurd cc
none_at (x ∷ xs) (suc i) h = none_at xs i h

pub found_in : (xs : List ℕ) (i c nav : ℕ) → slice_get xs i ≡ Some c → (c == nav) ≡ true → is_in nav (drop i xs) ≡ is_in nav xs → true ≡ is_in nav xs
found_in xs i c nav h same rest = sym (ap (is_in nav) (rest_at xs i c h) ∙ ap (λ b. b || is_in nav (drop (i + 1) xs)) same) ∙ rest

pub not_in : (xs : List ℕ) (i nav : ℕ) → slice_get xs i ≡ None → is_in nav (drop i xs) ≡ is_in nav xs → false ≡ is_in nav xs
not_in xs i nav h rest = sym (ap (is_in nav) (none_at xs i h)) ∙ rest

pub past_in : (xs : List ℕ) (i c nav : ℕ) → slice_get xs i ≡ Some c → (c == nav) ≡ false → is_in nav (drop i xs) ≡ is_in nav xs → is_in nav (drop (i + 1) xs) ≡ is_in nav xs
past_in xs i c nav h other rest = sym (ap (is_in nav) (rest_at xs i c h) ∙ ap (λ b. b || is_in nav (drop (i + 1) xs)) other) ∙ rest
