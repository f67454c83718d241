-- Lists of numbers in ascending order.
use Rattle.std.specs.Prelude.{ℕ, Bool, List, [], ◌∷◌, ◌++◌, ◌<◌, filter, not, ◌==◌, nat_lt}
use Rattle.std.specs.List.{AllByRecursion, list_any}

-- each number is below those after it
abbrev pub IsAscending : List ℕ → Type 0
IsAscending [] = Unit {0}
IsAscending (n ∷ ns) = AllByRecursion (λ m. n < m) ns × IsAscending ns

abbrev pub is_in : ℕ → List ℕ → Bool
is_in n ns = list_any (λ m. m == n) ns

-- the others
abbrev pub without : ℕ → List ℕ → List ℕ
without n ns = filter (λ m. not (m == n)) ns

-- with n, between the smaller and the greater ones
abbrev pub with_one : ℕ → List ℕ → List ℕ
with_one n ns = filter (λ m. nat_lt m n) ns ++ n ∷ filter (λ m. nat_lt n m) ns
