-- What an exchange found, from what its pass had seen before it and has seen after it.
use Rattle.std.specs.Prelude.{ℕ, ◌==◌, Bool, false, List, [], ◌∷◌, ◌++◌, length, drop, Option, Some, None, if◌then◌else◌}
use Rattle.std.specs.List.{list_all}

abbrev pub is_seat : ℕ → Option ℕ → Bool
is_seat n None = false
is_seat n (Some k) = k == n

module _ {I : Type 0} (names : I → Option ℕ) (n : ℕ) where
  -- without the longest run of items at the end that name the seat n
  abbrev pub trimmed : List I → List I
  trimmed [] = []
  trimmed (x ∷ xs) = if list_all (λ y. is_seat n (names y)) (x ∷ xs) then [] else x ∷ trimmed xs

  -- the history before the exchange
  abbrev pub before : List I → List I → List I
  before seen now = seen ++ trimmed (drop (length seen) now)
