-- Items that are kept by numbers.
use Rattle.std.specs.Prelude.{ℕ, List, Option, None}
use Rattle.std.proofs.Common.{get_or}

-- what is kept at a number
abbrev pub slot : {T : Type 0} → List (Option T) → ℕ → Option T
slot items d = get_or items d None
