-- The registers of a document as rows; for private clauses.
use Rattle.std.specs.Prelude.{◌≡◌, ℕ, List, [], ◌∷◌, take, Option, Some, None, bytes_eq, slice_get, if◌then◌else◌}
use Rattle.window_props.specs.declared.value.Value.{Value}
use Rattle.script_steps.specs.declared.registers.Row.{Row}

-- what the first row of a name holds
abbrev pub found : List Row → List ℕ → Option Value
found [] name = None
found (row ∷ rows) name = if bytes_eq name row.name then Some row.value else found rows name

-- the first row of that name
pub record IsPlace (rows : List Row) (name : List ℕ) (i : ℕ) : Type 0 where
  pub row : Row
  pub is : slice_get rows i ≡ Some row
  pub same : bytes_eq name row.name ≡ Rattle.std.specs.Prelude.true
  pub first : found (take i rows) name ≡ None

-- the rows after a write to one register
abbrev pub IsWritten : List Row → List Row → List ℕ → Value → Type 0
IsWritten old new name v = (other : List ℕ) → found new other ≡ (if bytes_eq other name then Some v else found old other)
