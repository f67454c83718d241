-- What registers hold, by the documents and their names.
use Rattle.std.specs.Prelude.{ℕ, List, [], Option, Some, None, unwrap_or}
use Rattle.window_props.specs.declared.value.Value.{Value}
use Rattle.object_access.specs.Values.{undefined}
use Rattle.script_steps.specs.declared.registers.Registers.{Registers}
use Rattle.script_steps.specs.declared.registers.Rows.{Rows}
use Rattle.script_steps.specs.declared.registers.Row.{Row}
use Rattle.script_steps.specs.Slots.{slot}
use Rattle.script_steps.specs.Rows.{found}

abbrev pub rows_of : Option Rows → List Row
rows_of None = []
rows_of (Some r) = r.rows.items

-- undefined where nothing was written
unfoldable pub kept : Registers → ℕ → List ℕ → Value
kept r d name = unwrap_or (found (rows_of (slot r.documents.slots.items d)) name) undefined
