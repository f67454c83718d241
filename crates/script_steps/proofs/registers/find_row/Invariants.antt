use Rattle.std.proofs.Common.{◌≡◌, None, take}
use Rattle.script_steps.specs.Rows.{found}
use Rattle.script_steps.proofs.registers.find_row.Given as goal

abbrev pub invariant-loop-i : goal.invariant-loop-i
invariant-loop-i l = found (take l.i l.rows) l.name ≡ None
