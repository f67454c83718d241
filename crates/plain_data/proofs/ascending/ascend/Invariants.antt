use Rattle.std.proofs.Common.{◌≡◌, ◌-◌, drop}
use Rattle.plain_data.specs.Ascending as spec
use Rattle.plain_data.proofs.ascending.ascend.Given as goal

abbrev pub invariant-loop-i : goal.invariant-loop-i
invariant-loop-i l = spec.ascend (spec.keys_of (drop (l.i - 1) l.members)) ≡ spec.ascend (spec.keys_of l.members)
