use Rattle.std.proofs.Common.{◌≡◌, drop}
use Rattle.plain_data.specs.Ascending as spec
use Rattle.plain_data.proofs.ascending.+levels.Given as goal

abbrev pub invariant-all_ascend-loop-item : goal.invariant-all_ascend-loop-item
invariant-all_ascend-loop-item l = spec.all_ascend (drop l.item-index l.items) ≡ spec.all_ascend l.items

abbrev pub invariant-values_ascend-loop-member : goal.invariant-values_ascend-loop-member
invariant-values_ascend-loop-member l = spec.values_ascend (drop l.member-index l.members) ≡ spec.values_ascend l.members
