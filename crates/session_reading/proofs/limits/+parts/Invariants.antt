use Rattle.std.proofs.Common.{◌≡◌, drop}
use Rattle.session_reading.specs.Levels as levels
use Rattle.session_reading.proofs.limits.+parts.Given as goal

abbrev pub invariant-items_in_range-loop-item : goal.invariant-items_in_range-loop-item
invariant-items_in_range-loop-item l = levels.all_in_range (drop l.item-index l.items) ≡ levels.all_in_range l.items

abbrev pub invariant-members_in_range-loop-member : goal.invariant-members_in_range-loop-member
invariant-members_in_range-loop-member l = levels.members_in_range (drop l.member-index l.members) ≡ levels.members_in_range l.members
