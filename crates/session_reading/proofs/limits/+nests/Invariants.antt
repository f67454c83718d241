use Rattle.std.proofs.Common.{◌≡◌, drop}
use Rattle.session_reading.specs.Levels as levels
use Rattle.session_reading.proofs.limits.+nests.Given as goal

abbrev pub invariant-items_nest-loop-item : goal.invariant-items_nest-loop-item
invariant-items_nest-loop-item l = levels.all_nest l.depth (drop l.item-index l.items) ≡ levels.all_nest l.depth l.items

abbrev pub invariant-members_nest-loop-member : goal.invariant-members_nest-loop-member
invariant-members_nest-loop-member l = levels.members_nest l.depth (drop l.member-index l.members) ≡ levels.members_nest l.depth l.members
