use Rattle.std.proofs.Common.{take, IsTrue}
use Rattle.step_ranges.specs.Parts.{are_utf8, members_are_utf8}
use Rattle.step_ranges.proofs.requests.+texts.Given as goal

abbrev pub invariant-know_items-loop-item : goal.invariant-know_items-loop-item
invariant-know_items-loop-item l = IsTrue (are_utf8 (take l.item-index l.items))

abbrev pub invariant-know_members-loop-member : goal.invariant-know_members-loop-member
invariant-know_members-loop-member l = IsTrue (members_are_utf8 (take l.member-index l.members))
