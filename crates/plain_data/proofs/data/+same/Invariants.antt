use Rattle.std.proofs.Common.{◌≡◌, take}
use Rattle.plain_data.proofs.data.+same.Given as goal

abbrev pub invariant-same_items-loop-i : goal.invariant-same_items-loop-i
invariant-same_items-loop-i l = take l.i l.a ≡ take l.i l.b

abbrev pub invariant-same_members-loop-i : goal.invariant-same_members-loop-i
invariant-same_members-loop-i l = take l.i l.a ≡ take l.i l.b
