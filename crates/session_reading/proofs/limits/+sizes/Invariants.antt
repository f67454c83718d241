use Rattle.std.proofs.Common.{◌≡◌, ◌+◌, ◌≤◌, min, drop}
use Rattle.session_reading.specs.Levels as levels
use Rattle.session_reading.proofs.limits.+sizes.Given as goal

-- what was counted and what is left make the whole, as far as is counted
abbrev pub invariant-items_size-loop-item : goal.invariant-items_size-loop-item
invariant-items_size-loop-item l = record {
  capped : l.size ≤ 4097;
  rest : min (l.size + levels.sizes (drop l.item-index l.items)) 4097 ≡ min (levels.sizes l.items) 4097;
}

abbrev pub invariant-members_size-loop-member : goal.invariant-members_size-loop-member
invariant-members_size-loop-member l = record {
  capped : l.size ≤ 4097;
  rest : min (l.size + levels.member_sizes (drop l.member-index l.members)) 4097 ≡ min (levels.member_sizes l.members) 4097;
}
