use Rattle.std.proofs.Common.{◌≡◌, ℕ, ◌+◌, ◌-◌, length}
use Rattle.task_index.specs.Fed.{over_at}
use Rattle.task_index.proofs.ends.reach.Given as goal

abbrev pub invariant-loop-over : goal.invariant-loop-over
invariant-loop-over l = (other : ℕ) → over_at l.over.items other ≡ over_at l.initial.over.items other

abbrev pub decreases-loop-over : goal.decreases-loop-over
decreases-loop-over l = (l.place + 1) - length l.over.items
