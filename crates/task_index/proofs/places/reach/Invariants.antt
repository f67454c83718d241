use Rattle.std.proofs.Common.{◌+◌, ◌-◌, length}
use Rattle.task_index.specs.Fed.{KeepPlaces}
use Rattle.task_index.proofs.places.reach.Given as goal

abbrev pub invariant-loop-alloc : goal.invariant-loop-alloc
invariant-loop-alloc l = KeepPlaces l.initial.rows.items l.rows.items

abbrev pub decreases-loop-alloc : goal.decreases-loop-alloc
decreases-loop-alloc l = (l.renderer + 1) - length l.rows.items
