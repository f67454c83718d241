use Rattle.std.proofs.Common.{◌≡◌, true}
use Rattle.task_index.specs.Fed.{ascends, in_row, row_size, HasTasks}
use Rattle.task_index.proofs.tasks.next_in_row.Given as goal

abbrev pub invariant-loop-place : goal.invariant-loop-place
invariant-loop-place g l = (ascends l.row.queue.items ≡ true) × HasTasks l.log.entries l.renderer (in_row l.row)

abbrev pub decreases-loop-place : goal.decreases-loop-place
decreases-loop-place g l = row_size l.row
