use Rattle.std.proofs.Common.{◌≡◌, None}
use Rattle.tree_log.specs.Log.{prefix}
use Rattle.coordinator_rules.specs.NextTask.{is_over, first_task}
use Rattle.web_message.proofs.tasks.first_task.Given as goal

abbrev pub invariant-loop-place : goal.invariant-loop-place
invariant-loop-place g l = first_task (g.V.View.tree l.view) (is_over l.log.entries) l.renderer (prefix l.place l.log.entries) ≡ None
