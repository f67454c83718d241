use Rattle.std.proofs.Common.{◌≡◌, false}
use Rattle.tree_log.specs.Log.{prefix}
use Rattle.coordinator_rules.specs.NextTask.{is_over}
use Rattle.web_message.proofs.tasks.is_over.Given as goal

abbrev pub invariant-loop-number : goal.invariant-loop-number
invariant-loop-number l = is_over (prefix l.number l.log.entries) l.to l.place ≡ false
