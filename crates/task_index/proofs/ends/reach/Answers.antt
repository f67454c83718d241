use Rattle.std.proofs.Common.{List, Bool, ap, ◌∙◌}
use Rattle.task_index.specs.Fed.{over_at}
use Rattle.task_index.proofs.Over.{over_push}
use Rattle.task_index.proofs.ends.reach.Goals as goal

pub loop-over-preserved : goal.loop-over-preserved
loop-over-preserved c = λ other. ap (λ (xs : List Bool). over_at xs other) c.in_ok-push.ensures.items ∙ over_push c.loop-over.over.items other ∙ c.loop-over.invariant other
