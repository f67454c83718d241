use Rattle.std.proofs.Common.{Bool, ap, ◌∙◌}
use Rattle.std.specs.Prelude.{◌==◌, ◌||◌}
use Rattle.task_index.proofs.Over.{over_set}
use Rattle.task_index.proofs.ends.set_over.Goals as goal

pub returns-clause-ok : goal.returns-clause-ok
returns-clause-ok c = λ other. over_set c.reach.new.over.items c.args.place other c.in_ok-reach.ensures.there ∙ ap (λ (b : Bool). (c.args.place == other) || b) (c.reach.ensures.same other)
