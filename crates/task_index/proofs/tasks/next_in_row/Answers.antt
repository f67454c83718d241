use Rattle.std.proofs.Common.{ℕ, Option, sym, subst, ◌∙◌}
use Rattle.task_index.specs.Fed.{in_row, IsFirstOf}
use Rattle.task_index.proofs.FirstTasks.{next_found, next_none}
use Rattle.task_index.proofs.tasks.next_in_row.Goals as goal

pub returns-in-Some-task_at-clause-task : goal.returns-in-Some-task_at-clause-task
returns-in-Some-task_at-clause-task g c =
    sym (next_found c.args.log.now.entries c.args.renderer (in_row c.loop-place.row) c.in-Some.place c.in-Some-task_at.task c.loop-place.invariant.1
    (subst (λ (o : Option ℕ). IsFirstOf (in_row c.loop-place.row) o) c.in-Some.is c.first.ensures).1 (sym c.task_at.ensures ∙ c.in-Some-task_at.is))

pub returns-clause-task : goal.returns-clause-task
returns-clause-task g c =
    sym (next_none c.args.log.now.entries c.args.renderer (in_row c.loop-place.row) c.loop-place.invariant.1
    (subst (λ (o : Option ℕ). IsFirstOf (in_row c.loop-place.row) o) c.in_default.is c.first.ensures))
