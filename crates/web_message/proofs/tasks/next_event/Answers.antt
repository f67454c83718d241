use Rattle.std.proofs.Common.{sym, subst}
use Rattle.tree_log.specs.Tree.{Tree}
use Rattle.tree_log.proofs.Admitted.{AllStand, tasks_stand}
use Rattle.web_message.proofs.FirstTask.{next_on}
use Rattle.web_message.proofs.tasks.next_event.Goals as goal

pub first_task-requires : goal.first_task-requires
first_task-requires g c = subst (λ (t : Tree). AllStand t c.args.log.now.entries) (sym c.requires.tree) (tasks_stand c.args.log.now.entries c.requires.admitted)

pub returns : goal.returns
returns g c = next_on c.args.log.now.entries _ c.args.renderer _ c.requires.tree c.first_task.ensures
