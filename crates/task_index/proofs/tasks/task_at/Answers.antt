use Rattle.std.proofs.Common.{sym, subst, ap, ◌∙◌}
use Rattle.std.specs.Option.{option_copied}
use Rattle.tree_log.specs.Tree.{Tree}
use Rattle.tree_log.proofs.Admitted.{AllStand, tasks_stand}
use Rattle.web_message.proofs.FirstTask.{stands_at}
use Rattle.task_index.proofs.tasks.task_at.Goals as goal

pub task_of-requires : goal.task_of-requires
task_of-requires g c =
    stands_at (g.V.View.tree c.args.view.now) c.args.log.now.entries c.args.place c.in-Some.entry.now
    (subst (λ (t : Tree). AllStand t c.args.log.now.entries) (sym c.requires.tree) (tasks_stand c.args.log.now.entries c.requires.admitted)) (sym c.at.ensures ∙ ap option_copied c.in-Some.is)
