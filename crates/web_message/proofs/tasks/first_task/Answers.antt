use Rattle.std.proofs.Common.{sym, ap, ◌∙◌, arith, None}
use Rattle.std.specs.Option.{option_copied}
use Rattle.tree_log.proofs.Places.{prefix_none, entry_there}
use Rattle.coordinator_rules.specs.NextTask.{is_over, first_task}
use Rattle.web_message.proofs.FirstTask.{stands_at, first_next, found_at, none_left}
use Rattle.web_message.proofs.tasks.first_task.Goals as goal

pub loop-place-init : goal.loop-place-init
loop-place-init g c = ap (first_task (g.V.View.tree c.args.view.now) (is_over c.args.log.now.entries) c.args.renderer) (prefix_none c.args.log.now.entries)

pub unreachable-requires : goal.unreachable-requires
unreachable-requires g c =
    entry_there c.args.log.now.entries c.loop-place.place (omega (arith, c.len-place-end.ensures, c.loop-place-test.true)) (sym c.at.ensures ∙ ap option_copied c.in_default.is)

pub task_of-requires : goal.task_of-requires
task_of-requires g c =
    stands_at (g.V.View.tree c.args.view.now) c.args.log.now.entries c.loop-place.place c.in-Some.entry.now c.requires (sym c.at.ensures ∙ ap option_copied c.in-Some.is)

pub returns-in-Some-task_of : goal.returns-in-Some-task_of
returns-in-Some-task_of g c =
    found_at (g.V.View.tree c.args.view.now) (is_over c.args.log.now.entries) c.args.renderer c.loop-place.place c.args.log.now.entries c.in-Some.entry.now c.in-Some-task_of.task
    (sym c.at.ensures ∙ ap option_copied c.in-Some.is) c.loop-place.invariant (sym c.in-Some-task_of.is ∙ c.task_of.ensures)

pub loop-place-preserved : goal.loop-place-preserved
loop-place-preserved g c =
    first_next (g.V.View.tree c.args.view.now) (is_over c.args.log.now.entries) c.args.renderer c.loop-place.place c.args.log.now.entries c.in-Some.entry.now None
    (sym c.at.ensures ∙ ap option_copied c.in-Some.is) c.loop-place.invariant (sym c.in_default-task_of.is ∙ c.task_of.ensures)

pub returns : goal.returns
returns g c = none_left (g.V.View.tree c.args.view.now) (is_over c.args.log.now.entries) c.args.renderer c.loop-place.place c.args.log.now.entries (omega arith) c.loop-place.invariant
