use Rattle.std.proofs.Common.{◌∙◌, ap}
use Rattle.std.specs.Prelude.{option_and_then}
use Rattle.single_agent.specs.Running.{left_at, left_on}
use Rattle.session_player.proofs.BuiltLaws.{built_for}
use Rattle.session_player.proofs.worker.Worker.left.Goals as goal

pub returns-in-Some-clause-built : goal.returns-in-Some-clause-built
returns-in-Some-clause-built g c =
    let on = left_on c.args.session.now (g.V.View.tree c.args.self.now.view) (g.V.View.urls c.args.self.now.view) in
    built_for c.args.session.now (g.V.View.tree c.args.self.now.view) (g.V.View.urls c.args.self.now.view) c.args.self.now.run (left_at c.in_ok-run.run' c.in-Some.step.now) c.requires
    (ap (option_and_then on) c.in_ok-run.was ∙ c.in-Some.ensures)
