use Rattle.renderer.specs.Fitting.{IsFor}
use Rattle.renderer.specs.Worker.{held}
use Rattle.step_rounds.proofs.rounds.step_on.Given as goal

abbrev pub invariant-steps : goal.invariant-steps
invariant-steps g l = IsFor g.L.Link (held l.worker) l.link
