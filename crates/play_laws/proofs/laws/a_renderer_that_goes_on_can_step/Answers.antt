use Rattle.play_laws.proofs.CanStep.{can_step}
use Rattle.play_laws.proofs.laws.a_renderer_that_goes_on_can_step.Goals as goal

pub returns : goal.returns
returns c = can_step
