-- A step that answers.
use Rattle.renderer_laws.proofs.Kept.{kept_local}
use Rattle.renderer_laws.proofs.kept_laws.a_renderer_keeps_a_step_that_answers.Goals as goal

pub returns : goal.returns
returns c = kept_local
