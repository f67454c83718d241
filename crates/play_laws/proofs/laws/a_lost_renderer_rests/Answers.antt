use Rattle.play_laws.proofs.Turned.{rested}
use Rattle.play_laws.proofs.laws.a_lost_renderer_rests.Goals as goal

pub returns : goal.returns
returns c = rested
