use Rattle.play_laws.proofs.Begins.{begins_underway}
use Rattle.play_laws.proofs.laws.a_play_begins.Goals as goal

pub returns : goal.returns
returns c = begins_underway
