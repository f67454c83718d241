use Rattle.play_laws.proofs.Turned.{stepped}
use Rattle.play_laws.proofs.laws.a_turn_keeps_a_play_underway.Goals as goal

pub returns : goal.returns
returns c = stepped
