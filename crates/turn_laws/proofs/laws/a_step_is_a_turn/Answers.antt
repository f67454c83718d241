use Rattle.turn_laws.proofs.Turning.{step_is_turn}
use Rattle.turn_laws.proofs.laws.a_step_is_a_turn.Goals as goal

pub returns : goal.returns
returns c = step_is_turn
