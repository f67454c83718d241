-- What a renderer does next.
use Rattle.renderer_laws.proofs.Moving.{left_is, move_is, stores_are}
use Rattle.renderer_laws.proofs.laws.a_renderer_moves_as_the_agent.Goals as goal

pub returns-clause-left : goal.returns-clause-left
returns-clause-left c = left_is

pub returns-clause-moves : goal.returns-clause-moves
returns-clause-moves c = move_is

pub returns-clause-properties : goal.returns-clause-properties
returns-clause-properties c = stores_are
