-- What is added names the renderer.
use Rattle.desk.proofs.Growing.{grown_served, grown_lost}
use Rattle.desk.proofs.laws.a_history_grows_by_its_renderer.Goals as goal

pub returns-clause-serve : goal.returns-clause-serve
returns-clause-serve c = grown_served

pub returns-clause-lose : goal.returns-clause-lose
returns-clause-lose c = grown_lost
