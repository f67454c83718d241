use Rattle.task_index.proofs.Openers.{openers_fed}
use Rattle.task_index.proofs.laws.fed_by_openers.Goals as goal

pub returns : goal.returns
returns c = openers_fed
