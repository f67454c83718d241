use Rattle.document_ends.proofs.Openers.{openers_fed}
use Rattle.document_ends.proofs.laws.fed_by_openers.Goals as goal

pub returns : goal.returns
returns c = openers_fed
