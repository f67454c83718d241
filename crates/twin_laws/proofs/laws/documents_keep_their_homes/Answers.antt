-- Homes stay.
use Rattle.twin_laws.proofs.HomesStay.{admitted_stays, exchange_stays, loss_stays}
use Rattle.twin_laws.proofs.laws.documents_keep_their_homes.Goals as goal

pub returns-clause-admitted : goal.returns-clause-admitted
returns-clause-admitted c = admitted_stays

pub returns-clause-exchange : goal.returns-clause-exchange
returns-clause-exchange c = exchange_stays

pub returns-clause-loss : goal.returns-clause-loss
returns-clause-loss c = loss_stays
