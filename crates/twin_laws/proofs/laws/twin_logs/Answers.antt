-- Twin logs.
use Rattle.twin_laws.proofs.Twins.{tree_of-twin, told-twin}
use Rattle.twin_laws.proofs.Pairs.{exchange-twin}
use Rattle.twin_laws.proofs.laws.twin_logs.Goals as goal

pub returns-clause-tree : goal.returns-clause-tree
returns-clause-tree c = tree_of-twin

pub returns-clause-told : goal.returns-clause-told
returns-clause-told c = told-twin

pub returns-clause-exchange : goal.returns-clause-exchange
returns-clause-exchange c = exchange-twin
