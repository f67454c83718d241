-- An exchange behind a gate.
use Rattle.link_laws.proofs.Gated.{gate_passes, gate_stays}
use Rattle.link_laws.proofs.laws.an_exchange_behind_a_gate.Goals as goal

pub returns-clause-inside : goal.returns-clause-inside
returns-clause-inside g c = λ r l m heard pending q course calls. gate_passes g.L.Link r l m heard pending q course calls

pub returns-clause-same : goal.returns-clause-same
returns-clause-same g c = λ r l m heard pending q course calls. gate_stays g.L.Link r l m heard pending q course calls
