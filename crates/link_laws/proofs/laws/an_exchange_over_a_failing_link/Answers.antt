-- An exchange over a link that fails at one call.
use Rattle.link_laws.proofs.Failing.{fares, stays_same}
use Rattle.link_laws.proofs.laws.an_exchange_over_a_failing_link.Goals as goal

pub returns-clause-fares : goal.returns-clause-fares
returns-clause-fares g c = λ small r l m heard pending q course other before calls. fares g.L.Link small r l heard pending q other before m course calls

pub returns-clause-same : goal.returns-clause-same
returns-clause-same g c = λ r l m heard pending q course calls. stays_same g.L.Link r l m heard pending q course calls
