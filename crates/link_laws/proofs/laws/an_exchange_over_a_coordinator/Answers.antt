-- An exchange with a coordinator.
use Rattle.std.proofs.Common.{None, refl}
use Rattle.link_port.specs.Direct.{below, heard, seat}
use Rattle.link_laws.proofs.Direct.{straight, straight_over, straight_same}
use Rattle.link_laws.proofs.Served.{has_heard, never_fails, never_strays}
use Rattle.link_laws.proofs.laws.an_exchange_over_a_coordinator.Goals as goal

pub returns-clause-told : goal.returns-clause-told
returns-clause-told g c = λ l m q now outcome is s fit calls. has_heard straight seat below straight_over (seat l) l m q (heard l) now outcome is refl refl s fit calls

pub returns-clause-fails : goal.returns-clause-fails
returns-clause-fails g c = λ l m q calls. never_fails straight seat below straight_over (seat l) l m q (heard l) None calls

pub returns-clause-strays : goal.returns-clause-strays
returns-clause-strays g c = λ l m q place is fit under calls. never_strays straight seat below straight_over (seat l) l m q (heard l) None place is fit refl refl under calls

pub returns-clause-same : goal.returns-clause-same
returns-clause-same g c = λ r l m heard pending q course calls. straight_same r l m heard pending q course calls
