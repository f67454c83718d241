-- An exchange in a play.
use Rattle.std.proofs.Common.{refl}
use Rattle.link_laws.specs.Playing as play
use Rattle.link_laws.proofs.Direct.{below, gated_over, inside_same, seat, straight}
use Rattle.link_laws.proofs.Failing.{stays_same}
use Rattle.link_laws.proofs.Gated.{gated}
use Rattle.link_laws.proofs.Talked.{no_stray, talks}
use Rattle.link_laws.proofs.laws.an_exchange_in_a_play.Goals as goal

pub returns-clause-ends : goal.returns-clause-ends
returns-clause-ends g c = λ l m q course ready is other later calls.
    talks (gated straight) seat below gated_over (play.seat l) l q (play.heard l) is ready.fit refl refl ready.begins ready.none m course other ready.sound ready.stands later calls

pub returns-clause-strays : goal.returns-clause-strays
returns-clause-strays g c = λ l m q place ready is other calls.
    no_stray (gated straight) seat below gated_over (play.seat l) l q (play.heard l) is ready.fit refl refl ready.begins ready.none m place other ready.sound calls

pub returns-clause-same : goal.returns-clause-same
returns-clause-same g c = λ r l m heard pending q course calls.
    let same = inside_same r l m heard pending q course calls in
    record { outermost = stays_same (gated straight) r l m heard pending q course calls; between = same.0; inmost = same.1 }
