use Rattle.std.proofs.Common.{◌≡◌}
use Rattle.serde_json.specs.View.{members_view}
use Rattle.session_reading.specs.Reading as spec
use Rattle.session_reading.proofs.reading.only.Given as goal

abbrev pub invariant-loop-name : goal.invariant-loop-name
invariant-loop-name l =
    spec.only l.known (members_view l.name-iterator) ≡ spec.only l.known (members_view l.members.entries)
