use Rattle.std.proofs.Common.{◌≡◌}
use Rattle.turnstile_rows.specs.Made.{made, seen_of}
use Rattle.turnstile_rows.proofs.racer.turns.Given as goal

abbrev pub invariant-loop-round : goal.invariant-loop-round
invariant-loop-round g l =
    (l.racer.number ≡ l.fn.racer.number)
    × (l.link.seat ≡ l.fn.racer.number)
    × (l.link.gate.now ≡ l.gate)
    × (l.racer.added.items ≡ made l.link.seat (seen_of l.link.pass))
