use Rattle.std.proofs.Common.{◌≡◌, length}
use Rattle.session_player.specs.Underway.{AreFresh, seats_of}
use Rattle.session_player.proofs.playing.hired.Given as goal

abbrev pub invariant-numbers : goal.invariant-numbers
invariant-numbers g l = record { count : length l.workers.items ≡ l.number; are_fresh : AreFresh (seats_of g.V.View l.workers.items) }
