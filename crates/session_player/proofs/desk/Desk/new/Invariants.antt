use Rattle.std.proofs.Common.{◌≡◌, ℕ, length, get_or}
use Rattle.session_player.proofs.desk.Desk.new.Given as goal

abbrev pub invariant-renderers : goal.invariant-renderers
invariant-renderers g l = record { count : length l.told.items ≡ l._number; none : (r : ℕ) → get_or l.told.items r 0 ≡ 0 }
