use Rattle.std.proofs.Common.{◌≡◌, ℕ, length, get_or}
use Rattle.desk.proofs.tellings.Tellings.new.Given as goal

abbrev pub invariant-loop-renderer : goal.invariant-loop-renderer
invariant-loop-renderer l = record { count : length l.last.items ≡ l._renderer; none : (r : ℕ) → get_or l.last.items r 0 ≡ 0 }
