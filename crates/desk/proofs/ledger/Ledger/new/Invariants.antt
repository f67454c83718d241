use Rattle.std.proofs.Common.{◌≡◌, ℕ, length, get_or, false}
use Rattle.desk.proofs.ledger.Ledger.new.Given as goal

abbrev pub invariant-loop-renderer : goal.invariant-loop-renderer
invariant-loop-renderer l = record { count : length l.lost.items ≡ l._renderer; none : (r : ℕ) → get_or l.lost.items r false ≡ false }
