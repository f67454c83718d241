use Rattle.std.proofs.Common.{◌≡◌, ◌≤◌, length}
use Rattle.std.specs.Vec.{vec_capacity}
use Rattle.turnstile.specs.Rows.{AreSeats, HaveSeen, Counts}
use Rattle.turnstile.proofs.dealing.deal.Given as goal

abbrev pub invariant-loop-number : goal.invariant-loop-number
invariant-loop-number g l =
    (length l.row.items ≡ l._number)
    × (l.seats ≤ vec_capacity l.row)
    × AreSeats l.table.shared.table_id 0 l.row.items
    × HaveSeen (g.S.Grows.history l.table.shared.key.opening.value) l.row.items
    × Counts l.row.items
