use Rattle.std.proofs.Common.{◌≡◌, ◌+◌, ◌≤◌, ◌++◌, map, length, vec_len}
use Rattle.std.specs.Vec.{vec_capacity}
use Rattle.std.specs.Vec.Iter.{into_iter_items, into_iter_len}
use Rattle.turnstile.specs.Rows.{AreSeats, place_of}
use Rattle.turnstile.proofs.dealing.passes_of.Given as goal

abbrev pub invariant-loop-seat : goal.invariant-loop-seat
invariant-loop-seat g l =
    (vec_len l.passes + into_iter_len l.seat-iterator ≤ vec_capacity l.passes)
    × (l.passes.items ++ map place_of (into_iter_items l.seat-iterator) ≡ map place_of l.fn.row.items)
    × AreSeats l.table.shared.table_id (length l.passes.items) (into_iter_items l.seat-iterator)
