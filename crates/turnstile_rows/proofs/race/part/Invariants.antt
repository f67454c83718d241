use Rattle.std.proofs.Common.{◌≡◌, ◌+◌, ◌≤◌, ◌++◌, map, vec_len, Some}
use Rattle.std.specs.Vec.{vec_capacity}
use Rattle.std.specs.Vec.Iter.{into_iter_items, into_iter_len}
use Rattle.turnstile_rows.specs.Raced.{pass_of, added_of, HavePasses}
use Rattle.turnstile_rows.proofs.race.part.Given as goal

abbrev pub invariant-loop-racer : goal.invariant-loop-racer
invariant-loop-racer l =
    (vec_len l.passes + into_iter_len l.racer-iterator ≤ vec_capacity l.passes)
    × (vec_len l.records + into_iter_len l.racer-iterator ≤ vec_capacity l.records)
    × (map Some l.passes.items ++ map pass_of (into_iter_items l.racer-iterator) ≡ map pass_of l.fn.racers.items)
    × (l.records.items ++ map added_of (into_iter_items l.racer-iterator) ≡ map added_of l.fn.racers.items)
    × HavePasses (into_iter_items l.racer-iterator)
