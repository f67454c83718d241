use Rattle.std.proofs.Common.{◌≡◌, ◌+◌, ◌≤◌, ◌++◌, map, vec_len, Some}
use Rattle.std.specs.Vec.{vec_capacity}
use Rattle.std.specs.Vec.Iter.{into_iter_items, into_iter_len}
use Rattle.turnstile_rows.specs.Raced.{pass_of, AreNew}
use Rattle.turnstile_rows.proofs.race.line_up.Given as goal

abbrev pub invariant-loop-pass : goal.invariant-loop-pass
invariant-loop-pass l =
    (vec_len l.racers ≡ l.number)
    × (l.number + into_iter_len l.pass-iterator ≡ vec_len l.fn.passes)
    × (vec_len l.fn.passes ≤ vec_capacity l.racers)
    × (map pass_of l.racers.items ++ map Some (into_iter_items l.pass-iterator) ≡ map Some l.fn.passes.items)
    × AreNew l.racers.items
