use Rattle.std.proofs.Common.{sym, refl, map, arith, Some}
use Rattle.std.specs.Vec.Iter.{into_iter_items}
use Rattle.turnstile_rows.specs.Raced.{pass_of, added_of}
use Rattle.turnstile_rows.proofs.Shares.{next_map, next_list, tail_have}
use Rattle.turnstile_rows.proofs.race.part.Goals as goal

pub loop-racer-preserved : goal.loop-racer-preserved
loop-racer-preserved c =
    let i = c.loop-racer.invariant in
    let s = c.in-Some.ensures.steps in
    let p = c.push_reserved.ensures in
    let q = c.push_reserved-in-loop-racer.ensures in (
      omega (arith, i.0, s.1, p.len, p.capacity),
      omega (arith, i.1, s.1, q.len, q.capacity),
      next_map Some pass_of c.loop-racer.passes.items c.push_reserved.new.self.items (into_iter_items c.loop-racer.racer-iterator) (into_iter_items c.next.new.self) (map pass_of c.args.racers.items) c.in-Some.racer c.in-Some-pass.pass p.items s.0 (sym c.in-Some-pass.is) i.2,
      next_list added_of c.loop-racer.records.items c.push_reserved-in-loop-racer.new.self.items (into_iter_items c.loop-racer.racer-iterator) (into_iter_items c.next.new.self) (map added_of c.args.racers.items) c.in-Some.racer c.in-Some.racer.added q.items s.0 refl i.3,
      tail_have (into_iter_items c.loop-racer.racer-iterator) (into_iter_items c.next.new.self) c.in-Some.racer s.0 i.4,
    )
