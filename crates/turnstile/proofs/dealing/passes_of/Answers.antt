use Rattle.std.proofs.Common.{◌∙◌, sym, ap, map, arith, length, subst, ◌++◌}
use Rattle.std.specs.Vec.Iter.{into_iter_items}
use Rattle.std.proofs.lemmas.List.{length-append}
use Rattle.turnstile.specs.Rows.{place_of, AreSeats}
use Rattle.turnstile.proofs.Gathers.{first_seat, rest_seats, tidy, grown}
use Rattle.turnstile.proofs.dealing.passes_of.Goals as goal

pub loop-seat-init : goal.loop-seat-init
loop-seat-init g c =
    let r = c.requires.room in
    let h = c.into_iter-seat-iterator.ensures.into_iter_gives in
    let z = c.args.table.now.shared.table_id in (
      omega (arith, r.1, h.1, c.args.passes.ok.0, ap length r.0),
      ap (λ l. l ++ map place_of (into_iter_items c.into_iter-seat-iterator.result)) r.0 ∙ ap (map place_of) h.0,
      subst (λ n. AreSeats z n (into_iter_items c.into_iter-seat-iterator.result)) (sym (ap length r.0)) (subst (AreSeats z 0) (sym h.0) c.requires.row),
    )

pub invariant_of-push_reserved : goal.invariant_of-push_reserved
invariant_of-push_reserved g c =
    let s = first_seat _ _ c.in-Some.seat _ _ c.in-Some.ensures.steps.0 c.loop-seat.invariant.2 in
    tidy g.S.Grows.names c.in-Some.seat.me s.1 s.2 s.4

pub loop-seat-preserved : goal.loop-seat-preserved
loop-seat-preserved g c =
    let i = c.loop-seat.invariant in
    let s = c.in-Some.ensures.steps in
    let p = c.push_reserved.ensures in (
      omega (arith, i.0, s.1, p.len, p.capacity),
      grown c.loop-seat.passes.items c.push_reserved.new.self.items (into_iter_items c.loop-seat.seat-iterator) (into_iter_items c.next.new.self) (map place_of c.args.row.items) c.in-Some.seat p.items s.0 i.1,
      rest_seats _ (length c.loop-seat.passes.items) _ c.in-Some.seat _ _ s.0 (ap length p.items ∙ length-append c.loop-seat.passes.items _) i.2,
    )
