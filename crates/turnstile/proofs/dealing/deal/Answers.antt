use Rattle.std.proofs.Common.{rules, ◌<◌, ◌∙◌, sym, subst, arith, length}
use Rattle.turnstile.specs.Rows.{AreSeats, HaveSeen, Counts}
use Rattle.turnstile.proofs.KeepsRule.{splits}
use Rattle.turnstile.proofs.Rows.{got_index, dealt_more}
use Rattle.turnstile.proofs.dealing.deal.Goals as goal

pub split_seat-seat-requires : goal.split_seat-seat-requires
split_seat-seat-requires g c =
    let i = c.loop-number.invariant in
    let auto = c.loop-number.auto._number in
    let some_there : 0 < length c.loop-number.row.items = omega (arith, i.0) in
    let at = got_index c.loop-number.row.items 0 c.index_mut.result.now some_there c.index_mut.ensures.value in
    let p = i.2 0 c.index_mut.result.now at in
    let n = i.4 c.index_mut.result.now at in
    (p.0, search rules, splits _ _ _ _ _ _ p.3 p.1 (omega (arith, n, i.0, c.requires.table.2, c.loop-number-test.true)))

pub loop-number-preserved : goal.loop-number-preserved
loop-number-preserved g c =
    let i = c.loop-number.invariant in
    let auto = c.loop-number.auto._number in
    let some_there : 0 < length c.loop-number.row.items = omega (arith, i.0) in
    let at = got_index c.loop-number.row.items 0 c.index_mut.result.now some_there c.index_mut.ensures.value in
    let p = i.2 0 c.index_mut.result.now at in
    let s = c.split_seat-seat.ensures in
    let now = c.push_reserved-in-loop-number.ensures.items in
    let h = dealt_more c.args.table.now.shared.table_id (g.S.Grows.history c.args.table.now.shared.key.opening.value) c.loop-number.row.items c.index_mut.result.now c.split_seat-seat.new.seat c.split_seat-seat.result at i.2 i.3 i.4 (s.0 ∙ p.0) s.2 (s.3 ∙ p.0) s.4 in (
      search rules,
      search rules,
      subst (AreSeats c.args.table.now.shared.table_id 0) (sym now) h.0,
      subst (HaveSeen (g.S.Grows.history c.args.table.now.shared.key.opening.value)) (sym now) h.1,
      subst Counts (sym now) h.2,
    )
