use Rattle.std.proofs.Common.{rules, ℕ, ◌≡◌, ◌<◌, ◌∙◌, sym, subst, ap, arith, length, Some}
use Rattle.std.specs.List.{slice_get}
use Rattle.std.specs.Vec.Iter.{into_iter_items}
use mathlib.Core.Option.{some}
use Rattle.turnstile.specs.Places.{Place}
use Rattle.turnstile.specs.Rows.{ArePasses}
use Rattle.turnstile.specs.Histories.{Follows, Since}
use Rattle.turnstile.proofs.KeepsRule.{joins}
use Rattle.turnstile.proofs.Tidied.{outside_is}
use Rattle.turnstile.proofs.Rows.{got_index}
use Rattle.turnstile.proofs.Gathers.{gathers, gathers_first, gathers_next}
use Rattle.turnstile.proofs.Closing.{ended, not_none, some_same}
use Rattle.turnstile.proofs.turnstile.Turnstile.close.Goals as goal

pub loop-pass-init : goal.loop-pass-init
loop-pass-init g c =
    let t = c.self.view_is in
    let w = c.seat.view_is in
    let seat = c.seat.inside.seat in
    let some_there : 0 < length c.args.passes.items = omega (arith, c.requires.count, ap (λ x. x.seats) t, c.self.invariant.2) in
    let at = got_index c.args.passes.items 0 c.remove.result some_there c.remove.ensures.value in
    let are = subst (λ z. ArePasses z 0 c.args.passes.items) (sym (ap (λ x. x.id) t)) c.requires.passes in
    let o = outside_is g.S.Grows.names seat.me c.seat.invariant (ap (λ p. p.inside) w ∙ (are 0 c.remove.result at).2) in
    gathers _ c.args.passes.items (into_iter_items c.into_iter-pass-iterator.result) c.remove.result seat at (c.into_iter-pass-iterator.ensures.into_iter_gives.0 ∙ c.remove.ensures.by_index.2) are
    (ap (λ p. p.turnstile) w) (ap (λ p. p.number) w) (ap (λ p. p.seen) w) o.0 o.1 c.seat.invariant.0

pub join_seat-requires : goal.join_seat-requires
join_seat-requires g c =
    let i = c.loop-pass.invariant in
    let w = c.pass.view_is in
    let p = gathers_first _ _ _ _ c.loop-pass.seat c.in-Some.pass c.in-Some.ensures.steps.0 i in
    let o = outside_is g.S.Grows.names c.pass.inside.seat.me c.pass.invariant (ap (λ x. x.inside) w ∙ p.2) in
    (i.own, ap (λ x. x.turnstile) w ∙ p.0, o.1, search rules, joins _ _ _ _ _ _ _ _ i.outside o.0 (ap (λ x. x.number) w ∙ p.1))

pub loop-pass-preserved : goal.loop-pass-preserved
loop-pass-preserved g c =
    let h = c.join_seat.ensures in
    gathers_next _ _ _ _ c.loop-pass.seat c.join_seat.new.seat c.in-Some.pass c.pass.inside.seat.me.0 c.in-Some.ensures.steps.0 (ap (λ x. x.seen) c.pass.view_is) c.loop-pass.invariant h.0 h.2

pub unreachable-requires : goal.unreachable-requires
unreachable-requires g c =
    let ok = c.loop-pass.pass-iterator.rest.ok in
    let key = c.self.inside.table.shared.key in
    let e = ended g.S.Grows.history g.S.Grows.names (g.S.Grows.history key.opening.value) key.seats _ c.args.passes.items (into_iter_items c.loop-pass.pass-iterator) c.loop-pass.seat _ _ (sym ok.0 ∙ c.in-None.ensures.steps.0) c.loop-pass.invariant (c.requires.count ∙ sym (ap (λ x. x.seats) c.self.view_is)) c.close_with-closed.ensures.values.2 in
    not_none e.0 (sym e.1 ∙ c.in_default.ensures.value)

pub returns-clause-seen : goal.returns-clause-seen
returns-clause-seen g c =
    let ok = c.loop-pass.pass-iterator.rest.ok in
    let key = c.self.inside.table.shared.key in
    let e = ended g.S.Grows.history g.S.Grows.names (g.S.Grows.history key.opening.value) key.seats _ c.args.passes.items (into_iter_items c.loop-pass.pass-iterator) c.loop-pass.seat _ _ (sym ok.0 ∙ c.in-None.ensures.steps.0) c.loop-pass.invariant (c.requires.count ∙ sym (ap (λ x. x.seats) c.self.view_is)) c.close_with-closed.ensures.values.2 in
    let same : e.0 ≡ c.in-Some-found.state = some_same e.0 c.in-Some-found.state (sym e.1 ∙ (c.take-found.ensures.value ∙ ap some c.in-Some-found.is)) in
    subst (λ x. (k : ℕ) (p : Place g.row.S-Item.Denot) → slice_get c.args.passes.items k ≡ Some p → Follows g.S.Grows.names k p.seen (g.S.Grows.history x)) same e.2

pub returns-clause-others : goal.returns-clause-others
returns-clause-others g c =
    let ok = c.loop-pass.pass-iterator.rest.ok in
    let t = c.self.view_is in
    let key = c.self.inside.table.shared.key in
    let e = ended g.S.Grows.history g.S.Grows.names (g.S.Grows.history key.opening.value) key.seats _ c.args.passes.items (into_iter_items c.loop-pass.pass-iterator) c.loop-pass.seat _ _ (sym ok.0 ∙ c.in-None.ensures.steps.0) c.loop-pass.invariant (c.requires.count ∙ sym (ap (λ x. x.seats) t)) c.close_with-closed.ensures.values.2 in
    let same : e.0 ≡ c.in-Some-found.state = some_same e.0 c.in-Some-found.state (sym e.1 ∙ (c.take-found.ensures.value ∙ ap some c.in-Some-found.is)) in
    subst (λ y. Since g.S.Grows.names y.seats y.opening (g.S.Grows.history c.in-Some-found.state)) t (subst (λ x. Since g.S.Grows.names key.seats (g.S.Grows.history key.opening.value) (g.S.Grows.history x)) same e.3)
