use Rattle.std.proofs.Common.{rules, ◌≡◌, ap, subst, sym, ◌∙◌, ◌∷◌, Some, ◌+◌, ◌%◌, ◌^◌}
use Rattle.std.specs.Option.{IfSome, IsSome}
use Rattle.atomic_table.specs.Table.{step, Allows, rest}
use mathlib.Core.Option.{none}
use Rattle.turnstile.specs.Steps.{released}
use Rattle.turnstile.specs.Rule.{Kept}
use Rattle.turnstile.specs.Histories.{Extends}
use Rattle.turnstile.proofs.KeepsRule.{releases}
use Rattle.turnstile.specs.Before.{before}
use Rattle.turnstile.specs.Tidy.{HoldsRight}
use Rattle.turnstile.proofs.Tidied.{inside_is, found_is}
use Rattle.turnstile.proofs.turnstile.Turnstile.leave.Goals as goal

pub fetch_add-requires : goal.fetch_add-requires
fetch_add-requires g c =
    let x = c.exchange-left.ensures in
    let w = c.pass.view_is in
    let v = c.pass.inside.seat.me.0 in
    let key = c.self.inside.table.shared.key in
    let slots = c.self.inside.table.shared.table_id.slots in
    let grows = c.requires.inside in
    let o = inside_is g.S.Grows.names (λ e. Extends g.S.Grows.names c.args.pass.now.number e (g.S.Grows.history c.args.held.state)) c.pass.inside.seat.me c.pass.invariant (subst (λ p. IsSome p.inside) (sym w) grows.1) (subst (λ p. IfSome p.inside (λ e. Extends g.S.Grows.names c.args.pass.now.number e (g.S.Grows.history c.args.held.state))) (sym w) grows.0) in
    let mine = subst (λ n. Extends g.S.Grows.names n o.1 (g.S.Grows.history c.args.held.state)) (sym (ap (λ p. p.number) w)) o.4 in
    let me_is = x.3 ∙ ap (λ r. (v, (0, Some c.args.held.state) ∷ r)) (ap rest o.3) in (
      x.0 ∙ (ap (λ p. p.turnstile) w ∙ (c.requires.own ∙ sym (ap (λ t. t.id) c.self.view_is))),
      search rules,
      subst (λ me. Allows (Kept g.S.Grows.history g.S.Grows.names (g.S.Grows.history key.opening.value) key.seats) slots c.exchange-left.new.seat.id me 1 (λ n. (n + 1) % 2 ^ 64) (released g.S.Grows.history (step slots 1 1 0 none) me)) (sym me_is)
          (releases _ _ _ _ _ _ v o.0 o.1 c.args.held.state o.2 mine),
    )

pub returns-clause-found : goal.returns-clause-found
returns-clause-found g c =
    let x = c.exchange-left.ensures in
    let w = c.pass.view_is in
    let v = c.pass.inside.seat.me.0 in
    let p = c.args.pass.now in
    let me = c.pass.inside.seat.me in
    let state = c.args.held.state in
    let grows = c.requires.inside in
    let o = inside_is g.S.Grows.names (λ e. Extends g.S.Grows.names p.number e (g.S.Grows.history state)) me c.pass.invariant (subst (λ q. IsSome q.inside) (sym w) grows.1) (subst (λ q. IfSome q.inside (λ e. Extends g.S.Grows.names p.number e (g.S.Grows.history state))) (sym w) grows.0) in
    let me_is = x.3 ∙ ap (λ r. (v, (0, Some state) ∷ r)) (ap rest o.3) in
    let seen_is = ap (λ m. m.0.seen) (c.fetch_add.ensures.2 state (ap (λ m. m.1) me_is)) in
    subst (λ now. IfSome p.inside (λ e. before g.S.Grows.names p.number p.seen now ≡ e)) (sym seen_is)
    (found_is g.S.Grows.names p.number p.seen (g.S.Grows.history state) me.0.stage me.1 p.inside
    (subst (λ q. HoldsRight g.S.Grows.names q.number q.seen me.0.stage me.1) w c.pass.invariant.1) (ap (λ q. q.inside) w) grows.0)
