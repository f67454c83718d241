use Rattle.std.proofs.Common.{rules, ◌≡◌, ◌∙◌, refl, sym, ap, subst, ◌∷◌, Some, None}
use mathlib.Core.Option.{none}
use Rattle.atomic_table.specs.Table.{step, Allows, rest}
use Rattle.turnstile.specs.Steps.{looked}
use Rattle.turnstile.specs.Rule.{Kept}
use Rattle.turnstile.specs.Tidy.{IsTidy}
use Rattle.turnstile.proofs.Tidied.{outside_is}
use Rattle.turnstile.proofs.KeepsRule.{draws, looks, let_in_at, what}
use Rattle.turnstile.proofs.turnstile.Turnstile.enter.Goals as goal

pub fetch_add-ticket-requires : goal.fetch_add-ticket-requires
fetch_add-ticket-requires g c =
    let w = c.pass.view_is in
    let o = outside_is g.S.Grows.names c.pass.inside.seat.me c.pass.invariant (ap (λ p. p.inside) w ∙ c.requires.outside) in
    (ap (λ p. p.turnstile) w ∙ (c.requires.own ∙ sym (ap (λ t. t.id) c.self.view_is)), search rules, draws _ _ _ _ _ _ _ _ o.0)

pub loop-init : goal.loop-init
loop-init g c =
    let w = c.pass.view_is in
    let f = c.fetch_add-ticket.ensures in
    let o = outside_is g.S.Grows.names c.pass.inside.seat.me c.pass.invariant (ap (λ p. p.inside) w ∙ c.requires.outside) in (
      f.0 ∙ ap (λ p. p.turnstile) w,
      ap (λ m. m.0.stage) f.2,
      ap (λ m. m.1) f.2 ∙ o.1,
      ap (λ m. m.0.number) f.2 ∙ ap (λ p. p.number) w,
      ap (λ m. m.0.seen) f.2 ∙ ap (λ p. p.seen) w,
      ap (λ m. m.0.kept) f.2 ∙ c.pass.invariant.0,
    )

pub load-served-requires : goal.load-served-requires
load-served-requires g c =
    let i = c.loop.invariant in
    let key = c.self.inside.table.shared.key in
    let slots = c.self.inside.table.shared.table_id.slots in
    let v = c.loop.pass-inside.seat.me.0 in (
      i.0 ∙ (c.requires.own ∙ sym (ap (λ t. t.id) c.self.view_is)),
      search rules,
      subst (λ held. Allows (Kept g.S.Grows.history g.S.Grows.names (g.S.Grows.history key.opening.value) key.seats) slots c.loop.pass-inside.seat.id (v, held) 1 (λ n. n) (looked g.S.Grows.history g.S.Grows.names (step slots 1 0 0 none) (v, held))) (sym i.2)
          (looks _ _ _ _ _ _ v c.fetch_add-ticket.result i.1),
    )

pub exchange-found-requires : goal.exchange-found-requires
exchange-found-requires g c =
    let i = c.loop.invariant in
    let h = let_in_at g.S.Grows.history g.S.Grows.names (step c.self.inside.table.shared.table_id.slots 1 0 0 none) c.fetch_add-ticket.result c.load-served.result c.loop.pass-inside.seat.me c.load-served.new.seat.me c.load-served.ensures.2 i.1 i.2 c.if-served-ticket.true in
    let has = ap (λ m. m.1) h.1 in
    (c.load-served.ensures.0 ∙ (i.0 ∙ (c.requires.own ∙ sym (ap (λ t. t.id) c.self.view_is))), (Some h.0, has ∙ ap (λ r. (0, Some h.0) ∷ r) (sym (ap rest has))))

pub returns-then-served-ticket-clause-follows : goal.returns-then-served-ticket-clause-follows
returns-then-served-ticket-clause-follows g c =
    let i = c.loop.invariant in
    let h = let_in_at g.S.Grows.history g.S.Grows.names (step c.self.inside.table.shared.table_id.slots 1 0 0 none) c.fetch_add-ticket.result c.load-served.result c.loop.pass-inside.seat.me c.load-served.new.seat.me c.load-served.ensures.2 i.1 i.2 c.if-served-ticket.true in
    let is : h.0 ≡ c.in-Some-found.state = ap (what h.0) (sym (ap (λ m. m.1) h.1) ∙ (c.exchange-found.ensures.2 ∙ ap (λ x. (0, x) ∷ rest c.load-served.new.seat.me.1) c.in-Some-found.is)) in
    rw (← i.3, ← i.4, ← is) h.2

pub invariant_of-pass : goal.invariant_of-pass
invariant_of-pass g c =
    let i = c.loop.invariant in
    let h = let_in_at g.S.Grows.history g.S.Grows.names (step c.self.inside.table.shared.table_id.slots 1 0 0 none) c.fetch_add-ticket.result c.load-served.result c.loop.pass-inside.seat.me c.load-served.new.seat.me c.load-served.ensures.2 i.1 i.2 c.if-served-ticket.true in
    let me_is = c.exchange-found.ensures.3 ∙ ap (λ m. (m.0, (0, None) ∷ rest m.1)) h.1 in
    subst (IsTidy g.S.Grows.names) (sym me_is) (i.5, (refl, h.2))
