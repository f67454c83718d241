use Rattle.std.proofs.Common.{sym, subst, ap, ◌∙◌, Some, [], ◌∷◌, ◌++◌}
use Rattle.atomic_table.specs.Table.{opening}
use Rattle.turnstile.specs.Rule.{Kept}
use Rattle.turnstile.specs.Steps.{maker}
use Rattle.turnstile.specs.Rows.{HaveSeen}
use Rattle.turnstile.proofs.KeepsRule.{opens}
use Rattle.turnstile.proofs.Gathers.{are_passes, have_seen}
use Rattle.turnstile.proofs.turnstile.Turnstile.new.Goals as goal

pub new-made-requires : goal.new-made-requires
new-made-requires g c =
    let h = g.S.Grows.history c.of.result.value in
    let one = c.push_reserved.ensures.items ∙ ap (λ l. l ++ Some c.args.state ∷ []) c.in-Ok-with_capacity-2.ensures.items in
    subst (λ xs. Kept g.S.Grows.history g.S.Grows.names h c.args.seats (opening (0 ∷ 0 ∷ []) xs (maker h))) (sym one)
    (opens g.S.Grows.history g.S.Grows.names h c.args.seats c.args.state (ap g.S.Grows.history (sym c.of.ensures)) c.requires (c.ranges.seats.fits))

pub returns-in-Ok-made-clause-passes : goal.returns-in-Ok-made-clause-passes
returns-in-Ok-made-clause-passes g c = are_passes _ c.deal-row.result.items _ c.passes_of-passes.ensures c.deal-row.ensures.row

pub returns-in-Ok-made-clause-seen : goal.returns-in-Ok-made-clause-seen
returns-in-Ok-made-clause-seen g c =
    let m = c.in-Ok-made.ensures.ok in
    have_seen _ c.deal-row.result.items _ c.passes_of-passes.ensures (subst (λ o. HaveSeen o c.deal-row.result.items) (ap (λ k. g.S.Grows.history k.opening.value) m.5 ∙ ap g.S.Grows.history c.of.ensures) c.deal-row.ensures.seen)
