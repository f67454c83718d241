use Rattle.std.proofs.Common.{◌∙◌, ap, subst}
use Rattle.turnstile.specs.Histories.{Enters}
use Rattle.turnstile_rows.specs.Made.{made, who}
use Rattle.turnstile_rows.proofs.Adds.{made_enters}
use Rattle.turnstile_rows.proofs.link.Link.visit.Goals as goal

pub returns-clause-none : goal.returns-clause-none
returns-clause-none g c =
    let n = c.args.self.now.seat in
    let seen = c.args.self.now.pass.seen in
    let entry = c.enter-held.result.state.items.items in
    let f = subst (λ k. Enters who k seen entry) c.args.self.now.ours.1 c.enter-held.ensures.follows in
    ap (made n) c.leave.ensures.seen ∙ made_enters n seen entry f
