use Rattle.std.proofs.Common.{◌≡◌, ◌∙◌, sym, ap, subst, ◌++◌, ◌∷◌, []}
use Rattle.std.specs.Option.{IfSome}
use Rattle.turnstile.specs.Before.{before}
use Rattle.turnstile.specs.Histories.{Enters}
use Rattle.turnstile_rows.specs.Made.{made, who}
use Rattle.turnstile_rows.proofs.Adds.{made_more, made_enters, on_ok, on_err}
use Rattle.turnstile_rows.proofs.link.Link.add.Goals as goal

pub returns-clause-ok : goal.returns-clause-ok
returns-clause-ok g c =
    let e = c.enter-held.ensures in
    let n = c.args.self.now.seat in
    let seen = c.args.self.now.pass.seen in
    let entry = c.enter-held.result.state.items.items in
    let f = subst (λ k. Enters who k seen entry) c.args.self.now.ours.1 e.follows in
    on_ok c.add-outcome.result _ _
    (λ h. ap (made n) c.leave.ensures.seen ∙ made_more n c.args.value seen entry c.add-outcome.new.self.items.items f (h ∙ ap (λ s. s.items.items ++ record { by = n; value = c.args.value } ∷ []) c.state.ensures.value)) c.add-outcome.ensures.ok

pub returns-clause-err : goal.returns-clause-err
returns-clause-err g c =
    let e = c.enter-held.ensures in
    let n = c.args.self.now.seat in
    let seen = c.args.self.now.pass.seen in
    let entry = c.enter-held.result.state.items.items in
    let f = subst (λ k. Enters who k seen entry) c.args.self.now.ours.1 e.follows in
    on_err c.add-outcome.result _ _ (λ h. ap (made n) (c.leave.ensures.seen ∙ (h ∙ ap (λ s. s.items.items) c.state.ensures.value)) ∙ made_enters n seen entry f) c.add-outcome.ensures.err

pub returns-clause-exchange : goal.returns-clause-exchange
returns-clause-exchange g c =
    let e = c.enter-held.ensures in
    let n = c.args.self.now.seat in
    let seen = c.args.self.now.pass.seen in
    let entry = c.enter-held.result.state.items.items in
    let now = c.leave.new.pass.seen in
    let place = c.enter-held.new.pass in
    let found : before who place.number place.seen now ≡ entry = subst (λ i. IfSome i (λ l. before who place.number place.seen now ≡ l)) e.inside c.leave.ensures.found in
    let found' : before who n seen now ≡ entry = subst (λ k. before who k seen now ≡ entry) (e.own.1 ∙ c.args.self.now.ours.1) (subst (λ s. before who place.number s now ≡ entry) e.seen found) in
    on_ok c.add-outcome.result _ _ (λ h. c.leave.ensures.seen ∙ (h ∙ (ap (λ s. s.items.items ++ record { by = n; value = c.args.value } ∷ []) c.state.ensures.value ∙ ap (λ l. l ++ record { by = n; value = c.args.value } ∷ []) (sym found')))) c.add-outcome.ensures.ok
