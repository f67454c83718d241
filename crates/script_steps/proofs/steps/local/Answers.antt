use Rattle.std.proofs.Common.{◌≡◌, ℕ, List, false, sym, subst}
use Rattle.std.specs.Prelude.{IfOk}
use Rattle.agent_terms.specs.declared.step.Step.{Step}
use Rattle.object_access.specs.Access as access
use Rattle.object_access.specs.StepAnswer.{Sight, perform, on_object}
use Rattle.script_steps.specs.Kept.{kept}
use Rattle.script_steps.specs.Stored.{stored}
use Rattle.script_steps.specs.Reached.{sight}
use Rattle.script_steps.proofs.steps.local.Goals as goal

pub returns-in-Set-clause-ok : goal.returns-in-Set-clause-ok
unfolding perform
returns-in-Set-clause-ok g c =
    let s : Sight = sight (g.V.View.tree c.args.view.now) (g.V.View.urls c.args.view.now) (kept c.args.registers.now) (stored c.args.stores.now) in
    subst (λ (step : Step). IfOk c.set.result (λ p. p ≡ perform s c.args.doc step)) (sym c.in-Set.is) c.set.ensures.ok

pub returns-in-Define-clause-ok : goal.returns-in-Define-clause-ok
unfolding perform
returns-in-Define-clause-ok g c =
    let s : Sight = sight (g.V.View.tree c.args.view.now) (g.V.View.urls c.args.view.now) (kept c.args.registers.now) (stored c.args.stores.now) in
    subst (λ (step : Step). IfOk c.define.result (λ p. p ≡ perform s c.args.doc step)) (sym c.in-Define.is) c.define.ensures.ok

pub returns-in-Delete-clause-ok : goal.returns-in-Delete-clause-ok
unfolding perform
returns-in-Delete-clause-ok g c =
    let s : Sight = sight (g.V.View.tree c.args.view.now) (g.V.View.urls c.args.view.now) (kept c.args.registers.now) (stored c.args.stores.now) in
    let P : List ℕ → Type 0 = λ of. IfOk c.on_object.result (λ p. p ≡ on_object s c.args.doc false of (λ seen. access.deleted seen (s.stores seen.object) c.in-Delete.key)) in
    subst (λ (step : Step). IfOk c.on_object.result (λ p. p ≡ perform s c.args.doc step)) (sym c.in-Delete.is) (subst P c.as_str.ensures c.on_object.ensures.ok)

pub returns-in-Call-clause-ok : goal.returns-in-Call-clause-ok
unfolding perform
returns-in-Call-clause-ok g c =
    let s : Sight = sight (g.V.View.tree c.args.view.now) (g.V.View.urls c.args.view.now) (kept c.args.registers.now) (stored c.args.stores.now) in
    subst (λ (step : Step). IfOk c.call.result (λ p. p ≡ perform s c.args.doc step)) (sym c.in-Call.is) c.call.ensures.ok
