use Rattle.std.proofs.Common.{◌≡◌, ℕ, List, subst}
use Rattle.std.specs.Prelude.{IfOk}
use Rattle.window_props.specs.declared.value.Value.{Value}
use Rattle.object_access.specs.Access as access
use Rattle.object_access.specs.StepAnswer.{Sight, on_object, operand_value}
use Rattle.script_steps.specs.Kept.{kept}
use Rattle.script_steps.specs.Stored.{stored}
use Rattle.script_steps.specs.Reached.{sight}
use Rattle.script_steps.proofs.agent.Agent.set.Goals as goal

pub returns-clause-ok : goal.returns-clause-ok
returns-clause-ok g c =
    let s : Sight = sight (g.V.View.tree c.args.self.now.view.now) (g.V.View.urls c.args.self.now.view.now) (kept c.args.self.now.registers.now) (stored c.args.stores.now) in
    let P : List ℕ → Value → Type 0 = λ of v. IfOk c.on_object.result (λ p. p ≡ on_object s c.args.self.now.doc c.args.user of (λ seen. access.set seen (s.stores seen.object) c.args.key.now v)) in
    let given : Value = operand_value s c.args.self.now.doc c.args.value.now in
    subst (λ of. P of given) c.as_str.ensures (subst (λ v. P c.as_str.result.now v) (c.in_ok-value.ensures (stored c.args.stores.now)) c.on_object.ensures.ok)
