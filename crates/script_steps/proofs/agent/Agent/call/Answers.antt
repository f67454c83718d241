use Rattle.std.proofs.Common.{◌≡◌, List, map, ap, ◌∙◌, subst}
use Rattle.std.specs.Prelude.{IfOk}
use Rattle.window_props.specs.declared.value.Value.{Value}
use Rattle.object_access.specs.Methods.{called}
use Rattle.object_access.specs.StepAnswer.{Sight, on_object, operand_value}
use Rattle.script_steps.specs.Kept.{kept}
use Rattle.script_steps.specs.Stored.{stored}
use Rattle.script_steps.specs.Reached.{sight}
use Rattle.script_steps.proofs.agent.Agent.call.Goals as goal

pub returns-clause-ok : goal.returns-clause-ok
returns-clause-ok g c =
    let s : Sight = sight (g.V.View.tree c.args.self.now.view.now) (g.V.View.urls c.args.self.now.view.now) (kept c.args.self.now.registers.now) (stored c.args.stores.now) in
    let P : List Value → Type 0 = λ vs. IfOk c.read.result (λ p. p ≡ on_object s c.args.self.now.doc c.args.user c.args.of.now (λ seen. called s.tree s.urls c.args.self.now.doc seen (s.stores seen.object) c.args.key.now vs)) in
    subst P (c.as_slice-2.ensures ∙ c.in_ok-args.ensures (stored c.args.stores.now) ∙ ap (map (operand_value s c.args.self.now.doc)) c.as_slice.ensures) c.read.ensures.ok
