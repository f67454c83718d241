use Rattle.std.proofs.Common.{◌≡◌, ℕ, List, subst}
use Rattle.std.specs.Prelude.{IfOk}
use Rattle.object_access.specs.StepAnswer.{Sight, on_object}
use Rattle.script_steps.specs.Kept.{kept}
use Rattle.script_steps.specs.Stored.{stored}
use Rattle.script_steps.specs.Reached.{sight}
use Rattle.script_steps.specs.Asked.{asked}
use Rattle.script_steps.proofs.agent.Agent.read.Goals as goal

pub returns-clause-ok : goal.returns-clause-ok
returns-clause-ok g c =
    let s : Sight = sight (g.V.View.tree c.args.self.now.view.now) (g.V.View.urls c.args.self.now.view.now) (kept c.args.self.now.registers.now) (stored c.args.stores.now) in
    subst (λ (of : List ℕ). IfOk c.on_object.result (λ p. p ≡ on_object s c.args.self.now.doc c.args.user of (λ seen. asked s.tree s.urls c.args.self.now.doc c.args.reading seen (s.stores seen.object)))) c.as_str.ensures c.on_object.ensures.ok
