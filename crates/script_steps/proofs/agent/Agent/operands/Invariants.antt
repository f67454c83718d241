use Rattle.std.proofs.Common.{◌≡◌, map, take}
use Rattle.window_props.specs.declared.platform.Object.{Object}
use Rattle.window_props.specs.History.{Store}
use Rattle.object_access.specs.StepAnswer.{operand_value}
use Rattle.script_steps.specs.Kept.{kept}
use Rattle.script_steps.specs.Reached.{sight}
use Rattle.script_steps.proofs.agent.Agent.operands.Given as goal

abbrev pub invariant-loop-operand : goal.invariant-loop-operand
invariant-loop-operand g l = (stores : Object → Store) → l.values ≡ map (operand_value (sight (g.V.View.tree l.self.view.now) (g.V.View.urls l.self.view.now) (kept l.self.registers.now) stores) l.self.doc) (take l.operand-index l.given)
