use Rattle.std.proofs.Common.{ap}
use Rattle.script_steps.specs.Kept.{kept}
use Rattle.script_steps.proofs.KeptLaws.{held}
use Rattle.script_steps.proofs.registers.Registers.new.Goals as goal

pub returns : goal.returns
unfolding kept
returns c = λ i d name. ap (λ s. held s name) (c.new.ensures d) i
