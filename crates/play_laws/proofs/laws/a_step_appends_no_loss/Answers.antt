use Rattle.std.proofs.Common.{length}
use Rattle.std.specs.Prelude.{nat_le}
use Rattle.agent_terms.specs.Limits.{most_acts}
use Rattle.play_laws.proofs.Losses.{step_not_lost}
use Rattle.play_laws.proofs.laws.a_step_appends_no_loss.Goals as goal

pub returns : goal.returns
returns c = λ r number served w v before after turn calls. step_not_lost (nat_le most_acts (length w.acts)) r number served w before turn v after calls
