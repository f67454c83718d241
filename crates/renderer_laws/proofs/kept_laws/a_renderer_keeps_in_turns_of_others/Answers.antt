-- Turns of others.
use Rattle.single_agent.proofs.Legal.{acts_within}
use Rattle.renderer_laws.proofs.Kept.{kept_other}
use Rattle.renderer_laws.proofs.kept_laws.a_renderer_keeps_in_turns_of_others.Goals as goal

pub returns : goal.returns
returns c s r more log acts told w legal k = kept_other s r more log acts told w (acts_within s r log acts legal.0 legal.1) k
