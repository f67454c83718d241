-- A task that is taken.
use Rattle.single_agent.proofs.Legal.{acts_within}
use Rattle.renderer_laws.proofs.Kept.{kept_task}
use Rattle.renderer_laws.proofs.kept_laws.a_renderer_keeps_a_task.Goals as goal

pub returns : goal.returns
returns c s r log acts told what entry w v legal k next at is =
    kept_task s r log acts told what entry w v legal.admitted (acts_within s r log acts legal.record_is.0 legal.record_is.1) k next at is
