-- A turn in which nothing is left to do.
use Rattle.single_agent.proofs.Legal.{acts_within}
use Rattle.renderer_laws.proofs.Kept.{kept_idle}
use Rattle.renderer_laws.proofs.kept_laws.a_renderer_keeps_what_it_hears.Goals as goal

pub returns : goal.returns
returns c s r log acts told w v legal k takes is = kept_idle s r log acts told w v (acts_within s r log acts legal.0 legal.1) k takes is
