-- Only the newest act of a legal record is lost.
use Rattle.loss_laws.proofs.Newest.{older_kept}
use Rattle.loss_laws.proofs.laws.a_lost_act_is_the_newest.Goals as goal

pub returns : goal.returns
returns c = older_kept
