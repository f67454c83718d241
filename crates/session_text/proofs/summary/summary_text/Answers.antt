use Rattle.session_text.proofs.Counting.{steps_fit}
use Rattle.session_text.proofs.summary.summary_text.Goals as goal

pub step_count-steps-requires : goal.step_count-steps-requires
step_count-steps-requires c = rw c.as_slice.ensures (steps_fit c.args.session.now c.requires)
