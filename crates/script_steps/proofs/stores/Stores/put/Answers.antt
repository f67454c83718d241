use Rattle.script_steps.proofs.StoredLaws.{stored_put}
use Rattle.script_steps.proofs.stores.Stores.put.Goals as goal

pub returns : goal.returns
returns c = stored_put _ _ c.args.object c.args.props c.put_kept.ensures
