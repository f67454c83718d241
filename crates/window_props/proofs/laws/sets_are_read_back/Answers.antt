use Rattle.window_props.proofs.StoreLaws.{set_read_back}
use Rattle.window_props.proofs.laws.sets_are_read_back.Goals as goal

pub returns : goal.returns
returns c = set_read_back
