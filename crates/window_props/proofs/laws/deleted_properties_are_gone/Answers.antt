use Rattle.window_props.proofs.StoreLaws.{delete_leaves_none}
use Rattle.window_props.proofs.laws.deleted_properties_are_gone.Goals as goal

pub returns : goal.returns
returns c = delete_leaves_none
