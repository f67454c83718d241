use Rattle.window_props.proofs.HistoryLaws.{keys_exact}
use Rattle.window_props.proofs.laws.keys_are_where_properties_are.Goals as goal

pub returns : goal.returns
returns c = keys_exact
