use Rattle.window_props.proofs.HistoryLaws.{keys_apart}
use Rattle.window_props.proofs.laws.no_key_is_listed_twice.Goals as goal

pub returns : goal.returns
returns c = keys_apart
