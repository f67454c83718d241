use Rattle.window_props.proofs.IndexLaws.{array_index-decimal}
use Rattle.window_props.proofs.laws.numbers_are_array_indices.Goals as goal

pub returns : goal.returns
returns c = array_index-decimal
