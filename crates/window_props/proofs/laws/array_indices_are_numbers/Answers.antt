use Rattle.window_props.proofs.IndexLaws.{key_of_index, index_in_range}
use Rattle.window_props.proofs.laws.array_indices_are_numbers.Goals as goal

pub returns-clause-text : goal.returns-clause-text
returns-clause-text c = key_of_index

pub returns-clause-range : goal.returns-clause-range
returns-clause-range c = index_in_range
