-- Values stay in range.
use Rattle.tree_log.specs.Tree.{tree_of}
use Rattle.step_ranges.proofs.Values.{at_hand_later, stores_later, unset_at_hand, first_at_hand, task_at_hand}
use Rattle.step_ranges.proofs.laws.values_stay_in_range.Goals as goal

pub returns-clause-first : goal.returns-clause-first
returns-clause-first c = λ log. unset_at_hand (tree_of log)

pub returns-clause-first_properties : goal.returns-clause-first_properties
returns-clause-first_properties c = λ log. first_at_hand (tree_of log)

pub returns-clause-later : goal.returns-clause-later
returns-clause-later c = λ more log v all. at_hand_later more log v

pub returns-clause-properties_later : goal.returns-clause-properties_later
returns-clause-properties_later c = λ more log stores all. stores_later more log stores

pub returns-clause-message : goal.returns-clause-message
returns-clause-message c = task_at_hand
