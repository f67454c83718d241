-- What an admitted log names is there.
use Rattle.agent_laws.proofs.Groups.Well.{admitted_well}
use Rattle.agent_laws.proofs.Groups.Choices.{has_group, children_below, chosen_below}
use Rattle.agent_laws.proofs.laws.what_is_named_is_there.Goals as goal

pub returns-clause-tree : goal.returns-clause-tree
returns-clause-tree c = admitted_well

pub returns-clause-group : goal.returns-clause-group
returns-clause-group c = λ log n all. has_group _ (admitted_well log all) n

pub returns-clause-children : goal.returns-clause-children
returns-clause-children c = λ log d all. children_below _ (admitted_well log all) d

pub returns-clause-choice : goal.returns-clause-choice
returns-clause-choice c = λ log current name noopener user n all. chosen_below _ (admitted_well log all) current name noopener user n
