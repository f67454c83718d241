-- What steps reach is of their document's group.
use Rattle.tree_log.specs.Tree.{tree_of}
use Rattle.tree_log.specs.Urls.{url_of}
use Rattle.agent_laws.proofs.Groups.Grouped.{registers_grown, stores_grown}
use Rattle.agent_laws.proofs.Groups.Closed.{closed_exchange}
use Rattle.agent_laws.proofs.Groups.MadeWindows.{made_belongs}
use Rattle.agent_laws.proofs.Groups.Changed.{answer_belongs, changed_belongs}
use Rattle.agent_laws.proofs.laws.steps_stay_in_their_group.Goals as goal

pub returns-clause-answers : goal.returns-clause-answers
returns-clause-answers c = λ log registers stores d s v closed there held kept is. answer_belongs (tree_of log) (url_of log) registers stores d closed there held kept s v is

pub returns-clause-properties : goal.returns-clause-properties
returns-clause-properties c = λ log registers stores d s closed there held kept. changed_belongs (tree_of log) (url_of log) registers stores d closed there held kept s

pub returns-clause-registers_later : goal.returns-clause-registers_later
returns-clause-registers_later c = registers_grown

pub returns-clause-properties_later : goal.returns-clause-properties_later
returns-clause-properties_later c = stores_grown

pub returns-clause-exchange : goal.returns-clause-exchange
returns-clause-exchange c = closed_exchange

pub returns-clause-made : goal.returns-clause-made
returns-clause-made c = made_belongs
