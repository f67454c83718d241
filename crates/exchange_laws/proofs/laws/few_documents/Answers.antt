-- As many navigables as entries at most, and twice as many documents.
use Rattle.tree_log.proofs.Admitted.{few_of}
use Rattle.exchange_laws.proofs.laws.few_documents.Goals as goal

pub returns-clause-documents : goal.returns-clause-documents
returns-clause-documents c = λ log. (few_of log).docs

pub returns-clause-navigables : goal.returns-clause-navigables
returns-clause-navigables c = λ log. (few_of log).navs
