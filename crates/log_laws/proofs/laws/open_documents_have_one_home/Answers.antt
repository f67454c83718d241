-- The home of documents that are open to one another.
use Rattle.log_laws.proofs.Homes.HomeLaw.{open_documents}
use Rattle.log_laws.proofs.laws.open_documents_have_one_home.Goals as goal

pub returns : goal.returns
returns c = open_documents
