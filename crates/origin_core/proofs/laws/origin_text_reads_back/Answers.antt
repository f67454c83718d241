use Rattle.origin_core.proofs.ReadBack as law
use Rattle.origin_core.proofs.laws.origin_text_reads_back.Goals as goal

pub returns-clause-tuple : goal.returns-clause-tuple
returns-clause-tuple c = law.tuple_reads_back

pub returns-clause-page : goal.returns-clause-page
returns-clause-page c = law.page_reads_back
