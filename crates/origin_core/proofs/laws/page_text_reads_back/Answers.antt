use Rattle.origin_core.proofs.PageLemmas as law
use Rattle.origin_core.proofs.laws.page_text_reads_back.Goals as goal

pub returns-clause-alone : goal.returns-clause-alone
returns-clause-alone c = law.page_text_of_record

pub returns-clause-against : goal.returns-clause-against
returns-clause-against c = law.reads_against

pub returns-clause-spelled : goal.returns-clause-spelled
returns-clause-spelled c = law.text_spelled
