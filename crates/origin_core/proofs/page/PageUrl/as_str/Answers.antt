use Rattle.std.proofs.Common.{subst}
use Rattle.origin_core.specs.Page.{IsPageText}
use Rattle.origin_core.proofs.PageLemmas.{page_text_of_record}
use Rattle.origin_core.proofs.page.PageUrl.as_str.Goals as goal

pub returns-clause-page : goal.returns-clause-page
returns-clause-page c = subst IsPageText c.self.view_is (page_text_of_record _ c.self.invariant)
