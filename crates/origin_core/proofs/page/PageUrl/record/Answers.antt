use Rattle.std.proofs.Common.{None}
use Rattle.origin_core.proofs.PageLemmas.{own_text}
use Rattle.origin_core.proofs.page.PageUrl.record.Goals as goal

pub returns-clause-value : goal.returns-clause-value
returns-clause-value c = rw (← c.self.view_is) (own_text c.self.inside.url None c.self.invariant)
