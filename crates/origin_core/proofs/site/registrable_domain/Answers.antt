use Rattle.origin_core.proofs.SiteLemmas.{label_boundary}
use Rattle.origin_core.proofs.site.registrable_domain.Goals as goal

pub range_from-requires : goal.range_from-requires
range_from-requires c = λ _. label_boundary _ _ c.utf8.host (rw (← c.as_bytes.ensures.value) c.in-Some.ensures.cut)
