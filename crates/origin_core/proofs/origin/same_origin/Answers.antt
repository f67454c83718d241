use Rattle.origin_core.proofs.SameLaw.{same_iff}
use Rattle.origin_core.proofs.origin.same_origin.Goals as goal

pub returns-clause-same : goal.returns-clause-same
returns-clause-same c = same_iff c.args.a.now c.args.b.now _ c.has_same_parts.ensures
