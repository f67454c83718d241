-- Before the first turn.
use Rattle.renderer_laws.proofs.Kept.{kept_fresh}
use Rattle.renderer_laws.proofs.kept_laws.a_renderer_begins_with_nothing.Goals as goal

pub returns : goal.returns
returns c = kept_fresh
