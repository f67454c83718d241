use Rattle.std.proofs.Common.{◌∙◌, ap}
use Rattle.tree_log.specs.Log.{LogValue, entry_at}
use Rattle.tree_log.proofs.Places.{at_reversed}
use Rattle.tree_log.proofs.log.Log.at.Goals as goal

pub returns : goal.returns
returns c =
    c.stored.ensures ∙ at_reversed c.self.inside.entries.items c.args.place
    ∙ ap (λ (l : LogValue). entry_at l.entries c.args.place) c.self.view_is
