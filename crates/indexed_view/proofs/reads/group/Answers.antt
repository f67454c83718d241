use Rattle.indexed_view.proofs.Carried.{group_of_root}
use Rattle.indexed_view.proofs.reads.group.Goals as goal

pub returns : goal.returns
returns g c = group_of_root (g.V.View.tree c.args.view.now) c.requires.indexed.grown.ordered c.args.nav c.root.result c.group.result c.requires.nav c.root.ensures.value c.group.ensures
