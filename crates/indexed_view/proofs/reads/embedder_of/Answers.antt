use Rattle.std.proofs.Common.{◌≡◌, ◌<◌}
use Rattle.tree_log.specs.Tree.{embedder}
use Rattle.indexed_view.proofs.Members.{if_some}
use Rattle.indexed_view.proofs.RowsRead.{embedder_read}
use Rattle.indexed_view.proofs.reads.embedder_of.Goals as goal

pub returns-clause-within : goal.returns-clause-within
returns-clause-within g c =
    let t = g.V.View.tree c.args.view.now in
    let is : c.index.result.now.embedder ≡ embedder t c.args.nav = embedder_read t c.args.index.now.places.items c.args.nav c.index.result.now c.requires.indexed.places c.requires.nav c.index.ensures in
    if_some c.index.result.now.embedder (embedder t c.args.nav) (λ d. d < t.docs) is (λ d by. c.requires.indexed.history.embedders c.args.nav d c.requires.nav by)
