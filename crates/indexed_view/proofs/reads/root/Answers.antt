use Rattle.std.proofs.Common.{arith, ◌≡◌, ◌<◌, suc, sym, subst}
use Rattle.tree_log.specs.Tree.{root_of}
use Rattle.indexed_view.proofs.RowsRead.{top_read}
use Rattle.indexed_view.proofs.Carried.{root_within}
use Rattle.indexed_view.proofs.reads.root.Goals as goal

pub returns-clause-within : goal.returns-clause-within
returns-clause-within g c =
    let t = g.V.View.tree c.args.view.now in
    let is : c.index.result.now.top ≡ root_of t c.args.nav = top_read t c.args.index.now.places.items c.args.nav c.index.result.now c.requires.indexed.places c.requires.nav c.index.ensures in
    subst (λ m. m < t.navs) (sym is) (root_within t c.requires.indexed.grown.ordered (suc c.args.nav) c.args.nav (omega arith) c.requires.nav)
