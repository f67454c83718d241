use Rattle.std.proofs.Common.{◌∙◌, ap}
use Rattle.tree_log.specs.Siblings.{first_if_any}
use Rattle.indexed_view.proofs.Firsts.{first_named_within}
use Rattle.indexed_view.proofs.RowsRead.{names_are}
use Rattle.indexed_view.proofs.reads.first_live_named.Goals as goal

pub returns-clause-within : goal.returns-clause-within
returns-clause-within g c =
    let t = g.V.View.tree c.args.view.now in
    first_named_within t c.requires.indexed.grown c.args.doc c.args.name.now c.first_of.result
    (c.first_of.ensures
    ∙ ap first_if_any (names_are t c.args.index.now.families.items c.args.doc c.index.result.now c.args.name.now c.requires.indexed.families c.requires.doc c.index.ensures))
