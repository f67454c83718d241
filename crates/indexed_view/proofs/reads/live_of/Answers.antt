use Rattle.std.proofs.Common.{◌<◌, ◌≤◌, ◌∙◌, All, length, sym, subst}
use Rattle.indexed_view.specs.Lists.{IsAscending}
use Rattle.indexed_view.proofs.Members.{live_below, live_ascends, live_few}
use Rattle.indexed_view.proofs.RowsRead.{children_are}
use Rattle.indexed_view.proofs.reads.live_of.Goals as goal

pub returns-clause-within : goal.returns-clause-within
returns-clause-within g c =
    let t = g.V.View.tree c.args.view.now in
    let is = c.deref.ensures.value ∙ children_are t c.args.index.now.families.items c.args.doc c.index.result.now c.requires.indexed.families c.requires.doc c.index.ensures in
    subst (All (λ n. n < t.navs)) (sym is) (live_below t c.requires.indexed.grown c.args.doc)

pub returns-clause-ascending : goal.returns-clause-ascending
returns-clause-ascending g c =
    let t = g.V.View.tree c.args.view.now in
    let is = c.deref.ensures.value ∙ children_are t c.args.index.now.families.items c.args.doc c.index.result.now c.requires.indexed.families c.requires.doc c.index.ensures in
    subst IsAscending (sym is) (live_ascends t c.requires.indexed.grown c.args.doc)

pub returns-clause-few : goal.returns-clause-few
returns-clause-few g c =
    let t = g.V.View.tree c.args.view.now in
    let is = c.deref.ensures.value ∙ children_are t c.args.index.now.families.items c.args.doc c.index.result.now c.requires.indexed.families c.requires.doc c.index.ensures in
    subst (λ ns. length ns ≤ t.navs) (sym is) (live_few t c.requires.indexed.grown c.args.doc)
