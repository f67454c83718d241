use Rattle.std.proofs.Common.{◌<◌, [], ◌∷◌, refl, sym, subst}
use Rattle.tree_view.proofs.Fits.{drop_fits}
use Rattle.indexed_view.specs.Index.{AreFamilies}
use Rattle.indexed_view.proofs.Followed.{families_ascend, ready, cut_indexed, drop_cut, drop_families}
use Rattle.indexed_view.proofs.applies.follow_drop.Goals as goal

pub embedder_of-embedder-requires-clause-nav : goal.embedder_of-embedder-requires-clause-nav
embedder_of-embedder-requires-clause-nav g c = drop_fits (g.V.View.tree c.args.view.now) c.args.entry.now c.args.nav c.requires.kind c.requires.admitted

pub name-requires : goal.name-requires
name-requires g c =
    let t = g.V.View.tree c.args.view.now in
    let cut = drop_cut t (g.V.View.tree c.apply.new.self) c.args.entry.now c.args.nav c.args.index.now c.requires.indexed c.requires.admitted c.requires.kind c.in_ok-apply.ensures.ok c.navs-navs.ensures.grown in
    subst (λ n. c.args.nav < n) (sym cut.on.navs) (drop_fits t c.args.entry.now c.args.nav c.requires.kind c.requires.admitted)

pub take_if_any-requires-clause-ascending : goal.take_if_any-requires-clause-ascending
take_if_any-requires-clause-ascending g c = families_ascend (g.V.View.tree c.args.view.now) c.args.index.now.families.items c.requires.indexed.grown c.requires.indexed.families

pub mark_cuts-requires : goal.mark_cuts-requires
mark_cuts-requires g c = record {
  ready =
      let t = g.V.View.tree c.args.view.now in
      let u = g.V.View.tree c.apply.new.self in
      let cut = drop_cut t u c.args.entry.now c.args.nav c.args.index.now c.requires.indexed c.requires.admitted c.requires.kind c.in_ok-apply.ensures.ok c.navs-navs.ensures.grown in
      let families = drop_families t u c.args.entry.now c.args.nav c.args.index.now c.take_if_any.new.families.items c.embedder_of-embedder.result c.name.result.now c.requires.indexed c.requires.kind c.in_ok-apply.ensures.ok
      c.embedder_of-embedder.ensures.value c.name.ensures c.take_if_any.ensures.len c.take_if_any.ensures.children c.take_if_any.ensures.names in
      ready t u c.args.index.now c.deref.result.now (c.args.nav ∷ []) c.requires.indexed cut.cutting (subst (AreFamilies u) (sym c.deref.ensures.value) families);
}

pub returns-clause-indexed : goal.returns-clause-indexed
returns-clause-indexed g c =
    let t = g.V.View.tree c.args.view.now in
    let u = g.V.View.tree c.apply.new.self in
    let cut = drop_cut t u c.args.entry.now c.args.nav c.args.index.now c.requires.indexed c.requires.admitted c.requires.kind c.in_ok-apply.ensures.ok c.navs-navs.ensures.grown in
    let families = drop_families t u c.args.entry.now c.args.nav c.args.index.now c.take_if_any.new.families.items c.embedder_of-embedder.result c.name.result.now c.requires.indexed c.requires.kind c.in_ok-apply.ensures.ok
    c.embedder_of-embedder.ensures.value c.name.ensures c.take_if_any.ensures.len c.take_if_any.ensures.children c.take_if_any.ensures.names in
    cut_indexed t u c.args.index.now _ c.requires.indexed c.navs-navs.ensures.grown cut.on families refl c.mark_cuts.ensures.marks c.mark_cuts.ensures.len c.mark_cuts.ensures.capacity
