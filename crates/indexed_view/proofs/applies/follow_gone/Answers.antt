use Rattle.std.proofs.Common.{[], ◌∷◌, refl, sym, subst}
use Rattle.indexed_view.specs.Index.{AreFamilies}
use Rattle.indexed_view.proofs.Followed.{ready, cut_indexed, gone_cut, gone_families}
use Rattle.indexed_view.proofs.applies.follow_gone.Goals as goal

pub mark_cuts-requires : goal.mark_cuts-requires
mark_cuts-requires g c = record {
  ready =
      let t = g.V.View.tree c.args.view.now in
      let u = g.V.View.tree c.apply.new.self in
      let cut = gone_cut t u c.args.entry.now c.args.nav c.args.index.now c.requires.indexed c.requires.admitted c.requires.kind c.in_ok-apply.ensures.ok c.navs-navs.ensures.grown in
      let families = gone_families t u c.args.entry.now c.args.nav c.args.index.now c.requires.indexed c.requires.kind c.in_ok-apply.ensures.ok in
      ready t u c.args.index.now c.deref.result.now (c.args.nav ∷ []) c.requires.indexed cut.cutting (subst (AreFamilies u) (sym c.deref.ensures.value) families);
}

pub returns-clause-indexed : goal.returns-clause-indexed
returns-clause-indexed g c =
    let t = g.V.View.tree c.args.view.now in
    let u = g.V.View.tree c.apply.new.self in
    let cut = gone_cut t u c.args.entry.now c.args.nav c.args.index.now c.requires.indexed c.requires.admitted c.requires.kind c.in_ok-apply.ensures.ok c.navs-navs.ensures.grown in
    let families = gone_families t u c.args.entry.now c.args.nav c.args.index.now c.requires.indexed c.requires.kind c.in_ok-apply.ensures.ok in
    cut_indexed t u c.args.index.now _ c.requires.indexed c.navs-navs.ensures.grown cut.on families refl c.mark_cuts.ensures.marks c.mark_cuts.ensures.len c.mark_cuts.ensures.capacity
