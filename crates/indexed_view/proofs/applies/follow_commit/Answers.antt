use Rattle.std.proofs.Common.{◌≡◌, ◌∙◌, refl, sym, ap, subst, vec_capacity}
use Rattle.indexed_view.specs.Index.{AreFamilies}
use Rattle.indexed_view.specs.Live.{live}
use Rattle.indexed_view.specs.Marks.{IsReady}
use Rattle.indexed_view.proofs.RowsRead.{children_are}
use Rattle.indexed_view.proofs.Followed.{ready, cut_indexed, commit_there, commit_cut, commit_families}
use Rattle.indexed_view.proofs.applies.follow_commit.Goals as goal

pub active-replaced-requires : goal.active-replaced-requires
active-replaced-requires g c = commit_there (g.V.View.tree c.args.view.now) c.args.entry.now c.args.nav c.requires.admitted c.requires.kind

pub mark_cuts-requires : goal.mark_cuts-requires
mark_cuts-requires g c = record {
  ready =
      let t = g.V.View.tree c.args.view.now in
      let u = g.V.View.tree c.apply.new.self in
      let cut = commit_cut t u c.args.entry.now c.args.nav c.args.index.now c.requires.indexed c.requires.admitted c.requires.kind c.in_ok-apply.ensures.ok c.navs-navs.ensures.grown in
      let families = commit_families t u c.args.entry.now c.args.nav c.args.index.now c.requires.indexed c.requires.kind c.in_ok-apply.ensures.ok in
      let cuts : c.deref-2.result.now ≡ live t (t.nav c.args.nav).active =
      c.deref-2.ensures.value
      ∙ children_are t c.args.index.now.families.items c.active-replaced.result c.index.result.now c.requires.indexed.families c.active-replaced.ensures.within c.index.ensures
      ∙ ap (live t) c.active-replaced.ensures.value in
      subst (IsReady u c.deref.result.now c.args.index.now.marks.items (vec_capacity c.args.index.now.queue)) (sym cuts)
      (ready t u c.args.index.now c.deref.result.now (live t (t.nav c.args.nav).active) c.requires.indexed cut.cutting (subst (AreFamilies u) (sym c.deref.ensures.value) families));
}

pub returns-clause-indexed : goal.returns-clause-indexed
returns-clause-indexed g c =
    let t = g.V.View.tree c.args.view.now in
    let u = g.V.View.tree c.apply.new.self in
    let cut = commit_cut t u c.args.entry.now c.args.nav c.args.index.now c.requires.indexed c.requires.admitted c.requires.kind c.in_ok-apply.ensures.ok c.navs-navs.ensures.grown in
    let families = commit_families t u c.args.entry.now c.args.nav c.args.index.now c.requires.indexed c.requires.kind c.in_ok-apply.ensures.ok in
    cut_indexed t u c.args.index.now _ c.requires.indexed c.navs-navs.ensures.grown cut.on families refl c.mark_cuts.ensures.marks c.mark_cuts.ensures.len c.mark_cuts.ensures.capacity
