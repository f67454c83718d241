use Rattle.std.proofs.Common.{refl, sym, subst, ◌∙◌}
use Rattle.tree_log.specs.Tree.{Tree, tree_after}
use Rattle.tree_view.specs.Grown.{IsGrown}
use Rattle.indexed_view.specs.Index.{IsIndexOf}
use Rattle.indexed_view.proofs.Upkeep.{index_kept}
use Rattle.indexed_view.proofs.Calm.{quiet_calm, quiet_docs}
use Rattle.indexed_view.proofs.applies.follow_quiet.Goals as goal

pub returns-clause-indexed : goal.returns-clause-indexed
returns-clause-indexed g c =
    let t = g.V.View.tree c.args.view.now in
    let calm = quiet_calm t c.args.entry.now c.requires.indexed.history c.requires.quiet in
    subst (λ (u : Tree). IsIndexOf u c.args.index.now) (sym c.in_ok-apply.ensures.ok)
    (index_kept t (tree_after t c.args.entry.now) c.args.index.now c.args.index.now (subst IsGrown c.in_ok-apply.ensures.ok c.navs-navs.ensures.grown) calm.on calm.uncut calm.children refl refl refl
    (c.requires.indexed.families.len ∙ sym (quiet_docs t c.args.entry.now c.requires.quiet)) (λ d. refl) (λ d q. refl) c.requires.indexed)
