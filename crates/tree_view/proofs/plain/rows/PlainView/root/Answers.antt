use Rattle.std.proofs.Common.{◌∙◌, sym}
use Rattle.tree_view.specs.Shown.{tree_shown}
use Rattle.tree_view.proofs.Walk.{root_here, root_up}
use Rattle.tree_view.proofs.plain.rows.PlainView.root.Goals as goal

pub returns-in-None-clause-value : goal.returns-in-None-clause-value
returns-in-None-clause-value c =
    sym (root_here (tree_shown c.args.self.now) c.up.at c.args.self.now.parents_first c.up.invariant.within (sym c.embedder.ensures.value ∙ c.in-None.is)) ∙ c.up.invariant.told

pub up-preserved : goal.up-preserved
up-preserved c = record {
  within = c.nav_of_doc-at.ensures.within;
  told = sym (root_up (tree_shown c.args.self.now) c.up.at c.in-Some.doc c.nav_of_doc-at.result c.args.self.now.parents_first c.up.invariant.within (sym c.embedder.ensures.value ∙ c.in-Some.is) (sym c.nav_of_doc-at.ensures.value)) ∙ c.up.invariant.told;
}
