use Rattle.std.proofs.Common.{◌∙◌, ◌≤◌, ap, sym, arith}
use Rattle.tree_log.specs.Tree.{Tree, tree_of}
use Rattle.desk.proofs.Homes.{home_none, not_there}
use Rattle.desk.proofs.asked.home_if_been_active.Goals.{else-doc-docs-via-then-doc-docs+else-been_active, else-doc-docs-via-else-doc-docs}
use Rattle.desk.proofs.asked.home_if_been_active.Goals as goal

pub returns-else-doc-docs-clause-value : goal.returns-else-doc-docs-clause-value
returns-else-doc-docs-clause-value g c = elim c.else-doc-docs.branch [
  | else-doc-docs-via-then-doc-docs+else-been_active w ↦ sym (home_none (g.V.View.tree c.args.view.now) c.args.doc (sym w.been_active.ensures ∙ w.if-been_active.false))
  | else-doc-docs-via-else-doc-docs w ↦
      let far : (tree_of c.args._log.now.entries).docs ≤ c.args.doc = let n = ap (λ (t : Tree). t.docs) c.requires.tree in omega (arith, c.docs.ensures, w.if-doc-docs.false, n) in
      sym (home_none (g.V.View.tree c.args.view.now) c.args.doc (ap (λ (t : Tree). (t.doc c.args.doc).been_active) c.requires.tree ∙ not_there c.args._log.now.entries c.args.doc c.requires.admitted far))
]
