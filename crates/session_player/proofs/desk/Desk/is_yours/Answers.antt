use Rattle.std.proofs.Common.{◌≤◌, sym, subst}
use Rattle.tree_log.specs.Tree.{Tree}
use Rattle.session_player.proofs.Asking.{not_there}
use Rattle.session_player.proofs.desk.Desk.is_yours.Goals as goal

pub returns-then-doc-docs-clause-value : goal.returns-then-doc-docs-clause-value
returns-then-doc-docs-clause-value g c =
    let far : (g.V.View.tree c.args.self.now.view).docs ≤ c.args.doc = subst (λ n. n ≤ c.args.doc) c.docs.ensures c.if-doc-docs.true in
    sym (not_there c.args.self.now.log.entries c.args.doc c.args.renderer c.args.self.now.admitted (subst (λ (t : Tree). t.docs ≤ c.args.doc) c.args.self.now.same far))
