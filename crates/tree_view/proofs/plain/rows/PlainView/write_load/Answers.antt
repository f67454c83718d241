use Rattle.std.proofs.Common.{refl, length, Some, ℕ, ◌≡◌, ◌<◌, subst}
use Rattle.tree_view.specs.declared.plain.rows.NavRow.{NavRow}
use Rattle.tree_view.specs.Closed.{NavClosed}
use Rattle.tree_view.proofs.Rewritten.{nav_rewritten}
use Rattle.tree_view.proofs.plain.rows.PlainView.write_load.Goals as goal

pub invariant_of-self : goal.invariant_of-self
invariant_of-self c =
    let v = c.args.self.now in
    let old : NavRow = c.index_mut.result.now in
    let kept = nav_rewritten v.navs.items v.docs.items c.args.nav (record old { last_load = Some c.args.doc }) old v.few_navs v.navs_closed v.docs_closed v.parents_first v.show_their_own c.requires.nav c.index_mut.ensures.value refl refl
    (λ (k : NavClosed (length v.navs.items) (length v.docs.items) old). record { active = k.active; embedder = k.embedder; navigator = k.navigator; opener = k.opener; last_load = λ d e. let is : c.args.doc ≡ d = cc in subst (λ (x : ℕ). x < length v.docs.items) is c.requires.doc; group = k.group }) in
    let closed = kept.closed in
    record { few_navs = kept.few_navs; few_docs = v.few_docs; navs_closed = closed.navs_closed; docs_closed = closed.docs_closed; parents_first = closed.parents_first; show_their_own = closed.show_their_own; loads_listed = v.loads_listed }
