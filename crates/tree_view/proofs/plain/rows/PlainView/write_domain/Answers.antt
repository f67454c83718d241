use Rattle.std.proofs.Common.{◌∙◌, Some, refl}
use Rattle.tree_view.specs.declared.plain.rows.DocRow.{DocRow}
use Rattle.tree_view.proofs.Rewritten.{rewritten}
use Rattle.tree_view.proofs.plain.rows.PlainView.write_domain.Goals as goal

pub invariant_of-self : goal.invariant_of-self
invariant_of-self c =
    let v = c.args.self.now in
    let old : DocRow = c.index_mut.result.now in
    let kept = rewritten v.navs.items v.docs.items c.args.doc (record old { domain = Some c.args.domain }) old v.few_docs v.navs_closed v.docs_closed v.parents_first v.show_their_own c.requires.doc c.index_mut.ensures.value refl refl in
    let closed = kept.closed in
    record { few_navs = v.few_navs; few_docs = kept.few_docs; navs_closed = closed.navs_closed; docs_closed = closed.docs_closed; parents_first = closed.parents_first; show_their_own = closed.show_their_own; loads_listed = v.loads_listed ∙ kept.loads }
