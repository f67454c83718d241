use Rattle.std.proofs.Common.{◌∙◌, sym}
use Rattle.tree_view.specs.Shown.{tree_shown}
use Rattle.tree_view.proofs.Walk.{stops_ended, stops_top, stops_replaced, goes_up}
use Rattle.tree_view.proofs.plain.rows.PlainView.is_discarded.Goals as goal

pub returns-then-was_ended : goal.returns-then-was_ended
returns-then-was_ended c =
    sym (stops_ended (tree_shown c.args.self.now) c.up.at c.args.self.now.parents_first c.up.invariant.within (sym c.was_ended.ensures ∙ c.if-was_ended.true)) ∙ c.up.invariant.told

pub returns-in-None : goal.returns-in-None
returns-in-None c =
    sym (stops_top (tree_shown c.args.self.now) c.up.at c.args.self.now.parents_first c.up.invariant.within (sym c.was_ended.ensures ∙ c.if-was_ended.false) (sym c.embedder.ensures.value ∙ c.in-None.is))
    ∙ c.up.invariant.told

pub returns-then-active_doc-doc : goal.returns-then-active_doc-doc
returns-then-active_doc-doc c =
    sym (stops_replaced (tree_shown c.args.self.now) c.up.at c.in-Some.doc c.nav_of_doc-above.result c.args.self.now.parents_first c.up.invariant.within
    (sym c.was_ended.ensures ∙ c.if-was_ended.false) (sym c.embedder.ensures.value ∙ c.in-Some.is) (sym c.nav_of_doc-above.ensures.value)
    (λ e. c.if-active_doc-doc.true (c.active_doc.ensures.value ∙ e)))
    ∙ c.up.invariant.told

pub up-preserved : goal.up-preserved
up-preserved c = record {
  within = c.nav_of_doc-above.ensures.within;
  told = sym (goes_up (tree_shown c.args.self.now) c.up.at c.in-Some.doc c.nav_of_doc-above.result c.args.self.now.parents_first c.up.invariant.within
      (sym c.was_ended.ensures ∙ c.if-was_ended.false) (sym c.embedder.ensures.value ∙ c.in-Some.is) (sym c.nav_of_doc-above.ensures.value)
      (sym c.active_doc.ensures.value ∙ c.if-active_doc-doc.false))
      ∙ c.up.invariant.told;
}
