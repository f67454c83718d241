use Rattle.std.proofs.Common.{◌∙◌, sym}
use Rattle.tree_view.specs.Shown.{tree_shown}
use Rattle.tree_view.proofs.Siblings.{next_of_top, next_of_child, next_of_other}
use Rattle.tree_view.proofs.plain.rows.PlainView.find_next.Goals as goal

pub returns-in-None-clause-value : goal.returns-in-None-clause-value
returns-in-None-clause-value c = sym (next_of_top (tree_shown c.args.self.now) c.args.nav (sym c.embedder.ensures.value ∙ c.in-None.is))

pub returns-then-is_child_of-clause-value : goal.returns-then-is_child_of-clause-value
returns-then-is_child_of-clause-value c =
    c.first_child_from.ensures.value
    ∙ sym (next_of_child c.args.self.now c.args.nav c.in-Some.doc c.requires (sym c.embedder.ensures.value ∙ c.in-Some.is) (sym c.is_child_of.ensures ∙ c.if-is_child_of.true))

pub returns-else-is_child_of-clause-value : goal.returns-else-is_child_of-clause-value
returns-else-is_child_of-clause-value c =
    sym (next_of_other c.args.self.now c.args.nav c.in-Some.doc (sym c.embedder.ensures.value ∙ c.in-Some.is) (sym c.is_child_of.ensures ∙ c.if-is_child_of.false))
