use Rattle.std.proofs.Common.{◌∙◌, sym}
use Rattle.indexed_view.proofs.Firsts.{named_of_active}
use Rattle.indexed_view.proofs.reads.first_named.Goals as goal

pub returns-then-is_active-clause-value : goal.returns-then-is_active-clause-value
returns-then-is_active-clause-value g c =
    c.first_live_named.ensures.value
    ∙ sym (named_of_active (g.V.View.tree c.args.view.now) c.args.doc c.args.name.now (sym c.is_active.ensures ∙ c.if-is_active.true) (sym c.is_empty.ensures ∙ c.if-is_empty.false))
