use Rattle.std.proofs.Common.{List, sym, subst}
use Rattle.log_rows.specs.Kept.{AreOf}
use Rattle.desk.specs.declared.item.Item.{Item}
use Rattle.desk.specs.History.{log_of}
use Rattle.desk.proofs.desk.Desk.over.Goals as goal

pub invariant_of-result : goal.invariant_of-result
invariant_of-result g c = λ serves.
    subst (λ (items : List Item). AreOf g.V.View.tree g.V.View.urls c.in_ok-ledger.ledger.rules.suffixes c.new-2.result (log_of items)) (sym c.in_ok-ledger.ensures.history)
    (c.new-2.ensures c.in_ok-ledger.ledger.rules.suffixes)
