use Rattle.std.proofs.Common.{◌≡◌}
use Rattle.tree_log.specs.Siblings.{first_if_any}
use Rattle.tree_view.specs.Rows.{kids_from}
use Rattle.tree_view.proofs.plain.rows.PlainView.first_child_from.Given as goal

abbrev pub invariant-loop-i : goal.invariant-loop-i
invariant-loop-i l = first_if_any (kids_from l.self.navs.items l.doc l.i) ≡ first_if_any (kids_from l.self.navs.items l.doc l.from)
