use Rattle.std.proofs.Common.{◌≡◌, find}
use Rattle.tree_view.specs.Rows.{kids_from}
use Rattle.tree_view.proofs.Kids.{has_name}
use Rattle.tree_view.proofs.plain.rows.PlainView.first_named.Given as goal

abbrev pub invariant-loop-i : goal.invariant-loop-i
invariant-loop-i l = find (has_name l.self.navs.items l.name) (kids_from l.self.navs.items l.doc l.i) ≡ find (has_name l.self.navs.items l.name) (kids_from l.self.navs.items l.doc 0)
