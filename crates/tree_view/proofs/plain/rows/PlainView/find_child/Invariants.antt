use Rattle.std.proofs.Common.{◌≡◌, slice_get}
use Rattle.tree_view.specs.Rows.{kids_from}
use Rattle.tree_view.proofs.plain.rows.PlainView.find_child.Given as goal

abbrev pub invariant-loop-i : goal.invariant-loop-i
invariant-loop-i l = slice_get (kids_from l.self.navs.items l.doc l.i) l.left ≡ slice_get (kids_from l.self.navs.items l.doc 0) l.index
