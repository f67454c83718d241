use Rattle.std.proofs.Common.{◌≡◌, ◌+◌, ◌≤◌, length}
use Rattle.tree_view.specs.Rows.{kids_from}
use Rattle.tree_view.proofs.plain.rows.PlainView.count_children.Given as goal

abbrev pub invariant-loop-row : goal.invariant-loop-row
invariant-loop-row l = record {
  few : l.count ≤ l.row-index;
  told : l.count + length (kids_from l.self.navs.items l.doc l.row-index) ≡ length (kids_from l.self.navs.items l.doc 0);
}
