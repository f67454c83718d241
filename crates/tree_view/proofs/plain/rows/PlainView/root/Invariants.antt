use Rattle.std.proofs.Common.{◌≡◌, ◌<◌, length}
use Rattle.tree_log.specs.Tree.{root_of}
use Rattle.tree_view.specs.Shown.{tree_shown}
use Rattle.tree_view.proofs.plain.rows.PlainView.root.Given as goal

abbrev pub invariant-up : goal.invariant-up
invariant-up l = record {
  within : l.at < length l.self.navs.items;
  told : root_of (tree_shown l.self) l.at ≡ root_of (tree_shown l.self) l.nav;
}

abbrev pub decreases-up : goal.decreases-up
decreases-up l = l.at
