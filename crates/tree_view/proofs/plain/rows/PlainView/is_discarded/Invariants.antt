use Rattle.std.proofs.Common.{◌≡◌, ◌<◌, length}
use Rattle.tree_log.specs.Tree.{is_discarded}
use Rattle.tree_view.specs.Shown.{tree_shown}
use Rattle.tree_view.proofs.plain.rows.PlainView.is_discarded.Given as goal

abbrev pub invariant-up : goal.invariant-up
invariant-up l = record {
  within : l.at < length l.self.navs.items;
  told : is_discarded (tree_shown l.self) l.at ≡ is_discarded (tree_shown l.self) l.nav;
}

abbrev pub decreases-up : goal.decreases-up
decreases-up l = l.at
