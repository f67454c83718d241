use Rattle.std.proofs.Common.{◌≡◌, ◌<◌}
use Rattle.coordinator_rules.specs.Navigation.{is_in}
use Rattle.tree_log.specs.Tree.{ancestors}
use Rattle.nav_rules.proofs.permission.is_ancestor.Given as goal

abbrev pub invariant-up : goal.invariant-up
invariant-up g l = record {
  within : l.at < (g.V.View.tree l.view).navs;
  told : is_in l.nav (ancestors (g.V.View.tree l.view) l.at) ≡ is_in l.nav (ancestors (g.V.View.tree l.view) l.of);
}

abbrev pub decreases-up : goal.decreases-up
decreases-up g l = l.at
