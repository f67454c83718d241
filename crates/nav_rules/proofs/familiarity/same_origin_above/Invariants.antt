use Rattle.std.proofs.Common.{◌≡◌, ◌<◌}
use Rattle.std.specs.List.{list_any}
use Rattle.coordinator_rules.specs.Navigation.{same_origin_shown}
use Rattle.tree_log.specs.Tree.{ancestors}
use Rattle.nav_rules.proofs.familiarity.same_origin_above.Given as goal

abbrev pub invariant-up : goal.invariant-up
invariant-up g l = record {
  within : l.at < (g.V.View.tree l.view).navs;
  told : list_any (same_origin_shown (g.V.View.tree l.view) l.a) (ancestors (g.V.View.tree l.view) l.at) ≡ list_any (same_origin_shown (g.V.View.tree l.view) l.a) (ancestors (g.V.View.tree l.view) l.b);
}

abbrev pub decreases-up : goal.decreases-up
decreases-up g l = l.at
