use Rattle.std.proofs.Common.{◌≡◌, ◌<◌}
use Rattle.coordinator_rules.specs.Navigation.{familiar_through, is_familiar}
use Rattle.nav_rules.proofs.familiarity.familiar.Given as goal

abbrev pub invariant-through : goal.invariant-through
invariant-through g l = record {
  within : l.at < (g.V.View.tree l.view).navs;
  told : familiar_through (g.V.View.tree l.view) l.left l.a l.at ≡ is_familiar (g.V.View.tree l.view) l.a l.b;
}

abbrev pub decreases-through : goal.decreases-through
decreases-through g l = l.left
