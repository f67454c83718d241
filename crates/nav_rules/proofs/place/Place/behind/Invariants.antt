use Rattle.std.proofs.Common.{◌≡◌}
use Rattle.nav_rules.specs.Walks.{after, Stands}
use Rattle.nav_rules.proofs.place.Place.behind.Given as goal

abbrev pub invariant-up : goal.invariant-up
invariant-up g l = record {
  stands : Stands (g.V.View.tree l.view) l.root l.at;
  told : after (g.V.View.tree l.view) l.root l.at.nav ≡ after (g.V.View.tree l.view) l.root l.fn.self.nav;
}

abbrev pub decreases-up : goal.decreases-up
decreases-up g l = l.at.nav
