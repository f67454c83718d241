use Rattle.std.proofs.Common.{◌≡◌, ◌++◌, length, find}
use Rattle.coordinator_rules.specs.Navigation.{walk, is_found}
use Rattle.nav_rules.specs.Walks.{after, Stands}
use Rattle.nav_rules.proofs.searching.find_in_tree.Given as goal

abbrev pub invariant-walk : goal.invariant-walk
invariant-walk g l = record {
  stands : Stands (g.V.View.tree l.view) l.root l.at;
  told : find (is_found (g.V.View.tree l.view) l.current l.name l.user) (walk (g.V.View.tree l.view) l.at.nav ++ after (g.V.View.tree l.view) l.root l.at.nav)
      ≡ find (is_found (g.V.View.tree l.view) l.current l.name l.user) (walk (g.V.View.tree l.view) l.root);
}

abbrev pub decreases-walk : goal.decreases-walk
decreases-walk g l = length (walk (g.V.View.tree l.view) l.at.nav ++ after (g.V.View.tree l.view) l.root l.at.nav)
