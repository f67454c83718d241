use Rattle.std.proofs.Common.{◌≡◌, find, flat_map}
use Rattle.coordinator_rules.specs.Navigation.{walk, other_tops, is_found}
use Rattle.nav_rules.proofs.Elsewhere.{found_from}
use Rattle.nav_rules.proofs.searching.find_elsewhere.Given as goal

abbrev pub invariant-loop-top : goal.invariant-loop-top
invariant-loop-top g l =
    found_from (is_found (g.V.View.tree l.view) l.current l.name l.user) (g.V.View.tree l.view) l.current l.top
    ≡ find (is_found (g.V.View.tree l.view) l.current l.name l.user) (flat_map (walk (g.V.View.tree l.view)) (other_tops (g.V.View.tree l.view) l.current))
