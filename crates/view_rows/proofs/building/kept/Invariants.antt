use Rattle.std.proofs.Common.{◌≤◌}
use Rattle.view_rows.proofs.building.kept.Given as goal

abbrev pub invariant-loop-nav : goal.invariant-loop-nav
invariant-loop-nav g l = l.count ≤ l.nav
