use Rattle.std.proofs.Common.{◌≡◌, ◌<◌}
use Rattle.document_ends.specs.Ended.{sooner, nav_end, first_end}
use Rattle.document_ends.proofs.ends.Ends.first_end.Given as goal

abbrev pub invariant-up : goal.invariant-up
invariant-up g l = record {
  within : l.nav < (g.V.View.tree l.view).navs;
  told : sooner l.first (nav_end l._log.entries l.nav) ≡ first_end l._log.entries l.doc;
}

abbrev pub decreases-up : goal.decreases-up
decreases-up g l = l.nav
