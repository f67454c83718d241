use Rattle.std.proofs.Common.{◌≡◌, drop}
use Rattle.std.specs.List.{list_any}
use Rattle.tree_log.specs.Homes as spec
use Rattle.nav_rules.proofs.homes.any_alike.Given as goal

abbrev pub invariant-loop-other : goal.invariant-loop-other
invariant-loop-other g l =
    list_any (spec.is_alike l.suffixes (g.V.View.tree l.view) l.doc) (drop l.other-index l.seen) ≡ list_any (spec.is_alike l.suffixes (g.V.View.tree l.view) l.doc) l.seen
