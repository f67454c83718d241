use Rattle.std.proofs.Common.{◌≡◌, find, drop}
use Rattle.tree_log.specs.Homes as spec
use Rattle.nav_rules.proofs.homes.first_of.Given as goal

abbrev pub invariant-loop-doc : goal.invariant-loop-doc
invariant-loop-doc g l =
    find (spec.is_of l.suffixes (g.V.View.tree l.view) l.group l.site) (drop l.doc-index l.docs) ≡ find (spec.is_of l.suffixes (g.V.View.tree l.view) l.group l.site) l.docs
