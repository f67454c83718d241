use Rattle.std.proofs.Common.{◌≡◌, ◌<◌, drop, [], All}
use Rattle.tree_log.specs.Homes as spec
use Rattle.nav_rules.proofs.homes.pairs.Given as goal

abbrev pub invariant-loop-doc : goal.invariant-loop-doc
invariant-loop-doc g l = record {
  counted : spec.pairs l.suffixes (g.V.View.tree l.view) l.seen.items (drop l.doc-index l.docs) ≡ spec.pairs l.suffixes (g.V.View.tree l.view) [] l.docs;
  there : All (λ d. d < (g.V.View.tree l.view).docs) l.seen.items;
}
