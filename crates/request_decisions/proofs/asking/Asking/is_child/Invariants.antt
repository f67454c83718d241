use Rattle.std.proofs.Common.{◌≡◌, drop}
use Rattle.tree_log.specs.Tree.{children_of}
use Rattle.coordinator_rules.specs.Navigation.{is_in}
use Rattle.request_decisions.proofs.asking.Asking.is_child.Given as goal

abbrev pub invariant-loop-index : goal.invariant-loop-index
invariant-loop-index g l = is_in l.nav (drop l.index (children_of (g.V.View.tree l.self.view.now) l.self.asker)) ≡ is_in l.nav (children_of (g.V.View.tree l.self.view.now) l.self.asker)
