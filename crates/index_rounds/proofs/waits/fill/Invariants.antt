use Rattle.std.proofs.Common.{◌≡◌}
use Rattle.tree_log.specs.Admits.{AreAdmitted}
use Rattle.tree_log.specs.Tree.{tree_of}
use Rattle.task_index.specs.Fed.{IsFed}
use Rattle.index_rounds.proofs.waits.fill.Given as goal

abbrev pub invariant-entries : goal.invariant-entries
invariant-entries g l = record {
  same : g.V.View.tree l.view ≡ tree_of l.log.entries;
  admitted : AreAdmitted l.log.entries;
  fed : IsFed l.waiting l.log.entries;
}
