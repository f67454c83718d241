use Rattle.std.proofs.Common.{◌≡◌, ◌≤◌, ◌*◌, reverse, take}
use Rattle.tree_log.specs.Facts.{gathered, docs_after}
use Rattle.tree_log.proofs.homes.count_docs.Given as goal

abbrev pub invariant-loop-entry : goal.invariant-loop-entry
invariant-loop-entry l = record {
  few : l.docs ≤ 2 * l.entry-index;
  told : l.docs ≡ gathered (λ e. docs_after e.what) 0 (reverse (take l.entry-index l.entries));
}
