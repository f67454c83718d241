use Rattle.std.proofs.Common.{◌≡◌}
use Rattle.std.specs.List.{filter, range_with_len}
use Rattle.tree_log.specs.Tree.{tree_of}
use Rattle.tree_log.specs.Blanking.{is_homed}
use Rattle.tree_log.proofs.blanking.kept_for_renderer.Given as goal

abbrev pub invariant-loop-doc : goal.invariant-loop-doc
invariant-loop-doc l = l.kept.items ≡ filter (is_homed (tree_of l.log.entries) l.renderer) (range_with_len 0 l.doc)
