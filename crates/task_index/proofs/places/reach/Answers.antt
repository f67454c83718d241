use Rattle.std.proofs.Common.{sym, subst, List}
use Rattle.task_index.specs.declared.row.Row.{Row}
use Rattle.task_index.specs.Fed.{KeepPlaces}
use Rattle.task_index.proofs.Rows.{push_kept, kept_again}
use Rattle.task_index.proofs.places.reach.Goals as goal

pub loop-alloc-preserved : goal.loop-alloc-preserved
loop-alloc-preserved c =
    kept_again _ c.loop-alloc.rows.items _ c.loop-alloc.invariant
    (subst (λ (rows : List Row). KeepPlaces c.loop-alloc.rows.items rows) (sym c.in_ok-push.ensures.items) (push_kept c.loop-alloc.rows.items c.new.result c.new.ensures))
