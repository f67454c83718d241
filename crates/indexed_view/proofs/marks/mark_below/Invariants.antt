use Rattle.std.proofs.Common.{◌≡◌, ◌≤◌, ◌-◌, length, vec_capacity}
use Rattle.indexed_view.specs.Marks.{IsUnderWay}
use Rattle.indexed_view.proofs.marks.mark_below.Given as goal

abbrev pub invariant-down : goal.invariant-down
invariant-down g l = record {
  way : IsUnderWay (g.V.View.tree l.view) l.marks.items l.queue.items l.next;
  reached : l.next ≤ length l.queue.items;
  capacity : vec_capacity l.queue ≡ vec_capacity l.initial.queue;
}

abbrev pub decreases-down : goal.decreases-down
decreases-down g l = length l.marks.items - l.next
