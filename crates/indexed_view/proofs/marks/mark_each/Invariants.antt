use Rattle.std.proofs.Common.{◌≡◌, ◌≤◌, ◌++◌, length, drop, vec_capacity}
use Rattle.indexed_view.specs.Marks.{count, mark_all, new_of}
use Rattle.indexed_view.proofs.marks.mark_each.Given as goal

abbrev pub invariant-loop-nav : goal.invariant-loop-nav
invariant-loop-nav l = record {
  len : length l.marks.items ≡ length l.initial.marks.items;
  marks : mark_all (drop l.nav-index l.navs) l.marks.items ≡ mark_all l.navs l.initial.marks.items;
  queue : l.queue.items ++ new_of (drop l.nav-index l.navs) l.marks.items ≡ l.initial.queue.items ++ new_of l.navs l.initial.marks.items;
  few : length l.queue.items ≤ count l.marks.items;
  capacity : vec_capacity l.queue ≡ vec_capacity l.initial.queue;
}
