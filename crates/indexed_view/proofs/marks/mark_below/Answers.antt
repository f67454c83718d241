use Rattle.std.proofs.Common.{rules, arith, ◌≡◌, ◌≤◌, ◌<◌, ◌++◌, ◌∙◌, length-append, All, length, sym, ap, subst, ◌+◌}
use Rattle.indexed_view.specs.Live.{live}
use Rattle.indexed_view.specs.Marks.{count, mark_all, new_of, IsUnderWay}
use Rattle.indexed_view.proofs.FamilyRows.{live_read}
use Rattle.indexed_view.proofs.Marking.{is_next, waiting, children_within, next_way, all_marked, count_le, length_all}
use Rattle.indexed_view.proofs.marks.mark_below.Goals as goal

pub active-doc-requires : goal.active-doc-requires
active-doc-requires g c =
    let t = g.V.View.tree c.args.view.now in
    waiting t c.down.marks.items c.down.queue.items c.down.next c.index.result.now
    (is_next t c.down.marks.items c.down.queue.items c.down.next c.index.result.now c.down.invariant.way c.navs-navs.ensures.grown (search rules) c.index.ensures)

pub mark_each-requires-clause-navs : goal.mark_each-requires-clause-navs
mark_each-requires-clause-navs g c =
    let t = g.V.View.tree c.args.view.now in
    let next = is_next t c.down.marks.items c.down.queue.items c.down.next c.index.result.now c.down.invariant.way c.navs-navs.ensures.grown (search rules) c.index.ensures in
    let are : c.deref.result.now ≡ live t (t.nav c.index.result.now).active =
    live_read t c.args.families.now c.active-doc.result (t.nav c.index.result.now).active c.index-families-doc.result c.deref.result.now (search rules) c.index-families-doc.is c.requires.children c.deref.ensures.value
    c.active-doc.ensures.value in
    subst (λ ns. All (λ m. m < length c.down.marks.items) ns) (sym are) (children_within t c.down.marks.items c.down.queue.items c.down.next c.index.result.now next)

pub down-smaller : goal.down-smaller
down-smaller g c =
    let few = c.down.invariant.way.few in
    let le = count_le c.down.marks.items in
    let same : length c.mark_each.new.marks.items ≡ length c.down.marks.items = ap length c.mark_each.ensures.marks ∙ length_all c.deref.result.now c.down.marks.items in
    let lt : c.down.next < length c.down.queue.items = search rules in
    omega (arith, few, le, same, lt)

pub down-preserved : goal.down-preserved
down-preserved g c =
    let t = g.V.View.tree c.args.view.now in
    let next = is_next t c.down.marks.items c.down.queue.items c.down.next c.index.result.now c.down.invariant.way c.navs-navs.ensures.grown (search rules) c.index.ensures in
    let are : c.deref.result.now ≡ live t (t.nav c.index.result.now).active =
    live_read t c.args.families.now c.active-doc.result (t.nav c.index.result.now).active c.index-families-doc.result c.deref.result.now (search rules) c.index-families-doc.is c.requires.children c.deref.ensures.value
    c.active-doc.ensures.value in
    let marks_are = c.mark_each.ensures.marks ∙ ap (λ ns. mark_all ns c.down.marks.items) are in
    let queue_is = c.mark_each.ensures.queue ∙ ap (λ ns. c.down.queue.items ++ new_of ns c.down.marks.items) are in
    record {
      way = subst (λ ms. IsUnderWay t ms c.mark_each.new.queue.items (c.down.next + 1)) (sym marks_are)
          (next_way t c.down.marks.items c.down.queue.items c.down.next c.index.result.now next c.mark_each.new.queue.items queue_is (subst (λ ms. length c.mark_each.new.queue.items ≤ count ms) marks_are c.mark_each.ensures.few));
      reached = let long = ap length c.mark_each.ensures.queue ∙ length-append c.down.queue.items (new_of c.deref.result.now c.down.marks.items) in let lt : c.down.next < length c.down.queue.items = search rules in omega (arith, long, lt);
      capacity = c.mark_each.ensures.capacity ∙ c.down.invariant.capacity;
    }

pub returns-clause-marks : goal.returns-clause-marks
returns-clause-marks g c = all_marked (g.V.View.tree c.args.view.now) c.down.marks.items c.down.queue.items c.down.next c.navs-navs.ensures.grown.ordered (search rules) c.down.invariant.way
