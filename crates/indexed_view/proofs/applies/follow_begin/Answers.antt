use Rattle.std.proofs.Common.{◌∙◌, ap, arith, refl}
use Rattle.indexed_view.specs.Families.{children_in, named_in}
use Rattle.indexed_view.proofs.Added.{begin_more, begin_indexed}
use Rattle.indexed_view.proofs.applies.follow_begin.Goals as goal

pub grow_to-requires-clause-room : goal.grow_to-requires-clause-room
grow_to-requires-clause-room g c =
    let more = begin_more (g.V.View.tree c.args.view.now) (g.V.View.tree c.apply.new.self) c.args.entry.now c.requires.kind c.in_ok-apply.ensures.ok in
    let docs = c.docs.ensures in
    let len = c.requires.indexed.families.len in
    let room = c.in_ok-reserve.ensures.ok in
    grind (arith, more, docs, len, room)

pub grow_to-requires-clause-fewer : goal.grow_to-requires-clause-fewer
grow_to-requires-clause-fewer g c =
    let more = begin_more (g.V.View.tree c.args.view.now) (g.V.View.tree c.apply.new.self) c.args.entry.now c.requires.kind c.in_ok-apply.ensures.ok in
    let docs = c.docs.ensures in
    let len = c.requires.indexed.families.len in
    let items = c.reserve.ensures.items in
    grind (arith, more, docs, len, items)

pub returns-clause-indexed : goal.returns-clause-indexed
returns-clause-indexed g c =
    begin_indexed (g.V.View.tree c.args.view.now) (g.V.View.tree c.apply.new.self) c.args.entry.now c.args.index.now _ c.requires.indexed c.requires.admitted c.requires.kind c.in_ok-apply.ensures.ok c.navs-navs.ensures.grown
    refl refl refl (c.grow_to.ensures.len ∙ c.docs.ensures)
    (λ d. c.grow_to.ensures.children d ∙ ap (λ fs. children_in fs d) c.reserve.ensures.items) (λ d q. c.grow_to.ensures.names d q ∙ ap (λ fs. named_in fs d q) c.reserve.ensures.items)
