use Rattle.std.proofs.Common.{◌∙◌, ◌≤◌, ◌+◌, ◌++◌, [], ◌∷◌, false, None, arith, refl, sym, ap, subst, vec_capacity}
use Rattle.indexed_view.specs.Families.{children_in, named_in}
use Rattle.indexed_view.specs.declared.index.Place.{Place}
use Rattle.indexed_view.proofs.Added.{IsPushed, open_more, open_indexed}
use Rattle.indexed_view.proofs.applies.follow_open.Goals as goal

pub push_nav-requires-clause-room_families : goal.push_nav-requires-clause-room_families
push_nav-requires-clause-room_families g c =
    let more = (open_more (g.V.View.tree c.args.view.now) (g.V.View.tree c.apply.new.self) c.args.entry.now c.requires.admitted c.requires.kind c.in_ok-apply.ensures.ok).1 in
    let docs = c.docs.ensures in
    let len = c.requires.indexed.families.len in
    let same = c.make_room_for_nav.ensures.families in
    let room = c.in_ok-make_room_for_nav.ensures.room_families in
    grind (arith, more, docs, len, same, room)

pub push_nav-requires-clause-fewer : goal.push_nav-requires-clause-fewer
push_nav-requires-clause-fewer g c =
    let more = (open_more (g.V.View.tree c.args.view.now) (g.V.View.tree c.apply.new.self) c.args.entry.now c.requires.admitted c.requires.kind c.in_ok-apply.ensures.ok).0 in
    let docs = c.docs.ensures in
    let len = c.requires.indexed.families.len in
    let same = c.make_room_for_nav.ensures.families in
    grind (arith, more, docs, len, same)

pub returns-clause-indexed : goal.returns-clause-indexed
returns-clause-indexed g c =
    let t = g.V.View.tree c.args.view.now in
    let u = g.V.View.tree c.apply.new.self in
    let place : Place = record { embedder = None; top = c.navs-nav.result } in
    let pushed : IsPushed c.args.index.now c.push_nav.new.index place u.docs =
    record {
      places = c.push_nav.ensures.places ∙ ap (λ ps. ps ++ place ∷ []) c.make_room_for_nav.ensures.places;
      marks = c.push_nav.ensures.marks ∙ ap (λ ms. ms ++ false ∷ []) c.make_room_for_nav.ensures.marks;
      docs_are = c.push_nav.ensures.docs ∙ c.docs.ensures;
    } in
    let room = c.in_ok-make_room_for_nav.ensures.room_queue in
    open_indexed t u c.args.entry.now c.args.index.now c.push_nav.new.index place c.requires.indexed c.requires.admitted c.requires.kind c.in_ok-apply.ensures.ok c.navs-navs.ensures.grown pushed refl c.navs-nav.ensures.value
    (λ d. c.push_nav.ensures.children d ∙ ap (λ fs. children_in fs d) c.make_room_for_nav.ensures.families)
    (λ d q. c.push_nav.ensures.names d q ∙ ap (λ fs. named_in fs d q) c.make_room_for_nav.ensures.families)
    (subst (λ q. t.navs + 1 ≤ vec_capacity q) (sym c.push_nav.ensures.queue) (subst (λ n. n + 1 ≤ vec_capacity c.make_room_for_nav.new.index.queue) c.navs-nav.ensures.value room))
