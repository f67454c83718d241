use Rattle.std.proofs.Common.{◌∙◌, ◌≤◌, ◌<◌, ◌+◌, ◌++◌, [], ◌∷◌, false, cond, Some, List, ℕ, ◌&&◌, eqb, arith, refl, sym, ap, subst, vec_capacity}
use Rattle.tree_log.specs.Tree.{root_of}
use Rattle.indexed_view.specs.Live.{is_name}
use Rattle.indexed_view.specs.Families.{children_in, named_in}
use Rattle.indexed_view.specs.Lists.{IsAscending, with_one}
use Rattle.indexed_view.specs.declared.index.Place.{Place}
use Rattle.indexed_view.proofs.Added.{IsPushed, frame_more, frame_there, frame_indexed}
use Rattle.indexed_view.proofs.Followed.{families_ascend}
use Rattle.indexed_view.proofs.applies.follow_frame.Goals as goal

pub nav_of-requires : goal.nav_of-requires
nav_of-requires g c = frame_there (g.V.View.tree c.args.view.now) c.args.entry.now c.args.doc c.args.name.now c.requires.admitted c.requires.actor c.requires.kind

pub make_room_in-requires : goal.make_room_in-requires
make_room_in-requires g c =
    let there = frame_there (g.V.View.tree c.args.view.now) c.args.entry.now c.args.doc c.args.name.now c.requires.admitted c.requires.actor c.requires.kind in
    let len = c.requires.indexed.families.len in
    let same = c.make_room_for_nav.ensures.families in
    grind (arith, there, len, same)

pub put_child-requires-clause-doc : goal.put_child-requires-clause-doc
put_child-requires-clause-doc g c =
    let there = frame_there (g.V.View.tree c.args.view.now) c.args.entry.now c.args.doc c.args.name.now c.requires.admitted c.requires.actor c.requires.kind in
    let len = c.requires.indexed.families.len in
    let same = c.make_room_for_nav.ensures.families in
    let more = c.make_room_in.ensures.len in
    grind (arith, there, len, same, more)

pub put_child-requires-clause-ascending : goal.put_child-requires-clause-ascending
put_child-requires-clause-ascending g c =
    let up = families_ascend (g.V.View.tree c.args.view.now) c.args.index.now.families.items c.requires.indexed.grown c.requires.indexed.families c.args.doc in
    let same = c.make_room_for_nav.ensures.families in (
      subst IsAscending (sym (c.make_room_in.ensures.children c.args.doc ∙ ap (λ fs. children_in fs c.args.doc) same)) up.0,
      λ q. subst IsAscending (sym (c.make_room_in.ensures.names c.args.doc q ∙ ap (λ fs. named_in fs c.args.doc q) same)) (up.1 q),
    )

pub push_nav-requires-clause-room_families : goal.push_nav-requires-clause-room_families
push_nav-requires-clause-room_families g c =
    let more = (frame_more (g.V.View.tree c.args.view.now) (g.V.View.tree c.apply.new.self) c.args.entry.now c.args.doc c.args.name.now c.requires.admitted c.requires.actor c.requires.kind c.in_ok-apply.ensures.ok).1 in
    let docs = c.docs.ensures in
    let len = c.requires.indexed.families.len in
    let same = c.make_room_for_nav.ensures.families in
    let room = c.in_ok-make_room_for_nav.ensures.room_families in
    let mid = c.make_room_in.ensures.capacity in
    let last = c.put_child.ensures.capacity in
    grind (arith, more, docs, len, same, room, mid, last)

pub push_nav-requires-clause-fewer : goal.push_nav-requires-clause-fewer
push_nav-requires-clause-fewer g c =
    let more = (frame_more (g.V.View.tree c.args.view.now) (g.V.View.tree c.apply.new.self) c.args.entry.now c.args.doc c.args.name.now c.requires.admitted c.requires.actor c.requires.kind c.in_ok-apply.ensures.ok).0 in
    let docs = c.docs.ensures in
    let len = c.requires.indexed.families.len in
    let same = c.make_room_for_nav.ensures.families in
    let mid = c.make_room_in.ensures.len in
    let last = c.put_child.ensures.len in
    grind (arith, more, docs, len, same, mid, last)

pub returns-clause-indexed : goal.returns-clause-indexed
returns-clause-indexed g c =
    let t = g.V.View.tree c.args.view.now in
    let u = g.V.View.tree c.apply.new.self in
    let same = c.make_room_for_nav.ensures.families in
    let place : Place = record { embedder = Some c.args.doc; top = c.root.result } in
    let pushed : IsPushed c.args.index.now c.push_nav.new.index place u.docs =
    record {
      places = c.push_nav.ensures.places ∙ ap (λ ps. ps ++ place ∷ []) c.make_room_for_nav.ensures.places;
      marks = c.push_nav.ensures.marks ∙ ap (λ ms. ms ++ false ∷ []) c.make_room_for_nav.ensures.marks;
      docs_are = c.push_nav.ensures.docs ∙ c.docs.ensures;
    } in
    let room = c.in_ok-make_room_for_nav.ensures.room_queue in
    frame_indexed t u c.args.entry.now c.args.doc c.args.name.now c.args.index.now c.push_nav.new.index place c.requires.indexed c.requires.admitted c.requires.actor c.requires.kind c.in_ok-apply.ensures.ok c.navs-navs.ensures.grown
    (subst (λ n. n < t.navs) c.nav_of.ensures.value c.nav_of.ensures.within) pushed refl (c.root.ensures.value ∙ ap (root_of t) c.nav_of.ensures.value)
    (λ d.
    c.push_nav.ensures.children d ∙ c.put_child.ensures.children d
    ∙ ap (λ (n : ℕ). cond (eqb c.args.doc d) (with_one n (children_in c.make_room_in.new.families.items d)) (children_in c.make_room_in.new.families.items d)) c.navs-nav.ensures.value
    ∙ ap (λ (ns : List ℕ). cond (eqb c.args.doc d) (with_one t.navs ns) ns) (c.make_room_in.ensures.children d ∙ ap (λ fs. children_in fs d) same))
    (λ d q.
    c.push_nav.ensures.names d q ∙ c.put_child.ensures.names d q
    ∙ ap (λ (n : ℕ). cond (eqb c.args.doc d && is_name c.args.name.now q) (with_one n (named_in c.make_room_in.new.families.items d q)) (named_in c.make_room_in.new.families.items d q)) c.navs-nav.ensures.value
    ∙ ap (λ (ns : List ℕ). cond (eqb c.args.doc d && is_name c.args.name.now q) (with_one t.navs ns) ns) (c.make_room_in.ensures.names d q ∙ ap (λ fs. named_in fs d q) same))
    (subst (λ q. t.navs + 1 ≤ vec_capacity q) (sym c.push_nav.ensures.queue) (subst (λ n. n + 1 ≤ vec_capacity c.make_room_for_nav.new.index.queue) c.navs-nav.ensures.value room))
