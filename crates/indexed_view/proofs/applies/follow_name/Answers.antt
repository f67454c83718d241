use Rattle.std.proofs.Common.{◌∙◌, refl, sym, ap, subst, cond, List, ℕ, ◌&&◌}
use Rattle.tree_log.specs.Tree.{is}
use Rattle.tree_view.proofs.Fits.{name_fits}
use Rattle.indexed_view.specs.Families.{children_in, named_in, renamed}
use Rattle.indexed_view.specs.Lists.{IsAscending, is_in}
use Rattle.indexed_view.proofs.Followed.{families_ascend, name_indexed}
use Rattle.indexed_view.proofs.applies.follow_name.Goals as goal

pub embedder_of-embedder-requires-clause-nav : goal.embedder_of-embedder-requires-clause-nav
embedder_of-embedder-requires-clause-nav g c = name_fits (g.V.View.tree c.args.view.now) c.args.entry.now c.args.nav c.args.name.now c.requires.kind c.requires.admitted

pub name-requires : goal.name-requires
name-requires g c = name_fits (g.V.View.tree c.args.view.now) c.args.entry.now c.args.nav c.args.name.now c.requires.kind c.requires.admitted

pub rename_if_any-requires-clause-ascending : goal.rename_if_any-requires-clause-ascending
rename_if_any-requires-clause-ascending g c = λ d.
    let up = families_ascend (g.V.View.tree c.args.view.now) c.args.index.now.families.items c.requires.indexed.grown c.requires.indexed.families d in
    (subst IsAscending (sym (c.make_room_if_any.ensures.children d)) up.0, λ q. subst IsAscending (sym (c.make_room_if_any.ensures.names d q)) (up.1 q))

pub returns-clause-indexed : goal.returns-clause-indexed
returns-clause-indexed g c =
    let t = g.V.View.tree c.args.view.now in
    let u = g.V.View.tree c.apply.new.self in
    let old = c.args.index.now.families.items in
    let mid = c.make_room_if_any.new.families.items in
    let from = c.as_str.result.now in
    let o = c.embedder_of-embedder.result in
    name_indexed t u c.args.entry.now c.args.nav from c.args.name.now o c.args.index.now _ c.requires.indexed c.requires.kind c.in_ok-apply.ensures.ok c.navs-navs.ensures.grown c.embedder_of-embedder.ensures.value
    (c.as_str.ensures.value ∙ c.in_ok-from.ensures.ok ∙ c.name.ensures) (c.rename_if_any.ensures.len ∙ c.make_room_if_any.ensures.len)
    (λ d. c.rename_if_any.ensures.children d ∙ c.make_room_if_any.ensures.children d)
    (λ d q.
    c.rename_if_any.ensures.names d q
    ∙ ap (λ (ns : List ℕ). cond (is o d && is_in c.args.nav ns) (renamed c.args.nav from c.args.name.now q (named_in mid d q)) (named_in mid d q)) (c.make_room_if_any.ensures.children d)
    ∙ ap (λ (ns : List ℕ). cond (is o d && is_in c.args.nav (children_in old d)) (renamed c.args.nav from c.args.name.now q ns) ns) (c.make_room_if_any.ensures.names d q))
    refl refl refl
