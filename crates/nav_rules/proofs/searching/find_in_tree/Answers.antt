use Rattle.std.proofs.Common.{◌∙◌, sym, ap, subst, find, length, ◌<◌, ◌++◌, ℕ, List}
use Rattle.coordinator_rules.specs.Navigation.{walk, is_found}
use Rattle.nav_rules.specs.Walks.{after, left_after}
use Rattle.nav_rules.proofs.Walked.{stands_at_root, whole_walk, passed_by, new_find, left_less, at_end, at_place}
use Rattle.nav_rules.proofs.searching.find_in_tree.Goals as goal

pub walk-init : goal.walk-init
walk-init g c =
    let t = g.V.View.tree c.args.view.now in
    record {
      stands = stands_at_root t c.args.root c.root-at.result c.requires.root_there c.root-at.ensures.nav c.root-at.ensures.parent;
      told = whole_walk t (is_found t c.args.current c.args.name.now c.args.user) c.args.root c.root-at.result.nav c.root-at.ensures.nav;
    }

pub returns-then-is_new_find-clause-value : goal.returns-then-is_new_find-clause-value
returns-then-is_new_find-clause-value g c =
    let t = g.V.View.tree c.args.view.now in
    sym (new_find t (is_found t c.args.current c.args.name.now c.args.user) c.args.root c.walk.at.nav c.is_number-was_searched.result c.know_grown.ensures c.walk.invariant.stands.within (sym c.is_new_find.ensures ∙ c.if-is_new_find.true))
    ∙ c.walk.invariant.told

pub returns-in-None-clause-value : goal.returns-in-None-clause-value
returns-in-None-clause-value g c =
    let t = g.V.View.tree c.args.view.now in
    let test = is_found t c.args.current c.args.name.now c.args.user in
    let b = c.is_number-was_searched.result in
    sym (passed_by t test c.args.root c.walk.at.nav c.args.searched b c.know_grown.ensures c.walk.invariant.stands.within c.requires.searched c.is_number-was_searched.ensures (sym c.is_new_find.ensures ∙ c.if-is_new_find.false)
    ∙ ap (find test) (at_end t c.args.root (left_after t c.args.root b c.walk.at.nav) c.next.result c.next.ensures c.in-None.is))
    ∙ c.walk.invariant.told

pub walk-preserved : goal.walk-preserved
walk-preserved g c =
    let t = g.V.View.tree c.args.view.now in
    let test = is_found t c.args.current c.args.name.now c.args.user in
    let b = c.is_number-was_searched.result in
    let next = at_place t c.args.root (left_after t c.args.root b c.walk.at.nav) c.next.result c.in-Some.place c.next.ensures c.in-Some.is in
    record {
      stands = next.1;
      told =
          sym (passed_by t test c.args.root c.walk.at.nav c.args.searched b c.know_grown.ensures c.walk.invariant.stands.within c.requires.searched c.is_number-was_searched.ensures (sym c.is_new_find.ensures ∙ c.if-is_new_find.false) ∙ ap (find test) next.0)
          ∙ c.walk.invariant.told;
    }

pub walk-smaller : goal.walk-smaller
walk-smaller g c =
    let t = g.V.View.tree c.args.view.now in
    let b = c.is_number-was_searched.result in
    let next = at_place t c.args.root (left_after t c.args.root b c.walk.at.nav) c.next.result c.in-Some.place c.next.ensures c.in-Some.is in
    subst (λ (ns : List ℕ). length ns < length (walk t c.walk.at.nav ++ after t c.args.root c.walk.at.nav)) next.0 (left_less t c.args.root c.walk.at.nav b c.know_grown.ensures c.walk.invariant.stands.within)
