use Rattle.std.proofs.Common.{◌∙◌, ◌+◌, sym, ap, find, flat_map, ℕ, List}
use Rattle.std.specs.Option.{option_or}
use Rattle.coordinator_rules.specs.Navigation.{walk, is_found}
use Rattle.nav_rules.proofs.Elsewhere.{all_tops, found_from, found_next, other_left}
use Rattle.nav_rules.proofs.searching.find_elsewhere.Goals as goal

pub loop-top-init : goal.loop-top-init
loop-top-init g c =
    let t = g.V.View.tree c.args.view.now in
    ap (λ (ns : List ℕ). find (is_found t c.args.current c.args.name.now c.args.user) (flat_map (walk t) ns)) (all_tops t c.args.current c.know_grown.ensures)

pub returns-in-Some-clause-value : goal.returns-in-Some-clause-value
returns-in-Some-clause-value g c =
    let t = g.V.View.tree c.args.view.now in
    let test = is_found t c.args.current c.args.name.now c.args.user in
    sym (found_next test t c.args.current c.loop-top.top c.find_in_other.result (other_left _ _ _ c.loop-top-test.true c.navs-top-end.ensures.value) c.find_in_other.ensures.value
    ∙ ap (λ o. option_or o (found_from test t c.args.current (c.loop-top.top + 1))) c.in-Some.is)
    ∙ c.loop-top.invariant

pub loop-top-preserved : goal.loop-top-preserved
loop-top-preserved g c =
    let t = g.V.View.tree c.args.view.now in
    let test = is_found t c.args.current c.args.name.now c.args.user in
    sym (found_next test t c.args.current c.loop-top.top c.find_in_other.result (other_left _ _ _ c.loop-top-test.true c.navs-top-end.ensures.value) c.find_in_other.ensures.value
    ∙ ap (λ o. option_or o (found_from test t c.args.current (c.loop-top.top + 1))) c.in_default.is)
    ∙ c.loop-top.invariant
