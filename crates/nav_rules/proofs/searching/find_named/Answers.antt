use Rattle.std.proofs.Common.{◌∙◌, sym}
use Rattle.coordinator_rules.specs.Navigation.{is_found}
use Rattle.nav_rules.proofs.Elsewhere.{in_own_tree, in_top_tree, in_other_trees}
use Rattle.nav_rules.proofs.searching.find_named.Goals as goal

pub returns-in-Some-clause-value : goal.returns-in-Some-clause-value
returns-in-Some-clause-value g c =
    let t = g.V.View.tree c.args.view.now in
    in_own_tree (is_found t c.args.current c.args.name.now c.args.user) t c.args.current c.in-Some.nav (sym c.find_in_tree.ensures.value ∙ c.in-Some.is)

pub returns-in-Some-find_in_top-clause-value : goal.returns-in-Some-find_in_top-clause-value
returns-in-Some-find_in_top-clause-value g c =
    let t = g.V.View.tree c.args.view.now in
    in_top_tree (is_found t c.args.current c.args.name.now c.args.user) t c.args.current c.in-Some-find_in_top.nav (sym c.find_in_tree.ensures.value ∙ c.in-None.is) (sym c.find_in_top.ensures.value ∙ c.in-Some-find_in_top.is)

pub returns-in-None-find_in_top-clause-value : goal.returns-in-None-find_in_top-clause-value
returns-in-None-find_in_top-clause-value g c =
    let t = g.V.View.tree c.args.view.now in
    c.find_elsewhere.ensures.value
    ∙ in_other_trees (is_found t c.args.current c.args.name.now c.args.user) t c.args.current (sym c.find_in_tree.ensures.value ∙ c.in-None.is) (sym c.find_in_top.ensures.value ∙ c.in-None-find_in_top.is)
