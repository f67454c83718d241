use Rattle.std.proofs.Common.{◌∙◌, sym}
use Rattle.coordinator_rules.specs.Navigation.{same_origin_shown}
use Rattle.nav_rules.proofs.Upward.{none_passes, this_passes, passes_above, parent_lower}
use Rattle.nav_rules.proofs.familiarity.same_origin_above.Goals as goal

pub returns-in-None : goal.returns-in-None
returns-in-None g c =
    let t = g.V.View.tree c.args.view.now in
    sym (none_passes t (same_origin_shown t c.args.a) c.up.at c.know_grown.ensures.ordered c.up.invariant.within (sym c.parent.ensures.value ∙ c.in-None.is)) ∙ c.up.invariant.told

pub returns-then-same_origin_shown : goal.returns-then-same_origin_shown
returns-then-same_origin_shown g c =
    let t = g.V.View.tree c.args.view.now in
    sym (this_passes t (same_origin_shown t c.args.a) c.up.at c.in-Some.above c.know_grown.ensures.ordered c.up.invariant.within (sym c.parent.ensures.value ∙ c.in-Some.is) (sym c.same_origin_shown.ensures ∙ c.if-same_origin_shown.true))
    ∙ c.up.invariant.told

pub up-preserved : goal.up-preserved
up-preserved g c =
    let t = g.V.View.tree c.args.view.now in
    record {
      within = c.in-Some.ensures.within;
      told =
          sym (passes_above t (same_origin_shown t c.args.a) c.up.at c.in-Some.above c.know_grown.ensures.ordered c.up.invariant.within (sym c.parent.ensures.value ∙ c.in-Some.is) (sym c.same_origin_shown.ensures ∙ c.if-same_origin_shown.false))
          ∙ c.up.invariant.told;
    }

pub up-smaller : goal.up-smaller
up-smaller g c = parent_lower (g.V.View.tree c.args.view.now) c.up.at c.in-Some.above c.know_grown.ensures.ordered c.up.invariant.within (sym c.parent.ensures.value ∙ c.in-Some.is)
