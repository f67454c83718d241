use Rattle.std.proofs.Common.{◌∙◌, sym, eqb, eq-eqb, ne_eqb}
use Rattle.nav_rules.proofs.Upward.{none_passes, this_passes, passes_above, parent_lower}
use Rattle.nav_rules.proofs.permission.is_ancestor.Goals as goal

pub returns-in-None : goal.returns-in-None
returns-in-None g c =
    sym (none_passes (g.V.View.tree c.args.view.now) (λ m. eqb m c.args.nav) c.up.at c.know_grown.ensures.ordered c.up.invariant.within (sym c.parent.ensures.value ∙ c.in-None.is))
    ∙ c.up.invariant.told

pub returns-then-above-nav : goal.returns-then-above-nav
returns-then-above-nav g c =
    sym (this_passes (g.V.View.tree c.args.view.now) (λ m. eqb m c.args.nav) c.up.at c.in-Some.above c.know_grown.ensures.ordered c.up.invariant.within (sym c.parent.ensures.value ∙ c.in-Some.is) (eq-eqb _ _ c.if-above-nav.true))
    ∙ c.up.invariant.told

pub up-preserved : goal.up-preserved
up-preserved g c = record {
  within = c.in-Some.ensures.within;
  told =
      sym (passes_above (g.V.View.tree c.args.view.now) (λ m. eqb m c.args.nav) c.up.at c.in-Some.above c.know_grown.ensures.ordered c.up.invariant.within (sym c.parent.ensures.value ∙ c.in-Some.is) (ne_eqb _ _ c.if-above-nav.false))
      ∙ c.up.invariant.told;
}

pub up-smaller : goal.up-smaller
up-smaller g c = parent_lower (g.V.View.tree c.args.view.now) c.up.at c.in-Some.above c.know_grown.ensures.ordered c.up.invariant.within (sym c.parent.ensures.value ∙ c.in-Some.is)
