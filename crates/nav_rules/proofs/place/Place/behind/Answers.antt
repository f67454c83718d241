use Rattle.std.proofs.Common.{◌∙◌, sym, ap, subst, ◌<◌, ℕ}
use Rattle.std.specs.Prelude.{unwrap_or}
use Rattle.nav_rules.specs.Walks.{after}
use Rattle.nav_rules.proofs.Walked.{after_root, comes_later, goes_up, stands_up, lower_up}
use Rattle.nav_rules.proofs.place.Place.behind.Goals as goal

pub returns-then-at-root : goal.returns-then-at-root
returns-then-at-root g c = sym c.up.invariant.told ∙ after_root (g.V.View.tree c.args.view.now) c.args.root c.up.at.nav c.if-at-root.true

pub returns-in-Some : goal.returns-in-Some
returns-in-Some g c =
    comes_later (g.V.View.tree c.args.view.now) c.args.root c.in-Some.next c.up.at _ c.know_grown.ensures c.up.invariant.stands c.if-at-root.false (sym c.next_sibling.ensures.value ∙ c.in-Some.is) c.up.invariant.told

pub up-preserved : goal.up-preserved
up-preserved g c =
    let t = g.V.View.tree c.args.view.now in
    record {
      stands = stands_up t c.args.root c.up.at c.above-at.result c.know_grown.ensures c.up.invariant.stands c.if-at-root.false c.above-at.ensures.nav c.above-at.ensures.within
          (λ m is. c.above-at.ensures.parent ∙ ap (λ o. unwrap_or o c.up.at.parent) is);
      told =
          ap (after t c.args.root) c.above-at.ensures.nav
          ∙ sym (goes_up t c.args.root c.up.at c.know_grown.ensures c.up.invariant.stands c.if-at-root.false (sym c.next_sibling.ensures.value ∙ c.in-None.is))
          ∙ c.up.invariant.told;
    }

pub up-smaller : goal.up-smaller
up-smaller g c = subst (λ (n : ℕ). n < c.up.at.nav) (sym c.above-at.ensures.nav) (lower_up (g.V.View.tree c.args.view.now) c.args.root c.up.at c.know_grown.ensures c.up.invariant.stands c.if-at-root.false)
