use Rattle.std.proofs.Common.{◌∙◌, sym, ap, arith}
use Rattle.coordinator_rules.specs.Navigation.{familiar_through}
use Rattle.nav_rules.proofs.Openers.{known_at_once, not_further, not_a_top, no_opener, by_opener}
use Rattle.nav_rules.proofs.familiarity.familiar.Goals as goal

pub through-init : goal.through-init
through-init g c = record {
  within = c.requires.b_there;
  told = ap (λ k. familiar_through (g.V.View.tree c.args.view.now) k c.args.a c.args.b) c.navs-left.ensures.value;
}

pub returns-then-is_known : goal.returns-then-is_known
returns-then-is_known g c =
    sym (known_at_once (g.V.View.tree c.args.view.now) c.through.left c.args.a c.through.at (sym c.is_known.ensures ∙ c.if-is_known.true)) ∙ c.through.invariant.told

pub returns-then-left-eq0 : goal.returns-then-left-eq0
returns-then-left-eq0 g c =
    sym (not_further (g.V.View.tree c.args.view.now) c.through.left c.args.a c.through.at c.if-left-eq0.true (sym c.is_known.ensures ∙ c.if-is_known.false)) ∙ c.through.invariant.told

pub returns-then-not-top_level : goal.returns-then-not-top_level
returns-then-not-top_level g c =
    sym (not_a_top (g.V.View.tree c.args.view.now) c.through.left c.args.a c.through.at (sym c.is_known.ensures ∙ c.if-is_known.false) (sym c.top_level.ensures ∙ c.if-not-top_level.true)) ∙ c.through.invariant.told

pub returns-in-None : goal.returns-in-None
returns-in-None g c =
    sym (no_opener (g.V.View.tree c.args.view.now) c.through.left c.args.a c.through.at (sym c.is_known.ensures ∙ c.if-is_known.false) (sym c.opener.ensures.value ∙ c.in-None.is)) ∙ c.through.invariant.told

pub through-preserved : goal.through-preserved
through-preserved g c = record {
  within = c.in-Some.ensures.within;
  told =
      sym (by_opener (g.V.View.tree c.args.view.now) _ c.through.left c.args.a c.through.at c.in-Some.opener (omega (arith, c.if-left-eq0.false)) (sym c.is_known.ensures ∙ c.if-is_known.false) (sym c.top_level.ensures ∙ c.if-not-top_level.false) (sym c.opener.ensures.value ∙ c.in-Some.is))
      ∙ c.through.invariant.told;
}
