use Rattle.std.proofs.Common.{◌<◌, ℕ, sym, subst, ap, ◌∙◌}
use Rattle.tree_log.specs.Tree.{Tree, nav_of}
use Rattle.agent_laws.proofs.Groups.Well.{admitted_well}
use Rattle.document_ends.specs.Ended.{first_end}
use Rattle.document_ends.proofs.Climbing.{stops_at_top, goes_up}
use Rattle.document_ends.proofs.ends.Ends.first_end.Goals as goal

pub returns-in-None : goal.returns-in-None
returns-in-None g c =
    stops_at_top c.args._log.now.entries c.requires.admitted c.up.nav (subst (λ (t : Tree). c.up.nav < t.navs) c.requires.tree c.up.invariant.within) c.up.first c.row_of.result c.sooner-first.result
    (first_end c.args._log.now.entries c.args.doc) (c.row_of.ensures ∙ c.requires.fed.cuts c.up.nav) c.sooner-first.ensures c.up.invariant.told
    (sym (c.row_of-in-up.ensures ∙ c.requires.fed.embedders c.up.nav) ∙ c.in-None.is)

pub nav_of-nav-requires-in-Some : goal.nav_of-nav-requires-in-Some
nav_of-nav-requires-in-Some g c =
    subst (λ (t : Tree). c.in-Some.above < t.docs) (sym c.requires.tree)
    ((admitted_well c.args._log.now.entries c.requires.admitted).up c.up.nav c.in-Some.above (sym (c.row_of-in-up.ensures ∙ c.requires.fed.embedders c.up.nav) ∙ c.in-Some.is)).0

pub up-smaller : goal.up-smaller
up-smaller g c =
    subst (λ (n : ℕ). n < c.up.nav) (sym (c.nav_of-nav-in-Some.ensures.value ∙ ap (λ (t : Tree). nav_of t c.in-Some.above) c.requires.tree))
    ((admitted_well c.args._log.now.entries c.requires.admitted).up c.up.nav c.in-Some.above (sym (c.row_of-in-up.ensures ∙ c.requires.fed.embedders c.up.nav) ∙ c.in-Some.is)).1

pub up-preserved : goal.up-preserved
up-preserved g c = record {
  within = c.nav_of-nav-in-Some.ensures.within;
  told = goes_up c.args._log.now.entries c.requires.admitted c.up.nav (subst (λ (t : Tree). c.up.nav < t.navs) c.requires.tree c.up.invariant.within) c.up.first c.row_of.result c.sooner-first.result
      (first_end c.args._log.now.entries c.args.doc) (c.row_of.ensures ∙ c.requires.fed.cuts c.up.nav) c.sooner-first.ensures c.up.invariant.told
      c.in-Some.above c.nav_of-nav-in-Some.result c.row_of-in-Some.result c.sooner-first-in-Some.result
      (sym (c.row_of-in-up.ensures ∙ c.requires.fed.embedders c.up.nav) ∙ c.in-Some.is)
      (c.nav_of-nav-in-Some.ensures.value ∙ ap (λ (t : Tree). nav_of t c.in-Some.above) c.requires.tree)
      (c.row_of-in-Some.ensures ∙ c.requires.fed.documents c.in-Some.above) c.sooner-first-in-Some.ensures;
}
