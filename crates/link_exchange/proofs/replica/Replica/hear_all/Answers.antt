use Rattle.std.proofs.Common.{◌≡◌, ◌∙◌, true, false, sym, subst}
use Rattle.std.specs.Vec.Iter.{into_iter_items}
use Rattle.link_exchange.proofs.Following.{IsHearing, hears_next, hears_none, hears_last}
use Rattle.link_exchange.proofs.replica.Replica.hear_all.Goals as goal

pub loop-entry-preserved : goal.loop-entry-preserved
loop-entry-preserved g c =
    let follows : c.in_ok-hear.field-0 ≡ true = search in
    subst (λ now. IsHearing c.args.self.now c.args.news.items now (into_iter_items c.next.new.self)) (sym (c.in_ok-hear.ensures.heard follows))
    (hears_next _ _ c.loop-entry.self _ _ c.in-Some.entry c.in-Some.ensures.steps.0 (sym c.in_ok-hear.ensures.follows ∙ follows) c.loop-entry.invariant)

pub returns-then-not-branch-clause-follow : goal.returns-then-not-branch-clause-follow
returns-then-not-branch-clause-follow g c =
    let refused : c.in_ok-hear.field-0 ≡ false = search in
    hears_none _ _ c.loop-entry.self _ _ c.in-Some.entry c.in-Some.ensures.steps.0 (sym c.in_ok-hear.ensures.follows ∙ refused) c.loop-entry.invariant

pub returns-clause-follow : goal.returns-clause-follow
returns-clause-follow g c =
    let ok = c.loop-entry.entry-iterator.rest.ok in
    hears_last _ _ c.loop-entry.self (into_iter_items c.loop-entry.entry-iterator) (sym ok.0 ∙ c.in-None.ensures.steps.0) c.loop-entry.invariant
