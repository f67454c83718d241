use Rattle.std.proofs.Common.{◌≡◌, ◌∙◌, ◌∷◌, ◌<◌, false, ap, sym, subst, arith}
use Rattle.request_decisions.specs.Asked.{rules}
use Rattle.single_agent.specs.LegalLog.{lost_entry}
use Rattle.single_agent.specs.LegalRecord.{is_lost_on}
use Rattle.desk.specs.declared.item.Item.TheVariants.{Entered}
use Rattle.desk.specs.History.{log_of, history}
use Rattle.desk.proofs.Histories.{log_of_history, history_pushed}
use Rattle.desk.proofs.Ledgers.{kept_lost, kept_short}
use Rattle.desk.proofs.ledger.Ledger.lose.Goals as goal

pub push-requires-clause-few : goal.push-requires-clause-few
push-requires-clause-few c =
    let s = kept_short (rules c.self.inside.renderers c.self.inside.suffixes.items) c.self.inside.log.entries c.self.inside.tellings c.self.inside.lost.items c.self.invariant in
    omega arith

pub invariant_of-self : goal.invariant_of-self
invariant_of-self c =
    let is : log_of c.args.self.now.history ≡ c.self.inside.log.entries = ap (λ v. log_of v.history) (sym c.self.view_is) ∙ log_of_history c.self.inside.tellings.told c.self.inside.log.entries in
    kept_lost (rules c.self.inside.renderers c.self.inside.suffixes.items) c.self.inside.log.entries c.push.new.log.entries c.self.inside.tellings c.self.inside.lost.items c.args.renderer c.self.invariant
    (subst (λ n. c.args.renderer < n) (ap (λ v. v.rules.renderers) (sym c.self.view_is)) c.requires.seat)
    (subst (λ es. is_lost_on c.args.renderer es ≡ false) is c.requires.there)
    (c.push.ensures.entries ∙ ap (λ e. e ∷ c.self.inside.log.entries) c.loss_of.ensures)

pub returns-clause-history : goal.returns-clause-history
returns-clause-history c =
    ap (λ es. history es c.self.inside.tellings.told) (c.push.ensures.entries ∙ ap (λ e. e ∷ c.self.inside.log.entries) c.loss_of.ensures)
    ∙ history_pushed c.self.inside.tellings.told (lost_entry c.args.renderer) c.self.inside.log.entries c.self.invariant.placed
    ∙ ap (λ v. Entered (lost_entry c.args.renderer) ∷ v.history) c.self.view_is
