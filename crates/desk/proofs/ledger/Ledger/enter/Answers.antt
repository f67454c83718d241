use Rattle.std.proofs.Common.{◌≡◌, ◌∙◌, ◌++◌, ap, sym, subst, arith}
use Rattle.coordinator_rules.specs.Decision.{Rules}
use Rattle.request_decisions.specs.Asked.{rules}
use Rattle.request_decisions.specs.Made.{entries_of}
use Rattle.desk.specs.Books.{KeepsFit, MayJoin}
use Rattle.desk.specs.History.{entered, log_of, history}
use Rattle.desk.proofs.Histories.{log_of_history, history_entered}
use Rattle.desk.proofs.Ledgers.{kept_entered, kept_short}
use Rattle.desk.proofs.ledger.Ledger.enter.Goals as goal

pub push_made-requires-clause-few : goal.push_made-requires-clause-few
push_made-requires-clause-few c =
    let s = kept_short (rules c.self.inside.renderers c.self.inside.suffixes.items) c.self.inside.log.entries c.self.inside.tellings c.self.inside.lost.items c.self.invariant in
    omega arith

pub push_made-requires-clause-each : goal.push_made-requires-clause-each
push_made-requires-clause-each c = c.requires.may_join.each

pub invariant_of-self : goal.invariant_of-self
invariant_of-self c =
    let is : log_of c.args.self.now.history ≡ c.self.inside.log.entries = ap (λ v. log_of v.history) (sym c.self.view_is) ∙ log_of_history c.self.inside.tellings.told c.self.inside.log.entries in
    let by : c.args.self.now.rules ≡ rules c.self.inside.renderers c.self.inside.suffixes.items = ap (λ v. v.rules) (sym c.self.view_is) in
    let fit = subst (λ es. KeepsFit c.args.self.now.rules (entries_of c.args.made) es) is c.requires.fit in
    kept_entered (rules c.self.inside.renderers c.self.inside.suffixes.items) c.self.inside.log.entries c.push_made.new.log.entries (entries_of c.args.made) c.self.inside.tellings c.self.inside.lost.items c.self.invariant
    (subst (λ es. MayJoin (entries_of c.args.made) es) is c.requires.may_join) (subst (λ (r : Rules). KeepsFit r (entries_of c.args.made) c.self.inside.log.entries) by fit)
    c.know_range.ensures c.push_made.ensures

pub returns-clause-history : goal.returns-clause-history
returns-clause-history c =
    ap (λ es. history es c.self.inside.tellings.told) c.push_made.ensures
    ∙ history_entered c.self.inside.tellings.told (entries_of c.args.made) c.self.inside.log.entries c.self.invariant.placed
    ∙ ap (λ v. entered (entries_of c.args.made) ++ v.history) c.self.view_is
