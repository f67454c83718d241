use Rattle.std.proofs.Common.{◌≡◌, ◌∙◌, length, ap, sym, subst, arith}
use Rattle.coordinator_rules.specs.Decision.{Rules}
use Rattle.exchange_laws.specs.Fit.{IsFitLog}
use Rattle.request_decisions.specs.Asked.{rules}
use Rattle.tree_log.specs.Admits.{AreAdmitted}
use Rattle.tree_log.specs.declared.entry.Entry.{Entry}
use Rattle.desk.specs.History.{log_of}
use Rattle.desk.proofs.Histories.{log_of_history}
use Rattle.desk.proofs.Marks.{count_within}
use Rattle.desk.proofs.ledger.Ledger.log.Goals as goal

is_log : (c : goal.After-self) → log_of c.args.self.now.history ≡ c.self.inside.log.entries
is_log c = ap (λ v. log_of v.history) (sym c.self.view_is) ∙ log_of_history c.self.inside.tellings.told c.self.inside.log.entries

pub returns-clause-entries : goal.returns-clause-entries
returns-clause-entries c = sym (is_log c)

pub returns-clause-admitted : goal.returns-clause-admitted
returns-clause-admitted c = subst AreAdmitted (sym (is_log c)) c.self.invariant.admitted

pub returns-clause-few : goal.returns-clause-few
returns-clause-few c =
    let l = ap (λ (es : _). length {A = Entry} es) (is_log c) in
    let f = c.self.invariant.few in
    let w = count_within c.self.inside.lost.items in
    let m = c.self.invariant.marks in
    let n = c.self.invariant.not_many in
    omega arith

pub returns-clause-fit : goal.returns-clause-fit
returns-clause-fit c =
    subst (λ (by : Rules). IsFitLog by (log_of c.args.self.now.history)) (ap (λ v. v.rules) c.self.view_is) (subst (IsFitLog (rules c.self.inside.renderers c.self.inside.suffixes.items)) (sym (is_log c)) c.self.invariant.fit)
