use Rattle.std.proofs.Common.{◌<◌, ◌∙◌, ap, sym, subst, arith}
use Rattle.coordinator_rules.specs.Decision.{Decision, Rules}
use Rattle.desk.specs.Books.{KeepsFit}
use Rattle.desk.specs.History.{log_of}
use Rattle.desk.proofs.Fitting.{answered_keeps}
use Rattle.desk.proofs.Joining.{all_owned}
use Rattle.desk.proofs.desk.Desk.serve.Goals as goal

pub returns-then-self-clause-own : goal.returns-then-self-clause-own
returns-then-self-clause-own g c = all_owned c.args.self.now.rules (log_of c.args.self.now.history) c.args.renderer c.args.request.now

pub returns-in_err-reserve-clause-own : goal.returns-in_err-reserve-clause-own
returns-in_err-reserve-clause-own g c = all_owned c.args.self.now.rules (log_of c.args.self.now.history) c.args.renderer c.args.request.now

pub returns-in_err-decided-clause-own : goal.returns-in_err-decided-clause-own
returns-in_err-decided-clause-own g c = all_owned c.args.self.now.rules (log_of c.args.self.now.history) c.args.renderer c.args.request.now

pub returns-clause-own : goal.returns-clause-own
returns-clause-own g c = all_owned c.args.self.now.rules (log_of c.args.self.now.history) c.args.renderer c.args.request.now

pub take_in-requires-clause-fit : goal.take_in-requires-clause-fit
take_in-requires-clause-fit g c =
    let old = c.reserve.new.self in
    let seat : c.args.renderer < old.rules.renderers = subst (λ (by : Rules). c.args.renderer < by.renderers) (sym (c.reserve.ensures.rules ∙ ap (λ v. v.rules) c.self.view_is)) c.requires.seat in
    subst (λ (d : Decision). KeepsFit old.rules d.entries (log_of old.history)) (sym c.in_ok-decided.ensures.answers.decided)
    (answered_keeps old.rules (log_of old.history) c.args.renderer c.args.request.now (λ i. omega (arith, c.type_inv.request i)) seat)
