use Rattle.std.proofs.Common.{◌∙◌, ◌∷◌, [], Some, None, ap, sym}
use Rattle.agent_terms.specs.declared.request.ReplyOutcome.TheVariants as outcomes
use Rattle.coordinator_rules.specs.Decision.{Decision}
use Rattle.coordinator_rules.specs.NextTask.{task_entry}
use Rattle.request_decisions.specs.Asked.{rules}
use Rattle.desk.proofs.Deciding.{decided_next, decided_next_full}
use Rattle.desk.proofs.asked.next.Goals as goal

pub returns-then-is_full_log-clause-decided : goal.returns-then-is_full_log-clause-decided
returns-then-is_full_log-clause-decided g c =
    c.full.ensures ∙ sym (decided_next_full (rules c.args._renderers c.args._suffixes.now) c.args.log.now.entries c.args.renderer (sym c.is_full_log.ensures ∙ c.if-is_full_log.true))

pub returns-in-None-clause-decided : goal.returns-in-None-clause-decided
returns-in-None-clause-decided g c =
    c.refused.ensures
    ∙ sym (decided_next (rules c.args._renderers c.args._suffixes.now) c.args.log.now.entries c.args.renderer None (sym c.is_full_log.ensures ∙ c.if-is_full_log.false) (sym c.next.ensures.task ∙ c.in-None.is))

pub returns-in-Some-clause-decided : goal.returns-in-Some-clause-decided
returns-in-Some-clause-decided g c =
    let at : Decision = record { entries = task_entry c.args.renderer c.in-Some.what ∷ []; outcome = outcomes.Task c.len.result } in
    ap (λ place. record at { outcome = outcomes.Task place }) c.len.ensures
    ∙ sym (decided_next (rules c.args._renderers c.args._suffixes.now) c.args.log.now.entries c.args.renderer (Some c.in-Some.what) (sym c.is_full_log.ensures ∙ c.if-is_full_log.false) (sym c.next.ensures.task ∙ c.in-Some.is))
