-- A refusal in place of a decision.
use Rattle.std.specs.Prelude.{[], Option, Some, None, Bool, true, false}
use Rattle.agent_terms.specs.declared.request.ReplyOutcome.{ReplyOutcome}
use Rattle.agent_terms.specs.declared.request.ReplyOutcome.TheVariants as outcomes
use Rattle.coordinator_rules.specs.Decision.{Decision}

abbrev pub refused_with : ReplyOutcome → Decision
refused_with outcome = record { entries = []; outcome = outcome }

-- what is decided, unless it is refused
abbrev pub unless : Option ReplyOutcome → Decision → Decision
unless None d = d
unless (Some outcome) d = refused_with outcome

-- whether it says why nothing was decided: the bytes are no request, the document isn't the renderer's or isn't active any more,
-- or the log has no room
abbrev pub is_refusal : ReplyOutcome → Bool
is_refusal (outcomes.BadFrame place why) = true
is_refusal (outcomes.NotYours doc home) = true
is_refusal (outcomes.Unloaded place) = true
is_refusal (outcomes.Full len) = true
is_refusal _ = false
