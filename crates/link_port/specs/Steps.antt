-- The step that is under way at a link.
use Rattle.std.specs.Prelude.{ℕ, List, Bool, true, Option, Some, None}
use Rattle.agent_terms.specs.declared.request.ReplyOutcome.{ReplyOutcome}
use Rattle.coordinator_rules.specs.Told.{told_log}
use Rattle.desk.specs.History.{log_of}
use Rattle.desk.specs.declared.item.Item.{Item}
use Rattle.link_wire.specs.Links.{Pending, names_what_is_there}
use Rattle.link_port.specs.declared.step.Step.{Step}

abbrev pub pending_of : Option Step → Option Pending
pending_of None = None
pending_of (Some step) = Some (record { outcome = step.outcome; older = step.older })

-- the step that a reply belongs to: one that asks for the rest goes on with the step before, and any other begins one
abbrev pub step_with : ℕ → Option Pending → Bool → ReplyOutcome → Pending
step_with older (Some step) true outcome = step
step_with older step is_more outcome = record { outcome = outcome; older = older }

-- what is under way after a reply, of which the outcome is given if it left more to be told
abbrev pub pending_after : ℕ → Option Pending → Bool → Option ReplyOutcome → Option Pending
pending_after older step is_more None = None
pending_after older step is_more (Some outcome) = Some (step_with older step is_more outcome)

-- what its outcome names is there, once its renderer is told all of the log
abbrev pub is_named : ℕ → List Item → Option Pending → Bool
is_named r history None = true
is_named r history (Some step) = names_what_is_there r (told_log r (log_of history)) step.older step.outcome
