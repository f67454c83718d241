-- One exchange with a coordinator.
use Rattle.std.specs.Prelude.{◌≤◌, ℕ, ◌+◌, List, ◌++◌, length, Option, Some, None, if◌then◌else◌}
use Rattle.agent_terms.specs.Limits.{most_entries, most_renderers}
use Rattle.agent_terms.specs.declared.request.ReplyOutcome.{ReplyOutcome}
use Rattle.coordinator_rules.specs.Decision.{Decision}
use Rattle.desk.specs.History.{log_of, told_of}
use Rattle.desk.specs.Serving.{answered, reply_to, Coordinator}
use Rattle.frame_grammar.specs.Cut.{ReplyParts}
use Rattle.link_wire.specs.Replies.{IsReply}
use Rattle.tree_log.specs.Admits.{AreAdmitted}

-- what the coordinator decides on bytes of renderer r, and its reply
abbrev pub decision_on : ℕ → List ℕ → Coordinator → Decision
decision_on r bytes desk = answered desk.rules (log_of desk.history) r bytes

abbrev pub reply_on : ℕ → List ℕ → Coordinator → ReplyParts
reply_on r bytes desk = reply_to r (log_of desk.history) (told_of desk.history r) (decision_on r bytes desk)

-- the outcome of a reply that leaves more to be told
abbrev pub left_by : ReplyParts → Option ReplyOutcome
left_by reply = if reply.more then Some reply.outcome else None

-- what is so of the log before and after, and of the reply
pub record IsSound (r : ℕ) (bytes : List ℕ) (desk : Coordinator) : Type 0 where
  pub before : AreAdmitted (log_of desk.history)
  pub few : length (log_of desk.history) ≤ most_entries + most_renderers
  pub told : told_of desk.history r ≤ length (log_of desk.history)
  pub after : AreAdmitted ((decision_on r bytes desk).entries ++ log_of desk.history)
  pub room : length ((decision_on r bytes desk).entries ++ log_of desk.history) ≤ most_entries + most_renderers
  pub reply : IsReply (reply_on r bytes desk)
