-- How much of the log a renderer has heard once its exchange is over. Where a reply is cut, the log may have grown before the
-- rest of it was told. Renderers and replies are this project's own.
use Rattle.std.specs.Prelude.{ℕ, ◌≡◌, ◌≤◌, ◌++◌, List, Bool, true, Option, Some, None}
use Rattle.single_agent.specs.Names.{Act, Request, Entry}
use Rattle.agent_terms.specs.declared.act.Act.TheVariants.{Step as StepAct, Task, LostTask}
use Rattle.coordinator_rules.specs.Decision.{Rules, exchange}
use Rattle.coordinator_rules.specs.Told.{news_from}
use Rattle.frame_grammar.specs.Cut.{has_room}

-- the act, but that its renderer had heard so much
abbrev pub heard_at : ℕ → Act → Act
heard_at at (StepAct _ doc point op answer) = StepAct at doc point op answer
heard_at at (Task _ kind place) = Task at kind place
heard_at at (LostTask _) = LostTask at

-- whether the reply to a request on this log has room for all that renderer r isn't told yet, if it was told the entries before
-- a place
unfoldable pub is_told_at_once : Rules → ℕ → List Entry → ℕ → Request → Bool
is_told_at_once rules r log from q =
    has_room (exchange rules log r q).outcome from (news_from r from ((exchange rules log r q).entries ++ log))

-- how much the renderer may have heard after a move that makes this request, or none, and where one reply would have told it so
-- much: more than that only where the reply was cut
abbrev pub MayHear : Rules → ℕ → List Entry → ℕ → Option Request → ℕ → ℕ → Type 0
MayHear rules r log from None at heard = heard ≡ at
MayHear rules r log from (Some q) at heard = (at ≤ heard) × (is_told_at_once rules r log from q ≡ true → heard ≡ at)
