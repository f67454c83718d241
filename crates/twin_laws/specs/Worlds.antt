-- Runs of exchanges, as one renderer sees them.
use Rattle.std.specs.Prelude.{ℕ, ◌+◌, List, [], ◌∷◌, ◌++◌, length, ◌==◌, if◌then◌else◌}
use Rattle.tree_log.specs.declared.entry.Entry.{Entry}
use Rattle.agent_terms.specs.declared.request.Request.{Request}
use Rattle.agent_terms.specs.declared.request.ReplyOutcome.TheVariants as outcomes
use Rattle.agent_terms.specs.declared.request.Why.{Why}
use Rattle.coordinator_rules.specs.Decision.{Rules, Decision, exchange}
use Rattle.single_agent.specs.LegalLog.{lost_entry}
use Rattle.coordinator_rules.specs.Told.{news_from}
use Rattle.frame_grammar.specs.Cut.{ReplyParts, reply_telling}
use Rattle.twin_laws.specs.Alike.{IsAlike}

-- what the coordinator meets: a request of a renderer; bytes that are none, from which place on, and why; or the loss of a
-- renderer
pub data Event : Type 0 where
  Asked : (r : ℕ) (request : Request) → Event
  Garbled : (r : ℕ) (place : ℕ) (why : Why) → Event
  Gives_up : (r : ℕ) → Event

-- the coordinator, as one renderer sees it: the log, and how much of it the renderer was told
pub record World : Type 0 where
  pub log : List Entry
  pub heard : ℕ

-- the reply: what the renderer wasn't told yet, as far as one reply has room
abbrev pub reply_of : ℕ → World → Decision → ReplyParts
reply_of r w d = reply_telling d.outcome w.heard (news_from r w.heard (d.entries ++ w.log))

-- the reply to bytes that are no request: it tells nothing
abbrev pub refusal : ℕ → Why → ReplyParts
refusal place why = reply_telling (outcomes.BadFrame place why) 0 []

-- after an exchange of renderer x, as renderer r sees it
abbrev pub world_after : ℕ → ℕ → World → Decision → World
world_after r x w d = record { log = d.entries ++ w.log; heard = if x == r then w.heard + length (reply_of r w d).news else w.heard }

-- the replies to renderer r, in order
unfoldable pub replies : Rules → ℕ → List Event → World → List ReplyParts
replies rules r [] w = []
replies rules r (Asked x request ∷ events) w =
    (if x == r then reply_of r w (exchange rules w.log x request) ∷ [] else []) ++ replies rules r events (world_after r x w (exchange rules w.log x request))
replies rules r (Garbled x place why ∷ events) w = (if x == r then refusal place why ∷ [] else []) ++ replies rules r events w
replies rules r (Gives_up x ∷ events) w = replies rules r events (record { log = lost_entry x ∷ w.log; heard = w.heard })

-- two lists of events that renderer r can't tell apart, each on its own log
pub data AreAlike (rules : Rules) (r : ℕ) : List Event → List Event → List Entry → List Entry → Type 0 where
  No_more : (left right : List Entry) → AreAlike rules r [] [] left right
  Asked_alike : (x : ℕ) (request other : Request) (events others : List Event) (left right : List Entry) → IsAlike rules left right r x request other
      → AreAlike rules r events others ((exchange rules left x request).entries ++ left) ((exchange rules right x other).entries ++ right)
      → AreAlike rules r (Asked x request ∷ events) (Asked x other ∷ others) left right
  Garbled_alike : (x place : ℕ) (why : Why) (events others : List Event) (left right : List Entry) → AreAlike rules r events others left right
      → AreAlike rules r (Garbled x place why ∷ events) (Garbled x place why ∷ others) left right
  Lost_alike : (x : ℕ) (events others : List Event) (left right : List Entry) → AreAlike rules r events others (lost_entry x ∷ left) (lost_entry x ∷ right)
      → AreAlike rules r (Gives_up x ∷ events) (Gives_up x ∷ others) left right
