-- A step of a renderer over a link, and how it ends. Renderers and their links are this project's own.
use Rattle.std.specs.Prelude.{◌≡◌, ℕ, nat_le, List, ◌∷◌, length, Bool, true, false, Option, Some, None}
use Rattle.tree_log.specs.declared.entry.Entry.{Entry}
use Rattle.tree_log.specs.Log.{entry_at}
use Rattle.agent_terms.specs.Limits.{most_acts}
use Rattle.agent_terms.specs.declared.act.Act.{Act}
use Rattle.agent_terms.specs.declared.act.Answer.{Answer as AnswerOf}
use Rattle.agent_terms.specs.declared.act.Answer.TheVariants.{Outcome as AnswersBy}
use Rattle.agent_terms.specs.declared.act.Move.{Move}
use Rattle.agent_terms.specs.declared.act.Move.TheVariants.{Answers, Asks, Takes, Stays}
use Rattle.agent_terms.specs.declared.act.Point.{Point}
use Rattle.agent_terms.specs.declared.request.Request.{Request}
use Rattle.agent_terms.specs.declared.request.Request.TheVariants.{Next}
use Rattle.agent_terms.specs.declared.request.ReplyOutcome.{ReplyOutcome}
use Rattle.agent_terms.specs.declared.request.ReplyOutcome.TheVariants as reply
use Rattle.agent_terms.specs.declared.step.OpName.{OpName}
use Rattle.single_agent.specs.Lengths.{newest_length}
use Rattle.single_agent.specs.LostAct.{lost_act}
use Rattle.single_agent.specs.NextAct.{answer_of}
use Rattle.single_agent.specs.Running.{Left}
use Rattle.link_wire.specs.declared.link.Link.{Ghosts}
use Rattle.link_wire.specs.Links.{is_fit, names_what_is_there}
use Rattle.link_wire.specs.Requests.{IsRequest}
use Rattle.link_exchange.specs.Calls.{Course, Told, Fails, Strays, Starves, Exchanges}
use Rattle.link_exchange.specs.Hearing.{Extends}
use Rattle.renderer.specs.declared.turn.Turn.{Turn}
use Rattle.renderer.specs.declared.turn.Turn.TheVariants.{Acted, Idle, Stopped, Full, ActsFull, BadReply}
use Rattle.renderer.specs.Holding.{Holds, hearing, left_in, move_in, resting, stepped, stores_by, taken}

-- HOW AN EXCHANGE ENDS

-- the act is lost: what was heard of late counts for nothing
pub record Loses (w : Holds) (move : Move) (v : Holds) : Type 0 where
  pub lost : Act
  pub is : lost_act (newest_length w.acts) w.len move ≡ Some lost
  pub heard : List Entry
  pub extends : Extends w.heard heard
  pub now : v ≡ record w { acts = lost ∷ w.acts; heard = heard }

-- a step that asked is answered
pub record IsAnswered (w : Holds) (doc : ℕ) (point : Point) (op : OpName) (left : Option Left) (heard : List Entry) (outcome : ReplyOutcome) (v : Holds) : Type 0 where
  pub given : AnswerOf
  pub is : answer_of op outcome ≡ Some given
  pub now : v ≡ stepped doc point op given left (hearing heard w)

-- a task was taken, of which the entry is heard
pub record IsTaken (w : Holds) (heard : List Entry) (place : ℕ) (v : Holds) : Type 0 where
  pub entry : Entry
  pub is : entry_at heard place ≡ Some entry
  pub now : v ≡ taken place entry (hearing heard w)

-- what the outcome of a step that asked makes of it
abbrev pub StepEnds : Holds → ℕ → Point → OpName → Option Left → List Entry → ReplyOutcome → Turn → Holds → Type 0
StepEnds w doc point op left heard (reply.Full len) turn v = (turn ≡ Full len) × (v ≡ hearing heard w)
StepEnds w doc point op left heard outcome turn v = (turn ≡ Acted) × IsAnswered w doc point op left heard outcome v

-- what the outcome of a question for a task makes of it
abbrev pub TaskEnds : Holds → List Entry → ReplyOutcome → Turn → Holds → Type 0
TaskEnds w heard (reply.Task place) turn v = (turn ≡ Acted) × IsTaken w heard place v
TaskEnds w heard reply.Nothing turn v = (turn ≡ Idle) × (v ≡ resting (hearing heard w))
TaskEnds w heard (reply.Full len) turn v = (turn ≡ Full len) × (v ≡ hearing heard w)
TaskEnds w heard _ turn v = ⊥

abbrev pub ToldEnds : Holds → Option Left → Move → List Entry → ReplyOutcome → Turn → Holds → Type 0
ToldEnds w left (Asks doc point op request) heard outcome turn v = StepEnds w doc point op left heard outcome turn v
ToldEnds w left Takes heard outcome turn v = TaskEnds w heard outcome turn v
ToldEnds w left _ heard outcome turn v = ⊥

-- what the calls of a move make of it: once all is told, what the outcome names is there, and a task's entry is among the news
abbrev pub Ends : Holds → Option Left → Move → Course → Turn → Holds → Type 0
Ends w left move (Told heard outcome) turn v = (names_what_is_there w.renderer heard (length w.heard) outcome ≡ true) × ToldEnds w left move heard outcome turn v
Ends w left move Fails turn v = (turn ≡ Stopped) × Loses w move v
Ends w left move (Strays place) turn v = (turn ≡ BadReply place) × Loses w move v
Ends w left move Starves turn v = ⊥

-- A STEP

-- the renderer asks this over the link, and then for the rest of what is to be told
pub record Converses {L : Type 0} (link : Ghosts L) (w : Holds) (left : Option Left) (move : Move) (request : Request) (l : L) (turn : Turn) (v : Holds) (m : L) : Type 0 where
  pub range : IsRequest request  -- a frame spells it
  pub own : is_fit w.renderer w.heard request ≡ true  -- of a document of its own, or of none
  pub course : Course
  pub calls : Exchanges link w.renderer l w.heard None request course m
  pub ends : Ends w left move course turn v

-- a step that answers makes no call
abbrev pub AnswersAlone : Holds → ℕ → Point → OpName → Option Left → AnswerOf → Turn → Holds → Type 0
AnswersAlone w doc point op left given turn v = (turn ≡ Acted) × (v ≡ record (stepped doc point op given left w) { stores = stores_by left w })

abbrev pub StaysSo : {L : Type 0} → Turn → Holds → L → Turn → Holds → L → Type 0
StaysSo by w l turn v m = (turn ≡ by) × (v ≡ w) × (m ≡ l)

abbrev pub Moves : {L : Type 0} → Ghosts L → Option Left → Move → Holds → L → Turn → Holds → L → Type 0
Moves link left (Answers doc point op outcome) w l turn v m = AnswersAlone w doc point op left (AnswersBy outcome) turn v × (m ≡ l)
Moves link left (Asks doc point op request) w l turn v m = Converses link w left (Asks doc point op request) request l turn v m
Moves link left Takes w l turn v m = Converses link w None Takes Next l turn v m
Moves link left Stays w l turn v m = StaysSo Stopped w l turn v m

abbrev pub MovesIfRoom : {L : Type 0} → Bool → Ghosts L → Holds → L → Turn → Holds → L → Type 0
MovesIfRoom true link w l turn v m = StaysSo ActsFull w l turn v m
MovesIfRoom false link w l turn v m = Moves link (left_in w) (move_in w) w l turn v m

-- A step of a renderer that holds this, over the link: where its record has no room, it does nothing; and so once it has stopped.
-- Else it makes its next move.
abbrev pub Steps : {L : Type 0} → Ghosts L → Holds → L → Turn → Holds → L → Type 0
Steps link w l turn v m = MovesIfRoom (nat_le most_acts (length w.acts)) link w l turn v m

-- ---- for private clauses

-- the outcome is one of a document's request
abbrev pub is_step_outcome : ReplyOutcome → Bool
is_step_outcome (reply.Task place) = false
is_step_outcome reply.Nothing = false
is_step_outcome (reply.NotYours doc home) = false
is_step_outcome (reply.BadFrame place why) = false
is_step_outcome _ = true

-- the outcome is one of a question for a task
abbrev pub is_task_outcome : ReplyOutcome → Bool
is_task_outcome (reply.Task place) = true
is_task_outcome reply.Nothing = true
is_task_outcome (reply.Full len) = true
is_task_outcome _ = false
