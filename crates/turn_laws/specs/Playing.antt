-- A turn of a renderer in a play, over a link to the coordinator that fails where the session says. Plays are this project's own.
use Rattle.std.specs.Prelude.{◌≡◌, ℕ, ◌-◌, nat_le, List, ◌∷◌, length, Bool, true, false, Option, Some, None}
use Rattle.agent_terms.specs.Limits.{most_acts}
use Rattle.agent_terms.specs.declared.act.Answer.TheVariants.{Outcome as AnswersBy}
use Rattle.agent_terms.specs.declared.act.Move.{Move}
use Rattle.agent_terms.specs.declared.act.Move.TheVariants.{Answers, Asks, Takes, Stays}
use Rattle.agent_terms.specs.declared.request.Request.{Request}
use Rattle.agent_terms.specs.declared.request.Request.TheVariants.{Next}
use Rattle.agent_terms.specs.declared.session.Lose.{Lose}
use Rattle.agent_terms.specs.declared.session.Session.{Session}
use Rattle.coordinator_rules.specs.Decision.{rules_of}
use Rattle.single_agent.specs.LegalLog.{lost_entry}
use Rattle.single_agent.specs.Lengths.{has_stopped}
use Rattle.single_agent.specs.Running.{Left}
use Rattle.single_agent.specs.Turns.{Turned, log_of, record_of, told_length, calls_of, has_act, IsTurn, StopsAtActs, StopsAtLog}
use Rattle.desk.specs.History as desk
use Rattle.desk.specs.Serving.{Coordinator}
use Rattle.link_exchange.specs.Calls.{Course}
use Rattle.link_laws.specs.Talking.{Talks}
use Rattle.renderer.specs.declared.turn.Turn.{Turn}
use Rattle.renderer.specs.declared.turn.Turn.TheVariants.{Acted, Idle, Stopped, Full, ActsFull, BadReply}
use Rattle.renderer.specs.Holding.{Holds, left_in, move_in}
use Rattle.renderer.specs.Turning.{AnswersAlone, Ends, StaysSo}
use Rattle.renderer_laws.specs.Keeping.{Keeps}

-- BETWEEN TURNS

-- a renderer in a play: what it holds, and how many of its calls counted
pub record Seat : Type 0 where
  pub holds : Holds
  pub calls : ℕ

-- the coordinator stands after these turns
pub record IsAfter (s : Session) (turns : List Turned) (c : Coordinator) : Type 0 where
  pub rules : c.rules ≡ rules_of s
  pub log : desk.log_of c.history ≡ log_of s turns
  pub serves : c.spent ≡ false

-- renderer r goes on: it holds what the log and its acts say, and was told what the turns say
pub record Goes (s : Session) (turns : List Turned) (c : Coordinator) (r : ℕ) (x : Seat) : Type 0 where
  pub told : desk.told_of c.history r ≡ told_length s r turns
  pub keeps : Keeps s r (log_of s turns) (record_of r turns) (told_length s r turns) x.holds
  pub calls : x.calls ≡ calls_of s (log_of s turns) (record_of r turns)

-- renderer r was lost: it has its acts, the newest of which is lost
pub record Rests (turns : List Turned) (r : ℕ) (x : Seat) : Type 0 where
  pub stopped : has_stopped (record_of r turns) ≡ true
  pub acts : x.holds.acts ≡ record_of r turns

-- A STEP

-- the number, from 1, among the calls that are still to come, of the one that fails; or 0
abbrev pub number_of : Option Lose → ℕ → ℕ
number_of None calls = 0
number_of (Some l) calls = l.call - calls

-- the renderer asks this, and so its exchange ends
pub record Exchanged (r number : ℕ) (served : Bool) (left : Option Left) (move : Move) (request : Request) (w : Holds) (before : Coordinator) (turn : Turn) (v : Holds) (after : Coordinator) (calls : ℕ) : Type 0 where
  pub course : Course
  pub talks : Talks r number served before after request calls course
  pub ends : Ends w left move course turn v

abbrev pub MovesOver : ℕ → ℕ → Bool → Option Left → Move → Holds → Coordinator → Turn → Holds → Coordinator → ℕ → Type 0
MovesOver r number served left (Answers doc point op outcome) w before turn v after calls = AnswersAlone w doc point op left (AnswersBy outcome) turn v × (after ≡ before) × (calls ≡ 0)
MovesOver r number served left (Asks doc point op q) w before turn v after calls = Exchanged r number served left (Asks doc point op q) q w before turn v after calls
MovesOver r number served left Takes w before turn v after calls = Exchanged r number served None Takes Next w before turn v after calls
MovesOver r number served left Stays w before turn v after calls = StaysSo Stopped w before turn v after × (calls ≡ 0)

abbrev pub StepsIfRoom : Bool → ℕ → ℕ → Bool → Holds → Coordinator → Turn → Holds → Coordinator → ℕ → Type 0
StepsIfRoom true r number served w before turn v after calls = StaysSo ActsFull w before turn v after × (calls ≡ 0)
StepsIfRoom false r number served w before turn v after calls = MovesOver r number served (left_in w) (move_in w) w before turn v after calls

-- a step of renderer r, which holds this, over a link whose call with the number fails, served or not
abbrev pub StepsOver : ℕ → ℕ → Bool → Holds → Coordinator → Turn → Holds → Coordinator → ℕ → Type 0
StepsOver r number served w before turn v after calls = StepsIfRoom (nat_le most_acts (length w.acts)) r number served w before turn v after calls

-- WHAT A STEP IS IN A PLAY

-- a turn that made an act, or none, and after which the renderer goes on
pub record HasTurned (acted : Bool) (s : Session) (turns : List Turned) (r : ℕ) (after : Coordinator) (y : Seat) : Type 0 where
  pub turn : Turned
  pub renderer : turn.renderer ≡ r
  pub acts : has_act turn ≡ acted
  pub is : IsTurn s turns turn
  pub now : IsAfter s (turn ∷ turns) after
  pub goes : Goes s (turn ∷ turns) after r y

-- a turn at which the renderer was lost: its loss is all that the log misses
pub record IsLost (s : Session) (turns : List Turned) (r : ℕ) (after : Coordinator) (y : Seat) : Type 0 where
  pub turn : Turned
  pub renderer : turn.renderer ≡ r
  pub acts : has_act turn ≡ true
  pub is : IsTurn s turns turn
  pub rules : after.rules ≡ rules_of s
  pub log : log_of s (turn ∷ turns) ≡ lost_entry r ∷ desk.log_of after.history
  pub serves : after.spent ≡ false
  pub rests : Rests (turn ∷ turns) r y

abbrev pub TurnIs : Session → List Turned → ℕ → Turn → Coordinator → Seat → Type 0
TurnIs s turns r Acted after y = HasTurned true s turns r after y
TurnIs s turns r Idle after y = HasTurned false s turns r after y
TurnIs s turns r Stopped after y = IsLost s turns r after y
TurnIs s turns r (Full len) after y = StopsAtLog s turns r × IsAfter s turns after × (y.holds.acts ≡ record_of r turns)
TurnIs s turns r ActsFull after y = StopsAtActs s turns r × IsAfter s turns after × (y.holds.acts ≡ record_of r turns)
TurnIs s turns r (BadReply place) after y = ⊥
