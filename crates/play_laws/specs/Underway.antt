-- A session that is being played, and what a play left. Plays are this project's own.
use Rattle.std.specs.Prelude.{◌≡◌, ◌⊎◌, ℕ, ◌+◌, ◌-◌, ◌*◌, ◌<◌, ◌≤◌, List, [], ◌∷◌, length, slice_get, Bool, Some, true, false, All}
use Rattle.tree_log.specs.declared.entry.Entry.{Entry}
use Rattle.agent_terms.specs.Limits.{most_acts, most_renderers, most_starts}
use Rattle.agent_terms.specs.declared.session.Session.{Session}
use Rattle.agent_terms.specs.declared.act.Ending.{Ending}
use Rattle.desk.specs.History as desk
use Rattle.desk.specs.Serving.{Coordinator}
use Rattle.log_laws.specs.Homes.{HasWebPages}
use Rattle.single_agent.specs.Turns.{Turned, log_of, record_of, next_renderer, has_act, StopsAtActs, StopsAtLog, EndsBy, ArePlayed}
use Rattle.step_ranges.specs.Ranges.{are_pages_short}
use Rattle.renderer.specs.declared.turn.Turn.{Turn}
use Rattle.renderer.specs.declared.turn.Turn.TheVariants.{Acted, Idle, Stopped, Full, ActsFull, BadReply}
use Rattle.renderer.specs.Holding.{fresh}
use Rattle.turn_laws.specs.Playing.{Goes, IsAfter, Rests, Seat}

-- a session that can be played: what it has is within the limits of sessions
pub record IsPlayable (s : Session) : Type 0 where
  pub some : 0 < s.renderers
  pub few : s.renderers ≤ most_renderers
  pub starts : length s.start ≤ most_starts
  pub order : All (λ r. r < s.renderers) s.order
  pub short : are_pages_short s.pages ≡ true
  pub web : HasWebPages s

-- the renderer with this number goes on, or was lost
abbrev pub IsSeated : Session → List Turned → Coordinator → ℕ → Seat → Type 0
IsSeated s turns c r x = (x.holds.renderer ≡ r) × (Goes s turns c r x ⊎ Rests turns r x)

-- the turns so far, and what the coordinator and the renderers hold after them
pub record IsUnderway (s : Session) (turns : List Turned) (c : Coordinator) (seats : List Seat) : Type 0 where
  pub played : ArePlayed s turns
  pub now : IsAfter s turns c
  pub count : length seats ≡ s.renderers
  pub seated : (r : ℕ) (x : Seat) → slice_get seats r ≡ Some x → IsSeated s turns c r x

-- it is this renderer's turn
pub record IsDue (s : Session) (r : ℕ) (c : Coordinator) (seats : List Seat) : Type 0 where
  pub turns : List Turned
  pub underway : IsUnderway s turns c seats
  pub due : next_renderer s turns ≡ Some r

-- how many acts may still be made
abbrev pub acts_left : List Seat → ℕ
acts_left [] = 0
acts_left (x ∷ seats) = (most_acts - length x.holds.acts) + acts_left seats

-- the renderers have these records, by their numbers
pub record HasLeft (s : Session) (turns : List Turned) (log : List Entry) (seats : List Seat) : Type 0 where
  pub played : ArePlayed s turns
  pub log_is : log ≡ log_of s turns
  pub records_are : (r : ℕ) (x : Seat) → slice_get seats r ≡ Some x → x.holds.acts ≡ record_of r turns
  pub numbered : (r : ℕ) (x : Seat) → slice_get seats r ≡ Some x → x.holds.renderer ≡ r
  pub count : length seats ≡ s.renderers

-- a turn of renderer r after others made an act, or none
pub record HasTurn (s : Session) (turns : List Turned) (r : ℕ) (acted : Bool) (c : Coordinator) (seats : List Seat) : Type 0 where
  pub turn : Turned
  pub renderer : turn.renderer ≡ r
  pub acts : has_act turn ≡ acted
  pub underway : IsUnderway s (turn ∷ turns) c seats

-- what a turn of renderer r, after others, leaves
abbrev pub TurnEnds : Session → List Turned → ℕ → List Seat → Turn → Coordinator → List Seat → Type 0
TurnEnds s turns r old Acted c seats = HasTurn s turns r true c seats × (acts_left seats < acts_left old)
TurnEnds s turns r old Stopped c seats = HasTurn s turns r true c seats × (acts_left seats < acts_left old)
TurnEnds s turns r old Idle c seats = HasTurn s turns r false c seats × (acts_left seats ≤ acts_left old)
TurnEnds s turns r old (Full len) c seats = StopsAtLog s turns r × HasLeft s turns (desk.log_of c.history) seats
TurnEnds s turns r old ActsFull c seats = StopsAtActs s turns r × HasLeft s turns (desk.log_of c.history) seats
TurnEnds s turns r old (BadReply place) c seats = ⊥

-- the turns stand before a round
pub record AtRound (s : Session) (turns : List Turned) : Type 0 where
  pub rounds : ℕ
  pub count : length turns ≡ length s.order + rounds * s.renderers
  pub due : next_renderer s turns ≡ Some 0

-- how a play ended
pub record HasEnded (s : Session) (how : Ending) (log : List Entry) (seats : List Seat) : Type 0 where
  pub turns : List Turned
  pub left : HasLeft s turns log seats
  pub ends : EndsBy s turns how

-- the play goes on before a round
pub record GoesOn (s : Session) (c : Coordinator) (seats : List Seat) : Type 0 where
  pub turns : List Turned
  pub underway : IsUnderway s turns c seats
  pub at : AtRound s turns

-- workers with nothing in them, each by its number
abbrev pub AreFresh : Session → List Seat → Type 0
AreFresh s seats = (r : ℕ) (x : Seat) → slice_get seats r ≡ Some x → x ≡ record { holds = fresh r s.pages; calls = 0 }
