-- A session that is being played.
use Rattle.std.specs.Prelude.{◌≡◌, ℕ, ◌+◌, ◌-◌, ◌*◌, ◌<◌, ◌≤◌, List, [], ◌∷◌, length, map, get_or, slice_get, Option, Some, None, true, false}
use Rattle.tree_log.specs.declared.entry.Entry.{Entry}
use Rattle.tree_log.specs.Log.{prefix}
use Rattle.tree_log.specs.Tree.{tree_of}
use Rattle.tree_log.specs.Urls.{url_of}
use Rattle.agent_terms.specs.declared.session.Session.{Session}
use Rattle.agent_terms.specs.declared.act.Act.{Act}
use Rattle.agent_terms.specs.declared.act.Running.{Running}
use Rattle.agent_terms.specs.declared.act.Ending.{Ending}
use Rattle.tree_log.specs.Admits.{AreAdmitted}
use Rattle.object_access.specs.Registers.{unset}
use Rattle.object_access.specs.StepAnswer.{first_stores}
use Rattle.single_agent.specs.Lengths.{newest_length, has_stopped}
use Rattle.single_agent.specs.Running.{running, step_left}
use Rattle.single_agent.specs.Sights.{registers, stores}
use Rattle.single_agent.specs.Turns.{Turned, log_of, record_of, told_length, next_renderer, has_act, StopsAtActs, StopsAtLog, EndsBy, ArePlayed}
use Rattle.agent_terms.specs.Limits.{most_acts, most_entries}
use Rattle.tree_view.specs.declared.view.View.{Ghosts}
use Rattle.session_player.specs.declared.worker.Worker.{Worker}
use Rattle.session_player.specs.declared.worker.Turn.{Turn}
use Rattle.session_player.specs.declared.worker.Turn.TheVariants.{Acted, Idle, Full, ActsFull, BadReply}
use Rattle.session_player.specs.declared.playing.Round.{Round}
use Rattle.session_player.specs.declared.playing.Round.TheVariants as round
use Rattle.session_player.specs.Serves.{Ledger}
use Rattle.session_player.specs.Steps.{Holds, holds, IsOwnRun, IsSound}
use Rattle.session_player.specs.Held.{held}

-- what the worker runs fits the acts: either no step is left, or it runs what the acts say and has heard just to the
-- newest of them
abbrev pub FitsRun : Session → List Entry → List Act → ℕ → Option Running → Type 0
FitsRun s log acts heard None = step_left s log acts ≡ None
FitsRun s log acts heard (Some run) = (heard ≡ newest_length acts) × (running log acts ≡ Some run)

-- a worker that holds what the log and its acts say, and has heard the log to a place; no act of it was lost
pub record Keeps (s : Session) (r : ℕ) (log : List Entry) (acts : List Act) (told : ℕ) (w : Holds) : Type 0 where
  pub acts_are : w.acts ≡ acts
  pub goes_on : has_stopped acts ≡ false
  pub heard : w.heard ≡ told
  pub within : told ≤ length log
  pub tree : w.tree ≡ tree_of (prefix told log)
  pub urls : w.urls ≡ url_of (prefix told log)
  pub newest : newest_length acts ≤ told
  pub registers : w.registers ≡ registers s log acts
  pub stores : w.stores ≡ stores s log acts
  pub sound : IsSound w
  pub run : FitsRun s log acts told w.run
  pub own : IsOwnRun r w.tree w.run

pub record Seat : Type 0 where
  pub renderer : ℕ
  pub holds : Holds

abbrev pub seat_of : {V : Type 0} (view : Ghosts V) → Worker V view → Seat
seat_of view w = record { renderer = w.renderer; holds = held view w }

abbrev pub seats_of : {V : Type 0} (view : Ghosts V) → List (Worker V view) → List Seat
seats_of view workers = map (seat_of view) workers

-- each worker stands by its number
abbrev pub AreNumbered : List Seat → Type 0
AreNumbered seats = (r : ℕ) (x : Seat) → slice_get seats r ≡ Some x → x.renderer ≡ r

abbrev pub fresh : Holds
fresh = holds [] 0 (tree_of []) (url_of []) None unset first_stores

-- workers with nothing in them, each by its number
abbrev pub AreFresh : List Seat → Type 0
AreFresh seats = (r : ℕ) (x : Seat) → slice_get seats r ≡ Some x → (x.renderer ≡ r) × (x.holds ≡ fresh)

-- so far a session that is played has no losses
pub record IsUnderway (s : Session) (turns : List Turned) (l : Ledger) (seats : List Seat) : Type 0 where
  pub lossless : s.lose ≡ []
  pub played : ArePlayed s turns
  pub log : l.log ≡ log_of s turns
  pub told : (r : ℕ) → get_or l.told r 0 ≡ told_length s r turns
  pub many : length l.told ≡ s.renderers
  pub count : length seats ≡ s.renderers
  pub seated : (r : ℕ) (x : Seat) → slice_get seats r ≡ Some x → Keeps s r (log_of s turns) (record_of r turns) (told_length s r turns) x.holds
  pub few : length l.log ≤ most_entries
  pub admitted : AreAdmitted l.log

-- how many acts may still be made
abbrev pub acts_left : List Seat → ℕ
acts_left [] = 0
acts_left (x ∷ seats) = (most_acts - length x.holds.acts) + acts_left seats

-- what a turn of renderer r, after others, leaves
abbrev pub TurnEnds : Session → List Turned → ℕ → List Seat → Turn → Ledger → List Seat → Type 0
TurnEnds s turns r old Acted l seats = (t : Turned) × (t.renderer ≡ r) × (has_act t ≡ true) × IsUnderway s (t ∷ turns) l seats × (acts_left seats < acts_left old)
TurnEnds s turns r old Idle l seats = (t : Turned) × (t.renderer ≡ r) × (has_act t ≡ false) × IsUnderway s (t ∷ turns) l seats × (acts_left seats ≤ acts_left old)
TurnEnds s turns r old Full l seats = StopsAtLog s turns r × IsUnderway s turns l seats
TurnEnds s turns r old ActsFull l seats = StopsAtActs s turns r × IsUnderway s turns l seats
TurnEnds s turns r old BadReply l seats = ⊥

-- the turns stand before a round
pub record AtRound (s : Session) (turns : List Turned) : Type 0 where
  pub rounds : ℕ
  pub count : length turns ≡ length s.order + rounds * s.renderers
  pub due : next_renderer s turns ≡ Some 0

abbrev pub RoundEnds : Session → List Seat → Round → Ledger → List Seat → Type 0
RoundEnds s old round.Acted l seats = (turns : List Turned) × IsUnderway s turns l seats × AtRound s turns × (acts_left seats < acts_left old)
RoundEnds s old (round.Ended how) l seats = (turns : List Turned) × IsUnderway s turns l seats × EndsBy s turns how
RoundEnds s old round.BadReply l seats = ⊥

-- how the turns of the order end
abbrev pub OrderEnds : Session → Round → Ledger → List Seat → Type 0
OrderEnds s round.Acted l seats = (turns : List Turned) × IsUnderway s turns l seats × AtRound s turns
OrderEnds s (round.Ended how) l seats = (turns : List Turned) × IsUnderway s turns l seats × EndsBy s turns how
OrderEnds s round.BadReply l seats = ⊥

-- WHAT A PLAY LEFT

-- the records of the renderers, by their numbers
pub record IsPlay (s : Session) (how : Ending) (log : List Entry) (seats : List Seat) : Type 0 where
  pub turns : List Turned
  pub played : ArePlayed s turns
  pub log_is : log ≡ log_of s turns
  pub records_are : (r : ℕ) (x : Seat) → slice_get seats r ≡ Some x → x.holds.acts ≡ record_of r turns
  pub count : length seats ≡ s.renderers
  pub numbered : AreNumbered seats
  pub ends : EndsBy s turns how
