-- The turns of a play, newest first, and what they made. Their order is this project's own: it picks one interleaving of renderers.
use Rattle.std.specs.Prelude.{◌≡◌, ◌⊎◌, ℕ, ◌+◌, ◌-◌, ◌<◌, ◌≤◌, ◌%◌, ◌==◌, ◌&&◌, ◌||◌, not, nat_lt, List, [], ◌∷◌, ◌++◌, Bool, true, false, IsTrue, length, take, Option, Some, None, is_some, slice_get, if◌then◌else◌}
use Rattle.std.specs.List.{list_any}
use Rattle.single_agent.specs.Names.{Session, Act, Move, Answers, Asks, Takes, Stays, Lose, Entry}
use Rattle.agent_terms.specs.declared.act.Ending.{Ending}
use Rattle.agent_terms.specs.declared.act.Ending.TheVariants.{Done, LogFull, ActsFull}
use Rattle.agent_terms.specs.Limits.{most_acts, most_entries, most_made}
use Rattle.tree_log.specs.Tree.{Tree, tree_of, is, is_active}
use Rattle.coordinator_rules.specs.Decision.{rules_of, asker_of, home_if_active}
use Rattle.single_agent.specs.Session.{starts_of, lose_of}
use Rattle.single_agent.specs.LegalLog.{lost_entry}
use Rattle.coordinator_rules.specs.NextTask.{next_task}
use Rattle.single_agent.specs.Lengths.{length_of, newest_length, has_stopped}
use Rattle.single_agent.specs.NextMove.{next_move, move_request}
use Rattle.single_agent.specs.LostAct.{lost_act, exchanged}
use Rattle.single_agent.specs.NextAct.{IsActOn}

-- a turn: whose it was, the act where there was one, and the entries that it made
pub record Turned : Type 0 where
  pub renderer : ℕ
  pub act : Option Act
  pub own : List Entry

-- What the turns made: the log after them
unfoldable pub log_of : Session → List Turned → List Entry
log_of s [] = starts_of s
log_of s (t ∷ older) = t.own ++ log_of s older

abbrev pub with_act : Option Act → List Act → List Act
with_act None acts = acts
with_act (Some a) acts = a ∷ acts

-- the record of a renderer after the turns, newest act first
unfoldable pub record_of : ℕ → List Turned → List Act
record_of r [] = []
record_of r (t ∷ older) = if t.renderer == r then with_act t.act (record_of r older) else record_of r older

-- whether a move makes an exchange with the coordinator
abbrev pub is_exchange : Move → Bool
is_exchange (Answers doc point op outcome) = false
is_exchange (Asks doc point op request) = true
is_exchange Takes = true
is_exchange Stays = false

-- Room: there is room for the entries of one exchange
abbrev pub HasRoom : List Entry → Type 0
HasRoom log = length log + most_made ≤ most_entries

abbrev pub IsFull : List Entry → Type 0
IsFull log = most_entries < length log + most_made

abbrev pub is_full : List Entry → Bool
is_full log = nat_lt most_entries (length log + most_made)

-- Losses: how many exchanges a renderer's acts made: the tasks that it took, and the steps that asked
unfoldable pub calls_of : Session → List Entry → List Act → ℕ
calls_of s log [] = 0
calls_of s log (a ∷ older) = if is_exchange (next_move s log older) then calls_of s log older + 1 else calls_of s log older

-- whether the coordinator's reply to a move counts: any but that no task waits
abbrev pub counts : List Entry → ℕ → Move → Bool
counts log r Takes = is_some (next_task log r) || is_full log
counts log r _ = true

-- whether it is the exchange that is to be lost, after so many that counted: where it is to be served, one that counts
abbrev pub is_named : Option Lose → ℕ → Bool → Bool
is_named None made counted = false
is_named (Some l) made counted = l.call == made + 1 && (counted || not l.served)

-- the exchange that follows so many is the one that is to be lost
abbrev pub LosesAt : Option Lose → ℕ → Type 0
LosesAt None made = ⊥
LosesAt (Some l) made = l.call ≡ made + 1

-- whether renderer r's next exchange is lost, on the log and after its acts
unfoldable pub is_losing : Session → ℕ → List Entry → List Act → Bool
is_losing s r log acts =
    is_named (lose_of s r) (calls_of s log acts) (counts log r (next_move s log acts)) && is_exchange (next_move s log acts)

abbrev pub is_served : Option Lose → Bool
is_served None = false
is_served (Some l) = l.served

-- what a lost exchange leaves in the log: its entries, where it is served and there is room, and the loss
abbrev pub lost_entries : Session → ℕ → List Entry → List Act → List Entry
lost_entries s r log acts =
    lost_entry r ∷ (if is_served (lose_of s r) && not (is_full log) then exchanged (rules_of s) log r (move_request (next_move s log acts)) else [])

-- how much of the log renderer r was told: the whole log, after each of its exchanges that wasn't lost
unfoldable pub told_length : Session → ℕ → List Turned → ℕ
told_length s r [] = 0
told_length s r (t ∷ older) =
    if t.renderer == r && is_exchange (next_move s (log_of s older) (record_of r older)) && not (is_losing s r (log_of s older) (record_of r older))
    then length (t.own ++ log_of s older) else told_length s r older

-- Whose turn is next: whether there was an act
abbrev pub is_some_act : Option Act → Bool
is_some_act None = false
is_some_act (Some a) = true

abbrev pub has_act : Turned → Bool
has_act t = is_some_act t.act

-- in rounds each renderer has a turn by its number; no round follows one in which none acted
abbrev pub next_in_rounds : ℕ → ℕ → List Turned → Option ℕ
next_in_rounds n made turns = if (made % n == 0) && nat_lt 0 made && not (list_any has_act (take n turns)) then None else Some (made % n)

-- first the turns of the session's order, then rounds
unfoldable pub next_renderer : Session → List Turned → Option ℕ
next_renderer s turns =
    if nat_lt (length turns) (length s.order) then slice_get s.order (length turns) else next_in_rounds s.renderers (length turns - length s.order) turns

-- whether a move of renderer r needs room in the log: a request of a document of another renderer, or of one that is no
-- longer active, needs none
abbrev pub needs_room : Tree → ℕ → Move → Bool
needs_room t r (Answers doc point op outcome) = false
needs_room t r (Asks doc point op request) = is (home_if_active t (asker_of request)) r && is_active t (asker_of request)
needs_room t r Takes = true
needs_room t r Stays = false

-- whether renderer r's exchange is lost at its turn
abbrev pub loses_next : Session → List Turned → ℕ → Bool
loses_next s turns r = is_losing s r (log_of s turns) (record_of r turns)

-- an exchange that is lost needs no room either
abbrev pub NeedsRoom : Session → List Turned → ℕ → Type 0
NeedsRoom s turns r =
    (loses_next s turns r ≡ false) × IsTrue (needs_room (tree_of (log_of s turns)) r (next_move s (log_of s turns) (record_of r turns)))

-- renderer r hasn't stopped
abbrev pub GoesOn : List Turned → ℕ → Type 0
GoesOn turns r = has_stopped (record_of r turns) ≡ false

-- Legal turns: renderer r has stopped; or no step is left to it, and no task waits there
abbrev pub HasNothing : Session → ℕ → List Entry → List Act → Type 0
HasNothing s r log acts = (next_move s log acts ≡ Stays) ⊎ ((next_move s log acts ≡ Takes) × (next_task log r ≡ None))

-- what renderer r does at a turn where no exchange is lost: an act, which holds all that r was told; or nothing
abbrev pub Does : Session → ℕ → List Entry → List Act → ℕ → Option Act → List Entry → Type 0
Does s r log acts told None own = HasNothing s r log acts × (own ≡ [])
Does s r log acts told (Some act) own = IsActOn s r log acts act own × (told ≤ length_of act)

-- where its exchange is lost, the act is the lost one, and the loss of r follows
abbrev pub LosesAct : Session → ℕ → List Entry → List Act → ℕ → Option Act → List Entry → Type 0
LosesAct s r log acts told act own = (act ≡ lost_act (newest_length acts) told (next_move s log acts)) × (own ≡ lost_entries s r log acts)

abbrev pub Plays : Bool → Session → ℕ → List Entry → List Act → ℕ → Option Act → List Entry → Type 0
Plays true = LosesAct
Plays false = Does

-- a turn after others
pub record IsTurn (s : Session) (older : List Turned) (t : Turned) : Type 0 where
  pub due : next_renderer s older ≡ Some t.renderer
  pub there : t.renderer < s.renderers
  pub fewer : GoesOn older t.renderer → length (record_of t.renderer older) < most_acts
  pub room : NeedsRoom s older t.renderer → HasRoom (log_of s older)
  pub plays : Plays (loses_next s older t.renderer) s t.renderer (log_of s older) (record_of t.renderer older) (told_length s t.renderer older) t.act t.own

-- turns, each after those before it
abbrev pub ArePlayed : Session → List Turned → Type 0
ArePlayed s [] = Unit {0}
ArePlayed s (t ∷ older) = IsTurn s older t × ArePlayed s older

-- How a play ends: renderer r rests, as at a turn where it has nothing to do
abbrev pub Rests : Session → List Turned → ℕ → Type 0
Rests s turns r = HasNothing s r (log_of s turns) (record_of r turns)

-- it is renderer r's turn, which has as many acts as a record may have
pub record StopsAtActs (s : Session) (turns : List Turned) (r : ℕ) : Type 0 where
  pub due : next_renderer s turns ≡ Some r
  pub goes_on : GoesOn turns r
  pub many : most_acts ≤ length (record_of r turns)

-- it is renderer r's turn, and the log has no room for what it does
pub record StopsAtLog (s : Session) (turns : List Turned) (r : ℕ) : Type 0 where
  pub due : next_renderer s turns ≡ Some r
  pub goes_on : GoesOn turns r
  pub fewer : length (record_of r turns) < most_acts
  pub needs : NeedsRoom s turns r
  pub full : IsFull (log_of s turns)

-- a play is done where none is next and all renderers rest; or it stops at a limit
abbrev pub EndsBy : Session → List Turned → Ending → Type 0
EndsBy s turns Done = (next_renderer s turns ≡ None) × ((r : ℕ) → r < s.renderers → Rests s turns r)
EndsBy s turns LogFull = (r : ℕ) × StopsAtLog s turns r
EndsBy s turns (ActsFull r) = StopsAtActs s turns r
