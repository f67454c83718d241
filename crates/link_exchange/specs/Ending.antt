-- How a renderer's calls end, as a value that code hands on; for private clauses.
use Rattle.std.specs.Prelude.{◌≡◌, ℕ, List, true, false, Option}
use Rattle.tree_log.specs.declared.entry.Entry.{Entry}
use Rattle.agent_terms.specs.declared.request.Request.{Request}
use Rattle.agent_terms.specs.declared.request.ReplyOutcome.{ReplyOutcome}
use Rattle.link_wire.specs.Links.{Pending, names_what_is_there, answers}
use Rattle.link_wire.specs.declared.link.Link.{Ghosts}
use Rattle.link_exchange.specs.Calls.{Course, Told, Fails, Strays, Starves, Exchanges}
use Rattle.link_exchange.specs.declared.exchanging.End.{End}
use Rattle.link_exchange.specs.declared.exchanging.End.TheVariants as ends

-- how the calls ended, where this was heard by then
abbrev pub course_of : End → List Entry → Course
course_of (ends.Told outcome) heard = Told heard outcome
course_of ends.Failed heard = Fails
course_of (ends.Strays place) heard = Strays place

abbrev pub Ended : {L : Type 0} → Ghosts L → ℕ → L → List Entry → Option Pending → Request → End → List Entry → L → Type 0
Ended link r old heard pending request end now new = Exchanges link r old heard pending request (course_of end now) new

abbrev pub Starved : {L : Type 0} → Ghosts L → ℕ → L → List Entry → Option Pending → Request → L → Type 0
Starved link r old heard pending request new = Exchanges link r old heard pending request Starves new

-- all was told: what the outcome names is there, or else the reply was none
abbrev pub Whole : ℕ → List Entry → ℕ → ReplyOutcome → End → Type 0
Whole r now older outcome (ends.Told given) = (given ≡ outcome) × (names_what_is_there r now older outcome ≡ true)
Whole r now older outcome ends.Failed = ⊥
Whole r now older outcome (ends.Strays place) = (place ≡ 0) × (names_what_is_there r now older outcome ≡ false)

-- an outcome that is told is this one, and what it names is there
abbrev pub HasOutcome : ℕ → List Entry → ℕ → ReplyOutcome → End → Type 0
HasOutcome r now older outcome (ends.Told given) = (given ≡ outcome) × (names_what_is_there r now older outcome ≡ true)
HasOutcome r now older outcome _ = Unit {0}

-- an outcome that is told is one that the request may have, and what it names is there
abbrev pub IsReplied : Request → ℕ → List Entry → ℕ → End → Type 0
IsReplied request r now older (ends.Told outcome) = (answers request outcome ≡ true) × (names_what_is_there r now older outcome ≡ true)
IsReplied request r now older _ = Unit {0}
