-- The calls that a renderer makes for one step, and how they end: a request, and More behind it until no more is to be told.
-- Links and replies are this project's own.
use Rattle.std.specs.Prelude.{◌≡◌, ◌⊎◌, ℕ, List, length, reverse, ◌++◌, true, false, Option, Some, Result, Ok, Err}
use Rattle.tree_log.specs.declared.entry.Entry.{Entry}
use Rattle.agent_terms.specs.declared.request.Request.{Request}
use Rattle.agent_terms.specs.declared.request.Request.TheVariants.{More}
use Rattle.agent_terms.specs.declared.request.ReplyOutcome.{ReplyOutcome}
use Rattle.frame_grammar.specs.Cut.{ReplyParts}
use Rattle.link_wire.specs.declared.link.LinkError.{LinkError}
use Rattle.link_wire.specs.declared.link.LinkError.TheVariants.{Failed, NoMemory}
use Rattle.link_wire.specs.declared.link.Link.{Ghosts}
use Rattle.link_wire.specs.Links.{Pending, IsReplyTo, AnswersFit, Hears, GoesOn, Stays, FailsByFault, Counts, step_of, under_way}
use Rattle.link_wire.specs.Replies.{reply_of}
use Rattle.link_wire.specs.Requests.{request_frame}
use Rattle.link_exchange.specs.declared.asking.Heard.{Heard}
use Rattle.link_exchange.specs.declared.asking.Heard.TheVariants as heards
use Rattle.link_exchange.specs.Hearing.{IsStray, TakesIn}

-- a call of a link, which is as the link says of its calls
pub record IsCall {L : Type 0} (link : Ghosts L) (old : L) (request : Request) (result : Result (Unit {0}) LinkError) (answer : List ℕ) (new : L) : Type 0 where
  pub relation : link.relation old (request_frame request) result answer new
  pub answers : AnswersFit (link.renderer old) (link.heard old) (link.pending old) (request_frame request) result answer
  pub hears : Hears (link.heard old) result answer (link.heard new)
  pub goes_on : GoesOn (link.heard old) (link.pending old) (request_frame request) result answer (link.pending new)
  pub stays : Stays (link.renderer old) (link.renderer new)
  pub fails : FailsByFault (link.faults old) (link.faults new) result
  pub counts : Counts (link.faults old) (link.faults new)

-- how the calls end: all was heard, and this is the step's outcome; the link failed; a reply was none to its request; or memory
-- ran out
pub data Course : Type 0 where
  Told : (heard : List Entry) (outcome : ReplyOutcome) → Course
  Fails : Course
  Strays : (place : ℕ) → Course
  Starves : Course

-- a reply to the request of renderer r, which heard these entries
pub record IsAnswered (r : ℕ) (heard : List Entry) (pending : Option Pending) (request : Request) (bytes : List ℕ) (answer : ReplyParts) : Type 0 where
  pub reads : reply_of bytes ≡ Ok answer
  pub right : IsReplyTo r heard pending request answer

-- From a link on, the calls of renderer r that begin with this request, where it heard these entries and this step was under way
pub data Exchanges {L : Type 0} (link : Ghosts L) (r : ℕ) : L → List Entry → Option Pending → Request → Course → L → Type 0 where
  Unasked : (old : L) (heard : List Entry) (pending : Option Pending) (request : Request) → Exchanges link r old heard pending request Starves old
  Unanswered : (old new : L) (heard : List Entry) (pending : Option Pending) (request : Request) (bytes : List ℕ)
      → IsCall link old request (Err NoMemory) bytes new → Exchanges link r old heard pending request Starves new
  Unread : (old new : L) (heard : List Entry) (pending : Option Pending) (request : Request) (bytes : List ℕ)
      → IsCall link old request (Ok tt) bytes new → Exchanges link r old heard pending request Starves new
  Fails_now : (old new : L) (heard : List Entry) (pending : Option Pending) (request : Request) (bytes : List ℕ)
      → IsCall link old request (Err Failed) bytes new → Exchanges link r old heard pending request Fails new
  Strays_now : (old new : L) (heard : List Entry) (pending : Option Pending) (request : Request) (bytes : List ℕ) (place : ℕ)
      → IsCall link old request (Ok tt) bytes new → IsStray r heard pending request bytes place → Exchanges link r old heard pending request (Strays place) new
  Ends : (old new : L) (heard : List Entry) (pending : Option Pending) (request : Request) (bytes : List ℕ) (answer : ReplyParts)
      → IsCall link old request (Ok tt) bytes new → IsAnswered r heard pending request bytes answer → answer.more ≡ false
      → Exchanges link r old heard pending request (Told (reverse answer.news ++ heard) (step_of (length heard) pending request answer.outcome).outcome) new
  Goes_on : (old mid new : L) (heard : List Entry) (pending : Option Pending) (request : Request) (bytes : List ℕ) (answer : ReplyParts) (course : Course)
      → IsCall link old request (Ok tt) bytes mid → IsAnswered r heard pending request bytes answer → answer.more ≡ true
      → Exchanges link r mid (reverse answer.news ++ heard) (under_way (length heard) pending request answer) More course new
      → Exchanges link r old heard pending request course new

-- where it tells, it tells this
pub record Knows {L : Type 0} (link : Ghosts L) (r : ℕ) (l : L) (heard : List Entry) (pending : Option Pending) : Type 0 where
  pub renderer : (x : ℕ) → link.renderer l ≡ Some x → x ≡ r
  pub heard_are : (entries : List Entry) → link.heard l ≡ Some entries → entries ≡ heard
  pub under : (entries : List Entry) → link.heard l ≡ Some entries → link.pending l ≡ pending

-- ---- one call; for private clauses

abbrev pub AskedOnce : {L : Type 0} → Ghosts L → L → List Entry → Request → Heard → L → List Entry → Type 0
AskedOnce link old heard request heards.Failed new now = (bytes : List ℕ) × IsCall link old request (Err Failed) bytes new
AskedOnce link old heard request outcome new now = (bytes : List ℕ) × IsCall link old request (Ok tt) bytes new × TakesIn heard request bytes outcome now

-- it made no call, or one that didn't fail
abbrev pub HasCalled : {L : Type 0} → Ghosts L → L → Request → L → Type 0
HasCalled link old request new =
    (new ≡ old) ⊎ ((bytes : List ℕ) × (IsCall link old request (Ok tt) bytes new ⊎ IsCall link old request (Err NoMemory) bytes new))
