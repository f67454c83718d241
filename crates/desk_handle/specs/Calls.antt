-- What calls on a handle do, in the terms of the coordinator behind it.
use Rattle.std.specs.Prelude.{ℕ, ◌≡◌, ◌⊎◌, ◌≤◌, ◌++◌, drop, ◌∷◌, [], ◌&&◌, nat_lt, nat_le, not, ◌+◌, List, length, false, Option, Some, None, Result, Ok, Err, if◌then◌else◌}
use Rattle.std.specs.Bool.{MatchBool}
use Rattle.agent_terms.specs.Limits.{most_starts, most_renderers}
use Rattle.byte_answers.specs.Answers.{IsRefused}
use Rattle.byte_answers.specs.Rules.{and_then, page_told, suffixes_told}
use Rattle.byte_answers.specs.declared.answer.Answer.{Answer}
use Rattle.byte_answers.specs.declared.answer.Answer.TheVariants as answers
use Rattle.desk.specs.History.{log_of}
use Rattle.desk.specs.Serving.{Coordinator, GivesUp, IsAt, IsServed}
use Rattle.desk.specs.declared.item.Item.TheVariants.{Entered}
use Rattle.frame_grammar.specs.Cut.{most_body}
use Rattle.origin_core.specs.Page.{is_web_text}
use Rattle.single_agent.specs.LegalLog.{lost_entry}
use Rattle.single_agent.specs.LegalRecord.{is_lost_on}
use Rattle.single_agent.specs.Session.{start_entry}
use Rattle.trace_text.specs.LogText.{entry_words}
use Rattle.tree_log.specs.Log.{entry_at}
use Rattle.tree_log.specs.Tree.{tree_of}
use Rattle.tree_log.specs.declared.entry.Entry.{Entry}

-- a handle with a coordinator has one afterwards, and the two stand in a relation
abbrev pub Changes : Option Coordinator → Option Coordinator → (Coordinator → Coordinator → Type 0) → Type 0
Changes (Some old) (Some new) F = F old new
Changes _ _ F = ⊥

-- it has the same one afterwards, of which something is true
abbrev pub Reads : Option Coordinator → Option Coordinator → (Coordinator → Type 0) → Type 0
Reads old new F = Changes old new (λ d e. (e ≡ d) × F d)

-- MAKING ONE

-- the coordinator that is to be made, or why there is none
abbrev pub made : ℕ → List ℕ → Result Coordinator Answer
made renderers suffixes =
    if nat_lt 0 renderers && nat_le renderers most_renderers
    then and_then (suffixes_told suffixes) (λ listed. Ok (record { rules = record { renderers = renderers; suffixes = listed }; history = []; spent = false }))
    else Err answers.OutOfRange

-- the handle has it, or none
abbrev pub IsOpen : Result Coordinator Answer → Option Coordinator → Answer → Type 0
IsOpen (Ok d) now answer = (answer ≡ answers.Done) × (now ≡ Some d)
IsOpen (Err why) now answer = (answer ≡ why) × (now ≡ None)

-- the same, or memory ran out
abbrev pub Opens : Result Coordinator Answer → Option Coordinator → Answer → Type 0
Opens expected now answer = IsOpen expected now answer ⊎ IsOpen (Err answers.NoMemory) now answer

-- START WINDOWS

-- the http or https URL that bytes are
abbrev pub web_told : List ℕ → Result (List ℕ) Answer
web_told url = and_then (page_told url) (λ page. if is_web_text page then Ok page else Err answers.SchemeOut)

-- nothing changed, for a reason
abbrev pub StaysAs : Answer → Coordinator → Coordinator → ℕ → ℕ → Answer → Type 0
StaysAs why old new before now answer = (answer ≡ why) × (new ≡ old) × (now ≡ before)

-- a start window is open, with its number; or memory ran out
abbrev pub IsStarted : List ℕ → Coordinator → Coordinator → ℕ → ℕ → Answer → Type 0
IsStarted page old new before now answer =
    ((answer ≡ answers.Done) × IsAt (Entered (start_entry old.rules (tree_of (log_of old.history)) page) ∷ old.history) old new × (now ≡ (tree_of (log_of old.history)).navs))
    ⊎ ((answer ≡ answers.NoMemory) × GivesUp old new × (now ≡ before))

-- the same, where the log is that of a beginning
abbrev pub Starts : List ℕ → Coordinator → Coordinator → ℕ → ℕ → Answer → Type 0
Starts page old new before now answer =
    MatchBool (nat_lt (length (log_of old.history)) (most_starts + most_renderers))
    (IsStarted page old new before now answer)
    (StaysAs answers.OutOfRange old new before now answer)

abbrev pub IsStartOn : Result (List ℕ) Answer → Coordinator → Coordinator → ℕ → ℕ → Answer → Type 0
IsStartOn (Ok page) old new before now answer = Starts page old new before now answer
IsStartOn (Err why) old new before now answer = StaysAs why old new before now answer

-- the same on what was given as the URL, or memory ran out as that was read
abbrev pub StartsOn : Result (List ℕ) Answer → Coordinator → Coordinator → ℕ → ℕ → Answer → Type 0
StartsOn told old new before now answer = IsStartOn told old new before now answer ⊎ StaysAs answers.NoMemory old new before now answer

-- SERVING

-- how many bytes a reply has at most
abbrev pub most_reply : ℕ
most_reply = 6 + most_body

-- the whole reply stands at the front of the buffer
pub record IsSent (reply before now : List ℕ) (len : ℕ) (answer : Answer) : Type 0 where
  pub done : answer ≡ answers.Done
  pub short : length reply ≤ most_reply
  pub counted : len ≡ length reply
  pub written : now ≡ reply ++ drop (length reply) before

-- bytes of renderer r are answered, and the reply is sent; or memory ran out
pub data IsReplied (r : ℕ) (bytes : List ℕ) (old new : Coordinator) (before now : List ℕ) (len : ℕ) (answer : Answer) : Type 0 where
  Replied : (reply : List ℕ) → IsServed r bytes old reply new → IsSent reply before now len answer → IsReplied r bytes old new before now len answer
  Spent : GivesUp old new → IsRefused answers.NoMemory before now len answer → IsReplied r bytes old new before now len answer

-- nothing changed, for a reason
abbrev pub IsIdle : Answer → Coordinator → Coordinator → List ℕ → List ℕ → ℕ → Answer → Type 0
IsIdle why old new before now len answer = (new ≡ old) × IsRefused why before now len answer

-- the same, where there is such a renderer and the buffer has room for every reply
abbrev pub Serves : ℕ → List ℕ → Coordinator → Coordinator → List ℕ → List ℕ → ℕ → Answer → Type 0
Serves r bytes old new before now len answer =
    MatchBool (nat_lt r old.rules.renderers)
    (MatchBool (nat_le most_reply (length before)) (IsReplied r bytes old new before now len answer) (IsIdle answers.NoRoom old new before now len answer))
    (IsIdle answers.OutOfRange old new before now len answer)

-- LOSING

-- a renderer that there is and that isn't lost is lost, or memory ran out
abbrev pub Loses : ℕ → Coordinator → Coordinator → Answer → Type 0
Loses r old new answer =
    MatchBool (nat_lt r old.rules.renderers && not (is_lost_on r (log_of old.history)))
    (((answer ≡ answers.Done) × IsAt (Entered (lost_entry r) ∷ old.history) old new) ⊎ ((answer ≡ answers.NoMemory) × GivesUp old new))
    ((answer ≡ answers.OutOfRange) × (new ≡ old))

-- READING

abbrev pub line_or_none : ℕ → Option Entry → Result (List ℕ) Answer
line_or_none place (Some entry) = Ok (entry_words place entry)
line_or_none place None = Err answers.OutOfRange

-- the line of the log's entry at a place
abbrev pub line_told : Coordinator → ℕ → Result (List ℕ) Answer
line_told desk place = line_or_none place (entry_at (log_of desk.history) place)
