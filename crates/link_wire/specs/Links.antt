-- What a link answers to requests. The entries that a renderer heard stand newest first, those of a reply oldest first.
use Rattle.std.specs.Prelude.{◌≡◌, ℕ, ◌+◌, ◌≤◌, nat_lt, nat_le, ◌==◌, ◌&&◌, List, [], ◌∷◌, ◌++◌, length, reverse, Bool, true, false, not, Option, Some, None, is_some, Result, Ok, Err, if◌then◌else◌}
use Rattle.ports.specs.Causes.{Rose, StandsStill}
use Rattle.tree_log.specs.declared.entry.Entry.{Entry}
use Rattle.tree_log.specs.declared.entry.What.{What}
use Rattle.tree_log.specs.declared.entry.What.TheVariants.{Commit, Post, Fire, Lapse, Gone}
use Rattle.tree_log.specs.Admits.{admits}
use Rattle.tree_log.specs.Log.{entry_at}
use Rattle.tree_log.specs.Tree.{tree_of, home_of}
use Rattle.agent_terms.specs.Limits.{most_entries, most_renderers}
use Rattle.agent_terms.specs.declared.request.Request.{Request}
use Rattle.agent_terms.specs.declared.request.Request.TheVariants as ask
use Rattle.agent_terms.specs.declared.request.ReplyOutcome.{ReplyOutcome}
use Rattle.agent_terms.specs.declared.request.ReplyOutcome.TheVariants as reply
use Rattle.link_wire.specs.declared.link.LinkError.{LinkError}
use Rattle.link_wire.specs.declared.link.LinkError.TheVariants.{Failed}
use Rattle.frame_grammar.specs.Cut.{ReplyParts}
use Rattle.link_wire.specs.Requests.{request_read}
use Rattle.link_wire.specs.Replies.{reply_of}

-- ---- requests

-- the document was made, is homed at the renderer, and has been active
abbrev pub is_own : ℕ → List Entry → ℕ → Bool
is_own r heard doc = nat_lt doc (tree_of heard).docs && (home_of (tree_of heard) doc == r) && ((tree_of heard).doc doc).been_active

-- the request has no asker, or one of the renderer's own documents asks
abbrev pub is_fit : ℕ → List Entry → Request → Bool
is_fit r heard ask.Next = true
is_fit r heard (ask.Sync asker) = is_own r heard asker
is_fit r heard (ask.Frame asker _ _ _) = is_own r heard asker
is_fit r heard (ask.Drop asker _) = is_own r heard asker
is_fit r heard (ask.Open asker _ _ _ _) = is_own r heard asker
is_fit r heard (ask.Link asker _ _ _ _) = is_own r heard asker
is_fit r heard (ask.Go asker _ _ _) = is_own r heard asker
is_fit r heard (ask.Name asker _ _) = is_own r heard asker
is_fit r heard (ask.Disown asker _) = is_own r heard asker
is_fit r heard (ask.Close asker _ _) = is_own r heard asker
is_fit r heard (ask.Post asker _ _ _) = is_own r heard asker
is_fit r heard (ask.Domain asker _) = is_own r heard asker
is_fit r heard ask.More = true

-- ---- replies

-- what a document's request may be answered besides Unloaded and Full
abbrev pub is_answer : Request → ReplyOutcome → Bool
is_answer (ask.Frame _ _ _ _) (reply.Made nav) = true
is_answer (ask.Open _ _ _ noopener _) (reply.Made nav) = not noopener
is_answer (ask.Open _ _ _ _ _) reply.Null = true
is_answer (ask.Open _ u _ _ _) (reply.Security rule) = is_some u && (rule == 7)
is_answer (ask.Go _ _ _ _) reply.Done = true
is_answer (ask.Go _ _ _ _) (reply.Security rule) = rule == 7
is_answer (ask.Name _ _ _) reply.Done = true
is_answer (ask.Name _ _ _) (reply.Security rule) = rule == 8
is_answer (ask.Disown _ _) reply.Done = true
is_answer (ask.Disown _ _) (reply.Security rule) = rule == 8
is_answer (ask.Sync _) reply.Done = true
is_answer (ask.Drop _ _) reply.Done = true
is_answer (ask.Link _ _ _ _ _) reply.Done = true
is_answer (ask.Close _ _ _) reply.Done = true
is_answer (ask.Post _ _ _ _) reply.Done = true
is_answer (ask.Domain _ _) reply.Done = true
is_answer (ask.Domain _ _) (reply.Security rule) = nat_le 9 rule && nat_le rule 11
is_answer ask.More reply.Done = true
is_answer _ _ = false

-- the request may have this outcome
abbrev pub answers : Request → ReplyOutcome → Bool
answers ask.Next (reply.Task place) = true
answers ask.Next reply.Nothing = true
answers ask.Next (reply.Full len) = true
answers ask.Next _ = false
answers ask.More outcome = is_answer ask.More outcome
answers request (reply.Unloaded place) = true
answers request (reply.Full len) = true
answers request outcome = is_answer request outcome

-- each entry can follow those before it
unfoldable pub are_admitted : List Entry → List Entry → Bool
are_admitted heard [] = true
are_admitted heard (e ∷ news) = admits (tree_of heard) e && are_admitted (e ∷ heard) news

abbrev pub is_posted : What → Bool
is_posted (Post _ _ _ _ _) = true
is_posted _ = false

abbrev pub is_post : Option Entry → Bool
is_post None = false
is_post (Some e) = is_posted e.what

-- a task of the renderer: what names a document names one that is homed there, and a message was heard whole
abbrev pub is_task_of : ℕ → List Entry → What → Bool
is_task_of r log (Commit nav doc begin) = home_of (tree_of log) doc == r
is_task_of r log (Fire doc post) = (home_of (tree_of log) doc == r) && is_post (entry_at log post)
is_task_of r log (Lapse doc post cause) = home_of (tree_of log) doc == r
is_task_of r log (Gone nav) = true
is_task_of r log _ = false

abbrev pub is_some_task : ℕ → List Entry → Option Entry → Bool
is_some_task r log None = false
is_some_task r log (Some e) = is_task_of r log e.what

-- what an outcome names is there: of those heard before and now, the older ones are so many
abbrev pub names_what_is_there : ℕ → List Entry → ℕ → ReplyOutcome → Bool
names_what_is_there r log older (reply.Made nav) = nat_lt nav (tree_of log).navs
names_what_is_there r log older (reply.Task place) = nat_le older place && is_some_task r log (entry_at log place)
names_what_is_there r log older _ = true

-- ---- steps: a request, and the calls of More behind it until no more is to be told

-- a step whose replies so far leave more to be told: the outcome of its first reply, and how many entries had been heard before it
pub record Pending : Type 0 where
  pub outcome : ReplyOutcome
  pub older : ℕ

-- The step that a reply belongs to, by how many entries had been heard before it: More goes on with the step that is under way,
-- and any other request begins one.
abbrev pub step_of : ℕ → Option Pending → Request → ReplyOutcome → Pending
step_of heard (Some step) ask.More outcome = step
step_of heard pending request outcome = record { outcome = outcome; older = heard }

-- what is under way after a reply
abbrev pub under_way : ℕ → Option Pending → Request → ReplyParts → Option Pending
under_way heard pending request answer = if answer.more then Some (step_of heard pending request answer.outcome) else None

-- what the outcome of a step names is there
abbrev pub names_of_step : ℕ → List Entry → Pending → Bool
names_of_step r log step = names_what_is_there r log step.older step.outcome

-- how many entries a renderer hears at most
abbrev pub most_heard : ℕ
most_heard = most_entries + most_renderers

-- A reply to the request of the renderer that heard these entries, where this step was under way. Once the step has no more to
-- tell, what its outcome names is there.
pub record IsReplyTo (r : ℕ) (heard : List Entry) (pending : Option Pending) (request : Request) (answer : ReplyParts) : Type 0 where
  pub outcome : answers request answer.outcome ≡ true
  pub from : answer.from ≡ length heard
  pub admitted : are_admitted heard answer.news ≡ true
  pub room : length heard + length answer.news ≤ most_heard
  pub there : answer.more ≡ false → names_of_step r (reverse answer.news ++ heard) (step_of (length heard) pending request answer.outcome) ≡ true

-- ---- calls

-- to a fit request a link that tells answers with a reply to it
abbrev pub AnswersFit : Option ℕ → Option (List Entry) → Option Pending → List ℕ → Result (Unit {0}) LinkError → List ℕ → Type 0
AnswersFit (Some r) (Some heard) pending bytes (Ok _) answer =
    (request : Request) → request_read bytes ≡ Ok request → is_fit r heard request ≡ true
    → (parts : ReplyParts) × (reply_of answer ≡ Ok parts) × IsReplyTo r heard pending request parts
AnswersFit _ _ pending bytes _ answer = Unit {0}

-- what was heard only grows, or is told no more
abbrev pub Grows : Option (List Entry) → Option (List Entry) → Type 0
Grows old None = Unit {0}
Grows None (Some heard) = ⊥
Grows (Some heard) (Some now) = (news : List Entry) × (now ≡ news ++ heard)

-- and by a call that succeeds it grows by the news of its reply
abbrev pub Hears : Option (List Entry) → Result (Unit {0}) LinkError → List ℕ → Option (List Entry) → Type 0
Hears (Some heard) (Ok _) answer now = (parts : ReplyParts) × (reply_of answer ≡ Ok parts) × (now ≡ Some (reverse parts.news ++ heard))
Hears old _ answer now = Grows old now

-- what is under way after a call that succeeds: by its request and its reply, where the link tells what was heard
abbrev pub GoesOn : Option (List Entry) → Option Pending → List ℕ → Result (Unit {0}) LinkError → List ℕ → Option Pending → Type 0
GoesOn (Some heard) pending bytes (Ok _) answer now =
    (request : Request) (parts : ReplyParts) → request_read bytes ≡ Ok request → reply_of answer ≡ Ok parts
    → now ≡ under_way (length heard) pending request parts
GoesOn _ pending bytes _ answer now = Unit {0}

-- the renderer stays, or is told no more
abbrev pub Stays : Option ℕ → Option ℕ → Type 0
Stays old None = Unit {0}
Stays old (Some r) = old ≡ Some r

abbrev pub FailsByFault : ℕ → ℕ → Result (Unit {0}) LinkError → Type 0
FailsByFault before now (Err Failed) = Rose before now
FailsByFault before now _ = Unit {0}

-- the count doesn't fall, and stands still at its end
abbrev pub Counts : ℕ → ℕ → Type 0
Counts before now = (before ≤ now) × StandsStill before now
