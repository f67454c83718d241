-- What the coordinator does in an exchange.
use Rattle.std.specs.Prelude.{◌≡◌, ℕ, ◌<◌, List, ◌∷◌, ◌++◌, length, reverse, get_or, slice_set, Some, None, Bool, true, false, if◌then◌else◌}
use Rattle.tree_log.specs.declared.entry.Entry.{Entry}
use Rattle.tree_log.specs.declared.entry.What.{What}
use Rattle.tree_log.specs.declared.entry.What.TheVariants as what
use Rattle.tree_log.specs.Log.{prefix}
use Rattle.tree_log.specs.Tree.{Tree, tree_of, is, is_active, nav_of, children_of}
use Rattle.origin_core.specs.Flags.{union}
use Rattle.agent_terms.specs.declared.request.Request.{Request}
use Rattle.agent_terms.specs.declared.request.Request.TheVariants as ask
use Rattle.agent_terms.specs.declared.request.ReplyOutcome.{ReplyOutcome}
use Rattle.agent_terms.specs.declared.request.ReplyOutcome.TheVariants as outcome
use Rattle.coordinator_rules.specs.Navigation.{flags_in, is_in}
use Rattle.coordinator_rules.specs.NextTask.{next_task, task_entry}
use Rattle.coordinator_rules.specs.Decision.{Rules, asker_of, home_if_active, frame_entry, asked_decision}
use Rattle.single_agent.specs.Turns.{HasRoom, IsFull}
use Rattle.session_player.specs.Quiet.{is_commit}
use Rattle.session_player.specs.declared.desk.Told.{Told}
use Rattle.session_player.specs.declared.desk.NextReply.{NextReply}
use Rattle.session_player.specs.declared.desk.NextReply.TheVariants as next
use Rattle.session_player.specs.declared.desk.AskReply.{AskReply}
use Rattle.session_player.specs.declared.desk.AskReply.TheVariants.{NotYours, Full, Answered}
use Rattle.session_player.specs.declared.requests.Replied.{Replied}
use Rattle.session_player.specs.declared.requests.Replied.TheVariants.{Done, Made, Unloaded}

-- the log, newest entry first, and how much of it each renderer was told
pub record Ledger : Type 0 where
  pub log : List Entry
  pub told : List ℕ

abbrev pub ledger : List Entry → List ℕ → Ledger
ledger log told = record { log = log; told = told }

-- renderer r is told the log from where it was told before; the news stand oldest first
pub record Tells (r : ℕ) (old : List ℕ) (now : Ledger) (told : Told) : Type 0 where
  pub upto : told.upto ≡ length now.log
  pub news : now.log ≡ reverse told.news.items ++ prefix (get_or old r 0) now.log
  pub noted : now.told ≡ slice_set old r (length now.log)

-- renderer r takes its next task: so far always a commit
abbrev pub ServesNext : ℕ → Ledger → NextReply → Ledger → Type 0
ServesNext r l next.Full m = IsFull l.log × (m ≡ l)
ServesNext r l (next.Nothing told) m = HasRoom l.log × (next_task l.log r ≡ None) × (m.log ≡ l.log) × Tells r l.told m told
ServesNext r l (next.Task place told) m =
    HasRoom l.log × (what : What) × (next_task l.log r ≡ Some what) × (is_commit what ≡ true) × (m.log ≡ task_entry r what ∷ l.log) × (place ≡ length l.log) × Tells r l.told m told

-- REQUESTS

-- the outcome that a reply stands for; the place where a document ended isn't told
abbrev pub Replies : Replied → ReplyOutcome → Type 0
Replies Done o = o ≡ outcome.Done
Replies (Made nav) o = o ≡ outcome.Made nav
Replies Unloaded o = (place : ℕ) × (o ≡ outcome.Unloaded place)

-- what a request that steps make comes to, for a document that is active
abbrev pub Decides : Rules → Tree → Request → What → Replied → Type 0
Decides rules t (ask.Sync asker) w reply = (w ≡ what.Sync) × (reply ≡ Done)
Decides rules t (ask.Frame asker name flags url) w reply =
    (w ≡ frame_entry rules t asker name (union flags (flags_in t (nav_of t asker))) url) × (reply ≡ Made t.navs)
Decides rules t (ask.Drop asker nav) w reply =
    (w ≡ (if is_in nav (children_of t asker) then what.Drop nav else what.Sync)) × (reply ≡ Done) × (is_in nav (children_of t asker) ≡ true → nav < t.navs)
Decides rules t _ w reply = ⊥

abbrev pub is_yours : List Entry → ℕ → Request → Bool
is_yours log r q = is (home_if_active (tree_of log) (asker_of q)) r

-- renderer r asks
pub record AnswersRequest (rules : Rules) (r : ℕ) (q : Request) (l : Ledger) (reply : Replied) (told : Told) (m : Ledger) : Type 0 where
  pub yours : is_yours l.log r q ≡ true
  pub room : is_active (tree_of l.log) (asker_of q) ≡ true → HasRoom l.log
  pub log : m.log ≡ (asked_decision rules l.log r q).entries ++ l.log
  pub replies : Replies reply (asked_decision rules l.log r q).outcome
  pub tells : Tells r l.told m told

abbrev pub ServesAsk : Rules → ℕ → Request → Ledger → AskReply → Ledger → Type 0
ServesAsk rules r q l NotYours m = (is_yours l.log r q ≡ false) × (m ≡ l)
ServesAsk rules r q l Full m = (is_yours l.log r q ≡ true) × (is_active (tree_of l.log) (asker_of q) ≡ true) × IsFull l.log × (m ≡ l)
ServesAsk rules r q l (Answered reply told) m = AnswersRequest rules r q l reply told m
