-- What a quiet log's tasks are, and which entries keep a log quiet.
use Rattle.std.proofs.Common.{◌≡◌, ℕ, List, [], ◌∷◌, length, Option, Some, None, Bool, true, false, refl, sym, ap, ◌∙◌, inl, inr}
use mathlib.Core.Logic.{◌⊎◌}
use Rattle.std.specs.Prelude.{if◌then◌else◌}
use Rattle.std.specs.Option.{option_or}
use Rattle.window_props.specs.declared.value.Value.{Value}
use Rattle.tree_log.specs.declared.entry.Entry.{Entry}
use Rattle.tree_log.specs.declared.entry.Load.{Load}
use Rattle.tree_log.specs.declared.entry.What.{What}
use Rattle.tree_log.specs.declared.entry.What.TheVariants.{Open, Frame, Drop, Begin, Commit, Post, Closing, Sync}
use Rattle.tree_log.specs.Range.{HasAscendingKeys}
use Rattle.tree_log.specs.Tree.{Tree, tree_of, children_of}
use Rattle.tree_log.proofs.Admitted.{both}
use Rattle.agent_terms.specs.declared.request.Request.{Request}
use Rattle.agent_terms.specs.declared.request.Request.TheVariants as ask
use Rattle.coordinator_rules.specs.Navigation.{is_in}
use Rattle.coordinator_rules.specs.NextTask.{load_waits, load_task, is_over, task_of, first_task, next_task}
use Rattle.object_access.specs.Registers.{task_written}
use Rattle.coordinator_rules.specs.Decision.{Rules}
use Rattle.session_player.specs.declared.requests.Replied.{Replied}
use Rattle.session_player.specs.Serves.{Decides}
use Rattle.session_player.specs.Quiet.{is_quiet, are_quiet, is_commit}

-- THE TASKS OF A QUIET LOG

waiting_commits : (b : Bool) (nav doc place : ℕ) (what : What) → (if b then Some (Commit nav doc place) else None) ≡ Some what → is_commit what ≡ true
waiting_commits true nav doc place what h = let same : Commit nav doc place ≡ what = cc in ap is_commit (sym same)
waiting_commits false nav doc place what h = absurd cc

load_commits : (t : Tree) (r place nav : ℕ) (load : Option Load) (what : What) → load_task t r place nav load ≡ Some what → is_commit what ≡ true
load_commits t r place nav None what h = absurd cc
load_commits t r place nav (Some load) what h = waiting_commits (load_waits t r nav load) nav load.doc place what h

task_commits : (t : Tree) (over : ℕ → ℕ → Bool) (r place : ℕ) (w what : What) → is_quiet w ≡ true → task_of t over r place w ≡ Some what → is_commit what ≡ true
task_commits t over r place (Open nav _ _ _ _ _ _ _ _ load) what quiet h = load_commits t r place nav load what h
task_commits t over r place (Frame nav _ _ _ _ _ load) what quiet h = load_commits t r place nav load what h
task_commits t over r place (Begin nav load) what quiet h = load_commits t r place nav (Some load) what h
task_commits t over r place (Post _ _ _ _ _) what quiet h = absurd cc
task_commits t over r place (Closing _) what quiet h = absurd cc
task_commits t over r place _ what quiet h = absurd cc

either_is : (a b : Option What) (what : What) → option_or a b ≡ Some what → (a ≡ Some what) ⊎ (b ≡ Some what)
either_is (Some w) b what h = inl h
either_is None b what h = inr h

first_commits : (t : Tree) (over : ℕ → ℕ → Bool) (r : ℕ) (log : List Entry) (what : What) → are_quiet log ≡ true → first_task t over r log ≡ Some what → is_commit what ≡ true
first_commits t over r [] what quiet h = absurd cc
first_commits t over r (e ∷ older) what quiet h =
    let two = both (is_quiet e.what) (are_quiet older) quiet in
    elim (either_is (first_task t over r older) (task_of t over r (length older) e.what) what h) [
      | inl p ↦ first_commits t over r older what two.1 p
      | inr p ↦ task_commits t over r (length older) e.what what two.0 p
    ]

-- the next task of a quiet log is a commit
pub next_commits : (log : List Entry) (r : ℕ) (what : What) → are_quiet log ≡ true → next_task log r ≡ Some what → is_commit what ≡ true
unfolding next_task
next_commits log r what quiet h = first_commits (tree_of log) (is_over log) r log what quiet h

-- an entry that keeps a log quiet has no data
pub quiet_ascends : (what : What) → is_quiet what ≡ true → HasAscendingKeys what
quiet_ascends (Post _ _ _ _ _) h = absurd cc
quiet_ascends _ h = tt

-- a commit keeps a log quiet
pub commit_quiet : (what : What) → is_commit what ≡ true → is_quiet what ≡ true
commit_quiet (Commit nav doc begin) h = refl
commit_quiet _ h = absurd cc

-- a commit writes no register
pub commit_writes : (log : List Entry) (what : What) (registers : ℕ → List ℕ → Value) → is_commit what ≡ true → task_written log what registers ≡ registers
commit_writes log (Commit nav doc begin) registers h = refl
commit_writes log _ registers h = absurd cc

-- WHAT KEEPS A LOG QUIET

if_quiet : (b : Bool) (x y : What) → is_quiet x ≡ true → is_quiet y ≡ true → is_quiet (if b then x else y) ≡ true
if_quiet true x y h k = h
if_quiet false x y h k = k

pub decided_quiet : (rules : Rules) (t : Tree) (q : Request) (w : What) (reply : Replied) → Decides rules t q w reply → is_quiet w ≡ true
decided_quiet rules t (ask.Sync asker) w reply h = ap is_quiet h.0
decided_quiet rules t (ask.Frame asker name flags url) w reply h = ap is_quiet h.0
decided_quiet rules t (ask.Drop asker nav) w reply h = ap is_quiet h.0 ∙ if_quiet (is_in nav (children_of t asker)) (Drop nav) Sync refl refl
decided_quiet rules t _ w reply h = absurd h

-- one entry more
pub quiet_more : (e : Entry) (log : List Entry) → is_quiet e.what ≡ true → are_quiet log ≡ true → are_quiet (e ∷ log) ≡ true
quiet_more e log here older = rw (here, older) refl
