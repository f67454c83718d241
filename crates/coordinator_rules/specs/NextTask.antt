-- What waits at a renderer, and what it does next (HTML Standard, 8.1.7, event loops; 7.4.2.2, beginning navigation; 9.3.3,
-- posting messages; 7.2.2.1, close). One queue of tasks for each renderer, in the order of the log, is this project's own.
use Rattle.std.specs.Prelude.{ℕ, List, [], ◌∷◌, length, Option, Some, None, Bool, true, false, not, ◌==◌, ◌&&◌, if◌then◌else◌}
use Rattle.std.specs.Option.{option_or}
use Rattle.coordinator_rules.specs.Names.{Origin, Entry, Load, Target, What, Open, Frame, Begin, Commit, Post, Fire, Lapse, Closing, Gone}
use Rattle.origin_core.specs.Origin.{is_same_origin}
use Rattle.tree_log.specs.declared.entry.Target.TheVariants as targets
use Rattle.tree_log.specs.declared.entry.Cause.TheVariants as causes
use Rattle.tree_log.specs.Log.{is}
use Rattle.tree_log.specs.Facts.{some_entry}
use Rattle.tree_log.specs.Tree.{Tree, tree_of, home_of, origin_of, is_active, is_discarded}

-- Loads: a load waits at the home of its document until it is committed, a later load of its navigable begins, or the
-- navigable is discarded
abbrev pub load_waits : Tree → ℕ → ℕ → Load → Bool
load_waits t r nav load = load.home == r && is (t.nav nav).last_load load.doc && not (t.doc load.doc).been_active && not (is_discarded t nav)

abbrev pub load_task : Tree → ℕ → ℕ → ℕ → Option Load → Option What
load_task t r place nav None = None
load_task t r place nav (Some load) = if load_waits t r nav load then Some (Commit nav load.doc place) else None

-- Messages: whether a message for this target is for documents of this origin
abbrev pub is_for : Target → Origin → Bool
is_for targets.Any origin = true
is_for targets.Never origin = false
is_for (targets.Origin wanted) origin = is_same_origin wanted origin

-- the message at a place fires at its document, where that is active and of an origin that the message is for; else it lapses
abbrev pub delivery : Tree → ℕ → ℕ → Target → What
delivery t place to target =
    if not (is_active t to) then Lapse to place causes.Inactive
    else if is_for target (origin_of t to) then Fire to place
    else Lapse to place causes.Origin

-- whether an entry is the end of the message to this document that stands at this place
abbrev pub ends : ℕ → ℕ → What → Bool
ends to place (Fire doc post) = doc == to && post == place
ends to place (Lapse doc post _) = doc == to && post == place
ends to place _ = false

abbrev pub is_over : List Entry → ℕ → ℕ → Bool
is_over log to place = some_entry (λ e. ends to place e.what) log

-- a message waits at the home of its document until it fires or lapses
abbrev pub message_task : Tree → (ℕ → ℕ → Bool) → ℕ → ℕ → ℕ → Target → Option What
message_task t over r place to target = if home_of t to == r && not (over to place) then Some (delivery t place to target) else None

-- Windows that close: a window that was asked to close waits at the home of its active document until it is discarded
abbrev pub closing_task : Tree → ℕ → ℕ → Option What
closing_task t r nav = if home_of t (t.nav nav).active == r && not (is_discarded t nav) then Some (Gone nav) else None

-- Tasks: what the entry at a place leaves to be done at renderer r, on the tree of the whole log and the messages that are over
abbrev pub task_of : Tree → (ℕ → ℕ → Bool) → ℕ → ℕ → What → Option What
task_of t over r place (Open nav _ _ _ _ _ _ _ _ load) = load_task t r place nav load
task_of t over r place (Frame nav _ _ _ _ _ load) = load_task t r place nav load
task_of t over r place (Begin nav load) = load_task t r place nav (Some load)
task_of t over r place (Post to _ _ target _) = message_task t over r place to target
task_of t over r place (Closing nav) = closing_task t r nav
task_of t over r place _ = None

-- the first task that the entries of a log leave
abbrev pub first_task : Tree → (ℕ → ℕ → Bool) → ℕ → List Entry → Option What
first_task t over r [] = None
first_task t over r (e ∷ older) = option_or (first_task t over r older) (task_of t over r (length older) e.what)

-- the next task of renderer r: that of its waiting item of least place
unfoldable pub next_task : List Entry → ℕ → Option What
next_task log r = first_task (tree_of log) (is_over log) r log

-- the entry by which renderer r takes a task
abbrev pub task_entry : ℕ → What → Entry
task_entry r what = record { by = Some r; actor = None; what = what }
