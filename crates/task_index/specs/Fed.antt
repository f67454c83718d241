-- What the rows of what waits say of a log: they miss no task.
use Rattle.std.specs.Prelude.{◌≡◌, ℕ, zero, suc, List, [], ◌∷◌, length, Option, Some, None, Bool, true, false, ◌&&◌, ◌||◌, ◌==◌, nat_lt, ◌+◌, if◌then◌else◌, ◌<◌, ◌≤◌}
use Rattle.std.specs.BTreeMap as map
use Rattle.std.specs.BTreeSet as set
use Rattle.std.specs.HashSet as bag
use Rattle.std.specs.Option.{is_none, option_or}
use Rattle.std.specs.Ordering.{nat_cmp}
use Rattle.coordinator_rules.specs.Names.{Entry, Load, What, Open, Frame, Begin, Commit, Post, Fire, Lapse, Closing}
use Rattle.coordinator_rules.specs.NextTask.{is_over, task_of}
use Rattle.task_index.specs.declared.row.Row.{Row}
use Rattle.task_index.specs.declared.waiting.Waiting.{Waiting}
use Rattle.tree_log.specs.Facts.{says_closing}
use Rattle.tree_log.specs.Log.{entry_at}
use Rattle.tree_log.specs.Tree.{Tree, tree_of, home_of}

-- ROWS

-- whether a queue has a place
abbrev pub queued : List ℕ → ℕ → Bool
queued [] place = false
queued (first ∷ places) place = first == place || queued places place

abbrev pub first_queued : List ℕ → Option ℕ
first_queued [] = None
first_queued (first ∷ places) = Some first

-- whether a place is the first of a queue
abbrev pub is_led_by : List ℕ → ℕ → Bool
is_led_by [] place = false
is_led_by (first ∷ places) place = first == place

-- whether the last place of a queue is less than this one
abbrev pub is_last_below : List ℕ → ℕ → Bool
is_last_below [] place = true
is_last_below (last ∷ []) place = nat_lt last place
is_last_below (first ∷ second ∷ places) place = is_last_below (second ∷ places) place

abbrev pub is_before : ℕ → List ℕ → Bool
is_before place [] = true
is_before place (next ∷ places) = nat_lt place next

-- whether each place of a queue is greater than the one before it
abbrev pub ascends : List ℕ → Bool
ascends [] = true
ascends (first ∷ places) = is_before first places && ascends places

-- whether a row has a place
abbrev pub in_row : Row → ℕ → Bool
in_row row place = queued row.queue.items place || set.contains nat_cmp row.moved place

-- how many places a row has, where one that is queued and moved counts twice
abbrev pub row_size : Row → ℕ
row_size row = length row.queue.items + length row.moved.keys

-- the row has lost no place, and its queue still ascends
pub record KeepsRow (old new : Row) : Type 0 where
  pub places : (place : ℕ) → in_row old place ≡ true → in_row new place ≡ true
  pub order : ascends old.queue.items ≡ true → ascends new.queue.items ≡ true

-- whether the row of renderer r has a place
abbrev pub has : List Row → ℕ → ℕ → Bool
has [] r place = false
has (row ∷ rows) zero place = in_row row place
has (row ∷ rows) (suc r) place = has rows r place

-- whether the queue of each row ascends
abbrev pub are_ordered : List Row → Bool
are_ordered [] = true
are_ordered (row ∷ rows) = ascends row.queue.items && are_ordered rows

-- no row has lost a place, and the queues still ascend
pub record KeepPlaces (old new : List Row) : Type 0 where
  pub places : (r place : ℕ) → has old r place ≡ true → has new r place ≡ true
  pub order : are_ordered old ≡ true → are_ordered new ≡ true

-- the least of some places, or none where there is none
abbrev pub IsFirstOf : (ℕ → Bool) → Option ℕ → Type 0
IsFirstOf places None = (place : ℕ) → places place ≡ false
IsFirstOf places (Some first) = (places first ≡ true) × ((place : ℕ) → place < first → places place ≡ false)

abbrev pub lesser : Option ℕ → Option ℕ → Option ℕ
lesser None other = other
lesser (Some place) None = Some place
lesser (Some place) (Some other) = Some (if nat_lt place other then place else other)

-- whether two ends are of one message: of one document and one place
abbrev pub same_end : ℕ × ℕ → ℕ × ℕ → Bool
same_end a b = a.0 == b.0 && a.1 == b.1

-- whether this end came before its message
abbrev pub has_early : Waiting → ℕ → ℕ → Bool
has_early waiting to post = bag.contains same_end waiting.early (to, post)

-- whether the message that stands at a place is over, by a list that may end before it
abbrev pub over_at : List Bool → ℕ → Bool
over_at [] place = false
over_at (over ∷ later) zero = over
over_at (over ∷ later) (suc place) = over_at later place

abbrev pub closing_in : Waiting → ℕ → Option ℕ
closing_in waiting nav = map.get nat_cmp waiting.closings nav

-- WHAT THEY SAY OF A LOG

-- whether a message to a document was posted
abbrev pub is_message_to : ℕ → What → Bool
is_message_to doc (Post to _ _ _ _) = to == doc
is_message_to doc _ = false

abbrev pub holds_message : Option Entry → ℕ → Bool
holds_message None doc = false
holds_message (Some e) doc = is_message_to doc e.what

-- whether a message to a document stands at a place of a log
abbrev pub has_message : List Entry → ℕ → ℕ → Bool
has_message log doc place = holds_message (entry_at log place) doc

-- the place of the first entry that asks a navigable to close
abbrev pub first_closing : List Entry → ℕ → Option ℕ
first_closing [] nav = None
first_closing (e ∷ older) nav = option_or (first_closing older nav) (if says_closing nav e.what then Some (length older) else None)

-- of the entries that ask one navigable to close only the first counts
abbrev pub Counts : List Entry → ℕ → What → Type 0
Counts log place (Closing nav) = first_closing log nav ≡ Some place
Counts log place _ = Unit {0}

abbrev pub task_of_entry : List Entry → ℕ → ℕ → Option Entry → Option What
task_of_entry log r place None = None
task_of_entry log r place (Some e) = task_of (tree_of log) (is_over log) r place e.what

-- the task that the entry at a place leaves to renderer r, if it leaves one
abbrev pub task_at : List Entry → ℕ → ℕ → Option What
task_at log r place = task_of_entry log r place (entry_at log place)

-- the places have that of each entry that counts and leaves a task to renderer r
pub record HasTasks (log : List Entry) (r : ℕ) (places : ℕ → Bool) : Type 0 where
  pub all : (place : ℕ) (e : Entry) (task : What) → entry_at log place ≡ Some e → Counts log place e.what → task_of (tree_of log) (is_over log) r place e.what ≡ Some task → places place ≡ true

-- the rows are those of a log: the row of each renderer has its tasks
pub record IsFed (waiting : Waiting) (log : List Entry) : Type 0 where
  pub over : (to post : ℕ) → has_message log to post ≡ true → over_at waiting.over.items post ≡ is_over log to post
  pub early : (to post : ℕ) → length log ≤ post → has_early waiting to post ≡ is_over log to post
  pub unset : (post : ℕ) → length log ≤ post → over_at waiting.over.items post ≡ false
  pub closings : (nav : ℕ) → closing_in waiting nav ≡ first_closing log nav
  pub order : are_ordered waiting.rows.items ≡ true
  pub tasks : (r : ℕ) → HasTasks log r (has waiting.rows.items r)

-- WHAT AN ENTRY CHANGES

-- no place is lost, and nothing else has changed
pub record IsKept (old new : Waiting) : Type 0 where
  pub over : (post : ℕ) → over_at new.over.items post ≡ over_at old.over.items post
  pub early : (to post : ℕ) → has_early new to post ≡ has_early old to post
  pub closings : (nav : ℕ) → closing_in new nav ≡ closing_in old nav
  pub places : KeepPlaces old.rows.items new.rows.items

-- what an entry names is there
abbrev pub Stands : Tree → What → Type 0
Stands t (Post to _ _ _ _) = to < t.docs
Stands t (Closing nav) = nav < t.navs
Stands t (Commit nav doc _) = doc < t.docs
Stands t _ = Unit {0}

-- a load has its place in the row of its home
abbrev pub DueLoad : List Row → ℕ → Option Load → Type 0
DueLoad rows place None = Unit {0}
DueLoad rows place (Some load) = has rows load.home place ≡ true

-- a navigable that was asked to close has the place of that in the row of a renderer
abbrev pub DueMove : ℕ → ℕ → Waiting → Waiting → Type 0
DueMove home nav old new = (place : ℕ) → closing_in old nav ≡ Some place → has new.rows.items home place ≡ true

-- one more message is over
pub record Ends (log : List Entry) (doc post : ℕ) (old new : Waiting) : Type 0 where
  pub over : (place : ℕ) → over_at new.over.items place ≡ (has_message log doc post && post == place) || over_at old.over.items place
  pub early : (to place : ℕ) → has_early new to place ≡ (is_none (entry_at log post) && (doc == to && post == place)) || has_early old to place
  pub closings : (nav : ℕ) → closing_in new nav ≡ closing_in old nav
  pub places : KeepPlaces old.rows.items new.rows.items

-- a message to a document was posted, to a renderer
pub record Joins (renderer place to : ℕ) (old new : Waiting) : Type 0 where
  pub over : (post : ℕ) → over_at new.over.items post ≡ (has_early old to place && place == post) || over_at old.over.items post
  pub early : (doc post : ℕ) → has_early new doc post ≡ has_early old doc post
  pub closings : (nav : ℕ) → closing_in new nav ≡ closing_in old nav
  pub places : KeepPlaces old.rows.items new.rows.items
  pub due : has new.rows.items renderer place ≡ true

-- a navigable was asked to close
pub record Asks (home place nav : ℕ) (old new : Waiting) : Type 0 where
  pub over : (post : ℕ) → over_at new.over.items post ≡ over_at old.over.items post
  pub early : (to post : ℕ) → has_early new to post ≡ has_early old to post
  pub closings : (n : ℕ) → closing_in new n ≡ option_or (closing_in old n) (if nav == n then Some place else None)
  pub places : KeepPlaces old.rows.items new.rows.items
  pub due : closing_in old nav ≡ None → has new.rows.items home place ≡ true

-- the place that what happened may add to a row
abbrev pub Due : Tree → ℕ → What → Waiting → Waiting → Type 0
Due t place (Open _ _ _ _ _ _ _ _ _ load) old new = DueLoad new.rows.items place load
Due t place (Frame _ _ _ _ _ _ load) old new = DueLoad new.rows.items place load
Due t place (Begin nav load) old new = DueLoad new.rows.items place (Some load)
Due t place (Post to _ _ _ _) old new = has new.rows.items (home_of t to) place ≡ true
Due t place (Closing nav) old new = closing_in old nav ≡ None → has new.rows.items (home_of t (t.nav nav).active) place ≡ true
Due t place (Commit nav doc _) old new = DueMove (home_of t doc) nav old new
Due t place _ old new = Unit {0}

-- whether the message that stands at some place is over by what happened at the place n
abbrev pub turns_over : List Entry → ℕ → Waiting → What → ℕ → Bool
turns_over log n old (Fire doc post) place = has_message log doc post && post == place
turns_over log n old (Lapse doc post _) place = has_message log doc post && post == place
turns_over log n old (Post to _ _ _ _) place = has_early old to n && n == place
turns_over log n old _ place = false

-- whether it is the end of a message at a place that the log doesn't have
abbrev pub ends_early : List Entry → What → ℕ → ℕ → Bool
ends_early log (Fire doc post) to place = is_none (entry_at log post) && (doc == to && post == place)
ends_early log (Lapse doc post _) to place = is_none (entry_at log post) && (doc == to && post == place)
ends_early log _ to place = false

-- what happened at a place was taken in
pub record IsTaken (log : List Entry) (t : Tree) (place : ℕ) (w : What) (old new : Waiting) : Type 0 where
  pub over : (post : ℕ) → over_at new.over.items post ≡ turns_over log place old w post || over_at old.over.items post
  pub early : (to post : ℕ) → has_early new to post ≡ ends_early log w to post || has_early old to post
  pub closings : (nav : ℕ) → closing_in new nav ≡ option_or (closing_in old nav) (if says_closing nav w then Some place else None)
  pub places : KeepPlaces old.rows.items new.rows.items
  pub due : Due t place w old new
