-- The history of a coordinator, newest item first: the entries of its log, and between them how much of it each renderer was
-- told. Both are this project's own.
use Rattle.std.specs.Prelude.{ℕ, ◌≡◌, ◌-◌, ◌==◌, List, [], ◌∷◌, ◌++◌, length, take, Option, Some, None, if◌then◌else◌}
use Rattle.std.specs.Option.{option_or}
use Rattle.tree_log.specs.declared.entry.Entry.{Entry}
use Rattle.tree_log.specs.declared.entry.What.{What}
use Rattle.tree_log.specs.declared.entry.What.TheVariants.{Lost}
use Rattle.tree_log.specs.Log.{prefix}
use Rattle.desk.specs.declared.item.Item.{Item}
use Rattle.desk.specs.declared.item.Item.TheVariants.{Entered, Told}
use Rattle.desk.specs.declared.telling.Telling.{Telling}

-- the log of a history
abbrev pub log_of : List Item → List Entry
log_of [] = []
log_of (Entered e ∷ older) = e ∷ log_of older
log_of (Told r upto ∷ older) = log_of older

-- how much of the log renderer r was told
abbrev pub told_of : List Item → ℕ → ℕ
told_of [] r = 0
told_of (Entered e ∷ older) r = told_of older r
told_of (Told x upto ∷ older) r = if x == r then upto else told_of older r

abbrev pub entered : List Entry → List Item
entered [] = []
entered (e ∷ es) = Entered e ∷ entered es

-- the renderer that is lost by what happened
abbrev pub lost_by : What → Option ℕ
lost_by (Lost r) = Some r
lost_by what = None

-- the renderer that an item names, if it names one: the one that made the entry, or that is lost by it; or the one that was told
abbrev pub renderer_of : Item → Option ℕ
renderer_of (Entered e) = option_or e.by (lost_by e.what)
renderer_of (Told r upto) = Some r

-- each of these names renderer r
abbrev pub NameAll : ℕ → List Item → Type 0
NameAll r [] = Unit {0}
NameAll r (item ∷ items) = (renderer_of item ≡ Some r) × NameAll r items

-- a history with newer items, each of which names renderer r
pub record GrowsBy (r : ℕ) (old new : List Item) : Type 0 where
  pub items : List Item
  pub grown : new ≡ items ++ old
  pub named : NameAll r items

-- KEPT BESIDE THE LOG

-- the entries that joined a log after it had k
abbrev pub newer : ℕ → List Entry → List Entry
newer k log = take (length log - k) log

-- the history of a log and of tellings, the newest telling first
abbrev pub history : List Entry → List Telling → List Item
history log [] = entered log
history log (t ∷ older) = entered (newer t.at log) ++ Told t.renderer t.upto ∷ history (prefix t.at log) older

-- how much renderer r was told, by the newest telling of it
abbrev pub told_in : List Telling → ℕ → ℕ
told_in [] r = 0
told_in (t ∷ older) r = if t.renderer == r then t.upto else told_in older r

-- how long the log was at the newest telling
abbrev pub newest_at : List Telling → ℕ
newest_at [] = 0
newest_at (t ∷ older) = t.at
