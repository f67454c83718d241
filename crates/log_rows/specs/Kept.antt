-- When the rows beside a log are those of the log.
use Rattle.std.specs.Prelude.{◌≡◌, ℕ, List, ◌∷◌, Some}
use Rattle.document_ends.specs.Ended as ends
use Rattle.home_index.specs.Rows as homes
use Rattle.home_index.specs.Rows.{Row}
use Rattle.log_rows.specs.declared.rows.LogRows.{LogRows}
use Rattle.task_index.specs.Fed as waiting
use Rattle.tree_log.specs.Admits.{AreAdmitted}
use Rattle.tree_log.specs.Facts.{load_in}
use Rattle.tree_log.specs.declared.entry.Entry.{Entry}
use Rattle.tree_log.specs.declared.entry.Load.{Load}
use Rattle.tree_log.specs.Tree.{Tree, tree_of}
use Rattle.tree_log.specs.Urls.{url_of}

-- the rows are those of the log, by what their view says of trees and URLs and by a list of public suffixes
pub record AreOf {V : Type 0} (tree : V → Tree) (urls : V → ℕ → List ℕ) (suffixes : List (List ℕ)) (rows : LogRows V) (log : List Entry) : Type 0 where
  pub tree_is : tree rows.view ≡ tree_of log
  pub urls_are : urls rows.view ≡ url_of log
  pub waits : waiting.IsFed rows.waiting log
  pub homed : homes.IsFed suffixes rows.homes log
  pub ended : ends.IsFed rows.ends log

-- the load's home was noted: rows of a log are now those with the entry of the load, of which this is the tree
abbrev pub IsNoted : List (List ℕ) → Tree → Load → List Row → List Row → Type 0
IsNoted suffixes t load old new = (e : Entry) (log : List Entry) → t ≡ tree_of (e ∷ log) → AreAdmitted (e ∷ log) → load_in e.what ≡ Some load → homes.IsFed suffixes old log → homes.IsFed suffixes new (e ∷ log)
