-- What a decision goes by: the number of renderers, the public suffixes, a tree, and the homes that were noted.
use Rattle.std.specs.Prelude.{◌≡◌, ◌<◌, ◌^◌, ℕ, List}
use Rattle.coordinator_rules.specs.Decision.{Rules}
use Rattle.home_index.specs.Rows.{Row, IsFed}
use Rattle.tree_log.specs.Admits.{AreAdmitted}
use Rattle.tree_log.specs.declared.entry.Entry.{Entry}
use Rattle.tree_log.specs.Tree.{Tree, tree_of}

abbrev pub rules : ℕ → List (List ℕ) → Rules
rules renderers suffixes = record { renderers = renderers; suffixes = suffixes }

-- the tree is that of an admitted log, and the rows were fed with this log
pub record AreOfOneLog (suffixes : List (List ℕ)) (t : Tree) (rows : List Row) : Type 0 where
  pub log : List Entry
  pub tree : t ≡ tree_of log
  pub admitted : AreAdmitted log
  pub fed : IsFed suffixes rows log

-- the asker is there, and there are few documents
pub record CanAsk (renderers : ℕ) (suffixes : List (List ℕ)) (t : Tree) (rows : List Row) (asker : ℕ) : Type 0 where
  pub some : 0 < renderers
  pub there : asker < t.docs
  pub few : t.docs < 2 ^ 31
  pub homes : AreOfOneLog suffixes t rows
