-- Entries that a renderer may append to a log: its own ones.
use Rattle.std.specs.Prelude.{◌≡◌, ℕ, List, Option, Some, None, true}
use Rattle.origin_core.specs.declared.origin.Origin.{Origin}
use Rattle.tree_log.specs.declared.entry.Entry.{Entry}
use Rattle.tree_log.specs.declared.entry.What.{What}
use Rattle.tree_log.specs.declared.entry.What.TheVariants.{Commit, Post, Fire, Lapse, Gone}
use Rattle.tree_log.specs.Tree.{Tree, tree_of, home_of, nav_of, origin_of, is_active}
use Rattle.coordinator_rules.specs.NextTask.{next_task}

-- a document acts that is active and homed at renderer r
pub record IsActor (t : Tree) (r d : ℕ) : Type 0 where
  pub home : home_of t d ≡ r
  pub active : is_active t d ≡ true

-- no document acts, or one of the renderer's
abbrev pub IsOwnActor : Tree → ℕ → Option ℕ → Type 0
IsOwnActor t r None = Unit {0}
IsOwnActor t r (Some d) = IsActor t r d

-- a message is from the document that acts
pub record IsSent (t : Tree) (actor : Option ℕ) (from : ℕ) (origin : Origin) : Type 0 where
  pub sender : ℕ
  pub acts : actor ≡ Some sender
  pub window : from ≡ nav_of t sender
  pub origin_is : origin ≡ origin_of t sender

-- a message is the acting document's, and what is done for a task is the renderer's next one
abbrev pub IsOwnWhat : List Entry → ℕ → Option ℕ → What → Type 0
IsOwnWhat log r actor (Post to from origin target body) = IsSent (tree_of log) actor from origin
IsOwnWhat log r actor (Commit nav doc begin) = next_task log r ≡ Some (Commit nav doc begin)
IsOwnWhat log r actor (Fire doc post) = next_task log r ≡ Some (Fire doc post)
IsOwnWhat log r actor (Lapse doc post cause) = next_task log r ≡ Some (Lapse doc post cause)
IsOwnWhat log r actor (Gone nav) = next_task log r ≡ Some (Gone nav)
IsOwnWhat log r actor what = Unit {0}

-- the entry is renderer r's own, on this log
pub record IsOwn (log : List Entry) (r : ℕ) (e : Entry) : Type 0 where
  pub by : e.by ≡ Some r
  pub actor : IsOwnActor (tree_of log) r e.actor
  pub what : IsOwnWhat log r e.actor e.what
