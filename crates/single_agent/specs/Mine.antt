-- The document of a running script is one of its renderer, which has been active.
use Rattle.std.specs.Prelude.{◌≡◌, ℕ, ◌<◌, true}
use Rattle.tree_log.specs.Tree.{Tree, home_of}

-- the document is there, has been active, and is homed at renderer r
pub record IsMine (r : ℕ) (t : Tree) (d : ℕ) : Type 0 where
  pub there : d < t.docs
  pub been : (t.doc d).been_active ≡ true
  pub home : home_of t d ≡ r
