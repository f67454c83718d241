-- Which document a navigable can show next.
use Rattle.std.specs.Prelude.{ℕ, Bool, not, ◌&&◌, ◌==◌}
use Rattle.tree_log.specs.Tree.{Tree, nav_of}
use Rattle.tree_log.specs.Admits.{has}

-- whether the document can replace the active one of n: it was made for n, and was never active
abbrev pub may_commit : Tree → ℕ → ℕ → Bool
may_commit t n d = has t.navs n && has t.docs d && nav_of t d == n && not (t.doc d).been_active
