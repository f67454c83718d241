-- A tree in which a navigable has a greater number than the one that embeds it.
use Rattle.std.specs.Prelude.{◌≡◌, ℕ, ◌<◌, Some}
use Rattle.tree_log.specs.Tree.{Tree, embedder, nav_of}

abbrev pub IsOrdered : Tree → Type 0
IsOrdered t = (n d : ℕ) → n < t.navs → embedder t n ≡ Some d → nav_of t d < n
