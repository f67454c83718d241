-- The children that come after one (DOM Standard, 1.1, next sibling; HTML Standard, 7.3.1.3, child navigables).
use Rattle.std.specs.Prelude.{ℕ, List, [], ◌∷◌, Option, Some, None, ◌==◌, if◌then◌else◌}
use Rattle.tree_log.specs.Tree.{Tree, embedder, children_of}

-- what comes after the first n of the list
abbrev pub behind : ℕ → List ℕ → List ℕ
behind n [] = []
behind n (m ∷ ms) = if m == n then ms else behind n ms

-- the children of an embedder that come after n
abbrev pub children_behind : Tree → ℕ → Option ℕ → List ℕ
children_behind t n None = []
children_behind t n (Some d) = behind n (children_of t d)

-- the children of the same parent that come after n
unfoldable pub later_siblings : Tree → ℕ → List ℕ
later_siblings t n = children_behind t n (embedder t n)

abbrev pub first_if_any : List ℕ → Option ℕ
first_if_any [] = None
first_if_any (n ∷ ns) = Some n

-- the next child of the same parent
unfoldable pub next_sibling : Tree → ℕ → Option ℕ
next_sibling t n = first_if_any (later_siblings t n)
