-- The children that a document keeps, be it active or not (HTML Standard, 7.3.1.3, child navigables).
use Rattle.std.specs.Prelude.{ℕ, List, [], ◌∷◌, Bool, false, filter, not, bytes_eq}
use Rattle.tree_log.specs.Tree.{Tree}

-- the frames of d that were not dropped
abbrev pub live : Tree → ℕ → List ℕ
live t d = filter (λ n. not (t.nav n).dropped) (t.frames d)

-- whether the name is q; the empty name reaches nothing (HTML Standard, 7.2.2.3, document-tree child navigable target name property set)
abbrev pub is_name : List ℕ → List ℕ → Bool
is_name [] q = false
is_name (x ∷ name) q = bytes_eq (x ∷ name) q

abbrev pub has_name : Tree → List ℕ → ℕ → Bool
has_name t q n = is_name (t.nav n).name q

-- those of them that have a name
abbrev pub live_named : Tree → ℕ → List ℕ → List ℕ
live_named t d q = filter (has_name t q) (live t d)
