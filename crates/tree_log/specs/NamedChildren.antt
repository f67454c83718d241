-- The children of a document that can be reached by name (HTML Standard, 7.2.2.3, the document-tree child navigable target name property set).
use Rattle.std.specs.Prelude.{ℕ, List, [], ◌∷◌, find, Option, Some, None, if◌then◌else◌, bytes_eq, option_and_then}
use Rattle.origin_core.specs.Origin.{is_same_origin}
use Rattle.tree_log.specs.Tree.{Tree, children_of, origin_of}

-- the first child of that name, whatever its origin; the empty name gives none
abbrev pub first_of_name : Tree → ℕ → List ℕ → Option ℕ
first_of_name t d [] = None
first_of_name t d (x ∷ xs) = find (λ n. bytes_eq (t.nav n).name (x ∷ xs)) (children_of t d)

-- that child, where its active document is same origin with d
unfoldable pub child_named : Tree → ℕ → List ℕ → Option ℕ
child_named t d name = option_and_then (λ n. if is_same_origin (origin_of t d) (origin_of t (t.nav n).active) then Some n else None) (first_of_name t d name)
