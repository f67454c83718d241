-- A tree that hears of more entries, the oldest first.
use Rattle.std.specs.Prelude.{ℕ, List, [], ◌∷◌, IsTrue}
use Rattle.tree_log.specs.declared.entry.Entry.{Entry}
use Rattle.tree_log.specs.Tree.{Tree, tree_after}
use Rattle.tree_log.specs.Urls.{urls_after}
use Rattle.tree_log.specs.Admits.{admits}

abbrev pub grow : Tree → List Entry → Tree
grow t [] = t
grow t (e ∷ es) = grow (tree_after t e) es

abbrev pub grow_urls : (ℕ → List ℕ) → List Entry → ℕ → List ℕ
grow_urls urls [] = urls
grow_urls urls (e ∷ es) = grow_urls (urls_after urls e) es

-- each entry can follow those before it
abbrev pub AllFollow : Tree → List Entry → Type 0
AllFollow t [] = Unit {0}
AllFollow t (e ∷ es) = IsTrue (admits t e) × AllFollow (tree_after t e) es
