-- What a renderer is told of the log. Renderers are this project's own.
use Rattle.std.specs.Prelude.{ℕ, ◌-◌, List, [], ◌∷◌, length, take, reverse}
use Rattle.coordinator_rules.specs.Names.{Entry}
use Rattle.tree_log.specs.Blanking.{blank, is_homed}
use Rattle.tree_log.specs.Tree.{tree_of}

-- each entry is blanked for the documents that are homed at renderer r once it stands
abbrev pub told_log : ℕ → List Entry → List Entry
told_log r [] = []
told_log r (e ∷ older) = blank (is_homed (tree_of (e ∷ older)) r) e ∷ told_log r older

-- the entries of the log from a place on, as renderer r is told them, the oldest first
abbrev pub news_from : ℕ → ℕ → List Entry → List Entry
news_from r from log = reverse (take (length log - from) (told_log r log))
