-- Logs that leave no message and no window to close. So far each log of a play is one, and each of its tasks is a commit.
use Rattle.std.specs.Prelude.{List, [], ◌∷◌, Bool, true, false, ◌&&◌}
use Rattle.tree_log.specs.declared.entry.Entry.{Entry}
use Rattle.tree_log.specs.declared.entry.What.{What}
use Rattle.tree_log.specs.declared.entry.What.TheVariants.{Post, Commit, Closing}

-- whether an entry is no message, and no window's that was asked to close
abbrev pub is_quiet : What → Bool
is_quiet (Post _ _ _ _ _) = false
is_quiet (Closing _) = false
is_quiet _ = true

abbrev pub are_quiet : List Entry → Bool
are_quiet [] = true
are_quiet (e ∷ older) = is_quiet e.what && are_quiet older

abbrev pub is_commit : What → Bool
is_commit (Commit _ _ _) = true
is_commit _ = false
