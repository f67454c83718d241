-- The documents that decide how an entry is told: the one of its load, of its fragment navigation or of its message.
use Rattle.std.specs.Prelude.{ℕ, ◌<◌, Option, Some, None}
use Rattle.tree_log.specs.declared.entry.Load.{Load}
use Rattle.tree_log.specs.declared.entry.What.{What}
use Rattle.tree_log.specs.declared.entry.What.TheVariants.{Open, Frame, Begin, Fragment, Post, Fire, Lapse}

abbrev pub IsLoadWithin : ℕ → Option Load → Type 0
IsLoadWithin docs None = Unit {0}
IsLoadWithin docs (Some load) = load.doc < docs

-- it is one of so many documents
abbrev pub IsWithin : ℕ → What → Type 0
IsWithin docs (Open _ _ _ _ _ _ _ _ _ load) = IsLoadWithin docs load
IsWithin docs (Frame _ _ _ _ _ _ load) = IsLoadWithin docs load
IsWithin docs (Begin _ load) = load.doc < docs
IsWithin docs (Fragment _ doc _) = doc < docs
IsWithin docs (Post to _ _ _ _) = to < docs
IsWithin docs (Fire doc _) = doc < docs
IsWithin docs (Lapse doc _ _) = doc < docs
IsWithin docs what = Unit {0}
