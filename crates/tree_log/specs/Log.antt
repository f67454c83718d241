-- The log, this project's own: a list of entries, the newest first. The place of an entry is the number of entries before it.
use Rattle.std.specs.Prelude.{ℕ, List, [], ◌∷◌, length, Option, Some, None, Bool, false, nat_le, ◌==◌, if◌then◌else◌}
use Rattle.tree_log.specs.Names.{Entry}

-- what contracts see of a log: its entries, and for how many pushes there is room
pub record LogValue : Type 0 where
  pub entries : List Entry
  pub room : ℕ

-- the entry at a place
unfoldable pub entry_at : List Entry → ℕ → Option Entry
entry_at [] place = None
entry_at (e ∷ older) place = if length older == place then Some e else entry_at older place

-- the log as it stood when it had k entries
unfoldable pub prefix : ℕ → List Entry → List Entry
prefix k [] = []
prefix k (e ∷ older) = if nat_le k (length older) then prefix k older else e ∷ older

-- the number is there, and is this one
abbrev pub is : Option ℕ → ℕ → Bool
is None n = false
is (Some m) n = m == n

-- whether renderer r made the entry
abbrev pub is_by : ℕ → Entry → Bool
is_by r e = is e.by r
