-- What a renderer has heard of a coordinator.
use Rattle.std.specs.Prelude.{ℕ, List}
use Rattle.coordinator_rules.specs.Told.{told_log}
use Rattle.desk.specs.History.{log_of, told_of}
use Rattle.desk.specs.declared.item.Item.{Item}
use Rattle.tree_log.specs.declared.entry.Entry.{Entry}
use Rattle.tree_log.specs.Log.{prefix}

-- the entries that it was told, as it is told them, the newest first
abbrev pub heard_of : ℕ → List Item → List Entry
heard_of r history = prefix (told_of history r) (told_log r (log_of history))
