-- What an operation asks for: that the tree has what is named, and that a store can hold what is put there.
use Rattle.std.specs.Prelude.{◌≡◌, ◌<◌, ℕ, None, IsTrue}
use Rattle.window_props.specs.declared.key.Key.{Key}
use Rattle.window_props.specs.Holding.{can_hold}
use Rattle.window_props.specs.History.{Store}
use Rattle.tree_log.specs.Tree.{Tree}
use Rattle.object_access.specs.Access.{Seen}

-- the tree has the document that asks, and the navigable of the WindowProxy
abbrev pub HasWindow : Tree → ℕ → ℕ → Type 0
HasWindow t asker nav = (asker < t.docs) × (nav < t.navs)

-- the tree has the document that asks, and that of the Location
abbrev pub HasLocation : Tree → ℕ → ℕ → Type 0
HasLocation t asker doc = (asker < t.docs) × (doc < t.docs)

-- the store can hold a key that is no index for the object
abbrev pub Holds : Seen → Store → Key → Type 0
Holds s store key = s.index key ≡ None → IsTrue (can_hold store.object key)
