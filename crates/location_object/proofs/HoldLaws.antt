-- No key of a Location is an index, so what can be held is held.
use Rattle.std.proofs.Common.{ℕ, List, Option}
use Rattle.std.specs.Prelude.{IsTrue}
use Rattle.window_props.specs.declared.key.Key.{Key}
use Rattle.window_props.specs.declared.platform.Object.TheVariants as object
use Rattle.window_props.specs.declared.props.Props.{Props}
use Rattle.window_props.specs.Holding.{can_hold}
use Rattle.window_props.specs.Shown.{store_in}
use Rattle.tree_log.specs.Tree.{Tree}
use Rattle.object_access.specs.LocationAccess.{location}
use Rattle.object_operations.specs.There.{Holds}

pub location_holds : (t : Tree) (urls : ℕ → List ℕ) (asker doc : ℕ) (props : Option Props) (key : Key) → IsTrue (can_hold (store_in (object.Location doc) props).object key)
    → Holds (location t urls asker doc) (store_in (location t urls asker doc).object props) key
unfolding location
location_holds t urls asker doc props key h = λ none. h
