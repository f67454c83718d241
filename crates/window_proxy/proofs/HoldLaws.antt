-- What comes to the store of a Window is no array index, so the store can hold it, whatever object it is of.
use Rattle.std.proofs.Common.{◌≡◌, ℕ, List, None, refl, ap}
use Rattle.std.specs.Prelude.{IsTrue, is_none}
use Rattle.window_props.specs.declared.key.Key.{Key}
use Rattle.window_props.specs.declared.platform.Object.{Object}
use Rattle.window_props.specs.declared.platform.Object.TheVariants as object
use Rattle.window_props.specs.Keys.{array_index}
use Rattle.window_props.specs.Holding.{can_hold}
use Rattle.window_props.specs.History.{Store}
use Rattle.tree_log.specs.Tree.{Tree}
use Rattle.object_access.specs.WindowAccess.{window, window_of}
use Rattle.object_operations.specs.There.{Holds}

no_index : (o : Object) (key : Key) → array_index key ≡ None → IsTrue (can_hold o key)
no_index (object.Window d) key h = ap is_none h
no_index (object.Location d) key h = refl

pub window_holds : (t : Tree) (urls : ℕ → List ℕ) (asker n : ℕ) (store : Store) (key : Key) → Holds (window t urls asker n) store key
unfolding window_of
window_holds t urls asker n store key = λ h. no_index store.object key h
