-- The keys at which an object's store can hold a property: the array indices of a Window are its children (HTML, the
-- WindowProxy exotic object), and stand in no store.
use Rattle.std.specs.Prelude.{Bool, true, is_none}
use Rattle.window_props.specs.declared.key.Key.{Key}
use Rattle.window_props.specs.declared.platform.Object.{Object}
use Rattle.window_props.specs.declared.platform.Object.TheVariants as object
use Rattle.window_props.specs.Keys.{array_index}

abbrev pub can_hold : Object → Key → Bool
can_hold (object.Window _) key = is_none (array_index key)
can_hold (object.Location _) key = true
