-- The properties of the objects that are kept.
use Rattle.std.specs.Prelude.{◌<◌, length, Option, if◌then◌else◌}
use Rattle.window_props.specs.declared.platform.Object.{Object}
use Rattle.window_props.specs.declared.platform.Object.TheVariants as object
use Rattle.window_props.specs.declared.props.Props.{Props}
use Rattle.window_props.specs.Values.{same_object}
use Rattle.window_props.specs.History.{Store}
use Rattle.window_props.specs.Shown.{store_in}
use Rattle.script_steps.specs.declared.stores.Stores.{Stores}
use Rattle.script_steps.specs.Slots.{slot}

abbrev pub props_at : Stores → Object → Option Props
props_at s (object.Window d) = slot s.windows.slots.items d
props_at s (object.Location d) = slot s.locations.slots.items d

unfoldable pub stored : Stores → Object → Store
stored s o = store_in o (props_at s o)

-- there is a place to keep the object's properties
abbrev pub HasRoom : Stores → Object → Type 0
HasRoom s (object.Window d) = d < length s.windows.slots.items
HasRoom s (object.Location d) = d < length s.locations.slots.items

-- one object's properties in place of what there was
abbrev pub placed : Object → Store → (Object → Store) → Object → Store
placed o store stores = λ other. if same_object other o then store else stores other
