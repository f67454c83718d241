-- A store that is kept for a Location is one of a Location.
use Rattle.std.specs.Prelude.{Bool, true, false, Option}
use Rattle.window_props.specs.declared.platform.Object.{Object}
use Rattle.window_props.specs.declared.platform.Object.TheVariants as object
use Rattle.window_props.specs.declared.props.Props.{Props}
use Rattle.window_props.specs.Shown.{store_in}

abbrev pub is_location : Object → Bool
is_location (object.Window d) = false
is_location (object.Location d) = true

-- whether the store of an object is one of its kind
abbrev pub suits : Object → Option Props → Bool
suits (object.Window d) props = true
suits (object.Location d) props = is_location (store_in (object.Location d) props).object
