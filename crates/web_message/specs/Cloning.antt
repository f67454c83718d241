-- What a message takes of a value (HTML Standard, 2.7.3, StructuredSerializeInternal).
use Rattle.std.specs.Prelude.{Option, Some, None}
use Rattle.plain_data.specs.declared.data.Data.{Data}
use Rattle.window_props.specs.declared.value.Value.{Value}
use Rattle.window_props.specs.declared.value.Value.TheVariants as value

-- data is taken whole; of an object of the platform there is none
abbrev pub data_of : Value → Option Data
data_of (value.Plain d) = Some d
data_of _ = None
