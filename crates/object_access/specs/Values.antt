-- Values that scripts hold, and the text that a value is turned into (ECMA-262, ToString; Web IDL, USVString).
use Rattle.std.specs.Prelude.{ℕ, List, Bool, true, false, Option, Some, None, codes, pos}
use Rattle.std.specs.Fmt.{signed_decimal}
use Rattle.plain_data.specs.declared.data.Data.{Data}
use Rattle.object_access.specs.Names.{Value}

abbrev pub undefined : Value
undefined = Value.Plain Data.Undefined

abbrev pub null : Value
null = Value.Plain Data.Null

abbrev pub truth : Bool → Value
truth b = Value.Plain (Data.Truth b)

abbrev pub text : List ℕ → Value
text t = Value.Plain (Data.Text t)

abbrev pub whole : ℕ → Value
whole n = Value.Plain (Data.Whole (pos n))

abbrev pub window_or : Value → Option ℕ → Value
window_or v None = v
window_or v (Some n) = Value.Window n

-- a list, a record and an object of the platform are turned into none: this project's own
unfoldable pub text_of : Value → Option (List ℕ)
text_of (Value.Plain Data.Undefined) = Some (codes "undefined")
text_of (Value.Plain Data.Null) = Some (codes "null")
text_of (Value.Plain (Data.Truth true)) = Some (codes "true")
text_of (Value.Plain (Data.Truth false)) = Some (codes "false")
text_of (Value.Plain (Data.Whole z)) = Some (signed_decimal z)
text_of (Value.Plain (Data.Text t)) = Some t
text_of _ = None
