-- The plain data that a JSON value is.
use Rattle.std.specs.Prelude.{ℕ, List, [], ◌∷◌, ◌++◌, if◌then◌else◌, Ok, ℤ}
use Rattle.serde_json.specs.Data as json
use Rattle.serde_json.specs.Data.{Num, Items, no_items, item, Members, no_members, member}
use Rattle.serde_json.specs.Find.{as_integer}
use Rattle.serde_json.specs.Written.{has_float}
use Rattle.plain_data.specs.declared.data.Data.{Data}
use Rattle.plain_data.specs.declared.data.Data as D
use Rattle.session_reading.specs.Refusing.{Outcome, ◌>>=◌, wrong_kind, out_of_range}
use Rattle.session_reading.specs.Reading.{Json, or_refuse}
use Rattle.plain_data.specs.DataLimits.{is_safe, within_limits}

-- a whole number that a double tells from all others
unfoldable pub safe : Num → Outcome ℤ
safe n = do
  z ← or_refuse (as_integer n) wrong_kind
  if is_safe z then Ok z else out_of_range

-- items and members are put after those before them
unfoldable mutual
  pub plain : Json → Outcome Data
  plain json.null = Ok D.Null
  plain (json.boolean b) = Ok (D.Truth b)
  plain (json.number n) = safe n >>= λ z. Ok (D.Whole z)
  plain (json.string s) = Ok (D.Text s)
  plain (json.array js) = plain_items [] js >>= λ items. Ok (D.List items)
  plain (json.object ms) = plain_members [] ms >>= λ members. Ok (D.Record members)

  pub plain_items : List Data → Items → Outcome (List Data)
  plain_items before no_items = Ok before
  plain_items before (item j js) = plain j >>= λ d. plain_items (before ++ d ∷ []) js

  pub plain_members : List (List ℕ × Data) → Members → Outcome (List (List ℕ × Data))
  plain_members before no_members = Ok before
  plain_members before (member name j ms) = plain j >>= λ d. plain_members (before ++ (name, d) ∷ []) ms

unfoldable pub limited : Data → Outcome Data
limited value = if within_limits value then Ok value else out_of_range

-- the data, if each number in it, wherever it stands, is a whole one of 64 bits (without fraction or exponent, not `-0`), and all is within the limits
unfoldable pub data_read : Json → Outcome Data
data_read j = if has_float j then wrong_kind else plain j >>= limited
