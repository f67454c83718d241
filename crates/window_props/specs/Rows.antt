-- The properties of an object as rows; for private clauses.
use Rattle.std.specs.Prelude.{◌≡◌, ℕ, ◌<◌, true, List, [], ◌∷◌, take, length, map, Option, Some, None, if◌then◌else◌, slice_get}
use Rattle.window_props.specs.declared.key.Key.{Key}
use Rattle.window_props.specs.declared.platform.Object.{Object}
use Rattle.window_props.specs.declared.descriptor.Descriptor.{Descriptor}
use Rattle.window_props.specs.declared.rows.Row.{Row}
use Rattle.window_props.specs.declared.platform.Platform.{Platform}
use Rattle.window_props.specs.Keys.{same_key, AreApart}
use Rattle.window_props.specs.Platform.{key_of, made_by_platform, names_of}
use Rattle.window_props.specs.declared.props.SetAnswer.{SetAnswer}
use Rattle.window_props.specs.Ordinary.{Act, acted}
use Rattle.window_props.specs.History.{Store, store_after}

abbrev pub lookup : List Row → Key → Option Descriptor
lookup [] key = None
lookup (row ∷ rows) key = if same_key row.key key then Some row.property else lookup rows key

abbrev pub row_key : Row → Key
row_key row = row.key

abbrev pub row_keys : List Row → List Key
row_keys rows = map row_key rows

-- the first row of that key
pub record IsPlace (rows : List Row) (key : Key) (i : ℕ) : Type 0 where
  pub within : i < length rows
  pub row : Row
  pub is : slice_get rows i ≡ Some row
  pub same : same_key row.key key ≡ true
  pub first : lookup (take i rows) key ≡ None

abbrev pub store_of_rows : Object → List Row → Store
store_of_rows o rows = record { object = o; at = lookup rows; keys = row_keys rows }

-- the rows after an act at a key, with its answer
pub record IsActed (o : Object) (old new : List Row) (key : Key) (act : Act) (answer : SetAnswer) : Type 0 where
  pub told : answer ≡ (acted o key act (lookup old key)).answer
  pub store : store_of_rows o new ≡ store_after (store_of_rows o old) (record { key = key; act = act })
  pub apart : AreApart (row_keys new)

-- the row that the platform makes of a name
abbrev pub platform_row : Object → Platform → Row
platform_row o name = record { key = key_of name; property = made_by_platform o name }

abbrev pub platform_rows : Object → List Row
platform_rows o = map (platform_row o) (names_of o)
