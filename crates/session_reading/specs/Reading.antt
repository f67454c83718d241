-- Readers of JSON values (RFC 8259): each gives what a value is, or the first refusal from the left.
use Rattle.std.specs.Prelude.{ℕ, List, [], ◌∷◌, ◌++◌, length, Bool, ◌&&◌, nat_le, if◌then◌else◌, Option, Some, None, Ok, ℤ, pos, negsuc, option_and_then, bytes_eq}
use Rattle.std.specs.List.{list_any}
use Rattle.serde_json.specs.Data as json
use Rattle.serde_json.specs.Data.{Items, no_items, item, Members, no_members, member}
use Rattle.serde_json.specs.Find.{get, as_number, as_integer, as_str, as_bool, as_array, as_object}
use Rattle.serde_json.specs.Events.{items_len}
use Rattle.plain_data.specs.DataLimits.{most_text}
use Rattle.session_reading.specs.declared.path.Segment.TheVariants.{Named, At}
use Rattle.session_reading.specs.declared.name.Name.{Name}
use Rattle.session_reading.specs.Names.{text_of}
use Rattle.session_reading.specs.Refusing.{Outcome, ◌>>=◌, under, missing, wrong_kind, out_of_range, unknown_field}

abbrev pub Json : Type 0
Json = json.Data

-- the value, where there is one
abbrev pub or_refuse : {A : Type 0} → Option A → Outcome A → Outcome A
or_refuse (Some a) refusal = Ok a
or_refuse None refusal = refusal

-- NUMBERS, TRUTH VALUES AND TEXTS

abbrev pub natural : ℤ → Option ℕ
natural (pos n) = Some n
natural (negsuc n) = None

-- a whole number from least to most; a number with a fraction or an exponent, `-0`, and one beyond 64 bits is no whole one
unfoldable pub whole : ℕ → ℕ → Json → Outcome ℕ
whole least most j = do
  z ← or_refuse (option_and_then as_integer (as_number j)) wrong_kind
  n ← or_refuse (natural z) out_of_range
  if nat_le least n && nat_le n most then Ok n else out_of_range

unfoldable pub truth : Json → Outcome Bool
truth j = or_refuse (as_bool j) wrong_kind

-- a text of at most 1,024 bytes
unfoldable pub text : Json → Outcome (List ℕ)
text j = do
  s ← or_refuse (as_str j) wrong_kind
  if nat_le (length s) most_text then Ok s else out_of_range

-- LISTS

-- each item, told what the ones before it are
unfoldable pub each : {A : Type 0} → (List A → Json → Outcome A) → List A → Items → Outcome (List A)
each read before no_items = Ok before
each read before (item j js) = under (At (length before)) (read before j) >>= λ a. each read (before ++ a ∷ []) js

-- a list of any length
unfoldable pub any_list : {A : Type 0} → (List A → Json → Outcome A) → Json → Outcome (List A)
any_list read j = or_refuse (as_array j) wrong_kind >>= each read []

-- a list of a length from least to most, which is tested before its items are read
unfoldable pub list_of : {A : Type 0} → ℕ → ℕ → (List A → Json → Outcome A) → Json → Outcome (List A)
list_of least most read j = do
  js ← or_refuse (as_array j) wrong_kind
  if nat_le least (items_len js) && nat_le (items_len js) most then each read [] js else out_of_range

-- OBJECTS

abbrev pub members : Json → Outcome Members
members j = or_refuse (as_object j) wrong_kind

abbrev pub an_object : Json → Outcome (Unit {0})
an_object j = members j >>= λ _. Ok tt

abbrev pub field_from : {A : Type 0} → Outcome A → (Json → Outcome A) → Option Json → Outcome A
field_from absent read None = absent
field_from absent read (Some j) = read j

-- what the field of an object holds
unfoldable pub field : {A : Type 0} → Name → (Json → Outcome A) → Json → Outcome A
field name read j = under (Named (text_of name)) (field_from missing read (get (text_of name) j))

-- the same, and a default where there is no such field
unfoldable pub field_or : {A : Type 0} → Name → A → (Json → Outcome A) → Json → Outcome A
field_or name absent read j = under (Named (text_of name)) (field_from (Ok absent) read (get (text_of name) j))

-- the same, where there is such a field
unfoldable pub optional : {A : Type 0} → Name → (Json → Outcome A) → Json → Outcome (Option A)
optional name read j = under (Named (text_of name)) (field_from (Ok None) (λ j. read j >>= λ a. Ok (Some a)) (get (text_of name) j))

unfoldable pub is_known : List Name → List ℕ → Bool
is_known known spelled = list_any (λ n. bytes_eq (text_of n) spelled) known

-- no member but these; the members stand by ascending bytes of their names
unfoldable pub only : List Name → Members → Outcome (Unit {0})
only known no_members = Ok tt
only known (member name j ms) = if is_known known name then only known ms else under (Named name) unknown_field

unfoldable pub no_others : List Name → Json → Outcome (Unit {0})
no_others known j = members j >>= only known
