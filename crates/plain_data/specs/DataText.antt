-- The text of plain data: JSON without spaces (RFC 8259), with `undefined` beside JSON's words.
use Rattle.std.specs.Prelude.{◌≡◌, refl, ℕ, true, List, [], ◌∷◌, ◌++◌, map, codes, if◌then◌else◌}
use Rattle.std.specs.Fmt.{signed_decimal}
use Rattle.std.specs.List.{join_with_byte}
use Rattle.json.specs.Print.{quoted}
use Rattle.plain_data.specs.declared.data.Data.{Data, fold-Data}
use Rattle.plain_data.specs.declared.data.Data.TheOpen.{Data-F}

-- texts with a comma between each two
abbrev pub with_commas : List (List ℕ) → List ℕ
with_commas = join_with_byte 44

abbrev pub member_text : List ℕ × List ℕ → List ℕ
member_text m = quoted m.0 ++ 58 ∷ m.1

-- one level, with each value inside already as its text
abbrev pub text_step : Data-F (List ℕ) → List ℕ
text_step Data-F.Undefined = codes "undefined"
text_step Data-F.Null = codes "null"
text_step (Data-F.Truth b) = if b then codes "true" else codes "false"
text_step (Data-F.Whole z) = signed_decimal z
text_step (Data-F.Text s) = quoted s
text_step (Data-F.List texts) = codes "[" ++ with_commas texts ++ codes "]"
text_step (Data-F.Record members) = codes "{" ++ with_commas (map member_text members) ++ codes "}"

abbrev pub data_text : Data → List ℕ
data_text = fold-Data (List ℕ) text_step

abbrev pub list_text : List Data → List ℕ
list_text items = with_commas (map data_text items)

abbrev pub field_text : List ℕ × Data → List ℕ
field_text f = member_text (f.0, data_text f.1)

abbrev pub record_text : List (List ℕ × Data) → List ℕ
record_text fields = with_commas (map field_text fields)

-- ROWS, a level at a time

list_row : text_step (Data-F.List (text_step Data-F.Undefined ∷ text_step (Data-F.Truth true) ∷ text_step (Data-F.Record []) ∷ [])) ≡ codes "[undefined,true,{}]"
list_row = refl
