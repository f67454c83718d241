-- The limits of plain data in a message. Depth and size count every value inside; the size is that of the bytes that spell
-- the data on the wire: a tag of one byte, a whole in eight, lengths and counts in two.
use Rattle.std.specs.Prelude.{◌≡◌, refl, ℕ, ◌+◌, ◌-◌, suc, max, ℤ, pos, negsuc, int_le, List, [], ◌∷◌, length, map, codes, Bool, true, ◌&&◌, nat_le}
use Rattle.std.specs.List.{list_all}
use Rattle.plain_data.specs.declared.data.Data.{Data, fold-Data}
use Rattle.plain_data.specs.declared.data.Data.TheOpen.{Data-F}
use Rattle.plain_data.specs.Ascending.{keys_ascend}

-- LIMITS: how deep data nests at most, and how many bytes it takes on the wire; how many bytes a text has, and how far a whole is from 0
abbrev pub most_depth : ℕ
most_depth = 16

abbrev pub most_size : ℕ
most_size = 4096

abbrev pub most_text : ℕ
most_text = 1024

-- where a double tells all wholes apart (ECMA-262, Number.MAX_SAFE_INTEGER)
abbrev pub most_whole : ℕ
most_whole = 9007199254740991

-- DEPTH

abbrev pub deepest : List ℕ → ℕ
deepest [] = 0
deepest (n ∷ ns) = max n (deepest ns)

-- one level, with the depth of each value inside in its place
abbrev pub depth_step : Data-F ℕ → ℕ
depth_step (Data-F.List depths) = suc (deepest depths)
depth_step (Data-F.Record members) = suc (deepest (map (λ m. m.1) members))
depth_step _ = 1

-- a value that is no list and no record has depth 1, an empty list or record too
abbrev pub depth : Data → ℕ
depth = fold-Data ℕ depth_step

-- SIZE

abbrev pub total : List ℕ → ℕ
total [] = 0
total (n ∷ ns) = n + total ns

-- one level, with the size of each value inside in its place
abbrev pub size_step : Data-F ℕ → ℕ
size_step (Data-F.Whole z) = 9
size_step (Data-F.Text s) = 3 + length s
size_step (Data-F.List sizes) = 3 + total sizes
size_step (Data-F.Record members) = 3 + total (map (λ m. 2 + length m.0 + m.1) members)
size_step _ = 1

abbrev pub encoded_size : Data → ℕ
encoded_size = fold-Data ℕ size_step

-- PARTS

-- within plus or minus the limit
abbrev pub is_safe : ℤ → Bool
is_safe z = int_le (negsuc (most_whole - 1)) z && int_le z (pos most_whole)

abbrev pub is_short : List ℕ → Bool
is_short s = nat_le (length s) most_text

-- one level, with whether they are in range in place of each value inside
abbrev pub range_step : Data-F Bool → Bool
range_step (Data-F.Whole z) = is_safe z
range_step (Data-F.Text s) = is_short s
range_step (Data-F.List items) = list_all (λ b. b) items
range_step (Data-F.Record members) = list_all (λ m. is_short m.0 && m.1) members
range_step _ = true

-- every whole in it is safe, and every text and key short
abbrev pub parts_in_range : Data → Bool
parts_in_range = fold-Data Bool range_step

-- ALL LIMITS

unfoldable pub within_limits : Data → Bool
within_limits value =
    nat_le (depth value) most_depth && nat_le (encoded_size value) most_size && parts_in_range value && keys_ascend value

-- ROWS, a level at a time

depth_rows : (depth_step (Data-F.List []) ≡ 1) × (depth_step (Data-F.List (1 ∷ 3 ∷ 2 ∷ [])) ≡ 4)
depth_rows = (refl, refl)

size_rows : (size_step (Data-F.Text (codes "abc")) ≡ 6) × (size_step (Data-F.List (1 ∷ 9 ∷ [])) ≡ 13) × (size_step (Data-F.Record ((codes "k", 9) ∷ [])) ≡ 15)
size_rows = (refl, refl, refl)
