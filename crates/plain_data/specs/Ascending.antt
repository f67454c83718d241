-- Data in which the keys of each record strictly ascend by bytes, at each level; so no key stands twice in a record.
use Rattle.std.specs.Prelude.{◌≡◌, refl, codes, ℕ, List, [], ◌∷◌, Bool, true, false, ◌&&◌, map}
use Rattle.std.specs.List.{list_all}
use Rattle.std.specs.Ordering.{nat_cmp, is_lt}
use Rattle.std.specs.Cmp.Lexicographic.{slice_cmp}
use Rattle.plain_data.specs.declared.data.Data.{Data, fold-Data}
use Rattle.plain_data.specs.declared.data.Data.TheOpen.{Data-F}

abbrev pub is_below : List ℕ → List ℕ → Bool
is_below a b = is_lt (slice_cmp nat_cmp a b)

-- each text is below the next
abbrev pub ascend : List (List ℕ) → Bool
ascend [] = true
ascend (a ∷ []) = true
ascend (a ∷ b ∷ texts) = is_below a b && ascend (b ∷ texts)

-- one level, with whether they ascend in place of each value inside
abbrev pub ascending_step : Data-F Bool → Bool
ascending_step (Data-F.List items) = list_all (λ b. b) items
ascending_step (Data-F.Record members) = ascend (map (λ m. m.0) members) && list_all (λ m. m.1) members
ascending_step _ = true

abbrev pub keys_ascend : Data → Bool
keys_ascend = fold-Data Bool ascending_step

-- ROWS

ascending_row : ascend (codes "" ∷ codes "B" ∷ codes "a" ∷ codes "aa" ∷ codes "b" ∷ []) ≡ true
ascending_row = refl

twice_row : ascend (codes "a" ∷ codes "a" ∷ []) ≡ false
twice_row = refl

-- ONE LEVEL AT A TIME; FOR PRIVATE CLAUSES

abbrev pub keys_of : List (List ℕ × Data) → List (List ℕ)
keys_of members = map (λ m. m.0) members

unfoldable pub all_ascend : List Data → Bool
all_ascend [] = true
all_ascend (value ∷ values) = keys_ascend value && all_ascend values

unfoldable pub values_ascend : List (List ℕ × Data) → Bool
values_ascend [] = true
values_ascend (member ∷ members) = keys_ascend member.1 && values_ascend members
