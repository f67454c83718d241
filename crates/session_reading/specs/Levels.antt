-- The limits of data one level at a time, for private clauses.
use Rattle.std.specs.Prelude.{ℕ, ◌+◌, List, [], ◌∷◌, length, Bool, true, ◌&&◌, nat_le}
use Rattle.plain_data.specs.declared.data.Data.{Data}
use Rattle.plain_data.specs.DataLimits.{depth, encoded_size, is_short, parts_in_range}

unfoldable pub all_nest : ℕ → List Data → Bool
all_nest n [] = true
all_nest n (value ∷ values) = nat_le (depth value) n && all_nest n values

unfoldable pub members_nest : ℕ → List (List ℕ × Data) → Bool
members_nest n [] = true
members_nest n (member ∷ members) = nat_le (depth member.1) n && members_nest n members

unfoldable pub all_in_range : List Data → Bool
all_in_range [] = true
all_in_range (value ∷ values) = parts_in_range value && all_in_range values

unfoldable pub members_in_range : List (List ℕ × Data) → Bool
members_in_range [] = true
members_in_range (member ∷ members) = (is_short member.0 && parts_in_range member.1) && members_in_range members

unfoldable pub sizes : List Data → ℕ
sizes [] = 0
sizes (value ∷ values) = encoded_size value + sizes values

unfoldable pub member_sizes : List (List ℕ × Data) → ℕ
member_sizes [] = 0
member_sizes (member ∷ members) = (2 + length member.0 + encoded_size member.1) + member_sizes members
