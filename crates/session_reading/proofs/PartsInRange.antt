-- Whether the parts of data are in range, a level at a time.
use Rattle.std.proofs.Common.{◌≡◌, ℕ, List, [], ◌∷◌, ◌&&◌, Bool, map, refl, ap, ◌∙◌, rules}
use Rattle.std.specs.List.{list_all}
use Rattle.plain_data.specs.declared.data.Data.{Data, the_lemmas}
use Rattle.plain_data.specs.declared.data.Data as D
use Rattle.plain_data.specs.DataLimits.{is_short, parts_in_range}
use Rattle.session_reading.specs.Levels.{all_in_range, members_in_range}

all_of : (values : List Data) → list_all (λ b. b) (map parts_in_range values) ≡ all_in_range values
unfolding all_in_range
all_of [] = refl
all_of (value ∷ values) = ap (λ b. parts_in_range value && b) (all_of values)

opened-List : (values : List Data) → parts_in_range (D.List values) ≡ list_all (λ b. b) (map parts_in_range values)
opened-List values = search (rules, the_lemmas)

pub parts_in_range-List : (values : List Data) → parts_in_range (D.List values) ≡ all_in_range values
parts_in_range-List values = opened-List values ∙ all_of values

abbrev with_tests : List (List ℕ × Data) → List (List ℕ × Bool)
with_tests members = map (λ m. (m.0, parts_in_range m.1)) members

members_of : (members : List (List ℕ × Data)) → list_all (λ (m : List ℕ × Bool). is_short m.0 && m.1) (with_tests members) ≡ members_in_range members
unfolding members_in_range
members_of [] = refl
members_of (m ∷ members) = ap (λ b. (is_short m.0 && parts_in_range m.1) && b) (members_of members)

opened-Record : (members : List (List ℕ × Data)) → parts_in_range (D.Record members) ≡ list_all (λ (m : List ℕ × Bool). is_short m.0 && m.1) (with_tests members)
opened-Record members = search (rules, the_lemmas)

pub parts_in_range-Record : (members : List (List ℕ × Data)) → parts_in_range (D.Record members) ≡ members_in_range members
parts_in_range-Record members = opened-Record members ∙ members_of members

pub ruleset range_levels = (parts_in_range-List, parts_in_range-Record)
