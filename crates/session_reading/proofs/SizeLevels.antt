-- The encoded size of data, a level at a time.
use Rattle.std.proofs.Common.{◌≡◌, ℕ, ◌+◌, min, List, [], ◌∷◌, length, map, refl, ap, ◌∙◌, rules, arith}
use Rattle.plain_data.specs.declared.data.Data.{Data, the_lemmas}
use Rattle.plain_data.specs.declared.data.Data as D
use Rattle.plain_data.specs.DataLimits.{total, encoded_size}
use Rattle.session_reading.specs.Levels.{sizes, member_sizes}

total_of : (values : List Data) → total (map encoded_size values) ≡ sizes values
unfolding sizes
total_of [] = refl
total_of (value ∷ values) = ap (λ n. encoded_size value + n) (total_of values)

opened-List : (values : List Data) → encoded_size (D.List values) ≡ 3 + total (map encoded_size values)
opened-List values = search (rules, the_lemmas)

pub encoded_size-List : (values : List Data) → encoded_size (D.List values) ≡ 3 + sizes values
encoded_size-List values = opened-List values ∙ ap (λ n. 3 + n) (total_of values)

abbrev with_sizes : List (List ℕ × Data) → List (List ℕ × ℕ)
with_sizes members = map (λ m. (m.0, encoded_size m.1)) members

abbrev member_size : List ℕ × ℕ → ℕ
member_size m = 2 + length m.0 + m.1

members_of : (members : List (List ℕ × Data)) → total (map member_size (with_sizes members)) ≡ member_sizes members
unfolding member_sizes
members_of [] = refl
members_of (m ∷ members) = ap (λ n. (2 + length m.0 + encoded_size m.1) + n) (members_of members)

opened-Record : (members : List (List ℕ × Data)) → encoded_size (D.Record members) ≡ 3 + total (map member_size (with_sizes members))
opened-Record members = search (rules, the_lemmas)

pub encoded_size-Record : (members : List (List ℕ × Data)) → encoded_size (D.Record members) ≡ 3 + member_sizes members
encoded_size-Record members = opened-Record members ∙ ap (λ n. 3 + n) (members_of members)

-- a size that is counted as far as 4,097
again : (n : ℕ) → min (3 + n) 4097 ≡ min (3 + min n 4097) 4097
again n = omega arith

pub capped-List : (values : List Data) → min (encoded_size (D.List values)) 4097 ≡ min (3 + min (sizes values) 4097) 4097
capped-List values = ap (λ n. min n 4097) (encoded_size-List values) ∙ again (sizes values)

pub capped-Record : (members : List (List ℕ × Data)) → min (encoded_size (D.Record members)) 4097 ≡ min (3 + min (member_sizes members) 4097) 4097
capped-Record members = ap (λ n. min n 4097) (encoded_size-Record members) ∙ again (member_sizes members)
