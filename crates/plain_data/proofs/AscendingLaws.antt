-- Whether keys ascend, a level at a time.
use Rattle.std.proofs.Common.{◌≡◌, ℕ, List, [], ◌∷◌, ◌<◌, length, ◌&&◌, Bool, true, map, refl, ap, ◌∙◌, rules, arith}
use Rattle.std.specs.List.{list_all}
use Rattle.plain_data.specs.declared.data.Data.{Data, the_lemmas}
use Rattle.plain_data.specs.declared.data.Data as D
use Rattle.plain_data.specs.Ascending.{ascend, keys_ascend, keys_of, all_ascend, values_ascend}

all_of : (values : List Data) → list_all (λ b. b) (map keys_ascend values) ≡ all_ascend values
unfolding all_ascend
all_of [] = refl
all_of (value ∷ values) = ap (λ b. keys_ascend value && b) (all_of values)

opened-List : (values : List Data) → keys_ascend (D.List values) ≡ list_all (λ b. b) (map keys_ascend values)
opened-List values = search (rules, the_lemmas)

pub keys_ascend-List : (values : List Data) → keys_ascend (D.List values) ≡ all_ascend values
keys_ascend-List values = opened-List values ∙ all_of values

-- fewer than two ascend
pub few_ascend : (members : List (List ℕ × Data)) → length members < 2 → true ≡ ascend (keys_of members)
few_ascend [] lt = refl
few_ascend (a ∷ []) lt = refl
few_ascend (a ∷ b ∷ members) lt = absurd (omega arith)

abbrev with_tests : List (List ℕ × Data) → List (List ℕ × Bool)
with_tests members = map (λ m. (m.0, keys_ascend m.1)) members

same_keys : (members : List (List ℕ × Data)) → map (λ (m : List ℕ × Bool). m.0) (with_tests members) ≡ keys_of members
same_keys [] = refl
same_keys (m ∷ members) = ap (λ keys. m.0 ∷ keys) (same_keys members)

values_of : (members : List (List ℕ × Data)) → list_all (λ (m : List ℕ × Bool). m.1) (with_tests members) ≡ values_ascend members
unfolding values_ascend
values_of [] = refl
values_of (m ∷ members) = ap (λ b. keys_ascend m.1 && b) (values_of members)

opened-Record : (members : List (List ℕ × Data)) → keys_ascend (D.Record members) ≡ ascend (map (λ (m : List ℕ × Bool). m.0) (with_tests members)) && list_all (λ (m : List ℕ × Bool). m.1) (with_tests members)
opened-Record members = search (rules, the_lemmas)

pub keys_ascend-Record : (members : List (List ℕ × Data)) → keys_ascend (D.Record members) ≡ ascend (keys_of members) && values_ascend members
keys_ascend-Record members = opened-Record members ∙ ap (λ keys. ascend keys && list_all (λ (m : List ℕ × Bool). m.1) (with_tests members)) (same_keys members) ∙ ap (λ b. ascend (keys_of members) && b) (values_of members)

pub ruleset levels = (keys_ascend-List, keys_ascend-Record)
