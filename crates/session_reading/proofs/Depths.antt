-- Depth against a bound, an item at a time.
use Rattle.std.proofs.Common.{◌≡◌, ℕ, suc, ◌-◌, ◌<◌, max, List, [], ◌∷◌, ◌&&◌, true, nat_le, map, refl, ap, ◌∙◌, rules, arith}
use Rattle.std.proofs.lemmas.Bool.Decides.{nat_tests}
use Rattle.plain_data.specs.declared.data.Data.{Data, the_lemmas}
use Rattle.plain_data.specs.declared.data.Data as D
use Rattle.plain_data.specs.DataLimits.{deepest, depth}
use Rattle.session_reading.specs.Levels.{all_nest, members_nest}

max_within : (a b n : ℕ) → nat_le (max a b) n ≡ nat_le a n && nat_le b n
max_within a b n = grind (arith, nat_tests)

zero_within : (n : ℕ) → nat_le 0 n ≡ true
zero_within n = grind (arith, nat_tests)

all_nest-deepest : (n : ℕ) (ds : List Data) → nat_le (deepest (map depth ds)) n ≡ all_nest n ds
unfolding all_nest
all_nest-deepest n [] = zero_within n
all_nest-deepest n (d ∷ ds) = max_within (depth d) (deepest (map depth ds)) n ∙ ap (λ b. nat_le (depth d) n && b) (all_nest-deepest n ds)

members_nest-deepest : (n : ℕ) (fs : List (List ℕ × Data)) → nat_le (deepest (map (λ f. depth f.1) fs)) n ≡ members_nest n fs
unfolding members_nest
members_nest-deepest n [] = zero_within n
members_nest-deepest n (f ∷ fs) = max_within (depth f.1) (deepest (map (λ f. depth f.1) fs)) n ∙ ap (λ b. nat_le (depth f.1) n && b) (members_nest-deepest n fs)

one_less : (a n : ℕ) → 0 < n → nat_le (suc a) n ≡ nat_le a (n - 1)
one_less a n lt = grind (arith, nat_tests)

depth-List : (ds : List Data) → depth (D.List ds) ≡ suc (deepest (map depth ds))
depth-List ds = search (rules, the_lemmas)

pub list_within : (ds : List Data) (n : ℕ) → 0 < n → nat_le (depth (D.List ds)) n ≡ all_nest (n - 1) ds
list_within ds n lt = ap (λ k. nat_le k n) (depth-List ds) ∙ one_less _ n lt ∙ all_nest-deepest (n - 1) ds

values_of : (fs : List (List ℕ × Data)) → map (λ (m : List ℕ × ℕ). m.1) (map (λ f. (f.0, depth f.1)) fs) ≡ map (λ f. depth f.1) fs
values_of [] = refl
values_of (f ∷ fs) = ap (λ ns. depth f.1 ∷ ns) (values_of fs)

opened : (fs : List (List ℕ × Data)) → depth (D.Record fs) ≡ suc (deepest (map (λ (m : List ℕ × ℕ). m.1) (map (λ f. (f.0, depth f.1)) fs)))
opened fs = search (rules, the_lemmas)

pub record_within : (fs : List (List ℕ × Data)) (n : ℕ) → 0 < n → nat_le (depth (D.Record fs)) n ≡ members_nest (n - 1) fs
record_within fs n lt = ap (λ k. nat_le k n) (opened fs ∙ ap (λ ns. suc (deepest ns)) (values_of fs)) ∙ one_less _ n lt ∙ members_nest-deepest (n - 1) fs

pub ruleset depth_levels = (list_within, record_within)
