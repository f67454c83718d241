-- Sites and their places: one place is of one site, and a place stays where hosts are added.
use Rattle.std.proofs.Common.{◌≡◌, ℕ, ◌+◌, ◌≤◌, List, [], ◌∷◌, ◌++◌, Option, Some, None, Bool, true, false, cond, refl, sym, ap, ◌∙◌, arith, eq-eqb}
use Rattle.std.specs.Prelude.{option_map, position, bytes_eq, string_bytes, not, ◌||◌, if◌then◌else◌}
use Rattle.std.specs.List.{position_from, position_or_len, list_any}
use Rattle.indexmap.specs.IndexSet.{insert_key}
use Rattle.std.proofs.lemmas.Bool.{false≢true, and_parts, eqb-true}
use Rattle.std.proofs.lemmas.Iterator.Adapters.{position_from-zero}
use Rattle.std.proofs.lemmas.Slice.Eq.{bytes_eq-Decides}
use Rattle.std.specs.declared.string.String.{String}
use Rattle.origin_core.specs.declared.origin.Scheme.{Scheme}
use Rattle.origin_core.specs.declared.origin.Scheme.TheVariants.{Http, Https}
use Rattle.origin_core.specs.declared.site.Site.{Site}
use Rattle.origin_core.specs.declared.site.Site.TheVariants.{Named, Opaque}
use Rattle.origin_core.specs.Origin.{is_same_scheme}
use Rattle.tree_log.specs.Homes.{is_same_site}
use Rattle.home_index.specs.declared.key.Place.{Place}
use Rattle.home_index.specs.declared.key.Place.TheVariants as place
use Rattle.home_index.specs.Keyed.{named_place, place_of}

-- SAME SITES

same_scheme : (a b : Scheme) → is_same_scheme a b ≡ true → a ≡ b
same_scheme Http Http same = refl
same_scheme Https Https same = refl
same_scheme Http Https same = absurd (false≢true same)
same_scheme Https Http same = absurd (false≢true same)

own_scheme : (a : Scheme) → is_same_scheme a a ≡ true
own_scheme Http = refl
own_scheme Https = refl

pub same_site : (a b : Site) → is_same_site a b ≡ true → a ≡ b
same_site (Named s x) (Named t y) same =
    let both = and_parts _ _ same in
    let scheme = same_scheme s t both.0 in
    let host = (bytes_eq-Decides x y).0 both.1 in
    λ i. Named (scheme i) (host i)
same_site (Opaque m) (Opaque n) same = ap Opaque (eqb-true m n same)
same_site (Named s x) (Opaque n) same = absurd (false≢true same)
same_site (Opaque m) (Named t y) same = absurd (false≢true same)

pub own_site : (s : Site) → is_same_site s s ≡ true
own_site (Named s x) = rw (own_scheme s, (bytes_eq-Decides x x).1 refl) refl
own_site (Opaque n) = eq-eqb n n refl

-- POSITIONS

module _ {X : Type 0} (t : X → Bool) where
  -- a new element that passes
  pub from_new : (i : ℕ) (xs : List X) (x : X) → t x ≡ true → position_from t i (xs ++ x ∷ []) ≡ Some (i + position_or_len t xs)
  from_new i [] x e = rw e (ap Some (omega arith))
  from_new i (y ∷ ys) x e = new_here (t y) (from_new (i + 1) ys x e)
    where
      new_here : (b : Bool) → position_from t (i + 1) (ys ++ x ∷ []) ≡ Some (i + 1 + position_or_len t ys)
          → cond b (Some i) (position_from t (i + 1) (ys ++ x ∷ [])) ≡ Some (i + cond (not b) (1 + position_or_len t ys) 0)
      new_here true later = ap Some (omega arith)
      new_here false later = later ∙ ap Some (omega arith)

  -- an element that is there
  pub from_there : (i : ℕ) (xs : List X) → list_any t xs ≡ true → position_from t i xs ≡ Some (i + position_or_len t xs)
  from_there i [] e = absurd (false≢true e)
  from_there i (y ∷ ys) e = there_here (t y) e (from_there (i + 1) ys)
    where
      there_here : (b : Bool) → (b || list_any t ys) ≡ true → (list_any t ys ≡ true → position_from t (i + 1) ys ≡ Some (i + 1 + position_or_len t ys))
          → cond b (Some i) (position_from t (i + 1) ys) ≡ Some (i + cond (not b) (1 + position_or_len t ys) 0)
      there_here true k later = ap Some (omega arith)
      there_here false k later = later k ∙ ap Some (omega arith)

  from_least : (i j : ℕ) (xs : List X) → position_from t i xs ≡ Some j → i ≤ j
  from_least i j [] h = absurd cc
  from_least i j (x ∷ xs) h = least_here (t x) h (from_least (i + 1) j xs)
    where
      least_here : (b : Bool) → cond b (Some i) (position_from t (i + 1) xs) ≡ Some j → (position_from t (i + 1) xs ≡ Some j → i + 1 ≤ j) → i ≤ j
      least_here true k later = let same : i ≡ j = cc in omega arith
      least_here false k later = let more : i + 1 ≤ j = later k in omega arith

-- one position is of one element
from_both : {X : Type 0} (t u : X → Bool) (i j : ℕ) (xs : List X) → position_from t i xs ≡ Some j → position_from u i xs ≡ Some j → (x : X) × (t x ≡ true) × (u x ≡ true)
from_both t u i j [] h k = absurd cc
from_both {X} t u i j (x ∷ xs) h k = both_here (t x) (u x) refl refl h k (from_both t u (i + 1) j xs)
  where
    both_here : (b c : Bool) → t x ≡ b → u x ≡ c → cond b (Some i) (position_from t (i + 1) xs) ≡ Some j → cond c (Some i) (position_from u (i + 1) xs) ≡ Some j
        → (position_from t (i + 1) xs ≡ Some j → position_from u (i + 1) xs ≡ Some j → (y : X) × (t y ≡ true) × (u y ≡ true)) → (y : X) × (t y ≡ true) × (u y ≡ true)
    both_here true true e f h k later = (x, e, f)
    both_here true false e f h k later = let same : i ≡ j = cc in let more = from_least u (i + 1) j xs k in absurd (omega (arith, more))
    both_here false true e f h k later = let same : i ≡ j = cc in let more = from_least t (i + 1) j xs h in absurd (omega (arith, more))
    both_here false false e f h k later = later h k

-- PLACES

named_one : (s t : Scheme) (i j : ℕ) (p : Place) → named_place s i ≡ p → named_place t j ≡ p → (s ≡ t) × (i ≡ j)
named_one Http Http i j p h k = let e = h ∙ sym k in (refl, cc)
named_one Https Https i j p h k = let e = h ∙ sym k in (refl, cc)
named_one Http Https i j p h k = let e = h ∙ sym k in absurd cc
named_one Https Http i j p h k = let e = h ∙ sym k in absurd cc

named_other : (s : Scheme) (i n : ℕ) (p : Place) → named_place s i ≡ p → place.Opaque n ≡ p → ⊥
named_other Http i n p h k = let e = h ∙ sym k in cc
named_other Https i n p h k = let e = h ∙ sym k in cc

-- one position is of one host
one_host : {Y : Type 0} (hosts : List (String Y)) (a b : List ℕ) (i j : ℕ) → position (λ k. bytes_eq a (string_bytes k)) hosts ≡ Some i → position (λ k. bytes_eq b (string_bytes k)) hosts ≡ Some j → i ≡ j → a ≡ b
one_host hosts a b i j h k e =
    let at = from_both (λ k. bytes_eq a (string_bytes k)) (λ k. bytes_eq b (string_bytes k)) 0 i hosts (sym (position_from-zero (λ k. bytes_eq a (string_bytes k)) hosts) ∙ h)
    (sym (position_from-zero (λ k. bytes_eq b (string_bytes k)) hosts) ∙ k ∙ ap Some (sym e)) in
    (bytes_eq-Decides a (string_bytes at.0)).0 at.1 ∙ sym ((bytes_eq-Decides b (string_bytes at.0)).0 at.2)

-- one place is of one site
pub one_place : {Y : Type 0} (hosts : List (String Y)) (a b : Site) (p : Place) → place_of hosts a ≡ Some p → place_of hosts b ≡ Some p → a ≡ b
one_place hosts (Named s x) (Named t y) p h k = one_here (position (λ k. bytes_eq x (string_bytes k)) hosts) (position (λ k. bytes_eq y (string_bytes k)) hosts) refl refl h k
  where
    one_here : (o q : Option ℕ) → position (λ k. bytes_eq x (string_bytes k)) hosts ≡ o → position (λ k. bytes_eq y (string_bytes k)) hosts ≡ q
        → option_map (named_place s) o ≡ Some p → option_map (named_place t) q ≡ Some p → Named s x ≡ Named t y
    one_here None q e f h k = absurd cc
    one_here (Some i) None e f h k = absurd cc
    one_here (Some i) (Some j) e f h k =
        let left : named_place s i ≡ p = cc in
        let right : named_place t j ≡ p = cc in
        let both = named_one s t i j p left right in
        let host = one_host hosts x y i j e f both.1 in
        let scheme = both.0 in
        λ n. Named (scheme n) (host n)
one_place hosts (Opaque m) (Opaque n) p h k =
    let left : place.Opaque m ≡ p = cc in
    let right : place.Opaque n ≡ p = cc in
    let same : m ≡ n = let e = left ∙ sym right in cc in
    ap Opaque same
one_place hosts (Named s x) (Opaque n) p h k = other_here (position (λ k. bytes_eq x (string_bytes k)) hosts) h
  where
    other_here : (o : Option ℕ) → option_map (named_place s) o ≡ Some p → Named s x ≡ Opaque n
    other_here None h = absurd cc
    other_here (Some i) h = let left : named_place s i ≡ p = cc in let right : place.Opaque n ≡ p = cc in absurd (named_other s i n p left right)
one_place hosts (Opaque n) (Named s x) p h k = other_here (position (λ k. bytes_eq x (string_bytes k)) hosts) k
  where
    other_here : (o : Option ℕ) → option_map (named_place s) o ≡ Some p → Opaque n ≡ Named s x
    other_here None k = absurd cc
    other_here (Some i) k = let left : named_place s i ≡ p = cc in let right : place.Opaque n ≡ p = cc in absurd (named_other s i n p left right)

-- A HOST MORE

abbrev is_text : {Y : Type 0} → String Y → String Y → Bool
is_text a b = bytes_eq (string_bytes a) (string_bytes b)

-- the number of a host that was inserted
pub host_added : {Y : Type 0} (hosts : List (String Y)) (k : String Y) → position (λ x. bytes_eq (string_bytes k) (string_bytes x)) (insert_key is_text hosts k) ≡ Some (position_or_len (λ x. bytes_eq (string_bytes k) (string_bytes x)) hosts)
host_added {Y} hosts k = added_here (list_any (is_text k) hosts) refl
  where
    added_here : (b : Bool) → list_any (is_text k) hosts ≡ b → position (λ x. bytes_eq (string_bytes k) (string_bytes x)) (if b then hosts else hosts ++ k ∷ []) ≡ Some (position_or_len (λ x. bytes_eq (string_bytes k) (string_bytes x)) hosts)
    added_here true e = position_from-zero (λ x. bytes_eq (string_bytes k) (string_bytes x)) hosts ∙ from_there (λ x. bytes_eq (string_bytes k) (string_bytes x)) 0 hosts e ∙ ap Some (omega arith)
    added_here false e =
        position_from-zero (λ x. bytes_eq (string_bytes k) (string_bytes x)) (hosts ++ k ∷ [])
        ∙ from_new (λ x. bytes_eq (string_bytes k) (string_bytes x)) 0 hosts k ((bytes_eq-Decides (string_bytes k) (string_bytes k)).1 refl) ∙ ap Some (omega arith)
