-- The other top-levels, number by number.
use Rattle.std.proofs.Common.{◌≡◌, ℕ, suc, ◌+◌, ◌-◌, ◌<◌, ◌≤◌, List, [], ◌∷◌, ◌++◌, Option, Some, None, Bool, true, false, cond, ◌&&◌, refl, ap, sym, ◌∙◌, arith, find, filter, flat_map}
use Rattle.std.specs.List.{range_with_len}
use Rattle.std.specs.Option.{option_or}
use Rattle.std.proofs.lemmas.List.Folds.{find-append}
use Rattle.tree_log.specs.Tree.{Tree, is_top_level, top_level_of}
use Rattle.tree_view.specs.Grown.{IsGrown}
use Rattle.coordinator_rules.specs.Navigation.{walk, walk_if_any, other_tops, searched}
use Rattle.nav_rules.specs.Walks.{is_other}

-- those from number i on
abbrev pub tops_from : Tree → ℕ → ℕ → List ℕ
tops_from t current i = filter (is_other t current) (filter (is_top_level t) (range_with_len i (t.navs - i)))

pub all_tops : (t : Tree) (current : ℕ) → IsGrown t → tops_from t current 0 ≡ other_tops t current
all_tops t current grown = ap (λ n. filter (is_other t current) (filter (is_top_level t) (range_with_len 0 n))) none ∙ ap (filter (is_other t current)) (sym grown.tops)
  where
    none : t.navs - 0 ≡ t.navs
    none = omega arith

pub no_tops : (t : Tree) (current i : ℕ) → t.navs ≤ i → tops_from t current i ≡ []
no_tops t current i le = ap (λ j. filter (is_other t current) (filter (is_top_level t) (range_with_len i j))) none
  where
    none : t.navs - i ≡ 0
    none = omega (arith, le)

range_next : (i n : ℕ) → i < n → range_with_len i (n - i) ≡ i ∷ range_with_len (i + 1) (n - (i + 1))
range_next i n lt = ap (range_with_len i) more
  where
    more : n - i ≡ suc (n - (i + 1))
    more = omega (arith, lt)

two_filters : (p q : ℕ → Bool) (n : ℕ) (ns : List ℕ) (a b : Bool) → p n ≡ a → q n ≡ b → filter q (filter p (n ∷ ns)) ≡ cond (a && b) (n ∷ filter q (filter p ns)) (filter q (filter p ns))
two_filters p q n ns true true hp hq = rw (hp, hq) refl
two_filters p q n ns true false hp hq = rw (hp, hq) refl
two_filters p q n ns false b hp hq = rw hp refl

pub tops_next : (t : Tree) (current i : ℕ) → i < t.navs → tops_from t current i ≡ cond (is_top_level t i && is_other t current i) (i ∷ tops_from t current (i + 1)) (tops_from t current (i + 1))
tops_next t current i lt =
    ap (λ ns. filter (is_other t current) (filter (is_top_level t) ns)) (range_next i t.navs lt)
    ∙ two_filters (is_top_level t) (is_other t current) i (range_with_len (i + 1) (t.navs - (i + 1))) (is_top_level t i) (is_other t current i) refl refl

-- the first one found among those from number i on
abbrev pub found_from : (ℕ → Bool) → Tree → ℕ → ℕ → Option ℕ
found_from test t current i = find test (flat_map (walk t) (tops_from t current i))

with_tree : (test : ℕ → Bool) (t : Tree) (current i : ℕ) (b : Bool) → find test (flat_map (walk t) (cond b (i ∷ tops_from t current (i + 1)) (tops_from t current (i + 1)))) ≡ option_or (cond b (find test (walk t i)) None) (found_from test t current (i + 1))
with_tree test t current i true = find-append test (walk t i) (flat_map (walk t) (tops_from t current (i + 1)))
with_tree test t current i false = refl

-- one number more
pub found_next : (test : ℕ → Bool) (t : Tree) (current i : ℕ) (found : Option ℕ) → i < t.navs → found ≡ cond (is_top_level t i && is_other t current i) (find test (walk t i)) None
    → found_from test t current i ≡ option_or found (found_from test t current (i + 1))
found_next test t current i found lt is =
    ap (λ ns. find test (flat_map (walk t) ns)) (tops_next t current i lt)
    ∙ with_tree test t current i (is_top_level t i && is_other t current i)
    ∙ ap (λ o. option_or o (found_from test t current (i + 1))) (sym is)

-- the whole search: the tree of the current navigable, that of its top-level one, and the others
search_is : (test : ℕ → Bool) (t : Tree) (current : ℕ) → find test (searched t current) ≡ option_or (find test (walk t current)) (option_or (find test (walk_if_any t (top_level_of t current))) (find test (flat_map (walk t) (other_tops t current))))
search_is test t current =
    find-append test (walk t current) (walk_if_any t (top_level_of t current) ++ flat_map (walk t) (other_tops t current))
    ∙ ap (option_or (find test (walk t current))) (find-append test (walk_if_any t (top_level_of t current)) (flat_map (walk t) (other_tops t current)))

pub in_own_tree : (test : ℕ → Bool) (t : Tree) (current n : ℕ) → find test (walk t current) ≡ Some n → Some n ≡ find test (searched t current)
in_own_tree test t current n here =
    sym (search_is test t current ∙ ap (λ o. option_or o (option_or (find test (walk_if_any t (top_level_of t current))) (find test (flat_map (walk t) (other_tops t current))))) here)

not_in_own : (test : ℕ → Bool) (t : Tree) (current : ℕ) → find test (walk t current) ≡ None → find test (searched t current) ≡ option_or (find test (walk_if_any t (top_level_of t current))) (find test (flat_map (walk t) (other_tops t current)))
not_in_own test t current none =
    search_is test t current ∙ ap (λ o. option_or o (option_or (find test (walk_if_any t (top_level_of t current))) (find test (flat_map (walk t) (other_tops t current))))) none

pub in_top_tree : (test : ℕ → Bool) (t : Tree) (current n : ℕ) → find test (walk t current) ≡ None → find test (walk_if_any t (top_level_of t current)) ≡ Some n → Some n ≡ find test (searched t current)
in_top_tree test t current n none here = sym (not_in_own test t current none ∙ ap (λ o. option_or o (find test (flat_map (walk t) (other_tops t current)))) here)

pub in_other_trees : (test : ℕ → Bool) (t : Tree) (current : ℕ) → find test (walk t current) ≡ None → find test (walk_if_any t (top_level_of t current)) ≡ None → find test (flat_map (walk t) (other_tops t current)) ≡ find test (searched t current)
in_other_trees test t current none nor = sym (not_in_own test t current none ∙ ap (λ o. option_or o (find test (flat_map (walk t) (other_tops t current)))) nor)

-- a number below the count that was read is there
pub other_left : (i count navs : ℕ) → i < count → count ≡ navs → i < navs
other_left i count navs lt is = omega (arith, lt, is)
