-- The navigables that a tree's reads give are there.
use Rattle.std.proofs.Common.{◌≡◌, ℕ, zero, suc, ◌<◌, List, [], ◌++◌, Option, Some, None, Bool, true, false, refl, subst, if◌then◌else◌, arith}
use Rattle.std.specs.Prelude.{filter, flat_map, find, codes, bytes_eq, unwrap_or, not, ◌&&◌, ◌||◌, is_some}
use Rattle.std.proofs.lemmas.Bool.{false≢true}
use Rattle.origin_core.specs.Flags.{has_auxiliary}
use Rattle.tree_log.specs.Tree.{Tree, chain, chain_from, embedder, nav_of, last_or, root_of, group_of, children_of, is_active, parent_of, is_discarded, top_level_of, same_group, is}
use Rattle.coordinator_rules.specs.Navigation.{flags_in, Choice, Existing, New, Nothing, choice, found_or_new, is_found, is_word, searched, walk, walk_from, walk_if_any, other_tops, is_familiar}
use Rattle.agent_laws.specs.Wellness.{AllBelow, IsWell}
use Rattle.agent_laws.proofs.Logs.Lists.{append_below, filter_below, flat_map_below, found_below}

-- TOP-LEVELS

-- the navigables of a chain are there
root_from : (t : Tree) (k : ℕ) → IsWell t → (j x : ℕ) → x < k → (y : ℕ) → y < k → last_or y (chain_from t j x) < k
root_from t k well zero x lt y ly = ly
root_from t k well (suc j) x lt y ly = above (embedder t x) (λ d e z lz. let u = well.up x d e in let up : nav_of t d < x = u.1 in root_from t k well j (nav_of t d) (omega arith) z lz)
  where
    above : (o : Option ℕ) → ((d : ℕ) → o ≡ Some d → (z : ℕ) → z < k → last_or z (chain_from t j (nav_of t d)) < k) → last_or x (elim o as (λ _. List ℕ) [ None ↦ [] | Some d ↦ chain_from t j (nav_of t d) ]) < k
    above None h = lt
    above (Some d) h = h d refl x lt

pub root_below : (t : Tree) → IsWell t → (n : ℕ) → n < t.navs → root_of t n < t.navs
unfolding chain
root_below t well n lt = root_from t t.navs well (suc n) n lt n lt

-- a chain ends at a navigable without embedder
top_from : (t : Tree) → IsWell t → (j x y : ℕ) → x < j → embedder t (last_or y (chain_from t j x)) ≡ None
top_from t well zero x y lt = absurd (omega arith)
top_from t well (suc j) x y lt = above (embedder t x) refl (λ d e. let u = well.up x d e in let up : nav_of t d < x = u.1 in top_from t well j (nav_of t d) x (omega arith))
  where
    above : (o : Option ℕ) → embedder t x ≡ o → ((d : ℕ) → embedder t x ≡ Some d → embedder t (last_or x (chain_from t j (nav_of t d))) ≡ None)
        → embedder t (last_or x (elim o as (λ _. List ℕ) [ None ↦ [] | Some d ↦ chain_from t j (nav_of t d) ])) ≡ None
    above None e h = e
    above (Some d) e h = h d e

pub root_is_top : (t : Tree) → IsWell t → (n : ℕ) → embedder t (root_of t n) ≡ None
unfolding chain
root_is_top t well n = top_from t well (suc n) n n (omega arith)

some_of : (o : Option ℕ) → is_some o ≡ true → (g : ℕ) × (o ≡ Some g)
some_of None h = absurd (false≢true h)
some_of (Some g) h = (g, refl)

-- a navigable that is there has a group that is there
pub has_group : (t : Tree) → IsWell t → (n : ℕ) → n < t.navs → (g : ℕ) × (group_of t n ≡ Some g) × (g < t.groups)
unfolding group_of
has_group t well n lt =
    let some = some_of _ (well.grouped (root_of t n) (root_below t well n lt) (root_is_top t well n)) in
    (some.0, some.1, well.groups (root_of t n) some.0 some.1)

-- CHILDREN

below_or_none : (n : ℕ) (b : Bool) (xs : List ℕ) → AllBelow n xs → AllBelow n (if b then xs else [])
below_or_none n true xs h = h
below_or_none n false xs h = tt

pub children_below : (t : Tree) → IsWell t → (d : ℕ) → AllBelow t.navs (children_of t d)
unfolding children_of
children_below t well d = below_or_none t.navs (is_active t d) (filter (λ n. not (t.nav n).dropped) (t.frames d)) (filter_below t.navs (λ n. not (t.nav n).dropped) (t.frames d) (well.frames d))

walk_below : (t : Tree) → IsWell t → (k n : ℕ) → n < t.navs → AllBelow t.navs (walk_from t k n)
unfolding walk_from
walk_below t well zero n lt = tt
walk_below t well (suc k) n lt =
    (lt, flat_map_below t.navs t.navs (λ c. walk_from t k c) (λ x l. walk_below t well k x l) (children_of t (t.nav n).active) (children_below t well (t.nav n).active))

-- CHOICES

-- the number is one of so many, if there is one
abbrev pub IsBelow : ℕ → Option ℕ → Type 0
IsBelow n None = Unit {0}
IsBelow n (Some m) = m < n

none_or_below : (n : ℕ) (b : Bool) (o : Option ℕ) → IsBelow n o → IsBelow n (if b then None else o)
none_or_below n true o h = tt
none_or_below n false o h = h

pub parent_below : (t : Tree) → IsWell t → (n : ℕ) → IsBelow t.navs (parent_of t n)
unfolding parent_of
parent_below t well n = none_or_below t.navs (is_discarded t n) (elim (embedder t n) as (λ _. Option ℕ) [ None ↦ None | Some d ↦ Some (nav_of t d) ]) (above (embedder t n) (λ d e. (well.up n d e).0))
  where
    above : (o : Option ℕ) → ((d : ℕ) → o ≡ Some d → d < t.docs) → IsBelow t.navs (elim o as (λ _. Option ℕ) [ None ↦ None | Some d ↦ Some (nav_of t d) ])
    above None h = tt
    above (Some d) h = well.below d (h d refl)

pub top_below : (t : Tree) → IsWell t → (n : ℕ) → n < t.navs → IsBelow t.navs (top_level_of t n)
unfolding top_level_of
top_below t well n lt = none_or_below t.navs (is_discarded t n) (Some (root_of t n)) (root_below t well n lt)

or_below : (k : ℕ) (o : Option ℕ) (n : ℕ) → IsBelow k o → n < k → unwrap_or o n < k
or_below k None n h lt = lt
or_below k (Some m) n h lt = h

-- a chosen navigable is there
abbrev pub IsChoiceBelow : ℕ → Choice → Type 0
IsChoiceBelow navs (Existing n) = n < navs
IsChoiceBelow navs New = Unit {0}
IsChoiceBelow navs Nothing = Unit {0}

choice_if : (navs : ℕ) (b : Bool) (c d : Choice) → IsChoiceBelow navs c → IsChoiceBelow navs d → IsChoiceBelow navs (if b then c else d)
choice_if navs true c d h k = h
choice_if navs false c d h k = k

found_choice : (t : Tree) (current : ℕ) (o : Option ℕ) → IsBelow t.navs o → IsChoiceBelow t.navs (found_or_new t current o)
found_choice t current (Some n) h = h
found_choice t current None h = choice_if t.navs (has_auxiliary (flags_in t current)) Nothing New tt tt

found_option : (n : ℕ) (p : ℕ → Bool) (xs : List ℕ) → AllBelow n xs → (o : Option ℕ) → find p xs ≡ o → IsBelow n o
found_option n p xs h None e = tt
found_option n p xs h (Some y) e = found_below n p y xs h e

walk_if_any_below : (t : Tree) → IsWell t → (o : Option ℕ) → IsBelow t.navs o → AllBelow t.navs (walk_if_any t o)
walk_if_any_below t well None h = tt
walk_if_any_below t well (Some n) h = walk_below t well t.navs n h

searched_below : (t : Tree) → IsWell t → (current : ℕ) → current < t.navs → AllBelow t.navs (searched t current)
searched_below t well current lt =
    append_below t.navs (walk t current) (walk_if_any t (top_level_of t current) ++ flat_map (walk t) (other_tops t current)) (walk_below t well t.navs current lt)
    (append_below t.navs (walk_if_any t (top_level_of t current)) (flat_map (walk t) (other_tops t current)) (walk_if_any_below t well (top_level_of t current) (top_below t well current lt))
    (flat_map_below t.navs t.navs (walk t) (λ x l. walk_below t well t.navs x l) (other_tops t current)
    (filter_below t.navs (λ n. same_group t current n && not (is (top_level_of t current) n) && is_familiar t current n) t.tops well.tops)))

pub choice_below : (t : Tree) → IsWell t → (current : ℕ) (name : List ℕ) (noopener user : Bool) → current < t.navs → IsChoiceBelow t.navs (choice t current name noopener user)
unfolding choice
choice_below t well current name noopener user lt =
    choice_if t.navs (bytes_eq name [] || is_word (codes "_self") name) (Existing current) _ lt
    (choice_if t.navs (is_word (codes "_parent") name) (Existing (unwrap_or (parent_of t current) current)) _ (or_below t.navs (parent_of t current) current (parent_below t well current) lt)
    (choice_if t.navs (is_word (codes "_top") name) (Existing (unwrap_or (top_level_of t current) current)) _ (or_below t.navs (top_level_of t current) current (top_below t well current lt) lt)
    (choice_if t.navs (is_word (codes "_blank") name || noopener) (found_or_new t current None) _
    (found_choice t current None tt)
    (found_choice t current (find (is_found t current name user) (searched t current)) (found_option t.navs (is_found t current name user) (searched t current) (searched_below t well current lt) (find (is_found t current name user) (searched t current)) refl)))))

pub chosen_below : (t : Tree) → IsWell t → (current : ℕ) (name : List ℕ) (noopener user : Bool) (n : ℕ) → current < t.navs → choice t current name noopener user ≡ Existing n → n < t.navs
chosen_below t well current name noopener user n lt e = subst (IsChoiceBelow t.navs) e (choice_below t well current name noopener user lt)
