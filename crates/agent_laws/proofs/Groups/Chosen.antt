-- A navigable that is chosen by a name is of the chooser's group.
use Rattle.std.proofs.Common.{◌≡◌, ℕ, zero, suc, ◌<◌, List, [], ◌∷◌, ◌++◌, Option, Some, None, Bool, true, false, refl, ap, sym, subst, ◌∙◌, if◌then◌else◌, eq-eqb}
use Rattle.std.specs.Prelude.{filter, flat_map, find, codes, bytes_eq, unwrap_or, not, ◌==◌, ◌&&◌, ◌||◌}
use Rattle.tree_log.specs.Tree.{Tree, embedder, nav_of, root_of, group_of, children_of, is_active, parent_of, is_discarded, top_level_of, same_group, is}
use Rattle.tree_log.proofs.Admitted.{both}
use Rattle.origin_core.specs.Flags.{has_auxiliary}
use Rattle.coordinator_rules.specs.Navigation.{flags_in, is_in, Choice, Existing, New, Nothing, choice, found_or_new, is_found, is_word, searched, walk, walk_from, walk_if_any, other_tops, is_familiar}
use Rattle.agent_laws.specs.Wellness.{AllBelow, IsWell}
use Rattle.agent_laws.specs.Belonging.{IsClosed}
use Rattle.agent_laws.proofs.Logs.Lists.{in_below, find_step}
use Rattle.agent_laws.proofs.Groups.Choices.{root_below, root_is_top}
use Rattle.agent_laws.proofs.Logs.Older.{group_of_child, group_of_top}
use Rattle.agent_laws.proofs.Groups.Grouped.{group_same, same_from}

-- NAVIGABLES OF A GROUP

-- the navigable is there, and of this group
abbrev InGroup : Tree → Option ℕ → ℕ → Type 0
InGroup t g n = (n < t.navs) × (group_of t n ≡ g)

abbrev AllInGroup : Tree → Option ℕ → List ℕ → Type 0
AllInGroup t g [] = Unit {0}
AllInGroup t g (x ∷ xs) = InGroup t g x × AllInGroup t g xs

append_in_group : (t : Tree) (g : Option ℕ) (xs ys : List ℕ) → AllInGroup t g xs → AllInGroup t g ys → AllInGroup t g (xs ++ ys)
append_in_group t g [] ys h k = k
append_in_group t g (x ∷ xs) ys h k = (h.0, append_in_group t g xs ys h.1 k)

front_in_group : (t : Tree) (g : Option ℕ) (b : Bool) (x : ℕ) (xs : List ℕ) → (b ≡ true → InGroup t g x) → AllInGroup t g xs → AllInGroup t g (if b then x ∷ xs else xs)
front_in_group t g true x xs h k = (h refl, k)
front_in_group t g false x xs h k = k

filter_in_group : (t : Tree) (g : Option ℕ) (p : ℕ → Bool) (xs : List ℕ) → AllInGroup t g xs → AllInGroup t g (filter p xs)
filter_in_group t g p [] h = tt
filter_in_group t g p (x ∷ xs) h = front_in_group t g (p x) x (filter p xs) (λ k. h.0) (filter_in_group t g p xs h.1)

-- a test that gives true for navigables of the group alone
tested_in_group : (t : Tree) (g : Option ℕ) (p : ℕ → Bool) → ((n : ℕ) → p n ≡ true → group_of t n ≡ g) → (xs : List ℕ) → AllBelow t.navs xs → AllInGroup t g (filter p xs)
tested_in_group t g p of [] h = tt
tested_in_group t g p of (x ∷ xs) h = front_in_group t g (p x) x (filter p xs) (λ k. (h.0, of x k)) (tested_in_group t g p of xs h.1)

flat_map_in_group : (t : Tree) (g : Option ℕ) (f : ℕ → List ℕ) → ((x : ℕ) → InGroup t g x → AllInGroup t g (f x)) → (xs : List ℕ) → AllInGroup t g xs → AllInGroup t g (flat_map f xs)
flat_map_in_group t g f of [] h = tt
flat_map_in_group t g f of (x ∷ xs) h = append_in_group t g (f x) (flat_map f xs) (of x h.0) (flat_map_in_group t g f of xs h.1)

found_in_group : (t : Tree) (g : Option ℕ) (p : ℕ → Bool) (y : ℕ) (xs : List ℕ) → AllInGroup t g xs → find p xs ≡ Some y → InGroup t g y
found_in_group t g p y [] h e = absurd cc
found_in_group t g p y (x ∷ xs) h e = found_here (p x) refl (λ k. found_in_group t g p y xs h.1 (sym (find_step p x xs false k) ∙ e))
  where
    found_here : (b : Bool) → p x ≡ b → (p x ≡ false → InGroup t g y) → InGroup t g y
    found_here true k later = let same : Some x ≡ Some y = sym (find_step p x xs true k) ∙ e in let one : x ≡ y = cc in subst (λ (z : ℕ). InGroup t g z) one h.0
    found_here false k later = later k

-- what holds of each number of a list
members_in_group : (t : Tree) (g : Option ℕ) (xs : List ℕ) → ((n : ℕ) → is_in n xs ≡ true → InGroup t g n) → AllInGroup t g xs
members_in_group t g [] h = tt
members_in_group t g (x ∷ xs) h = (h x (first (x == x) (eq-eqb x x refl)), members_in_group t g xs (λ n i. h n (later (x == n) n i)))
  where
    first : (b : Bool) → b ≡ true → (b || is_in x xs) ≡ true
    first b e = rw e refl

    later : (b : Bool) (n : ℕ) → is_in n xs ≡ true → (b || is_in n xs) ≡ true
    later true n i = refl
    later false n i = i

-- WALKS

list_if : (t : Tree) (g : Option ℕ) (b : Bool) (xs : List ℕ) → AllInGroup t g xs → AllInGroup t g (if b then xs else [])
list_if t g true xs h = h
list_if t g false xs h = tt

-- the children of the document of a navigable are of its group
children_in_group : (t : Tree) → IsClosed t → (g : Option ℕ) (n : ℕ) → InGroup t g n → AllInGroup t g (children_of t (t.nav n).active)
unfolding children_of
children_in_group t closed g n h =
    list_if t g (is_active t (t.nav n).active) (filter (λ c. not (t.nav c).dropped) (t.frames (t.nav n).active))
    (filter_in_group t g (λ c. not (t.nav c).dropped) (t.frames (t.nav n).active) (members_in_group t g (t.frames (t.nav n).active) child))
  where
    child : (c : ℕ) → is_in c (t.frames (t.nav n).active) ≡ true → InGroup t g c
    child c i = (
      in_below t.navs c (t.frames (t.nav n).active) (closed.well.frames (t.nav n).active) i,
      group_of_child t closed.well c (t.nav n).active (closed.frames (t.nav n).active c i) ∙ ap (group_of t) (closed.well.placed n h.0) ∙ h.1,
    )

walk_in_group : (t : Tree) → IsClosed t → (g : Option ℕ) (k n : ℕ) → InGroup t g n → AllInGroup t g (walk_from t k n)
unfolding walk_from
walk_in_group t closed g zero n h = tt
walk_in_group t closed g (suc k) n h =
    (h, flat_map_in_group t g (λ c. walk_from t k c) (λ x i. walk_in_group t closed g k x i) (children_of t (t.nav n).active) (children_in_group t closed g n h))

-- PARENTS AND TOP-LEVELS

abbrev IfInGroup : Tree → Option ℕ → Option ℕ → Type 0
IfInGroup t g None = Unit {0}
IfInGroup t g (Some n) = InGroup t g n

none_or_in : (t : Tree) (g : Option ℕ) (b : Bool) (o : Option ℕ) → IfInGroup t g o → IfInGroup t g (if b then None else o)
none_or_in t g true o h = tt
none_or_in t g false o h = h

parent_in_group : (t : Tree) → IsWell t → (n : ℕ) → IfInGroup t (group_of t n) (parent_of t n)
unfolding parent_of
parent_in_group t well n =
    none_or_in t (group_of t n) (is_discarded t n) (elim (embedder t n) as (λ _. Option ℕ) [ None ↦ None | Some d ↦ Some (nav_of t d) ])
    (above (embedder t n) (λ d e. (well.below d (well.up n d e).0, sym (group_of_child t well n d e))))
  where
    above : (o : Option ℕ) → ((d : ℕ) → o ≡ Some d → InGroup t (group_of t n) (nav_of t d)) → IfInGroup t (group_of t n) (elim o as (λ _. Option ℕ) [ None ↦ None | Some d ↦ Some (nav_of t d) ])
    above None h = tt
    above (Some d) h = h d refl

group_by_root : (t : Tree) (n : ℕ) → group_of t n ≡ (t.nav (root_of t n)).made.group
unfolding group_of
group_by_root t n = refl

root_group : (t : Tree) → IsWell t → (n : ℕ) → group_of t (root_of t n) ≡ group_of t n
root_group t well n = group_of_top t (root_of t n) (root_is_top t well n) ∙ sym (group_by_root t n)

top_in_group : (t : Tree) → IsWell t → (n : ℕ) → n < t.navs → IfInGroup t (group_of t n) (top_level_of t n)
unfolding top_level_of
top_in_group t well n lt = none_or_in t (group_of t n) (is_discarded t n) (Some (root_of t n)) (root_below t well n lt, root_group t well n)

or_in_group : (t : Tree) (g : Option ℕ) (o : Option ℕ) (n : ℕ) → IfInGroup t g o → InGroup t g n → InGroup t g (unwrap_or o n)
or_in_group t g None n h k = k
or_in_group t g (Some m) n h k = h

-- CHOICES

abbrev IsChoiceIn : Tree → Option ℕ → Choice → Type 0
IsChoiceIn t g (Existing n) = InGroup t g n
IsChoiceIn t g New = Unit {0}
IsChoiceIn t g Nothing = Unit {0}

choice_if : (t : Tree) (g : Option ℕ) (b : Bool) (c d : Choice) → IsChoiceIn t g c → IsChoiceIn t g d → IsChoiceIn t g (if b then c else d)
choice_if t g true c d h k = h
choice_if t g false c d h k = k

found_choice : (t : Tree) (g : Option ℕ) (current : ℕ) (o : Option ℕ) → IfInGroup t g o → IsChoiceIn t g (found_or_new t current o)
found_choice t g current (Some n) h = h
found_choice t g current None h = choice_if t g (has_auxiliary (flags_in t current)) Nothing New tt tt

found_option : (t : Tree) (g : Option ℕ) (p : ℕ → Bool) (xs : List ℕ) → AllInGroup t g xs → (o : Option ℕ) → find p xs ≡ o → IfInGroup t g o
found_option t g p xs h None e = tt
found_option t g p xs h (Some y) e = found_in_group t g p y xs h e

walk_if_any_in : (t : Tree) → IsClosed t → (g : Option ℕ) (o : Option ℕ) → IfInGroup t g o → AllInGroup t g (walk_if_any t o)
walk_if_any_in t closed g None h = tt
walk_if_any_in t closed g (Some n) h = walk_in_group t closed g t.navs n h

tops_in_group : (t : Tree) → IsWell t → (current : ℕ) → AllInGroup t (group_of t current) (other_tops t current)
tops_in_group t well current =
    tested_in_group t (group_of t current) (λ n. same_group t current n && not (is (top_level_of t current) n) && is_familiar t current n)
    (λ n k. sym (group_same t current n (both _ _ (both _ _ k).0).0)) t.tops well.tops

searched_in_group : (t : Tree) → IsClosed t → (current : ℕ) → current < t.navs → AllInGroup t (group_of t current) (searched t current)
searched_in_group t closed current lt =
    let g : Option ℕ = group_of t current in
    append_in_group t g (walk t current) (walk_if_any t (top_level_of t current) ++ flat_map (walk t) (other_tops t current)) (walk_in_group t closed g t.navs current (lt, refl))
    (append_in_group t g (walk_if_any t (top_level_of t current)) (flat_map (walk t) (other_tops t current)) (walk_if_any_in t closed g (top_level_of t current) (top_in_group t closed.well current lt))
    (flat_map_in_group t g (walk t) (λ x i. walk_in_group t closed g t.navs x i) (other_tops t current) (tops_in_group t closed.well current)))

choice_in_group : (t : Tree) → IsClosed t → (current : ℕ) (name : List ℕ) (noopener user : Bool) → current < t.navs → IsChoiceIn t (group_of t current) (choice t current name noopener user)
unfolding choice
choice_in_group t closed current name noopener user lt =
    let g : Option ℕ = group_of t current in
    choice_if t g (bytes_eq name [] || is_word (codes "_self") name) (Existing current) _ (lt, refl)
    (choice_if t g (is_word (codes "_parent") name) (Existing (unwrap_or (parent_of t current) current)) _ (or_in_group t g (parent_of t current) current (parent_in_group t closed.well current) (lt, refl))
    (choice_if t g (is_word (codes "_top") name) (Existing (unwrap_or (top_level_of t current) current)) _ (or_in_group t g (top_level_of t current) current (top_in_group t closed.well current lt) (lt, refl))
    (choice_if t g (is_word (codes "_blank") name || noopener) (found_or_new t current None) _
    (found_choice t g current None tt)
    (found_choice t g current (find (is_found t current name user) (searched t current)) (found_option t g (is_found t current name user) (searched t current) (searched_in_group t closed current lt) (find (is_found t current name user) (searched t current)) refl)))))

-- a chosen navigable is of the group of the one that chooses
pub chosen_in_group : (t : Tree) → IsClosed t → (current : ℕ) (name : List ℕ) (noopener user : Bool) (n : ℕ) → current < t.navs → choice t current name noopener user ≡ Existing n → same_group t current n ≡ true
chosen_in_group t closed current name noopener user n lt e =
    let chosen : InGroup t (group_of t current) n = subst (IsChoiceIn t (group_of t current)) e (choice_in_group t closed current name noopener user lt) in
    same_from t closed.well current n lt (sym chosen.1)
