-- What the attributes of a Window and of a Location give is at hand, and so are a Window's children.
use Rattle.std.proofs.Common.{◌≡◌, ℕ, zero, suc, ◌<◌, ◌≤◌, List, [], ◌∷◌, length, codes, Option, Some, None, Bool, true, false, refl, if◌then◌else◌, arith}
use Rattle.std.specs.Prelude.{◌||◌, find, slice_get, bytes_eq, unwrap_or, option_and_then}
use Rattle.plain_data.specs.DataLimits.{is_short}
use Rattle.origin_core.specs.Origin.{is_same_origin, origin_text, page_origin}
use Rattle.window_props.specs.declared.value.Value.TheVariants as value
use Rattle.window_props.specs.declared.platform.Platform.{Platform}
use Rattle.window_props.specs.declared.platform.Platform.TheVariants as platform
use Rattle.tree_log.specs.Tree.{Tree, embedder, nav_of, origin_of, is_active, is_discarded, root_of, parent_of, top_level_of, children_of}
use Rattle.tree_log.specs.NamedChildren.{first_of_name, child_named}
use Rattle.object_access.specs.Values.{null, text, window_or}
use Rattle.object_access.specs.WindowAccess.{window_value}
use Rattle.object_access.specs.LocationAccess.{location_url, text_of_origin, location_value}
use Rattle.agent_laws.specs.Wellness.{AllBelow, IsWell}
use Rattle.agent_laws.proofs.Groups.Choices.{IsBelow, root_below, children_below}
use Rattle.agent_laws.proofs.Logs.Lists.{found_below}
use Rattle.step_ranges.specs.Ranges.{is_at_hand}
use Rattle.step_ranges.proofs.Texts.{below, text_within, whole_within, truth_within, undefined_within, null_within}
use Rattle.step_ranges.proofs.PageOrigins.{page_origin_short}
use Rattle.step_ranges.proofs.Spelled.{IsPage, blank_page}
use Rattle.step_ranges.proofs.Logs.{KeepsLimits}

-- CHILDREN

got_below : (n : ℕ) (xs : List ℕ) (i : ℕ) → AllBelow n xs → IsBelow n (slice_get xs i)
got_below n [] i h = tt
got_below n (x ∷ xs) zero h = h.0
got_below n (x ∷ xs) (suc i) h = got_below n xs i h.1

pub child_below : (t : Tree) → IsWell t → (d i : ℕ) → IsBelow t.navs (slice_get (children_of t d) i)
child_below t well d i = got_below t.navs (children_of t d) i (children_below t well d)

found_if_any : (n : ℕ) (test : ℕ → Bool) (xs : List ℕ) → AllBelow n xs → IsBelow n (find test xs)
found_if_any n test xs h = by_found (find test xs) refl
  where
    by_found : (o : Option ℕ) → find test xs ≡ o → IsBelow n o
    by_found None e = tt
    by_found (Some y) e = found_below n test y xs h e

first_below : (t : Tree) → IsWell t → (d : ℕ) (name : List ℕ) → IsBelow t.navs (first_of_name t d name)
first_below t well d [] = tt
first_below t well d (x ∷ xs) = found_if_any t.navs (λ n. bytes_eq (t.nav n).name (x ∷ xs)) (children_of t d) (children_below t well d)

pub named_below : (t : Tree) → IsWell t → (d : ℕ) (name : List ℕ) → IsBelow t.navs (child_named t d name)
unfolding child_named
named_below t well d name = by_first (first_of_name t d name) (first_below t well d name)
  where
    by_test : (b : Bool) (n : ℕ) → n < t.navs → IsBelow t.navs (if b then Some n else None)
    by_test true n lt = lt
    by_test false n lt = tt

    by_first : (o : Option ℕ) → IsBelow t.navs o → IsBelow t.navs (option_and_then (λ n. if is_same_origin (origin_of t d) (origin_of t (t.nav n).active) then Some n else None) o)
    by_first None h = tt
    by_first (Some n) h = by_test (is_same_origin (origin_of t d) (origin_of t (t.nav n).active)) n h

-- WINDOWS

top_at_hand : (t : Tree) → IsWell t → (n : ℕ) → n < t.navs → (out : Bool) → is_at_hand t (window_or null (if out then None else Some (root_of t n))) ≡ true
top_at_hand t well n lt true = null_within
top_at_hand t well n lt false = below (root_of t n) t.navs (root_below t well n lt)

parent_at_hand : (t : Tree) → IsWell t → (n : ℕ) → n < t.navs → (out gone : Bool) (o : Option ℕ) → embedder t n ≡ o
    → is_at_hand t (if out then null else value.Window (unwrap_or (if gone then None else elim o as (λ _. Option ℕ) [ None ↦ None | Some x ↦ Some (nav_of t x) ]) n)) ≡ true
parent_at_hand t well n lt true gone o e = null_within
parent_at_hand t well n lt false true o e = below n t.navs lt
parent_at_hand t well n lt false false None e = below n t.navs lt
parent_at_hand t well n lt false false (Some x) e = below (nav_of t x) t.navs (well.below x (well.up n x e).0)

opener_at_hand : (t : Tree) (out : Bool) (o : Option ℕ) → IsBelow t.navs o → is_at_hand t (if out then null else window_or null o) ≡ true
opener_at_hand t true o h = null_within
opener_at_hand t false None h = null_within
opener_at_hand t false (Some m) h = below m t.navs h

name_at_hand : (t : Tree) (out : Bool) (name : List ℕ) → is_short name ≡ true → is_at_hand t (text (if out then [] else name)) ≡ true
name_at_hand t true name h = text_within [] refl
name_at_hand t false name h = text_within name h

pub window_value_at_hand : (t : Tree) (urls : ℕ → List ℕ) → KeepsLimits t urls → (n : ℕ) → n < t.navs → (name : Platform) → is_at_hand t (window_value t n name) ≡ true
unfolding window_value top_level_of parent_of
window_value_at_hand t urls kept n lt platform.Window = below n t.navs lt
window_value_at_hand t urls kept n lt platform.Itself = below n t.navs lt
window_value_at_hand t urls kept n lt platform.Frames = below n t.navs lt
window_value_at_hand t urls kept n lt platform.Location = below (t.nav n).active t.docs (kept.well.active n lt)
window_value_at_hand t urls kept n lt platform.Length =
    let few : length (children_of t (t.nav n).active) ≤ 4294967295 = kept.few (t.nav n).active in
    whole_within (length (children_of t (t.nav n).active)) (omega arith)
window_value_at_hand t urls kept n lt platform.Top = top_at_hand t kept.well n lt (is_discarded t n)
window_value_at_hand t urls kept n lt platform.Parent = parent_at_hand t kept.well n lt (is_discarded t n) (is_discarded t n) (embedder t n) refl
window_value_at_hand t urls kept n lt platform.Closed = truth_within (is_discarded t n || (t.nav n).closing)
window_value_at_hand t urls kept n lt platform.Opener = opener_at_hand t (is_discarded t n) (t.nav n).opener (kept.openers n)
window_value_at_hand t urls kept n lt platform.Name = name_at_hand t (is_discarded t n) (t.nav n).name (kept.names n)
window_value_at_hand t urls kept n lt platform.Origin = text_within (origin_text (origin_of t (t.nav n).active)) (kept.origins (t.nav n).active)
window_value_at_hand t urls kept n lt _ = undefined_within

-- LOCATIONS

shown_page : (t : Tree) (urls : ℕ → List ℕ) → KeepsLimits t urls → (d : ℕ) → IsPage (location_url t urls d)
shown_page t urls kept d = by_test (is_active t d)
  where
    by_test : (b : Bool) → IsPage (if b then urls d else codes "about:blank")
    by_test true = kept.pages d
    by_test false = blank_page

pub location_value_at_hand : (t : Tree) (urls : ℕ → List ℕ) → KeepsLimits t urls → (d : ℕ) (name : Platform) → is_at_hand t (location_value t urls d name) ≡ true
unfolding location_value
location_value_at_hand t urls kept d platform.Href = text_within (location_url t urls d) (shown_page t urls kept d).short
location_value_at_hand t urls kept d platform.Origin = text_within (text_of_origin (page_origin (location_url t urls d))) (page_origin_short (location_url t urls d) (shown_page t urls kept d).page)
location_value_at_hand t urls kept d _ = undefined_within
