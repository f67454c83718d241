-- What is left of a walk of a tree, parents before children, at a place of it.
use Rattle.std.specs.Prelude.{◌≡◌, ◌≢◌, ℕ, zero, suc, ◌<◌, List, [], ◌++◌, flat_map, Option, Some, None, Bool, true, false, not, ◌&&◌, ◌==◌, if◌then◌else◌}
use Rattle.tree_log.specs.Tree.{Tree, is, embedder, nav_of, chain, is_discarded, children_of, top_level_of, same_group}
use Rattle.tree_log.specs.Siblings.{later_siblings}
use Rattle.coordinator_rules.specs.Navigation.{is_in, walk, is_familiar}
use Rattle.nav_rules.specs.declared.place.Place.{Place}

-- the navigable of an embedder
abbrev pub nav_if_any : Tree → Option ℕ → Option ℕ
nav_if_any t None = None
nav_if_any t (Some d) = Some (nav_of t d)

-- the navigable that embeds n, be n discarded or not
abbrev pub above : Tree → ℕ → Option ℕ
above t n = nav_if_any t (embedder t n)

-- what the walk from root comes to behind n and all below n, at most k levels up
abbrev pub after_from : Tree → ℕ → ℕ → ℕ → List ℕ
after_from t root zero n = []
after_from t root (suc k) n = if n == root then [] else flat_map (walk t) (later_siblings t n) ++ elim (embedder t n) [ None ↦ [] | Some d ↦ after_from t root k (nav_of t d) ]

unfoldable pub after : Tree → ℕ → ℕ → List ℕ
after t root n = after_from t root (suc n) n

-- what it comes to behind n
abbrev pub left_after : Tree → ℕ → Bool → ℕ → List ℕ
left_after t root without_children n = if without_children then after t root n else flat_map (walk t) (children_of t (t.nav n).active) ++ after t root n

-- the walk from root came to n by a parent that shows what embeds n
pub record Under (t : Tree) (root n up : ℕ) : Type 0 where
  pub within : up < t.navs
  pub above : above t n ≡ Some up
  pub below_root : is_in root (chain t up) ≡ true
  pub kept : is_discarded t up ≡ false

-- a place in the walk from root
pub record Stands (t : Tree) (root : ℕ) (place : Place) : Type 0 where
  pub within : place.nav < t.navs
  pub parent : place.parent < t.navs
  pub under : place.nav ≢ root → Under t root place.nav place.parent

-- the place is where the rest of the walk begins, and there is one where there is a rest
abbrev pub Comes : Tree → ℕ → List ℕ → Option Place → Type 0
Comes t root rest None = rest ≡ []
Comes t root rest (Some place) = (rest ≡ walk t place.nav ++ after t root place.nav) × Stands t root place

-- the other top-levels that are searched
abbrev pub is_other : Tree → ℕ → ℕ → Bool
is_other t current n = same_group t current n && not (is (top_level_of t current) n) && is_familiar t current n
