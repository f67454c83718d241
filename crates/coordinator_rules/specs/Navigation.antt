-- Permission to navigate, familiarity, closing, and the choice of a navigable by its name (HTML Standard, 7.4.2.4, allowed
-- by sandboxing to navigate; 7.3.1.7, the rules for choosing a navigable; 7.2.2.1, close). Which navigables are searched
-- in which order, and who is familiar with whom, is this project's own.
use Rattle.std.specs.Prelude.{ℕ, zero, suc, List, [], ◌∷◌, ◌++◌, find, filter, flat_map, Option, Some, None, Bool, true, false, not, ◌||◌, ◌&&◌, ◌==◌, if◌then◌else◌, bytes_eq, codes, unwrap_or}
use Rattle.std.specs.List.{list_any}
use Rattle.origin_core.specs.Flags.{is_same_word, has_navigation, has_auxiliary, has_top, has_top_by_user}
use Rattle.origin_core.specs.Origin.{is_same_origin}
use Rattle.tree_log.specs.Tree.{Tree, is, is_discarded, ancestors, is_top_level, top_level_of, parent_of, children_of, origin_of, same_group}

abbrev pub flags_in : Tree → ℕ → ℕ
flags_in t n = (t.nav n).made.flags

abbrev pub is_in : ℕ → List ℕ → Bool
is_in n ns = list_any (λ m. m == n) ns

-- May navigate: a source may navigate its top-level where the flag for navigations with or without a user isn't set
abbrev pub may_leave : ℕ → Bool → Bool
may_leave flags user = not (if user then has_top_by_user flags else has_top flags)

-- whether the source may navigate the target
unfoldable pub may_navigate : Tree → ℕ → ℕ → Bool → Bool
may_navigate t source target user =
    if source == target || is_in source (ancestors t target) then true
    else if is_in target (ancestors t source) then not (is_top_level t target) || may_leave (flags_in t source) user
    else if is_top_level t target && is (t.nav target).made.navigator source then true
    else not (has_navigation (flags_in t source))

-- Familiar with: whether two navigables show documents of one origin
abbrev pub same_origin_shown : Tree → ℕ → ℕ → Bool
same_origin_shown t a b = is_same_origin (origin_of t (t.nav a).active) (origin_of t (t.nav b).active)

-- whether a knows b without asking for its opener
abbrev pub is_known : Tree → ℕ → ℕ → Bool
is_known t a b = same_origin_shown t a b || is (top_level_of t a) b || list_any (same_origin_shown t a) (ancestors t b)

abbrev pub is_opener_known : (ℕ → Bool) → Option ℕ → Bool
is_opener_known test None = false
is_opener_known test (Some opener) = test opener

-- whether a is familiar with b, through at most k openers
unfoldable pub familiar_through : Tree → ℕ → ℕ → ℕ → Bool
familiar_through t zero a b = is_known t a b
familiar_through t (suc k) a b = is_known t a b || (is_top_level t b && is_opener_known (familiar_through t k a) (t.nav b).opener)

abbrev pub is_familiar : Tree → ℕ → ℕ → Bool
is_familiar t a b = familiar_through t t.navs a b

-- whether the source may close the target: a window that a document made and that isn't closing
unfoldable pub may_close : Tree → ℕ → ℕ → Bool → Bool
may_close t source target user =
    is_top_level t target && (t.nav target).made.scripted && not (t.nav target).closing && is_familiar t source target && may_navigate t source target user

-- Choosing: n, then the walk from each child in order, at most k deep
unfoldable pub walk_from : Tree → ℕ → ℕ → List ℕ
walk_from t zero n = []
walk_from t (suc k) n = n ∷ flat_map (λ c. walk_from t k c) (children_of t (t.nav n).active)

abbrev pub walk : Tree → ℕ → List ℕ
walk t n = walk_from t t.navs n

abbrev pub walk_if_any : Tree → Option ℕ → List ℕ
walk_if_any t None = []
walk_if_any t (Some n) = walk t n

-- the other top-levels of the group that are familiar, in order of creation
abbrev pub other_tops : Tree → ℕ → List ℕ
other_tops t current = filter (λ n. same_group t current n && not (is (top_level_of t current) n) && is_familiar t current n) t.tops

-- the navigables that are searched for a name, in order
abbrev pub searched : Tree → ℕ → List ℕ
searched t current = walk t current ++ (walk_if_any t (top_level_of t current) ++ flat_map (walk t) (other_tops t current))

pub data Choice : Type 0 where
  Existing : (nav : ℕ) → Choice
  New : Choice
  Nothing : Choice

abbrev pub is_found : Tree → ℕ → List ℕ → Bool → ℕ → Bool
is_found t current name user n = bytes_eq (t.nav n).name name && not (is_discarded t n) && may_navigate t current n user

-- the navigable that was found; or else a new one, where sandboxing allows it
abbrev pub found_or_new : Tree → ℕ → Option ℕ → Choice
found_or_new t current (Some n) = Existing n
found_or_new t current None = if has_auxiliary (flags_in t current) then Nothing else New

-- whether the name is this keyword, in any ASCII case
abbrev pub is_word : List ℕ → List ℕ → Bool
is_word word name = is_same_word word name

-- the choice of a navigable by a name
unfoldable pub choice : Tree → ℕ → List ℕ → Bool → Bool → Choice
choice t current name noopener user =
    if bytes_eq name [] || is_word (codes "_self") name then Existing current
    else if is_word (codes "_parent") name then Existing (unwrap_or (parent_of t current) current)
    else if is_word (codes "_top") name then Existing (unwrap_or (top_level_of t current) current)
    else if is_word (codes "_blank") name || noopener then found_or_new t current None
    else found_or_new t current (find (is_found t current name user) (searched t current))
