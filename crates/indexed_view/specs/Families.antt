-- The children of a document as they are kept: all of them, and those of each name.
use Rattle.std.specs.Prelude.{ℕ, List, [], length, ◌<◌, Vec, String, vec_capacity, slice_get, ◌∷◌, if◌then◌else◌}
use Rattle.std.specs.Option.{option_map_or, ForSome, IsSome}
use Rattle.std.specs.HashMap.{get_by_text}
use Rattle.indexmap.specs.IndexMap.{IndexMap}
use Rattle.indexed_view.specs.declared.families.Family.{Family}
use Rattle.indexed_view.specs.Lists.{IsAscending, with_one, without}
use Rattle.indexed_view.specs.Live.{is_name}

-- the navigables of a name
abbrev pub named : {Y Z S : Type 0} → IndexMap (String Y) (Vec ℕ Z) S → List ℕ → List ℕ
named names q = option_map_or (λ v. v.items) (get_by_text names q) []

-- the navigables of a name without n, if n had it
abbrev pub taken : ℕ → List ℕ → List ℕ → List ℕ → List ℕ
taken n from q ns = if is_name from q then without n ns else ns

-- the navigables of the name q, after n has another name
abbrev pub renamed : ℕ → List ℕ → List ℕ → List ℕ → List ℕ → List ℕ
renamed n from to q ns = if is_name to q then with_one n (taken n from q ns) else taken n from q ns

-- there is room for one more of a name
abbrev pub HasRoom : {Y Z S : Type 0} → IndexMap (String Y) (Vec ℕ Z) S → List ℕ → Type 0
HasRoom names q = IsSome (get_by_text names q) × ForSome (get_by_text names q) (λ v. length v.items < vec_capacity v)

-- the same, if the name is not empty: those without a name are not listed
abbrev pub HasRoomIfAny : {Y Z S : Type 0} → IndexMap (String Y) (Vec ℕ Z) S → List ℕ → Type 0
HasRoomIfAny names [] = Unit {0}
HasRoomIfAny names (x ∷ q) = HasRoom names (x ∷ q)

-- the children of a document, and those of a name
abbrev pub children_in : List Family → ℕ → List ℕ
children_in families d = option_map_or (λ f. f.children.items) (slice_get families d) []

abbrev pub named_in : List Family → ℕ → List ℕ → List ℕ
named_in families d q = option_map_or (λ f. named f.names q) (slice_get families d) []

abbrev pub AreAscending : List Family → ℕ → Type 0
AreAscending families d = IsAscending (children_in families d) × ((q : List ℕ) → IsAscending (named_in families d q))

-- there is room for one more child of d and of a name
abbrev pub HasRoomIn : List Family → ℕ → List ℕ → Type 0
HasRoomIn families d q = ForSome (slice_get families d) (λ f. (length f.children.items < vec_capacity f.children) × HasRoomIfAny f.names q)
