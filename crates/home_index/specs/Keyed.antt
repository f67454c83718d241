-- Rows that are found by a key: the group, and for the site its scheme with a number for its host.
use Rattle.std.specs.Prelude.{◌≡◌, ℕ, List, [], ◌∷◌, map, position, bytes_eq, string_bytes, Option, Some, option_map, Bool, false, ◌==◌, ◌&&◌, is_some, ◌++◌, if◌then◌else◌}
use Rattle.std.specs.Map.{lookup}
use Rattle.std.specs.declared.string.String.{String}
use Rattle.origin_core.specs.declared.origin.Scheme.{Scheme}
use Rattle.origin_core.specs.declared.origin.Scheme.TheVariants as scheme
use Rattle.origin_core.specs.declared.site.Site.{Site}
use Rattle.origin_core.specs.declared.site.Site.TheVariants as site
use Rattle.home_index.specs.declared.key.Key.{Key}
use Rattle.home_index.specs.declared.key.Place.{Place}
use Rattle.home_index.specs.declared.key.Place.TheVariants as place
use Rattle.home_index.specs.declared.key.Resident.{Resident}
use Rattle.home_index.specs.Rows.{Row, row}

abbrev pub named_place : Scheme → ℕ → Place
named_place scheme.Http host = place.Http host
named_place scheme.Https host = place.Https host

-- the place of a site among the hosts, if its host is there
abbrev pub place_of : {Y : Type 0} → List (String Y) → Site → Option Place
place_of hosts (site.Named s host) = option_map (named_place s) (position (λ k. bytes_eq host (string_bytes k)) hosts)
place_of hosts (site.Opaque n) = Some (place.Opaque n)

-- the row of an entry
abbrev pub row_at : Key × Resident → Row
row_at e = row e.0.group e.1.site e.1.home

abbrev pub rows_in : List (Key × Resident) → List Row
rows_in entries = map row_at entries

-- each key has the place of its row's site
abbrev pub ArePlaced : {Y : Type 0} → List (String Y) → List (Key × Resident) → Type 0
ArePlaced hosts [] = Unit {0}
ArePlaced hosts (e ∷ entries) = (place_of hosts e.1.site ≡ Some e.0.place) × ArePlaced hosts entries

-- sites keep their places
abbrev pub KeepsPlaces : {Y : Type 0} → List (String Y) → List (String Y) → Type 0
KeepsPlaces old new = (s : Site) (p : Place) → place_of old s ≡ Some p → place_of new s ≡ Some p

abbrev pub is_same_place : Place → Place → Bool
is_same_place (place.Http i) (place.Http j) = i == j
is_same_place (place.Https i) (place.Https j) = i == j
is_same_place (place.Opaque m) (place.Opaque n) = m == n
is_same_place _ _ = false

abbrev pub is_same_key : Key → Key → Bool
is_same_key a b = a.group == b.group && is_same_place a.place b.place

-- with the entry at the end, unless its key is there
abbrev pub with_entry : List (Key × Resident) → Key × Resident → List (Key × Resident)
with_entry entries e = if is_some (lookup (is_same_key e.0) entries) then entries else entries ++ e ∷ []
