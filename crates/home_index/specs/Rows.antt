-- The groups and sites of the loaded documents, each pair once, with the home of its first loaded document (HTML Standard,
-- 7.3.2.3). Which renderer a home is, is this project's own.
use Rattle.std.specs.Prelude.{◌≡◌, ℕ, ◌%◌, List, [], ◌∷◌, ◌++◌, length, find, Option, Some, None, Bool, ◌==◌, ◌&&◌, if◌then◌else◌}
use Rattle.std.specs.List.{list_any}
use Rattle.origin_core.specs.declared.site.Site.{Site}
use Rattle.origin_core.specs.Site.{site_of}
use Rattle.tree_log.specs.declared.entry.Entry.{Entry}
use Rattle.tree_log.specs.declared.entry.Load.{Load}
use Rattle.tree_log.specs.Facts.{load_in}
use Rattle.tree_log.specs.Tree.{Tree, tree_of, nav_of, origin_of, home_of, group_of}
use Rattle.tree_log.specs.Homes.{is_same_site}

-- a group and a site of loaded documents, and their home
pub record Row : Type 0 where
  pub group : ℕ
  pub site : Site
  pub home : ℕ

abbrev pub row : ℕ → Site → ℕ → Row
row group site home = record { group = group; site = site; home = home }

-- whether the row is of this group and site
abbrev pub is_row_of : ℕ → Site → Row → Bool
is_row_of group site r = r.group == group && is_same_site r.site site

-- with the row at the end, unless there is one of its group and site
abbrev pub with_row : List Row → Row → List Row
with_row rows r = if list_any (is_row_of r.group r.site) rows then rows else rows ++ r ∷ []

-- the same, if there is a row
abbrev pub with_row_if_any : List Row → Option Row → List Row
with_row_if_any rows None = rows
with_row_if_any rows (Some r) = with_row rows r

-- the row of a document, by a list of public suffixes: its group and site, and its own home
abbrev pub row_of : List (List ℕ) → Tree → ℕ → Option Row
row_of suffixes t d = elim (group_of t (nav_of t d)) [ None ↦ None | Some group ↦ Some (row group (site_of (origin_of t d) suffixes) (home_of t d)) ]

-- these rows, and one for each group and site of the documents that has none yet
abbrev pub rows_from : List (List ℕ) → Tree → List Row → List ℕ → List Row
rows_from suffixes t rows [] = rows
rows_from suffixes t rows (d ∷ ds) = rows_from suffixes t (with_row_if_any rows (row_of suffixes t d)) ds

-- the rows of a log: one for each group and site of its loaded documents, in the order of the loads
unfoldable pub rows_of : List (List ℕ) → List Entry → List Row
rows_of suffixes log = rows_from suffixes (tree_of log) [] (tree_of log).loads

-- these are the rows of the log
abbrev pub IsFed : List (List ℕ) → List Row → List Entry → Type 0
IsFed suffixes rows log = rows ≡ rows_of suffixes log

-- the entry, which follows the log, begins a load, and this is the row of its document
pub record BeginsLoad (suffixes : List (List ℕ)) (log : List Entry) (e : Entry) (r : Row) : Type 0 where
  pub load : Load
  pub begins : load_in e.what ≡ Some load
  pub in_group : group_of (tree_of (e ∷ log)) (nav_of (tree_of (e ∷ log)) load.doc) ≡ Some r.group
  pub of_site : site_of load.origin suffixes ≡ r.site
  pub at_home : load.home ≡ r.home

-- the home of a new document, by rows: that of the row of its group and site, or else the next renderer
abbrev pub home_in : ℕ → List Row → ℕ → Site → ℕ
home_in renderers rows group site = elim (find (is_row_of group site) rows) [
  | Some r ↦ r.home
  | None ↦ length rows % renderers
]
