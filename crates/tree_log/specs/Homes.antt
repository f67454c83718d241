-- The renderer that is to hold a new document: one for all documents of one group and site, as for the agent clusters that are
-- keyed by sites (HTML Standard, 7.3.2.3). Which renderer it is, is this project's own.
use Rattle.std.specs.Prelude.{ℕ, ◌%◌, List, [], ◌∷◌, length, find, Some, None, Bool, false, ◌==◌, ◌&&◌, bytes_eq, if◌then◌else◌}
use Rattle.std.specs.List.{list_any}
use Rattle.origin_core.specs.declared.site.Site.{Site}
use Rattle.origin_core.specs.Origin.{is_same_scheme}
use Rattle.origin_core.specs.Site.{site_of}
use Rattle.tree_log.specs.Tree.{Tree, is, nav_of, origin_of, home_of, group_of}

abbrev pub is_same_site : Site → Site → Bool
is_same_site (Site.Named s a) (Site.Named t b) = is_same_scheme s t && bytes_eq a b
is_same_site (Site.Opaque m) (Site.Opaque n) = m == n
is_same_site _ _ = false

-- whether the document is of this group and site, by a list of public suffixes
abbrev pub is_of : List (List ℕ) → Tree → ℕ → Site → ℕ → Bool
is_of suffixes t group s d = is (group_of t (nav_of t d)) group && is_same_site (site_of (origin_of t d) suffixes) s

-- whether two documents are of one group and one site
abbrev pub is_alike : List (List ℕ) → Tree → ℕ → ℕ → Bool
is_alike suffixes t d c = elim (group_of t (nav_of t d)) [ None ↦ false | Some group ↦ is_of suffixes t group (site_of (origin_of t d) suffixes) c ]

-- how many different pairs of a group and a site there are among the documents, those that were seen included
abbrev pub pairs : List (List ℕ) → Tree → List ℕ → List ℕ → ℕ
pairs suffixes t seen [] = length seen
pairs suffixes t seen (d ∷ ds) = if list_any (is_alike suffixes t d) seen then pairs suffixes t seen ds else pairs suffixes t (d ∷ seen) ds

-- the home of a new document of this group and site: that of the first loaded document of them, or else the next renderer
unfoldable pub home_for : ℕ → List (List ℕ) → Tree → ℕ → Site → ℕ
home_for renderers suffixes t group s = elim (find (is_of suffixes t group s) t.loads) [
  | Some d ↦ home_of t d
  | None ↦ pairs suffixes t [] t.loads % renderers
]
