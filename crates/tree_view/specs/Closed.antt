-- What holds of the rows of each view: what they name is there.
use Rattle.std.specs.Prelude.{◌≡◌, ℕ, ◌<◌, ◌+◌, not, true, false, List, length, get_or, Some, is_some}
use Rattle.std.specs.Option.{ForSome}
use Rattle.tree_view.specs.declared.plain.rows.NavRow.{NavRow}
use Rattle.tree_view.specs.declared.plain.rows.DocRow.{DocRow}
use Rattle.tree_view.specs.declared.plain.rows.NewRows.{NewRows}
use Rattle.tree_view.specs.Rows.{no_nav, no_doc, new_docs}

-- the documents and navigables that a row names are there, and just a navigable that no document embeds has a group
pub record NavClosed (navs docs : ℕ) (row : NavRow) : Type 0 where
  pub active : row.active < docs
  pub embedder : ForSome row.made.embedder (λ d. d < docs)
  pub navigator : ForSome row.made.navigator (λ n. n < navs)
  pub opener : ForSome row.opener (λ n. n < navs)
  pub last_load : ForSome row.last_load (λ d. d < docs)
  pub group : is_some row.made.group ≡ not (is_some row.made.embedder)

abbrev pub DocClosed : ℕ → DocRow → Type 0
DocClosed navs row = row.nav < navs

-- a navigable has a greater number than that of its embedder
abbrev pub ParentsFirst : List NavRow → List DocRow → Type 0
ParentsFirst navs docs = (n d : ℕ) → n < length navs → (get_or navs n no_nav).made.embedder ≡ Some d → (get_or docs d no_doc).nav < n

-- a navigable shows a document that was made for it
abbrev pub ShowTheirOwn : List NavRow → List DocRow → Type 0
ShowTheirOwn navs docs = (n : ℕ) → n < length navs → (get_or docs (get_or navs n no_nav).active no_doc).nav ≡ n

-- new rows fit behind so many rows
pub record FitsNew (navs docs groups : ℕ) (new : NewRows) : Type 0 where
  pub few_navs : navs < 4294967295
  pub few_docs : docs + length (new_docs new.initial new.loaded) < 4294967296
  pub few_groups : ForSome new.row.made.group (λ g. g ≡ groups → g < 4294967295)
  pub closed : NavClosed (navs + 1) (docs + length (new_docs new.initial new.loaded)) new.row
  pub embedder : ForSome new.row.made.embedder (λ d. d < docs)
  pub active : new.row.active ≡ docs
  pub initial : new.initial.nav ≡ navs
  pub loaded : ForSome new.loaded (λ d. d.nav ≡ navs)
  pub not_loaded : new.initial.loaded ≡ false
  pub marked : ForSome new.loaded (λ d. d.loaded ≡ true)
