-- What the index says of a tree.
use Rattle.std.specs.Prelude.{◌≡◌, ℕ, ◌<◌, ◌≤◌, List, [], length, get_or, Option, Some, None, Bool, true, false, vec_capacity}
use Rattle.tree_log.specs.declared.entry.What.{What}
use Rattle.tree_log.specs.declared.entry.What.TheVariants.{Open, Frame, Drop, Name, Begin, Commit, Gone}
use Rattle.tree_log.specs.Tree.{Tree, embedder, root_of}
use Rattle.tree_view.specs.Grown.{IsGrown}
use Rattle.indexed_view.specs.declared.families.Family.{Family}
use Rattle.indexed_view.specs.declared.index.Place.{Place}
use Rattle.indexed_view.specs.declared.index.Index.{Index}
use Rattle.indexed_view.specs.Families.{children_in, named_in}
use Rattle.indexed_view.specs.Live.{live, live_named}
use Rattle.indexed_view.specs.Marks.{AreMarks}

-- whether an entry of this kind makes nothing, names nothing and discards nothing
abbrev pub is_quiet : What → Bool
is_quiet (Open _ _ _ _ _ _ _ _ _ _) = false
is_quiet (Frame _ _ _ _ _ _ _) = false
is_quiet (Drop _) = false
is_quiet (Name _ _) = false
is_quiet (Begin _ _) = false
is_quiet (Commit _ _ _) = false
is_quiet (Gone _) = false
is_quiet _ = true

abbrev pub is_opening : What → Bool
is_opening (Open _ _ _ _ _ _ _ _ _ _) = true
is_opening _ = false

abbrev pub is_beginning : What → Bool
is_beginning (Begin _ _) = true
is_beginning _ = false

-- the name of a new child navigable
abbrev pub framed_name : What → Option (List ℕ)
framed_name (Frame _ _ _ _ name _ _) = Some name
framed_name _ = None

-- the navigable that shows another document
abbrev pub committed_nav : What → Option ℕ
committed_nav (Commit nav _ _) = Some nav
committed_nav _ = None

abbrev pub no_place : Place
no_place = record { embedder = None; top = 0 }

-- the embedder of each navigable, and its top-level one, be it discarded or not
pub record ArePlaces (t : Tree) (places : List Place) : Type 0 where
  pub len : length places ≡ t.navs
  pub embedders : (n : ℕ) → n < t.navs → (get_or places n no_place).embedder ≡ embedder t n
  pub tops : (n : ℕ) → n < t.navs → (get_or places n no_place).top ≡ root_of t n

-- the children of each document, and those of each name
pub record AreFamilies (t : Tree) (families : List Family) : Type 0 where
  pub len : length families ≡ t.docs
  pub children : (d : ℕ) → children_in families d ≡ live t d
  pub names : (d : ℕ) (q : List ℕ) → named_in families d q ≡ live_named t d q

-- what holds of each tree to which entries were added one by one
pub record HasHistory (t : Tree) : Type 0 where
  -- nothing happened to a navigable that was not made
  pub unmade : (n : ℕ) → t.navs ≤ n → ((t.nav n).dropped ≡ false) × ((t.nav n).gone ≡ false)
  -- just a document that was active embeds navigables
  pub childless : (d : ℕ) → (t.doc d).been_active ≡ false → t.frames d ≡ []
  pub shown : (n : ℕ) → n < t.navs → (t.doc (t.nav n).active).been_active ≡ true
  pub embedders : (n d : ℕ) → n < t.navs → embedder t n ≡ Some d → d < t.docs

pub record IsIndexOf (t : Tree) (index : Index) : Type 0 where
  pub grown : IsGrown t
  pub history : HasHistory t
  pub places : ArePlaces t index.places.items
  pub marks_len : length index.marks.items ≡ t.navs
  pub marks : AreMarks t index.marks.items
  pub families : AreFamilies t index.families.items
  -- each navigable may wait to be marked
  pub room : t.navs ≤ vec_capacity index.queue
