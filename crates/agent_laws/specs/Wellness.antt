-- What an admitted log's tree keeps: everything that it names is there.
use Rattle.std.specs.Prelude.{◌≡◌, ◌<◌, ℕ, List, [], ◌∷◌, Some, None, true, is_some}
use Rattle.tree_log.specs.Tree.{Tree, embedder, nav_of}

-- each number of the list is less than this one
abbrev pub AllBelow : ℕ → List ℕ → Type 0
AllBelow n [] = Unit {0}
AllBelow n (x ∷ xs) = (x < n) × AllBelow n xs

pub record IsWell (t : Tree) : Type 0 where
  -- an embedder is there, and stands in a navigable with a smaller number
  pub up : (n d : ℕ) → embedder t n ≡ Some d → (d < t.docs) × (nav_of t d < n)
  -- a document that is there has a navigable that is there
  pub below : (d : ℕ) → d < t.docs → nav_of t d < t.navs
  pub groups : (n g : ℕ) → (t.nav n).made.group ≡ Some g → g < t.groups
  -- a top-level that is there has a group
  pub grouped : (n : ℕ) → n < t.navs → embedder t n ≡ None → is_some (t.nav n).made.group ≡ true
  pub shown : (d : ℕ) → (t.doc d).been_active ≡ true → d < t.docs
  pub active : (n : ℕ) → n < t.navs → (t.nav n).active < t.docs
  -- and stands in its navigable
  pub placed : (n : ℕ) → n < t.navs → nav_of t (t.nav n).active ≡ n
  pub frames : (d : ℕ) → AllBelow t.navs (t.frames d)
  pub tops : AllBelow t.navs t.tops
