-- The marks of the navigables that were discarded.
use Rattle.std.specs.Prelude.{◌≡◌, ℕ, ◌+◌, ◌<◌, ◌≤◌, List, [], ◌∷◌, ◌++◌, Bool, true, false, if◌then◌else◌, length, get_or, set, drop, Some, All}
use Rattle.tree_log.specs.Tree.{Tree, nav_of, embedder, is_cut, is_discarded}
use Rattle.indexed_view.specs.declared.families.Family.{Family}
use Rattle.indexed_view.specs.Families.{children_in}
use Rattle.indexed_view.specs.Live.{live}
use Rattle.indexed_view.specs.Lists.{is_in}

abbrev pub marked : List Bool → ℕ → Bool
marked marks n = get_or marks n false

-- how many are marked
abbrev pub count : List Bool → ℕ
count [] = 0
count (b ∷ marks) = (if b then 1 else 0) + count marks

-- n, if it is not marked
abbrev pub if_new : ℕ → List Bool → List ℕ
if_new n marks = if marked marks n then [] else n ∷ []

-- with each of them marked
abbrev pub mark_all : List ℕ → List Bool → List Bool
mark_all [] marks = marks
mark_all (n ∷ ns) marks = mark_all ns (set marks n true)

-- those that get their mark then
abbrev pub new_of : List ℕ → List Bool → List ℕ
new_of [] marks = []
new_of (n ∷ ns) marks = if_new n marks ++ new_of ns (set marks n true)

-- the marks say which navigables were discarded
abbrev pub AreMarks : Tree → List Bool → Type 0
AreMarks t marks = (n : ℕ) → n < t.navs → marked marks n ≡ is_discarded t n

-- Each that is marked was discarded, and each that is cut is marked. What a marked one embeds is marked too, but for those that wait in the queue.
pub record IsUnderWay (t : Tree) (marks : List Bool) (queue : List ℕ) (from : ℕ) : Type 0 where
  pub len : length marks ≡ t.navs
  pub sound : (n : ℕ) → n < t.navs → marked marks n ≡ true → is_discarded t n ≡ true
  pub cut : (n : ℕ) → n < t.navs → is_cut t n ≡ true → marked marks n ≡ true
  pub closed : (n d : ℕ) → n < t.navs → embedder t n ≡ Some d → marked marks (nav_of t d) ≡ true → marked marks n ≡ false → is_in (nav_of t d) (drop from queue) ≡ true
  pub queued : (n : ℕ) → is_in n queue ≡ true → (n < t.navs) × (marked marks n ≡ true)
  pub few : length queue ≤ count marks

-- Each of the cuts is to be marked, and what is below them: the children of each document are listed, and there is room for each navigable to wait.
pub record IsReady (t : Tree) (families : List Family) (marks : List Bool) (capacity : ℕ) (cuts : List ℕ) : Type 0 where
  pub docs : length families ≡ t.docs
  pub children : (d : ℕ) → children_in families d ≡ live t d
  pub len : length marks ≡ t.navs
  pub within : All (λ n. n < length marks) cuts
  pub begun : (queue : List ℕ) → queue ≡ new_of cuts marks → length queue ≤ count (mark_all cuts marks) → IsUnderWay t (mark_all cuts marks) queue 0
  pub room : t.navs ≤ capacity
