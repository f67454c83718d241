-- A row of the index that was read says what the tree says.
use Rattle.std.proofs.Common.{◌≡◌, ℕ, ◌<◌, List, ap, sym, subst, ◌∙◌, length, get_or}
use Rattle.std.proofs.lemmas.List.{get_or_read}
use Rattle.tree_log.specs.Tree.{Tree, embedder, root_of}
use Rattle.indexed_view.specs.declared.families.Family.{Family}
use Rattle.indexed_view.specs.declared.index.Place.{Place}
use Rattle.indexed_view.specs.Families.{named}
use Rattle.indexed_view.specs.Index.{ArePlaces, AreFamilies, no_place}
use Rattle.indexed_view.specs.Live.{live, live_named}
use Rattle.indexed_view.proofs.FamilyRows.{children_read, names_read}

place_read : (ps : List Place) (n count : ℕ) (row : Place) → length ps ≡ count → n < count → row ≡ get_or ps n row → row ≡ get_or ps n no_place
place_read ps n count row len lt read = get_or_read ps n row (subst (λ m. n < m) (sym len) lt) read no_place

pub embedder_read : (t : Tree) (ps : List Place) (n : ℕ) (row : Place) → ArePlaces t ps → n < t.navs → row ≡ get_or ps n row → row.embedder ≡ embedder t n
embedder_read t ps n row are lt read = ap (λ (r : Place). r.embedder) (place_read ps n t.navs row are.len lt read) ∙ are.embedders n lt

pub top_read : (t : Tree) (ps : List Place) (n : ℕ) (row : Place) → ArePlaces t ps → n < t.navs → row ≡ get_or ps n row → row.top ≡ root_of t n
top_read t ps n row are lt read = ap (λ (r : Place). r.top) (place_read ps n t.navs row are.len lt read) ∙ are.tops n lt

pub children_are : (t : Tree) (fs : List Family) (d : ℕ) (row : Family) → AreFamilies t fs → d < t.docs → row ≡ get_or fs d row → row.children.items ≡ live t d
children_are t fs d row are lt read = sym (children_read fs d row (subst (λ m. d < m) (sym are.len) lt) read) ∙ are.children d

pub names_are : (t : Tree) (fs : List Family) (d : ℕ) (row : Family) (q : List ℕ) → AreFamilies t fs → d < t.docs → row ≡ get_or fs d row → named row.names q ≡ live_named t d q
names_are t fs d row q are lt read = sym (names_read fs d row q (subst (λ m. d < m) (sym are.len) lt) read) ∙ are.names d q
