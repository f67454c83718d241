-- What the index said of a tree, it says of the tree after an entry.
use Rattle.std.proofs.Common.{◌≡◌, ℕ, ◌<◌, ◌≤◌, List, Bool, true, ap, sym, subst, ◌∙◌, length, arith, not, ⊎_elim, filter}
use Rattle.std.specs.Prelude.{vec_capacity}
use Rattle.std.proofs.lemmas.Bool.{cases_Bool}
use Rattle.std.proofs.lemmas.List.Elements.{filter_agree}
use Rattle.tree_log.specs.Tree.{Tree, embedder, nav_of}
use Rattle.tree_view.specs.Grown.{IsGrown}
use Rattle.indexed_view.specs.declared.families.Family.{Family}
use Rattle.indexed_view.specs.declared.index.Place.{Place}
use Rattle.indexed_view.specs.declared.index.Index.{Index}
use Rattle.indexed_view.specs.Families.{children_in, named_in}
use Rattle.indexed_view.specs.Index.{ArePlaces, AreFamilies, HasHistory, IsIndexOf}
use Rattle.indexed_view.specs.Live.{is_name, live, live_named, has_name}
use Rattle.indexed_view.specs.Marks.{AreMarks}
use Rattle.indexed_view.proofs.Members.{of_live}
use Rattle.indexed_view.proofs.Filters.{agree_in}
use Rattle.indexed_view.proofs.Carried.{IsCarried, IsUncut, same_root, same_gone}

-- an entry that makes no navigable
pub record IsOneOn (t u : Tree) : Type 0 where
  pub navs : u.navs ≡ t.navs
  pub docs : t.docs ≤ u.docs
  pub embedders : (n : ℕ) → embedder u n ≡ embedder t n
  pub homes : (d : ℕ) → d < t.docs → nav_of u d ≡ nav_of t d
  pub frames : (d : ℕ) → u.frames d ≡ t.frames d
  pub dropped_later : (n : ℕ) → t.navs ≤ n → (u.nav n).dropped ≡ (t.nav n).dropped
  pub gone_later : (n : ℕ) → t.navs ≤ n → (u.nav n).gone ≡ (t.nav n).gone
  pub seen : (d : ℕ) → (t.doc d).been_active ≡ true → (u.doc d).been_active ≡ true
  pub shown : (n : ℕ) → n < t.navs → (u.doc (u.nav n).active).been_active ≡ true

pub carried : (t u : Tree) → IsGrown t → IsGrown u → HasHistory t → IsOneOn t u → IsCarried t u
carried t u before after history on = record {
  before = before.ordered;
  after = after.ordered;
  navs = omega (arith, on.navs);
  there = history.embedders;
  embedders = λ n lt. on.embedders n;
  homes = on.homes;
}

pub history_kept : (t u : Tree) → HasHistory t → IsOneOn t u → HasHistory u
history_kept t u h on = record {
  unmade = λ n le. let from : t.navs ≤ n = omega (arith, on.navs) in (on.dropped_later n from ∙ (h.unmade n from).0, on.gone_later n from ∙ (h.unmade n from).1);
  childless = λ d fresh. on.frames d ∙ h.childless d (⊎_elim (λ e. let seen = on.seen d e in absurd cc) (λ e. e) (cases_Bool (t.doc d).been_active));
  shown = λ n lt. on.shown n (omega (arith, on.navs));
  embedders = λ n d lt by. let low : d < t.docs = h.embedders n d (omega (arith, on.navs)) (sym (on.embedders n) ∙ by) in omega (arith, low, on.docs);
}

pub places_kept : (t u : Tree) (ps : List Place) → IsCarried t u → u.navs ≡ t.navs → ArePlaces t ps → ArePlaces u ps
places_kept t u ps on navs are = record {
  len = are.len ∙ sym navs;
  embedders = λ n lt. let there : n < t.navs = omega (arith, navs) in are.embedders n there ∙ sym (on.embedders n there);
  tops = λ n lt. let there : n < t.navs = omega (arith, navs) in are.tops n there ∙ sym (same_root t u on n there);
}

pub marks_kept : (t u : Tree) (marks : List Bool) → IsCarried t u → IsUncut t u → u.navs ≡ t.navs → AreMarks t marks → AreMarks u marks
marks_kept t u marks on uncut navs are n lt = let there : n < t.navs = omega (arith, navs) in are n there ∙ sym (same_gone t u on uncut n there)

-- THE CHILDREN

pub same_live : (t u : Tree) (d : ℕ) → u.frames d ≡ t.frames d → ((n : ℕ) → (u.nav n).dropped ≡ (t.nav n).dropped) → live u d ≡ live t d
same_live t u d frames dropped =
    ap (filter (λ n. not (u.nav n).dropped)) frames ∙ filter_agree (λ n. not (u.nav n).dropped) (λ n. not (t.nav n).dropped) (λ n. ap not (dropped n)) (t.frames d)

pub same_live_named : (t u : Tree) → IsGrown t → (d : ℕ) (q : List ℕ) → live u d ≡ live t d → ((n : ℕ) → n < t.navs → (u.nav n).name ≡ (t.nav n).name) → live_named u d q ≡ live_named t d q
same_live_named t u grown d q lives names =
    ap (filter (has_name u q)) lives ∙ agree_in (has_name u q) (has_name t q) (live t d) (λ n it. ap (λ name. is_name name q) (names n (of_live t grown n d it).there))

pub record IsSameOfChildren (t u : Tree) : Type 0 where
  pub frames : (d : ℕ) → u.frames d ≡ t.frames d
  pub dropped : (n : ℕ) → (u.nav n).dropped ≡ (t.nav n).dropped
  pub names : (n : ℕ) → n < t.navs → (u.nav n).name ≡ (t.nav n).name

pub families_kept : (t u : Tree) (old new : List Family) → IsGrown t → IsSameOfChildren t u → length new ≡ u.docs → ((d : ℕ) → children_in new d ≡ children_in old d)
    → ((d : ℕ) (q : List ℕ) → named_in new d q ≡ named_in old d q) → AreFamilies t old → AreFamilies u new
families_kept t u old new grown same len children names are = record {
  len = len;
  children = λ d. children d ∙ are.children d ∙ sym (same_live t u d (same.frames d) same.dropped);
  names = λ d q. names d q ∙ are.names d q ∙ sym (same_live_named t u grown d q (same_live t u d (same.frames d) same.dropped) same.names);
}

-- an entry that cuts nothing, drops nothing and names nothing
pub index_kept : (t u : Tree) (old new : Index) → IsGrown u → IsOneOn t u → IsUncut t u → IsSameOfChildren t u → new.places.items ≡ old.places.items → new.marks.items ≡ old.marks.items → new.queue ≡ old.queue
    → length new.families.items ≡ u.docs → ((d : ℕ) → children_in new.families.items d ≡ children_in old.families.items d)
    → ((d : ℕ) (q : List ℕ) → named_in new.families.items d q ≡ named_in old.families.items d q) → IsIndexOf t old → IsIndexOf u new
index_kept t u old new grown on uncut same places marks queue len children names i =
    let carry = carried t u i.grown grown i.history on in
    record {
      grown = grown;
      history = history_kept t u i.history on;
      places = subst (ArePlaces u) (sym places) (places_kept t u old.places.items carry on.navs i.places);
      marks_len = ap length marks ∙ i.marks_len ∙ sym on.navs;
      marks = subst (AreMarks u) (sym marks) (marks_kept t u old.marks.items carry uncut on.navs i.marks);
      families = families_kept t u old.families.items new.families.items i.grown same len children names i.families;
      room = subst (λ q. u.navs ≤ vec_capacity q) (sym queue) (let room = i.room in omega (arith, room, on.navs));
    }
