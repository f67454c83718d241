-- What the index says of the tree after an entry of each kind.
use Rattle.std.proofs.Common.{◌≡◌, ℕ, ◌<◌, ◌≤◌, List, [], ◌∷◌, true, false, cond, refl, ap, sym, subst, ◌∙◌, length, arith, not, Option, Some, ◌&&◌}
use Rattle.std.specs.Prelude.{vec_capacity}
use Rattle.std.proofs.lemmas.Bool.{not-true}
use Rattle.tree_log.specs.declared.entry.Entry.{Entry}
use Rattle.tree_log.specs.declared.entry.What.{What}
use Rattle.tree_log.specs.declared.entry.What.TheVariants.{Open, Frame, Drop, Name, Begin, Commit, Fragment, Opener, Closing, Gone, Post, Fire, Lapse, Lost, Sync, Hidden, Domain}
use Rattle.tree_log.specs.Admits.{admits}
use Rattle.tree_log.specs.Tree.{Tree, tree_after, embedder, is}
use Rattle.tree_log.proofs.Admitted.{both}
use Rattle.tree_view.specs.Grown.{IsGrown}
use Rattle.tree_view.specs.NewRows.{entry}
use Rattle.tree_view.proofs.Fits.{of_kind, drop_fits, gone_fits, commit_fits}
use Rattle.indexed_view.specs.declared.families.Family.{Family}
use Rattle.indexed_view.specs.declared.index.Index.{Index}
use Rattle.indexed_view.specs.Families.{children_in, named_in, renamed, AreAscending}
use Rattle.indexed_view.specs.Index.{IsIndexOf, ArePlaces, AreFamilies, committed_nav}
use Rattle.indexed_view.specs.Lists.{IsAscending, is_in, without}
use Rattle.indexed_view.specs.Live.{is_name, live, has_name}
use Rattle.indexed_view.specs.Marks.{AreMarks, IsReady}
use Rattle.indexed_view.proofs.Members.{live_ascends, ascending_filter}
use Rattle.indexed_view.proofs.Marking.{IsCutting, begun}
use Rattle.indexed_view.proofs.Upkeep.{IsOneOn, carried, history_kept, places_kept, marks_kept, families_kept}
use Rattle.indexed_view.proofs.Calm.{drop_on, gone_on, gone_children, commit_on, commit_children, name_on, name_uncut}
use Rattle.indexed_view.proofs.Cutting.{IsBefore, drop_cuts, gone_cuts, commit_cuts}
use Rattle.indexed_view.proofs.ChildLists.{families_dropped, families_renamed}

-- the tree after an entry of a kind
pub as_kind : (P : Tree → Type 0) (t u : Tree) (e : Entry) (w : What) → u ≡ tree_after t e → e.what ≡ w → P (tree_after t (entry e.by e.actor w)) → P u
as_kind P t u e w ok kind h = subst P (sym ok) (subst (λ x. P (tree_after t (entry e.by e.actor x))) (sym kind) h)

pub families_ascend : (t : Tree) (families : List Family) → IsGrown t → AreFamilies t families → (d : ℕ) → AreAscending families d
families_ascend t families grown are d =
    (subst IsAscending (sym (are.children d)) (live_ascends t grown d), λ q. subst IsAscending (sym (are.names d q)) (ascending_filter (has_name t q) (live t d) (live_ascends t grown d)))

-- AN ENTRY THAT CUTS

pub ready : (t u : Tree) (x : Index) (families : List Family) (cuts : List ℕ) → IsIndexOf t x → IsCutting t u x.marks.items cuts → AreFamilies u families → IsReady u families x.marks.items (vec_capacity x.queue) cuts
ready t u x families cuts i cutting are = record {
  docs = are.len;
  children = are.children;
  len = i.marks_len ∙ sym cutting.navs;
  within = cutting.within;
  begun = begun t u x.marks.items cuts cutting;
  room = let room = i.room in let navs = cutting.navs in omega (arith, room, navs);
}

pub cut_indexed : (t u : Tree) (x y : Index) → IsIndexOf t x → IsGrown u → IsOneOn t u → AreFamilies u y.families.items → y.places.items ≡ x.places.items → AreMarks u y.marks.items → length y.marks.items ≡ u.navs
    → vec_capacity y.queue ≡ vec_capacity x.queue → IsIndexOf u y
cut_indexed t u x y i grown on families places marks len capacity = record {
  grown = grown;
  history = history_kept t u i.history on;
  places = subst (ArePlaces u) (sym places) (places_kept t u x.places.items (carried t u i.grown grown i.history on) on.navs i.places);
  marks_len = len;
  marks = marks;
  families = families;
  room = let room = i.room in let navs = on.navs in omega (arith, room, navs, capacity);
}

before : (t u : Tree) (x : Index) → IsIndexOf t x → IsGrown u → IsBefore t u x.marks.items
before t u x i grown = record { grown = i.grown; history = i.history; later = grown; len = i.marks_len; right = i.marks }

-- DROPPED

pub record IsCutBy (t u : Tree) (x : Index) (cuts : List ℕ) : Type 0 where
  pub on : IsOneOn t u
  pub cutting : IsCutting t u x.marks.items cuts

pub drop_cut : (t u : Tree) (e : Entry) (i : ℕ) (x : Index) → IsIndexOf t x → admits t e ≡ true → e.what ≡ Drop i → u ≡ tree_after t e → IsGrown u → IsCutBy t u x (i ∷ [])
drop_cut t u e i x index adm kind ok grown =
    let there = drop_fits t e i kind adm in
    as_kind (λ v. IsGrown v → IsCutBy t v x (i ∷ [])) t u e (Drop i) ok kind
    (λ g. record { on = drop_on t e.by e.actor i index.history there; cutting = drop_cuts t e.by e.actor i x.marks.items there (before t (tree_after t (entry e.by e.actor (Drop i))) x index g) })
    grown

name_after_drop : (t : Tree) (by actor : Option ℕ) (i n : ℕ) → ((tree_after t (entry by actor (Drop i))).nav n).name ≡ (t.nav n).name
unfolding tree_after
name_after_drop t by actor i n = refl

pub drop_families : (t u : Tree) (e : Entry) (i : ℕ) (x : Index) (families : List Family) (o : Option ℕ) (name : List ℕ) → IsIndexOf t x → e.what ≡ Drop i → u ≡ tree_after t e → o ≡ embedder t i → name ≡ (u.nav i).name
    → length families ≡ length x.families.items
    → ((d : ℕ) → children_in families d ≡ cond (is o d) (without i (children_in x.families.items d)) (children_in x.families.items d))
    → ((d : ℕ) (q : List ℕ) → named_in families d q ≡ cond (is o d && is_name name q) (without i (named_in x.families.items d q)) (named_in x.families.items d q)) → AreFamilies u families
drop_families t u e i x families o name index kind ok by name_is len children names =
    let old_name : name ≡ (t.nav i).name = name_is ∙ as_kind (λ v. (v.nav i).name ≡ (t.nav i).name) t u e (Drop i) ok kind (name_after_drop t e.by e.actor i i) in
    as_kind (λ v. AreFamilies v families) t u e (Drop i) ok kind
    (families_dropped t e.by e.actor i index.grown x.families.items families t.docs index.families len
    (λ d. children d ∙ ap (λ p. cond (is p d) (without i (children_in x.families.items d)) (children_in x.families.items d)) by)
    (λ d q. names d q ∙ ap (λ p. cond (is p d && is_name name q) (without i (named_in x.families.items d q)) (named_in x.families.items d q)) by
    ∙ ap (λ s. cond (is (embedder t i) d && is_name s q) (without i (named_in x.families.items d q)) (named_in x.families.items d q)) old_name))

-- CLOSED

pub gone_cut : (t u : Tree) (e : Entry) (i : ℕ) (x : Index) → IsIndexOf t x → admits t e ≡ true → e.what ≡ Gone i → u ≡ tree_after t e → IsGrown u → IsCutBy t u x (i ∷ [])
gone_cut t u e i x index adm kind ok grown =
    let there = gone_fits t e i kind adm in
    as_kind (λ v. IsGrown v → IsCutBy t v x (i ∷ [])) t u e (Gone i) ok kind
    (λ g. record { on = gone_on t e.by e.actor i index.history there; cutting = gone_cuts t e.by e.actor i x.marks.items there (before t (tree_after t (entry e.by e.actor (Gone i))) x index g) })
    grown

docs_after_gone : (t : Tree) (by actor : Option ℕ) (i : ℕ) → (tree_after t (entry by actor (Gone i))).docs ≡ t.docs
unfolding tree_after
docs_after_gone t by actor i = refl

pub gone_families : (t u : Tree) (e : Entry) (i : ℕ) (x : Index) → IsIndexOf t x → e.what ≡ Gone i → u ≡ tree_after t e → AreFamilies u x.families.items
gone_families t u e i x index kind ok =
    as_kind (λ v. AreFamilies v x.families.items) t u e (Gone i) ok kind
    (families_kept t (tree_after t (entry e.by e.actor (Gone i))) x.families.items x.families.items index.grown (gone_children t e.by e.actor i) (index.families.len ∙ sym (docs_after_gone t e.by e.actor i)) (λ d. refl) (λ d q. refl)
    index.families)

-- ANOTHER DOCUMENT IS SHOWN

pub record IsCommit (w : What) (i : ℕ) : Type 0 where
  pub doc : ℕ
  pub begin : ℕ
  pub kind : w ≡ Commit i doc begin

commit_is : (w : What) (i : ℕ) → committed_nav w ≡ Some i → IsCommit w i
commit_is (Commit n d b) i h = let e : n ≡ i = cc in record { doc = d; begin = b; kind = ap (λ k. Commit k d b) e }
commit_is (Open _ _ _ _ _ _ _ _ _ _) i h = absurd cc
commit_is (Frame _ _ _ _ _ _ _) i h = absurd cc
commit_is (Begin _ _) i h = absurd cc
commit_is (Drop _) i h = absurd cc
commit_is (Name _ _) i h = absurd cc
commit_is (Gone _) i h = absurd cc
commit_is (Fragment _ _ _) i h = absurd cc
commit_is (Opener _ _) i h = absurd cc
commit_is (Post _ _ _ _ _) i h = absurd cc
commit_is (Fire _ _) i h = absurd cc
commit_is (Lapse _ _ _) i h = absurd cc
commit_is (Closing _) i h = absurd cc
commit_is (Lost _) i h = absurd cc
commit_is Sync i h = absurd cc
commit_is Hidden i h = absurd cc
commit_is (Domain _ _) i h = absurd cc

pub commit_there : (t : Tree) (e : Entry) (i : ℕ) → admits t e ≡ true → committed_nav e.what ≡ Some i → i < t.navs
commit_there t e i adm kind = let c = commit_is e.what i kind in (commit_fits t e i c.doc c.begin c.kind adm).0

commit_fresh : (t : Tree) (e : Entry) (i d b : ℕ) → e.what ≡ Commit i d b → admits t e ≡ true → (t.doc d).been_active ≡ false
commit_fresh t e i d b kind adm = not-true (t.doc d).been_active (both _ (not (t.doc d).been_active) (of_kind t e (Commit i d b) kind adm)).1

pub commit_cut : (t u : Tree) (e : Entry) (i : ℕ) (x : Index) → IsIndexOf t x → admits t e ≡ true → committed_nav e.what ≡ Some i → u ≡ tree_after t e → IsGrown u → IsCutBy t u x (live t (t.nav i).active)
commit_cut t u e i x index adm kind ok grown =
    let c = commit_is e.what i kind in
    let there = (commit_fits t e i c.doc c.begin c.kind adm).0 in
    let fresh = commit_fresh t e i c.doc c.begin c.kind adm in
    as_kind (λ v. IsGrown v → IsCutBy t v x (live t (t.nav i).active)) t u e (Commit i c.doc c.begin) ok c.kind
    (λ g. record {
      on = commit_on t e.by e.actor i c.doc c.begin index.history;
      cutting = commit_cuts t e.by e.actor i c.doc c.begin x.marks.items there fresh (before t (tree_after t (entry e.by e.actor (Commit i c.doc c.begin))) x index g);
    })
    grown

docs_after_commit : (t : Tree) (by actor : Option ℕ) (i d b : ℕ) → (tree_after t (entry by actor (Commit i d b))).docs ≡ t.docs
unfolding tree_after
docs_after_commit t by actor i d b = refl

pub commit_families : (t u : Tree) (e : Entry) (i : ℕ) (x : Index) → IsIndexOf t x → committed_nav e.what ≡ Some i → u ≡ tree_after t e → AreFamilies u x.families.items
commit_families t u e i x index kind ok =
    let c = commit_is e.what i kind in
    as_kind (λ v. AreFamilies v x.families.items) t u e (Commit i c.doc c.begin) ok c.kind
    (families_kept t (tree_after t (entry e.by e.actor (Commit i c.doc c.begin))) x.families.items x.families.items index.grown (commit_children t e.by e.actor i c.doc c.begin)
    (index.families.len ∙ sym (docs_after_commit t e.by e.actor i c.doc c.begin)) (λ d. refl) (λ d q. refl) index.families)

-- RENAMED

pub name_indexed : (t u : Tree) (e : Entry) (i : ℕ) (from to : List ℕ) (o : Option ℕ) (x y : Index) → IsIndexOf t x → e.what ≡ Name i to → u ≡ tree_after t e → IsGrown u → o ≡ embedder t i → from ≡ (t.nav i).name
    → length y.families.items ≡ length x.families.items → ((d : ℕ) → children_in y.families.items d ≡ children_in x.families.items d)
    → ((d : ℕ) (q : List ℕ) → named_in y.families.items d q ≡ cond (is o d && is_in i (children_in x.families.items d)) (renamed i from to q (named_in x.families.items d q)) (named_in x.families.items d q))
    → y.places.items ≡ x.places.items → y.marks.items ≡ x.marks.items → y.queue ≡ x.queue → IsIndexOf u y
name_indexed t u e i from to o x y index kind ok grown by was len children names places marks queue =
    as_kind (λ v. IsGrown v → IsIndexOf v y) t u e (Name i to) ok kind
    (λ g.
    let v = tree_after t (entry e.by e.actor (Name i to)) in
    let on = name_on t e.by e.actor i to index.history in
    let carry = carried t v index.grown g index.history on in
    record {
      grown = g;
      history = history_kept t v index.history on;
      places = subst (ArePlaces v) (sym places) (places_kept t v x.places.items carry on.navs index.places);
      marks_len = ap length marks ∙ index.marks_len ∙ sym on.navs;
      marks = subst (AreMarks v) (sym marks) (marks_kept t v x.marks.items carry (name_uncut t e.by e.actor i to) on.navs index.marks);
      families = families_renamed t e.by e.actor i to index.grown x.families.items y.families.items index.families len children
          (λ d q. names d q ∙ ap (λ p. cond (is p d && is_in i (children_in x.families.items d)) (renamed i from to q (named_in x.families.items d q)) (named_in x.families.items d q)) by
          ∙ ap (λ s. cond (is (embedder t i) d && is_in i (children_in x.families.items d)) (renamed i s to q (named_in x.families.items d q)) (named_in x.families.items d q)) was);
      room = subst (λ q. v.navs ≤ vec_capacity q) (sym queue) (let room = index.room in let navs = on.navs in omega (arith, room, navs));
    })
    grown
