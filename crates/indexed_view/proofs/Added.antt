-- What the index says of the tree after an entry that makes a navigable or a document.
use Rattle.std.proofs.Common.{◌≡◌, ℕ, ◌+◌, ◌<◌, ◌≤◌, List, [], ◌∷◌, ◌++◌, true, false, cond, ap, sym, subst, ◌∙◌, length, arith, not, Option, Some, None, ◌&&◌, eqb, ne_eqb}
use Rattle.std.specs.Prelude.{vec_capacity}
use Rattle.std.proofs.lemmas.List.{length_push}
use Rattle.std.proofs.lemmas.Bool.{and_parts, eqb-true}
use Rattle.tree_log.specs.declared.entry.Entry.{Entry}
use Rattle.origin_core.specs.declared.origin.Origin.{Origin}
use Rattle.tree_log.specs.declared.entry.Load.{Load}
use Rattle.tree_log.specs.declared.entry.What.TheVariants.{Frame}
use Rattle.tree_log.specs.Admits.{admits, is_documents}
use Rattle.tree_log.proofs.Admitted.{both}
use Rattle.tree_view.proofs.Fits.{of_kind}
use Rattle.tree_log.specs.Tree.{Tree, tree_after, nav_of, is_active, is_shown, is_discarded, root_of}
use Rattle.tree_view.specs.Grown.{IsGrown}
use Rattle.indexed_view.specs.Live.{is_name}
use Rattle.indexed_view.specs.declared.index.Index.{Index}
use Rattle.indexed_view.specs.declared.index.Place.{Place}
use Rattle.indexed_view.specs.Families.{children_in, named_in}
use Rattle.indexed_view.specs.Index.{IsIndexOf, ArePlaces, AreFamilies, HasHistory, is_beginning, is_opening, framed_name}
use Rattle.indexed_view.specs.Lists.{with_one}
use Rattle.indexed_view.specs.Marks.{AreMarks}
use Rattle.indexed_view.proofs.Upkeep.{families_kept, index_kept}
use Rattle.indexed_view.proofs.Calm.{begin_calm, begin_docs}
use Rattle.indexed_view.proofs.ChildLists.{families_framed}
use Rattle.indexed_view.proofs.Growing.{IsGrowing, IsPlaced, IsOpened, IsEmbedded, opened, embedded, grows, history_grown, places_grown, marks_grown, top_whole, child_whole}

-- A LOAD BEGINS

pub begin_more : (t u : Tree) (e : Entry) → is_beginning e.what ≡ true → u ≡ tree_after t e → u.docs ≡ t.docs + 1
begin_more t u e kind ok = ap (λ (v : Tree). v.docs) ok ∙ begin_docs t e kind

pub begin_indexed : (t u : Tree) (e : Entry) (x y : Index) → IsIndexOf t x → admits t e ≡ true → is_beginning e.what ≡ true → u ≡ tree_after t e → IsGrown u
    → y.places.items ≡ x.places.items → y.marks.items ≡ x.marks.items → y.queue ≡ x.queue → length y.families.items ≡ u.docs
    → ((d : ℕ) → children_in y.families.items d ≡ children_in x.families.items d) → ((d : ℕ) (q : List ℕ) → named_in y.families.items d q ≡ named_in x.families.items d q) → IsIndexOf u y
begin_indexed t u e x y index adm kind ok grown places marks queue len children names =
    let calm = begin_calm t e index.history adm kind in
    subst (λ v. IsIndexOf v y) (sym ok)
    (index_kept t (tree_after t e) x y (subst IsGrown ok grown) calm.on calm.uncut calm.children places marks queue (len ∙ ap (λ (v : Tree). v.docs) ok) children names index)

-- A NEW TOP-LEVEL NAVIGABLE

pub open_more : (t u : Tree) (e : Entry) → admits t e ≡ true → is_opening e.what ≡ true → u ≡ tree_after t e → (t.docs ≤ u.docs) × (u.docs ≤ t.docs + 2)
open_more t u e adm kind ok = let g = (opened t e adm kind).growing in (subst (λ (v : Tree). t.docs ≤ v.docs) (sym ok) g.docs, subst (λ (v : Tree). v.docs ≤ t.docs + 2) (sym ok) g.few_docs)

-- a row and a mark more
pub record IsPushed (x y : Index) (place : Place) (docs : ℕ) : Type 0 where
  pub places : y.places.items ≡ x.places.items ++ place ∷ []
  pub marks : y.marks.items ≡ x.marks.items ++ false ∷ []
  pub docs_are : length y.families.items ≡ docs

added : (t u : Tree) (x y : Index) (place : Place) (e : Option ℕ) → IsIndexOf t x → IsGrown u → IsGrowing t u → IsPlaced t u e → IsPushed x y place u.docs → place.embedder ≡ e → place.top ≡ root_of u t.navs
    → is_discarded u t.navs ≡ false → AreFamilies u y.families.items → t.navs + 1 ≤ vec_capacity y.queue → IsIndexOf u y
added t u x y place e index grown g placed pushed by top fresh families room =
    let on = grows t u index.grown grown index.history g in
    record {
      grown = grown;
      history = history_grown t u e index.history g placed;
      places = subst (ArePlaces u) (sym pushed.places) (places_grown t u x.places.items place on g index.places (by ∙ sym placed.by) top);
      marks_len = ap length pushed.marks ∙ length_push x.marks.items false ∙ ap (λ n. n + 1) index.marks_len ∙ sym g.navs;
      marks = subst (AreMarks u) (sym pushed.marks) (marks_grown t u x.marks.items on g index.marks_len index.marks fresh);
      families = families;
      room = let navs = g.navs in omega (arith, navs, room);
    }

pub open_indexed : (t u : Tree) (e : Entry) (x y : Index) (place : Place) → IsIndexOf t x → admits t e ≡ true → is_opening e.what ≡ true → u ≡ tree_after t e → IsGrown u → IsPushed x y place u.docs
    → place.embedder ≡ None → place.top ≡ t.navs → ((d : ℕ) → children_in y.families.items d ≡ children_in x.families.items d)
    → ((d : ℕ) (q : List ℕ) → named_in y.families.items d q ≡ named_in x.families.items d q) → t.navs + 1 ≤ vec_capacity y.queue → IsIndexOf u y
open_indexed t u e x y place index adm kind ok grown pushed by top children names room =
    let o : IsOpened t u = subst (IsOpened t) (sym ok) (opened t e adm kind) in
    let new = top_whole t u grown index.history o.growing o.top in
    added t u x y place None index grown o.growing
    (record { by = o.top; frames = λ d _ none. o.children.frames d ∙ none; there = λ d is. absurd cc })
    pushed by (top ∙ sym new.1) new.0
    (families_kept t u x.families.items y.families.items index.grown o.children pushed.docs_are children names index.families)
    room

-- A NEW CHILD

pub frame_more : (t u : Tree) (e : Entry) (a : ℕ) (name : List ℕ) → admits t e ≡ true → e.actor ≡ Some a → framed_name e.what ≡ Some name → u ≡ tree_after t e → (t.docs ≤ u.docs) × (u.docs ≤ t.docs + 2)
frame_more t u e a name adm actor kind ok =
    let g = (embedded t e a name adm actor kind).growing in (subst (λ (v : Tree). t.docs ≤ v.docs) (sym ok) g.docs, subst (λ (v : Tree). v.docs ≤ t.docs + 2) (sym ok) g.few_docs)

pub frame_there : (t : Tree) (e : Entry) (a : ℕ) (name : List ℕ) → admits t e ≡ true → e.actor ≡ Some a → framed_name e.what ≡ Some name → a < t.docs
frame_there t e a name adm actor kind = (embedded t e a name adm actor kind).there

-- an active document was active
acting_seen : (t : Tree) (a : ℕ) → HasHistory t → nav_of t a < t.navs → is_active t a ≡ true → (t.doc a).been_active ≡ true
unfolding is_active
acting_seen t a h within acts =
    let shown = (and_parts (is_shown t a) (not (is_discarded t (nav_of t a))) acts).0 in
    ap (λ d. (t.doc d).been_active) (sym (eqb-true (t.nav (nav_of t a)).active a shown)) ∙ h.shown (nav_of t a) within

pub frame_indexed : (t u : Tree) (e : Entry) (a : ℕ) (name : List ℕ) (x y : Index) (place : Place) → IsIndexOf t x → admits t e ≡ true → e.actor ≡ Some a → framed_name e.what ≡ Some name → u ≡ tree_after t e → IsGrown u
    → nav_of t a < t.navs → IsPushed x y place u.docs → place.embedder ≡ Some a → place.top ≡ root_of t (nav_of t a)
    → ((d : ℕ) → children_in y.families.items d ≡ cond (eqb a d) (with_one t.navs (children_in x.families.items d)) (children_in x.families.items d))
    → ((d : ℕ) (q : List ℕ) → named_in y.families.items d q ≡ cond (eqb a d && is_name name q) (with_one t.navs (named_in x.families.items d q)) (named_in x.families.items d q))
    → t.navs + 1 ≤ vec_capacity y.queue → IsIndexOf u y
frame_indexed t u e a name x y place index adm actor kind ok grown within pushed by top children names room =
    let o : IsEmbedded t u a name = subst (λ v. IsEmbedded t v a name) (sym ok) (embedded t e a name adm actor kind) in
    let made = o.framed (index.history.unmade t.navs (omega arith)).0 in
    let on = grows t u index.grown grown index.history o.growing in
    let new = child_whole t u a grown index.history on o.growing o.by o.there within o.acts in
    added t u x y place (Some a) index grown o.growing
    (record {
      by = o.by;
      frames = λ d fresh none. made.frames d ∙ ap (λ b. cond b (t.frames d ++ t.navs ∷ []) (t.frames d)) (ne_eqb a d (λ same. let seen = sym (ap (λ k. (t.doc k).been_active) same) ∙ acting_seen t a index.history within o.acts in absurd cc)) ∙ none;
      there = λ d is. let same : a ≡ d = cc in subst (λ k. k < t.docs) same o.there;
    })
    pushed by (top ∙ sym new.1) new.0
    (families_framed t u a name index.grown made x.families.items y.families.items index.families pushed.docs_are children names)
    room

no_document : (t : Tree) (by : Option ℕ) → is_documents t by None ≡ true → ⊥
no_document t None h = absurd cc
no_document t (Some r) h = absurd cc

-- a document makes a child navigable
pub frame_acts : (t : Tree) (e : Entry) (i d h : ℕ) (o : Origin) (name : List ℕ) (flags : ℕ) (load : Option Load) → admits t e ≡ true → e.what ≡ Frame i d h o name flags load → e.actor ≡ None → ⊥
frame_acts t e i d h o name flags load adm kind actor =
    let w = of_kind t e (Frame i d h o name flags load) kind adm in
    no_document t e.by (sym (ap (is_documents t e.by) actor) ∙ (both _ _ (both _ _ (both _ _ w).0).0).0)
