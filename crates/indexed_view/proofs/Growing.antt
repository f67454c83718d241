-- After an entry that makes a navigable.
use Rattle.std.proofs.Common.{◌≡◌, ℕ, ◌+◌, ◌<◌, ◌≤◌, List, [], ◌∷◌, ◌++◌, Bool, true, false, cond, refl, ap, sym, subst, ◌∙◌, length, get_or, inl, inr, arith, eqb, eq-eqb, ne_eqb, not, Option, Some, None, ⊎_elim, ◌⊎◌}
use Rattle.std.proofs.lemmas.Bool.{cases_Bool, cases_lt, or_left, or_right, or_from, and_parts, not-true}
use Rattle.std.proofs.lemmas.List.{get_or_append_left, get_or_push, length_push}
use Rattle.tree_log.specs.declared.entry.Entry.{Entry}
use Rattle.tree_log.specs.declared.entry.Load.{Load}
use Rattle.tree_log.specs.declared.entry.What.{What}
use Rattle.tree_log.specs.declared.entry.What.TheVariants.{Open, Frame, Drop, Name, Begin, Commit, Fragment, Opener, Closing, Gone, Post, Fire, Lapse, Lost, Sync, Hidden, Domain}
use Rattle.tree_log.specs.Facts.{Birth, loads_of}
use Rattle.origin_core.specs.declared.origin.Origin.{Origin}
use Rattle.tree_log.specs.Admits.{admits, is_documents}
use Rattle.tree_log.specs.Tree.{Tree, tree_after, embedder, nav_of, is_cut, is_shown, is_embedded, is_active, is_discarded, root_of}
use Rattle.tree_log.proofs.Admitted.{born_stays, both, what_admitted, lt_of}
use Rattle.tree_view.specs.Grown.{IsGrown}
use Rattle.tree_view.specs.NewRows.{entry}
use Rattle.tree_view.proofs.Fits.{open_makes, frame_makes}
use Rattle.tree_view.proofs.Walk.{discarded_step, gone_above, root_here, root_up}
use Rattle.indexed_view.specs.declared.index.Place.{Place}
use Rattle.indexed_view.specs.Index.{HasHistory, ArePlaces, no_place, is_opening, framed_name}
use Rattle.indexed_view.specs.Marks.{AreMarks}
use Rattle.indexed_view.proofs.Carried.{IsCarried, IsUncut, same_root, same_gone}
use Rattle.indexed_view.proofs.Upkeep.{IsSameOfChildren}
use Rattle.indexed_view.proofs.ChildLists.{IsFramed}

-- u has one navigable more, and is the same of the others
pub record IsGrowing (t u : Tree) : Type 0 where
  pub navs : u.navs ≡ t.navs + 1
  pub docs : t.docs ≤ u.docs
  pub few_docs : u.docs ≤ t.docs + 2
  pub embedders : (n : ℕ) → n < t.navs → embedder u n ≡ embedder t n
  pub homes : (d : ℕ) → d < t.docs → nav_of u d ≡ nav_of t d
  pub active : (n : ℕ) → n < t.navs → (u.nav n).active ≡ (t.nav n).active
  pub names : (n : ℕ) → n < t.navs → (u.nav n).name ≡ (t.nav n).name
  pub dropped : (n : ℕ) → (u.nav n).dropped ≡ (t.nav n).dropped
  pub gone : (n : ℕ) → (u.nav n).gone ≡ (t.nav n).gone
  pub seen : (d : ℕ) → (t.doc d).been_active ≡ true → (u.doc d).been_active ≡ true
  pub shown : (u.doc (u.nav t.navs).active).been_active ≡ true

few_loads : (n : ℕ) (load : Option Load) → n + (1 + loads_of load) ≤ n + 2
few_loads n None = omega arith
few_loads n (Some _) = omega arith

past : (i navs n : ℕ) → navs ≡ i → n < navs → eqb i n ≡ false
past i navs n e lt = ne_eqb i n (λ s. absurd (omega (arith, e, lt, s)))

-- A NEW TOP-LEVEL ONE

pub record IsOpened (t u : Tree) : Type 0 where
  pub growing : IsGrowing t u
  pub children : IsSameOfChildren t u
  pub top : embedder u t.navs ≡ None

opens : (t : Tree) (by actor : Option ℕ) (i d g h : ℕ) (o : Origin) (name : List ℕ) (opener : Option ℕ) (flags : ℕ) (navigator : Option ℕ) (load : Option Load)
    → admits t (entry by actor (Open i d g h o name opener flags navigator load)) ≡ true → IsOpened t (tree_after t (entry by actor (Open i d g h o name opener flags navigator load)))
unfolding tree_after
opens t by actor i d g h o name opener flags navigator load a =
    let m = open_makes t by actor i d g h o name opener flags navigator load (what_admitted t (entry by actor (Open i d g h o name opener flags navigator load)) a) in
    let here : eqb i t.navs ≡ true = eq-eqb i t.navs (sym m.nav) in
    record {
      growing = record {
        navs = refl;
        docs = omega arith;
        few_docs = few_loads t.docs load;
        embedders = λ n lt. rw (embedder, past i t.navs n m.nav lt) refl;
        homes = λ x lt. ap (λ (b : Birth). b.nav) (born_stays t (entry by actor (Open i d g h o name opener flags navigator load)) x a lt);
        active = λ n lt. rw (past i t.navs n m.nav lt) refl;
        names = λ n lt. rw (past i t.navs n m.nav lt) refl;
        dropped = λ n. refl;
        gone = λ n. refl;
        seen = λ x e. or_right (eqb d x) (t.doc x).been_active e;
        shown = rw here (or_left (eqb d d) (t.doc d).been_active (eq-eqb d d refl));
      };
      children = record { frames = λ x. refl; dropped = λ n. refl; names = λ n lt. rw (past i t.navs n m.nav lt) refl };
      top = rw (embedder, here) refl;
    }

pub opened : (t : Tree) (e : Entry) → admits t e ≡ true → is_opening e.what ≡ true → IsOpened t (tree_after t e)
opened t e a kind = by e.what kind a
  where
    by : (w : What) → is_opening w ≡ true → admits t (entry e.by e.actor w) ≡ true → IsOpened t (tree_after t (entry e.by e.actor w))
    by (Open i d g h o name opener flags navigator load) k a = opens t e.by e.actor i d g h o name opener flags navigator load a
    by (Frame _ _ _ _ _ _ _) k a = absurd cc
    by (Begin _ _) k a = absurd cc
    by (Drop _) k a = absurd cc
    by (Name _ _) k a = absurd cc
    by (Commit _ _ _) k a = absurd cc
    by (Gone _) k a = absurd cc
    by (Fragment _ _ _) k a = absurd cc
    by (Opener _ _) k a = absurd cc
    by (Post _ _ _ _ _) k a = absurd cc
    by (Fire _ _) k a = absurd cc
    by (Lapse _ _ _) k a = absurd cc
    by (Closing _) k a = absurd cc
    by (Lost _) k a = absurd cc
    by Sync k a = absurd cc
    by Hidden k a = absurd cc
    by (Domain _ _) k a = absurd cc

-- A NEW CHILD

pub record IsEmbedded (t u : Tree) (a : ℕ) (name : List ℕ) : Type 0 where
  pub growing : IsGrowing t u
  pub framed : (t.nav t.navs).dropped ≡ false → IsFramed t u a name
  pub by : embedder u t.navs ≡ Some a
  pub there : a < t.docs
  pub acts : is_active t a ≡ true

acts_now : (t : Tree) (by : Option ℕ) (a : ℕ) → is_documents t by (Some a) ≡ true → (a < t.docs) × (is_active t a ≡ true)
acts_now t (Some r) a h = let parts = both _ _ h in (lt_of a t.docs parts.0, parts.1)
acts_now t None a h = absurd cc

frames_in : (t : Tree) (by : Option ℕ) (a i d h : ℕ) (o : Origin) (name : List ℕ) (flags : ℕ) (load : Option Load)
    → admits t (entry by (Some a) (Frame i d h o name flags load)) ≡ true → IsEmbedded t (tree_after t (entry by (Some a) (Frame i d h o name flags load))) a name
unfolding tree_after
frames_in t by a i d h o name flags load adm =
    let w = what_admitted t (entry by (Some a) (Frame i d h o name flags load)) adm in
    let m = frame_makes t by (Some a) i d h o name flags load w in
    let acting = acts_now t by a (both _ _ (both _ _ (both _ _ w).0).0).0 in
    let here : eqb i t.navs ≡ true = eq-eqb i t.navs (sym m.nav) in
    record {
      growing = record {
        navs = refl;
        docs = omega arith;
        few_docs = few_loads t.docs load;
        embedders = λ n lt. rw (embedder, past i t.navs n m.nav lt) refl;
        homes = λ x lt. ap (λ (b : Birth). b.nav) (born_stays t (entry by (Some a) (Frame i d h o name flags load)) x adm lt);
        active = λ n lt. rw (past i t.navs n m.nav lt) refl;
        names = λ n lt. rw (past i t.navs n m.nav lt) refl;
        dropped = λ n. refl;
        gone = λ n. refl;
        seen = λ x e. or_right (eqb d x) (t.doc x).been_active e;
        shown = rw here (or_left (eqb d d) (t.doc d).been_active (eq-eqb d d refl));
      };
      framed = λ stays. record {
        frames = λ x. ap (λ k. cond (eqb a x) (t.frames x ++ k ∷ []) (t.frames x)) (sym m.nav);
        dropped = λ n. refl;
        stays = stays;
        names = λ n lt. rw (past i t.navs n m.nav lt) refl;
        name_is = rw here refl;
      };
      by = rw (embedder, here) refl;
      there = acting.0;
      acts = acting.1;
    }

pub embedded : (t : Tree) (e : Entry) (a : ℕ) (name : List ℕ) → admits t e ≡ true → e.actor ≡ Some a → framed_name e.what ≡ Some name → IsEmbedded t (tree_after t e) a name
embedded t e a name adm actor kind = by e.actor e.what actor kind adm
  where
    by : (o : Option ℕ) (w : What) → o ≡ Some a → framed_name w ≡ Some name → admits t (entry e.by o w) ≡ true → IsEmbedded t (tree_after t (entry e.by o w)) a name
    by None w x k adm = absurd cc
    by (Some b) (Frame i d h o s flags load) x k adm =
        let same_doc : b ≡ a = cc in
        let same_name : s ≡ name = cc in
        subst (λ c. IsEmbedded t (tree_after t (entry e.by (Some b) (Frame i d h o s flags load))) c name) same_doc
        (subst (λ c. IsEmbedded t (tree_after t (entry e.by (Some b) (Frame i d h o s flags load))) b c) same_name (frames_in t e.by b i d h o s flags load adm))
    by (Some b) (Open _ _ _ _ _ _ _ _ _ _) x k adm = absurd cc
    by (Some b) (Begin _ _) x k adm = absurd cc
    by (Some b) (Drop _) x k adm = absurd cc
    by (Some b) (Name _ _) x k adm = absurd cc
    by (Some b) (Commit _ _ _) x k adm = absurd cc
    by (Some b) (Gone _) x k adm = absurd cc
    by (Some b) (Fragment _ _ _) x k adm = absurd cc
    by (Some b) (Opener _ _) x k adm = absurd cc
    by (Some b) (Post _ _ _ _ _) x k adm = absurd cc
    by (Some b) (Fire _ _) x k adm = absurd cc
    by (Some b) (Lapse _ _ _) x k adm = absurd cc
    by (Some b) (Closing _) x k adm = absurd cc
    by (Some b) (Lost _) x k adm = absurd cc
    by (Some b) Sync x k adm = absurd cc
    by (Some b) Hidden x k adm = absurd cc
    by (Some b) (Domain _ _) x k adm = absurd cc

-- WHAT THE INDEX SAYS AFTER IT

pub grows : (t u : Tree) → IsGrown t → IsGrown u → HasHistory t → IsGrowing t u → IsCarried t u
grows t u before after h g = record {
  before = before.ordered;
  after = after.ordered;
  navs = let navs = g.navs in omega (arith, navs);
  there = h.embedders;
  embedders = g.embedders;
  homes = g.homes;
}

pub uncut : (t u : Tree) → IsGrowing t u → IsUncut t u
uncut t u g = record { active = g.active; dropped = λ n lt. g.dropped n; gone = λ n lt. g.gone n }

-- one more number
last_or_less : (n k : ℕ) → n < k + 1 → (n < k) ⊎ (k ≡ n)
last_or_less n k lt = ⊎_elim (λ l. inl l) (λ g. inr (omega (arith, g, lt))) (cases_lt n k)

-- the document that embeds the new one, if one does, was active
pub record IsPlaced (t u : Tree) (e : Option ℕ) : Type 0 where
  pub by : embedder u t.navs ≡ e
  pub frames : (d : ℕ) → (t.doc d).been_active ≡ false → t.frames d ≡ [] → u.frames d ≡ []
  pub there : (d : ℕ) → e ≡ Some d → d < t.docs

pub history_grown : (t u : Tree) (e : Option ℕ) → HasHistory t → IsGrowing t u → IsPlaced t u e → HasHistory u
history_grown t u e h g p = record {
  unmade = λ n le. let navs = g.navs in let from : t.navs ≤ n = omega (arith, navs, le) in (g.dropped n ∙ (h.unmade n from).0, g.gone n ∙ (h.unmade n from).1);
  childless = λ d fresh. let was : (t.doc d).been_active ≡ false = ⊎_elim (λ s. let seen = g.seen d s in absurd cc) (λ s. s) (cases_Bool (t.doc d).been_active) in p.frames d was (h.childless d was);
  shown = λ n lt. let navs = g.navs in elim (last_or_less n t.navs (omega (arith, navs, lt))) [
    | inl less ↦ g.seen (u.nav n).active (ap (λ d. (t.doc d).been_active) (g.active n less) ∙ h.shown n less)
    | inr last ↦ subst (λ m. (u.doc (u.nav m).active).been_active ≡ true) last g.shown
  ];
  embedders = λ n d lt by. let navs = g.navs in let docs = g.docs in elim (last_or_less n t.navs (omega (arith, navs, lt))) [
    | inl less ↦ let low : d < t.docs = h.embedders n d less (sym (g.embedders n less) ∙ by) in omega (arith, low, docs)
    | inr last ↦ let low : d < t.docs = p.there d (sym (ap (embedder u) (sym last) ∙ p.by) ∙ by) in omega (arith, low, docs)
  ];
}

pub places_grown : (t u : Tree) (ps : List Place) (place : Place) → IsCarried t u → IsGrowing t u → ArePlaces t ps → place.embedder ≡ embedder u t.navs → place.top ≡ root_of u t.navs → ArePlaces u (ps ++ place ∷ [])
places_grown t u ps place on g are by top = record {
  len = length_push ps place ∙ ap (λ k. k + 1) are.len ∙ sym g.navs;
  embedders = λ n lt. let navs = g.navs in elim (last_or_less n t.navs (omega (arith, navs, lt))) [
    | inl less ↦ ap (λ (p : Place). p.embedder) (old n less) ∙ are.embedders n less ∙ sym (g.embedders n less)
    | inr last ↦ ap (λ (p : Place). p.embedder) (new n last) ∙ by ∙ ap (embedder u) last
  ];
  tops = λ n lt. let navs = g.navs in elim (last_or_less n t.navs (omega (arith, navs, lt))) [
    | inl less ↦ ap (λ (p : Place). p.top) (old n less) ∙ are.tops n less ∙ sym (same_root t u on n less)
    | inr last ↦ ap (λ (p : Place). p.top) (new n last) ∙ top ∙ ap (root_of u) last
  ];
}
  where
    old : (n : ℕ) → n < t.navs → get_or (ps ++ place ∷ []) n no_place ≡ get_or ps n no_place
    old n less = let len = are.len in get_or_append_left ps (place ∷ []) no_place n (omega (arith, less, len))

    new : (n : ℕ) → t.navs ≡ n → get_or (ps ++ place ∷ []) n no_place ≡ place
    new n last = get_or_push ps place no_place n (are.len ∙ last)

pub marks_grown : (t u : Tree) (marks : List Bool) → IsCarried t u → IsGrowing t u → length marks ≡ t.navs → AreMarks t marks → is_discarded u t.navs ≡ false → AreMarks u (marks ++ false ∷ [])
marks_grown t u marks on g len are fresh n lt = let navs = g.navs in elim (last_or_less n t.navs (omega (arith, navs, lt))) [
  | inl less ↦ get_or_append_left marks (false ∷ []) false n (omega (arith, less, len)) ∙ are n less ∙ sym (same_gone t u on (uncut t u g) n less)
  | inr last ↦ get_or_push marks false false n (len ∙ last) ∙ sym fresh ∙ ap (is_discarded u) last
]

-- THE NEW ONE ITSELF

whole : (t u : Tree) → HasHistory t → IsGrowing t u → (is_embedded u (embedder u t.navs) ≡ true) → is_cut u t.navs ≡ false
whole t u h g shown =
    let none = h.unmade t.navs (omega arith) in
    or_from _ _ (or_from _ _ (g.dropped t.navs ∙ none.0) (g.gone t.navs ∙ none.1)) (ap not shown)

pub top_whole : (t u : Tree) → IsGrown u → HasHistory t → IsGrowing t u → embedder u t.navs ≡ None → (is_discarded u t.navs ≡ false) × (root_of u t.navs ≡ t.navs)
top_whole t u grown h g top =
    let lt : t.navs < u.navs = let navs = g.navs in omega (arith, navs) in
    (discarded_step u t.navs grown.ordered lt ∙ or_from _ _ (whole t u h g (ap (is_embedded u) top)) (ap (gone_above u) top), root_here u t.navs grown.ordered lt top)

pub child_whole : (t u : Tree) (a : ℕ) → IsGrown u → HasHistory t → IsCarried t u → IsGrowing t u → embedder u t.navs ≡ Some a → a < t.docs → nav_of t a < t.navs → is_active t a ≡ true
    → (is_discarded u t.navs ≡ false) × (root_of u t.navs ≡ root_of t (nav_of t a))
unfolding is_active
child_whole t u a grown h on g by there within acts =
    let lt : t.navs < u.navs = let navs = g.navs in omega (arith, navs) in
    let parts = and_parts (is_shown t a) (not (is_discarded t (nav_of t a))) acts in
    let home : nav_of u a ≡ nav_of t a = g.homes a there in
    let shown : is_shown u a ≡ true = ap (λ m. eqb (u.nav m).active a) home ∙ ap (λ x. eqb x a) (g.active (nav_of t a) within) ∙ parts.0 in
    let above : is_discarded u (nav_of u a) ≡ false = ap (is_discarded u) home ∙ same_gone t u on (uncut t u g) (nav_of t a) within ∙ not-true _ parts.1 in (
      discarded_step u t.navs grown.ordered lt ∙ or_from _ _ (whole t u h g (ap (is_embedded u) by ∙ shown)) (ap (gone_above u) by ∙ above),
      root_up u t.navs a (nav_of t a) grown.ordered lt by home ∙ same_root t u on (nav_of t a) within,
    )
