-- What an entry cuts: a navigable that is dropped or closed, or what a replaced document embeds.
use Rattle.std.proofs.Common.{◌≡◌, ℕ, ◌<◌, List, [], ◌∷◌, Bool, true, false, cond, refl, ap, sym, subst, ◌∙◌, length, inl, inr, arith, eqb, eq-eqb, ne_eqb, not, Option, Some, None, ◌⊎◌, ⊎_elim, ◌||◌, ◌≢◌}
use Rattle.std.specs.Prelude.{unwrap_or}
use Rattle.std.specs.List.{All}
use Rattle.std.proofs.lemmas.Bool.Decides.{eqb_tells}
use Rattle.std.proofs.lemmas.Bool.{cases_Bool, or_cases, or_left, or_right, or_parts, eqb-true, not-true, not-false, not_from_false}
use Rattle.std.proofs.lemmas.List.Elements.{All-nil, All-cons}
use Rattle.tree_log.specs.declared.entry.What.TheVariants.{Drop, Commit, Gone}
use Rattle.tree_log.specs.Tree.{Tree, tree_after, embedder, nav_of, is_cut, is_shown, is_embedded, is_discarded}
use Rattle.tree_view.specs.Grown.{IsGrown}
use Rattle.tree_view.specs.NewRows.{entry}
use Rattle.indexed_view.specs.Index.{HasHistory}
use Rattle.indexed_view.specs.Live.{live}
use Rattle.indexed_view.specs.Lists.{is_in}
use Rattle.indexed_view.specs.Marks.{AreMarks}
use Rattle.indexed_view.proofs.Members.{in_live, of_live, in_frames, live_below}
use Rattle.indexed_view.proofs.Marking.{IsCutting, cut_gone}

-- what is known before the entry, and that the tree after it grew an entry at a time
pub record IsBefore (t u : Tree) (marks : List Bool) : Type 0 where
  pub grown : IsGrown t
  pub history : HasHistory t
  pub later : IsGrown u
  pub len : length marks ≡ t.navs
  pub right : AreMarks t marks

drop_more_cuts : (a b c d : Bool) → (b || c || d) ≡ true → ((a || b) || c || d) ≡ true
drop_more_cuts true b c d h = refl
drop_more_cuts false b c d h = h

drop_cuts_one : (a b c d : Bool) → ((a || b) || c || d) ≡ true → ((b || c || d) ≡ true) ⊎ ((a || false) ≡ true)
drop_cuts_one true b c d h = inr refl
drop_cuts_one false b c d h = inl h

gone_more_cuts : (a b c d : Bool) → (b || c || d) ≡ true → (b || (a || c) || d) ≡ true
gone_more_cuts a true c d h = refl
gone_more_cuts true false c d h = refl
gone_more_cuts false false c d h = h

gone_cuts_one : (a b c d : Bool) → (b || (a || c) || d) ≡ true → ((b || c || d) ≡ true) ⊎ ((a || false) ≡ true)
gone_cuts_one a true c d h = inl refl
gone_cuts_one true false c d h = inr refl
gone_cuts_one false false c d h = inl h

is_one : (n i : ℕ) → is_in n (i ∷ []) ≡ true → i ≡ n
is_one n i it = elim (or_cases (eqb i n) false it) [ inl e ↦ eqb-true i n e | inr e ↦ absurd cc ]

module _ (t : Tree) (by actor : Option ℕ) (i : ℕ) (marks : List Bool) (there : i < t.navs) where
  pub drop_cuts : IsBefore t (tree_after t (entry by actor (Drop i))) marks → IsCutting t (tree_after t (entry by actor (Drop i))) marks (i ∷ [])
  unfolding tree_after
  drop_cuts h = record {
    before = h.grown.ordered;
    grown = h.later;
    navs = refl;
    embedders = λ n. refl;
    homes = λ d. refl;
    len = h.len;
    right = h.right;
    old_cuts = λ n lt e. drop_more_cuts (eqb i n) (t.nav n).dropped (t.nav n).gone (not (is_embedded t (embedder t n))) e;
    new_cuts = λ n lt e. drop_cuts_one (eqb i n) (t.nav n).dropped (t.nav n).gone (not (is_embedded t (embedder t n))) e;
    gone = λ n it.
        let e : i ≡ n = is_one n i it in
        let lt : n < t.navs = omega (arith, there, e) in
        (lt, cut_gone (tree_after t (entry by actor (Drop i))) h.later.ordered n lt (ap (λ b. (b || (t.nav n).dropped) || (t.nav n).gone || not (is_embedded t (embedder t n))) (eq-eqb i n e)));
    within = All-cons (λ n. n < length marks) i [] (let len = h.len in omega (arith, there, len)) (All-nil (λ n. n < length marks));
  }

  pub gone_cuts : IsBefore t (tree_after t (entry by actor (Gone i))) marks → IsCutting t (tree_after t (entry by actor (Gone i))) marks (i ∷ [])
  unfolding tree_after
  gone_cuts h = record {
    before = h.grown.ordered;
    grown = h.later;
    navs = refl;
    embedders = λ n. refl;
    homes = λ d. refl;
    len = h.len;
    right = h.right;
    old_cuts = λ n lt e. gone_more_cuts (eqb i n) (t.nav n).dropped (t.nav n).gone (not (is_embedded t (embedder t n))) e;
    new_cuts = λ n lt e. gone_cuts_one (eqb i n) (t.nav n).dropped (t.nav n).gone (not (is_embedded t (embedder t n))) e;
    gone = λ n it.
        let e : i ≡ n = is_one n i it in
        let lt : n < t.navs = omega (arith, there, e) in (
          lt,
          cut_gone (tree_after t (entry by actor (Gone i))) h.later.ordered n lt
              (or_left ((t.nav n).dropped || (eqb i n || (t.nav n).gone)) _ (or_right (t.nav n).dropped _ (or_left (eqb i n) (t.nav n).gone (eq-eqb i n e)))),
        );
    within = All-cons (λ n. n < length marks) i [] (let len = h.len in omega (arith, there, len)) (All-nil (λ n. n < length marks));
  }

-- ANOTHER DOCUMENT IS SHOWN

-- what embeds a navigable was active
pub embedder_seen : (t : Tree) → IsGrown t → HasHistory t → (n d : ℕ) → n < t.navs → embedder t n ≡ Some d → (t.doc d).been_active ≡ true
embedder_seen t grown h n d lt by = ⊎_elim (λ e. e) (λ e. let none = sym (ap (is_in n) (h.childless d e)) ∙ in_frames t grown n d lt by in absurd cc) (cases_Bool (t.doc d).been_active)

module _ (t : Tree) (by actor : Option ℕ) (i d b : ℕ) (marks : List Bool) (there : i < t.navs) (fresh : (t.doc d).been_active ≡ false) where
  u : Tree
  u = tree_after t (entry by actor (Commit i d b))

  old : ℕ
  old = (t.nav i).active

  -- a document that embeds is not the new one
  not_new : IsGrown t → HasHistory t → (n x : ℕ) → n < t.navs → embedder t n ≡ Some x → d ≢ x
  not_new grown h n x lt is e = let seen = ap (λ k. (t.doc k).been_active) e ∙ embedder_seen t grown h n x lt is in absurd cc

  still_hidden : IsGrown t → HasHistory t → (n x : ℕ) → n < t.navs → embedder t n ≡ Some x → is_shown t x ≡ false → is_shown u x ≡ false
  unfolding tree_after u
  still_hidden grown h n x lt is e = elim (eqb_tells i (nav_of t x)) [
    | inl p ↦ rw p.0 (ne_eqb d x (not_new grown h n x lt is))
    | inr p ↦ rw p.0 e
  ]

  stays_or_old : (x : ℕ) → is_shown t x ≡ true → is_shown u x ≡ false → (nav_of t x ≡ i) × (old ≡ x)
  unfolding tree_after u old
  stays_or_old x was e = elim (eqb_tells i (nav_of t x)) [
    | inl p ↦ (sym p.1, ap (λ k. (t.nav k).active) p.1 ∙ eqb-true _ _ was)
    | inr p ↦ let same : is_shown u x ≡ is_shown t x = ap (λ c. eqb (unwrap_or (cond c (Some d) None) (t.nav (nav_of t x)).active) x) p.0 in absurd cc
  ]

  cut_before : IsGrown t → HasHistory t → (n : ℕ) → n < t.navs → is_cut t n ≡ true → is_cut u n ≡ true
  unfolding tree_after u
  cut_before grown h n lt e = elim (or_cases ((t.nav n).dropped || (t.nav n).gone) _ e) [
    | inl a ↦ or_left ((t.nav n).dropped || (t.nav n).gone) _ a
    | inr c ↦ or_right ((t.nav n).dropped || (t.nav n).gone) _ (not_from_false _ (hidden (embedder t n) refl (not-true _ c)))
  ]
    where
      hidden : (o : Option ℕ) → embedder t n ≡ o → is_embedded t o ≡ false → is_embedded u o ≡ false
      hidden None is away = absurd cc
      hidden (Some x) is away = still_hidden grown h n x lt is away

  cut_after : IsGrown t → HasHistory t → (n : ℕ) → n < t.navs → is_cut u n ≡ true → (is_cut t n ≡ true) ⊎ (is_in n (live t old) ≡ true)
  unfolding tree_after u
  cut_after grown h n lt e = ⊎_elim (λ c. inl c) (λ whole. inr (now_cut whole)) (cases_Bool (is_cut t n))
    where
      now_cut : is_cut t n ≡ false → is_in n (live t old) ≡ true
      now_cut whole =
          let parts = or_parts ((t.nav n).dropped || (t.nav n).gone) _ whole in
          let kept = or_parts (t.nav n).dropped (t.nav n).gone parts.0 in
          let hidden : is_embedded u (embedder t n) ≡ false = not-true _ (last_of (t.nav n).dropped (t.nav n).gone _ kept.0 kept.1 e) in
          by_embedder (embedder t n) refl (not-false _ parts.1) hidden kept.0
        where
          last_of : (a b c : Bool) → a ≡ false → b ≡ false → (a || b || c) ≡ true → c ≡ true
          last_of false false c x y z = z
          last_of true b c x y z = absurd cc
          last_of false true c x y z = absurd cc

          by_embedder : (o : Option ℕ) → embedder t n ≡ o → is_embedded t o ≡ true → is_embedded u o ≡ false → (t.nav n).dropped ≡ false → is_in n (live t old) ≡ true
          by_embedder None is shown away stays = absurd cc
          by_embedder (Some x) is shown away stays = let at = stays_or_old x shown away in ap (λ k. is_in n (live t k)) at.1 ∙ in_live t grown n x lt is stays

  replaced_gone : IsBefore t u marks → (n : ℕ) → is_in n (live t old) ≡ true → (n < t.navs) × (is_discarded u n ≡ true)
  unfolding tree_after u old
  replaced_gone h n it =
      let child = of_live t h.grown n old it in
      let home : nav_of t old ≡ i = h.grown.shows_its_own i there in
      let hidden : is_shown u old ≡ false =
      ap (λ k. eqb (unwrap_or (cond (eqb i k) (Some d) None) (t.nav k).active) old) home ∙ ap (λ c. eqb (unwrap_or (cond c (Some d) None) (t.nav i).active) old) (eq-eqb i i refl)
      ∙ ne_eqb d old (not_new h.grown h.history n old child.there child.by) in
      (child.there, cut_gone u h.later.ordered n child.there (or_right ((t.nav n).dropped || (t.nav n).gone) _ (not_from_false _ (ap (is_embedded u) child.by ∙ hidden))))

  pub commit_cuts : IsBefore t (tree_after t (entry by actor (Commit i d b))) marks → IsCutting t (tree_after t (entry by actor (Commit i d b))) marks (live t (t.nav i).active)
  unfolding tree_after u old
  commit_cuts h = record {
    before = h.grown.ordered;
    grown = h.later;
    navs = refl;
    embedders = λ n. refl;
    homes = λ x. refl;
    len = h.len;
    right = h.right;
    old_cuts = cut_before h.grown h.history;
    new_cuts = cut_after h.grown h.history;
    gone = replaced_gone h;
    within = subst (λ l. All (λ n. n < l) (live t old)) (sym h.len) (live_below t h.grown old);
  }
