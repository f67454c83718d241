-- The lists of children after one is dropped, renamed or made.
use Rattle.std.proofs.Common.{◌≡◌, ℕ, ◌<◌, List, [], ◌∷◌, ◌++◌, Bool, true, false, cond, refl, ap, sym, ◌∙◌, length, eqb, eq-eqb, ne_eqb, filter, not, Option, Some, None, ⊎_elim, ◌&&◌, ◌≢◌, append-nil}
use Rattle.std.specs.Prelude.{unwrap_or}
use Rattle.std.proofs.lemmas.Bool.{cases_Bool, and_left, and_right, and_parts, and_cases, false_from_ne_true}
use Rattle.std.proofs.lemmas.List.Elements.{filter-append, filter_agree}
use Rattle.tree_log.specs.declared.entry.What.TheVariants.{Drop, Name}
use Rattle.tree_log.specs.Tree.{Tree, tree_after, embedder, is}
use Rattle.tree_view.specs.Grown.{IsGrown}
use Rattle.tree_view.specs.NewRows.{entry}
use Rattle.indexed_view.specs.declared.families.Family.{Family}
use Rattle.indexed_view.specs.Families.{children_in, named_in, taken, renamed}
use Rattle.indexed_view.specs.Index.{AreFamilies}
use Rattle.indexed_view.specs.Live.{is_name, live, live_named, has_name}
use Rattle.indexed_view.specs.Lists.{is_in, without, with_one}
use Rattle.indexed_view.proofs.Members.{in_filter, of_live, live_ascends, it_is}
use Rattle.indexed_view.proofs.Filters.{agree_in, swapped, absent, dropped_too, test_without, test_with, at_end}

-- what another document embeds is not in a list
elsewhere : (t : Tree) → IsGrown t → (i d : ℕ) → is (embedder t i) d ≡ false → is_in i (live t d) ≡ false
elsewhere t grown i d other = false_from_ne_true (is_in i (live t d)) (λ it. let mine = it_is (embedder t i) d (of_live t grown i d it).by in absurd cc)

not_named : (t : Tree) (i d : ℕ) (q : List ℕ) → has_name t q i ≡ false → is_in i (live_named t d q) ≡ false
not_named t i d q other = in_filter (has_name t q) i (live t d) ∙ and_left (has_name t q i) (is_in i (live t d)) other

not_named_elsewhere : (t : Tree) (i d : ℕ) (q : List ℕ) → is_in i (live t d) ≡ false → is_in i (live_named t d q) ≡ false
not_named_elsewhere t i d q away = in_filter (has_name t q) i (live t d) ∙ and_right (has_name t q i) (is_in i (live t d)) away

-- DROPPED

module _ (t : Tree) (by actor : Option ℕ) (i : ℕ) (grown : IsGrown t) where
  live_dropped : (d : ℕ) → live (tree_after t (entry by actor (Drop i))) d ≡ without i (live t d)
  unfolding tree_after
  live_dropped d = dropped_too (λ n. (t.nav n).dropped) i (t.frames d)

  named_dropped : (d : ℕ) (q : List ℕ) → live_named (tree_after t (entry by actor (Drop i))) d q ≡ without i (live_named t d q)
  unfolding tree_after
  named_dropped d q = ap (filter (has_name t q)) (live_dropped d) ∙ swapped (has_name t q) (λ m. not (eqb m i)) (live t d)

  if_here : (ns : List ℕ) (b : Bool) → (b ≡ false → is_in i ns ≡ false) → cond b (without i ns) ns ≡ without i ns
  if_here ns true away = refl
  if_here ns false away = sym (absent i ns (away refl))

  named_away : (d : ℕ) (q : List ℕ) → (is (embedder t i) d && is_name (t.nav i).name q) ≡ false → is_in i (live_named t d q) ≡ false
  named_away d q e = ⊎_elim (λ here. not_named t i d q (sym (ap (λ b. b && is_name (t.nav i).name q) here) ∙ e)) (λ other. not_named_elsewhere t i d q (elsewhere t grown i d other)) (cases_Bool (is (embedder t i) d))

  pub families_dropped : (old new : List Family) (docs : ℕ) → AreFamilies t old → length new ≡ length old
      → ((d : ℕ) → children_in new d ≡ cond (is (embedder t i) d) (without i (children_in old d)) (children_in old d))
      → ((d : ℕ) (q : List ℕ) → named_in new d q ≡ cond (is (embedder t i) d && is_name (t.nav i).name q) (without i (named_in old d q)) (named_in old d q))
      → AreFamilies (tree_after t (entry by actor (Drop i))) new
  unfolding tree_after
  families_dropped old new docs are len children names = record {
    len = len ∙ are.len;
    children = λ d. children d ∙ ap (λ ns. cond (is (embedder t i) d) (without i ns) ns) (are.children d) ∙ if_here (live t d) (is (embedder t i) d) (elsewhere t grown i d) ∙ sym (live_dropped d);
    names = λ d q.
        names d q ∙ ap (λ ns. cond (is (embedder t i) d && is_name (t.nav i).name q) (without i ns) ns) (are.names d q)
        ∙ if_here (live_named t d q) (is (embedder t i) d && is_name (t.nav i).name q) (named_away d q)
        ∙ sym (named_dropped d q);
  }

-- RENAMED

module _ (t : Tree) (by actor : Option ℕ) (i : ℕ) (to : List ℕ) (grown : IsGrown t) where
  u : Tree
  u = tree_after t (entry by actor (Name i to))

  name_here : (q : List ℕ) → has_name u q i ≡ is_name to q
  unfolding tree_after u
  name_here q = ap (λ b. is_name (unwrap_or (cond b (Some to) None) (t.nav i).name) q) (eq-eqb i i refl)

  name_elsewhere : (q : List ℕ) (n : ℕ) → n ≢ i → has_name u q n ≡ has_name t q n
  unfolding tree_after u
  name_elsewhere q n other = ap (λ b. is_name (unwrap_or (cond b (Some to) None) (t.nav n).name) q) (ne_eqb i n (λ e. other (sym e)))

  same_lives : (d : ℕ) → live u d ≡ live t d
  unfolding tree_after u
  same_lives d = refl

  taken_named : (d : ℕ) (q : List ℕ) → taken i (t.nav i).name q (live_named t d q) ≡ without i (live_named t d q)
  taken_named d q = pick (is_name (t.nav i).name q) refl
    where
      pick : (b : Bool) → is_name (t.nav i).name q ≡ b → cond b (without i (live_named t d q)) (live_named t d q) ≡ without i (live_named t d q)
      pick true e = refl
      pick false e = sym (absent i (live_named t d q) (not_named t i d q e))

  renamed_there : (d : ℕ) (q : List ℕ) → is_in i (live t d) ≡ true → live_named u d q ≡ cond (is_name to q) (with_one i (without i (live_named t d q))) (without i (live_named t d q))
  renamed_there d q it = ap (filter (has_name u q)) (same_lives d) ∙ pick (is_name to q) refl
    where
      pick : (b : Bool) → is_name to q ≡ b → filter (has_name u q) (live t d) ≡ cond b (with_one i (without i (live_named t d q))) (without i (live_named t d q))
      pick true e = test_with (has_name t q) (has_name u q) i (live t d) (live_ascends t grown d) it (name_elsewhere q) (name_here q ∙ e)
      pick false e = test_without (has_name t q) (has_name u q) i (live t d) (name_elsewhere q) (name_here q ∙ e)

  away_same : (d : ℕ) (q : List ℕ) → is_in i (live t d) ≡ false → live_named u d q ≡ live_named t d q
  away_same d q away =
      ap (filter (has_name u q)) (same_lives d)
      ∙ agree_in (has_name u q) (has_name t q) (live t d) (λ n it. name_elsewhere q n (λ e. let there = sym (ap (λ k. is_in k (live t d)) e) ∙ it in absurd cc))

  all_renamed : (d : ℕ) (q : List ℕ) → (is (embedder t i) d && is_in i (live t d)) ≡ true → renamed i (t.nav i).name to q (live_named t d q) ≡ live_named u d q
  all_renamed d q here =
      ap (λ ns. cond (is_name to q) (with_one i ns) ns) (taken_named d q) ∙ sym (renamed_there d q (and_parts (is (embedder t i) d) (is_in i (live t d)) here).1)

  none_renamed : (d : ℕ) (q : List ℕ) → (is (embedder t i) d && is_in i (live t d)) ≡ false → live_named t d q ≡ live_named u d q
  none_renamed d q other =
      sym (away_same d q (⊎_elim (λ e. elsewhere t grown i d e) (λ e. e) (and_cases (is (embedder t i) d) (is_in i (live t d)) other)))

  pub families_renamed : (old new : List Family) → AreFamilies t old → length new ≡ length old → ((d : ℕ) → children_in new d ≡ children_in old d)
      → ((d : ℕ) (q : List ℕ) → named_in new d q ≡ cond (is (embedder t i) d && is_in i (children_in old d)) (renamed i (t.nav i).name to q (named_in old d q)) (named_in old d q))
      → AreFamilies (tree_after t (entry by actor (Name i to))) new
  unfolding tree_after u
  families_renamed old new are len children names = record {
    len = len ∙ are.len;
    children = λ d. children d ∙ are.children d ∙ sym (same_lives d);
    names = λ d q.
        names d q ∙ ap (λ ns. cond (is (embedder t i) d && is_in i ns) (renamed i (t.nav i).name to q (named_in old d q)) (named_in old d q)) (are.children d)
        ∙ ap (λ ns. cond (is (embedder t i) d && is_in i (live t d)) (renamed i (t.nav i).name to q ns) ns) (are.names d q)
        ∙ pick d q (is (embedder t i) d && is_in i (live t d)) refl;
  }
    where
      pick : (d : ℕ) (q : List ℕ) (b : Bool) → (is (embedder t i) d && is_in i (live t d)) ≡ b → cond b (renamed i (t.nav i).name to q (live_named t d q)) (live_named t d q) ≡ live_named u d q
      pick d q true e = all_renamed d q e
      pick d q false e = none_renamed d q e

-- MADE

-- u has one more navigable, the last one, which a embeds and which has this name
pub record IsFramed (t u : Tree) (a : ℕ) (name : List ℕ) : Type 0 where
  pub frames : (d : ℕ) → u.frames d ≡ cond (eqb a d) (t.frames d ++ t.navs ∷ []) (t.frames d)
  pub dropped : (n : ℕ) → (u.nav n).dropped ≡ (t.nav n).dropped
  pub stays : (t.nav t.navs).dropped ≡ false
  pub names : (n : ℕ) → n < t.navs → (u.nav n).name ≡ (t.nav n).name
  pub name_is : (u.nav t.navs).name ≡ name

module _ (t v : Tree) (a : ℕ) (name : List ℕ) (grown : IsGrown t) (made : IsFramed t v a name) where
  kept_live : (d : ℕ) → filter (λ n. not (v.nav n).dropped) (t.frames d) ≡ live t d
  kept_live d = filter_agree (λ n. not (v.nav n).dropped) (λ n. not (t.nav n).dropped) (λ n. ap not (made.dropped n)) (t.frames d)

  live_below_new : (d n : ℕ) → is_in n (live t d) ≡ true → n < t.navs
  live_below_new d n it = (of_live t grown n d it).there

  live_more : (d : ℕ) (b : Bool) → eqb a d ≡ b → live v d ≡ cond b (live t d ++ t.navs ∷ []) (live t d)
  live_more d true e =
      ap (filter (λ n. not (v.nav n).dropped)) (made.frames d ∙ ap (λ b. cond b (t.frames d ++ t.navs ∷ []) (t.frames d)) e)
      ∙ filter-append (λ n. not (v.nav n).dropped) (t.frames d) (t.navs ∷ [])
      ∙ ap (λ b. filter (λ n. not (v.nav n).dropped) (t.frames d) ++ cond (not b) (t.navs ∷ []) []) (made.dropped t.navs ∙ made.stays)
      ∙ ap (λ ns. ns ++ t.navs ∷ []) (kept_live d)
  live_more d false e = ap (filter (λ n. not (v.nav n).dropped)) (made.frames d ∙ ap (λ b. cond b (t.frames d ++ t.navs ∷ []) (t.frames d)) e) ∙ kept_live d

  old_names : (d : ℕ) (q : List ℕ) → filter (has_name v q) (live t d) ≡ live_named t d q
  old_names d q = agree_in (has_name v q) (has_name t q) (live t d) (λ n it. ap (λ s. is_name s q) (made.names n (live_below_new d n it)))

  one_if : (b : Bool) (ns : List ℕ) → ((n : ℕ) → is_in n ns ≡ true → n < t.navs) → ns ++ cond b (t.navs ∷ []) [] ≡ cond b (with_one t.navs ns) ns
  one_if true ns low = sym (at_end t.navs ns low)
  one_if false ns low = append-nil ns

  named_more : (d : ℕ) (q : List ℕ) (b : Bool) → eqb a d ≡ b → live_named v d q ≡ cond (b && is_name name q) (with_one t.navs (live_named t d q)) (live_named t d q)
  named_more d q true e =
      ap (filter (has_name v q)) (live_more d true e)
      ∙ filter-append (has_name v q) (live t d) (t.navs ∷ [])
      ∙ ap (λ b. filter (has_name v q) (live t d) ++ cond b (t.navs ∷ []) []) (ap (λ s. is_name s q) made.name_is)
      ∙ ap (λ ns. ns ++ cond (is_name name q) (t.navs ∷ []) []) (old_names d q)
      ∙ one_if (is_name name q) (live_named t d q) (λ n it. live_below_new d n (and_parts (has_name t q n) (is_in n (live t d)) (sym (in_filter (has_name t q) n (live t d)) ∙ it)).1)
  named_more d q false e = ap (filter (has_name v q)) (live_more d false e) ∙ old_names d q

  pub families_framed : (old new : List Family) → AreFamilies t old → length new ≡ v.docs
      → ((d : ℕ) → children_in new d ≡ cond (eqb a d) (with_one t.navs (children_in old d)) (children_in old d))
      → ((d : ℕ) (q : List ℕ) → named_in new d q ≡ cond (eqb a d && is_name name q) (with_one t.navs (named_in old d q)) (named_in old d q)) → AreFamilies v new
  families_framed old new are len children names = record {
    len = len;
    children = λ d.
        children d ∙ ap (λ ns. cond (eqb a d) (with_one t.navs ns) ns) (are.children d)
        ∙ ap (λ ns. cond (eqb a d) ns (live t d)) (at_end t.navs (live t d) (live_below_new d))
        ∙ sym (live_more d (eqb a d) refl);
    names = λ d q.
        names d q ∙ ap (λ ns. cond (eqb a d && is_name name q) (with_one t.navs ns) ns) (are.names d q)
        ∙ sym (named_more d q (eqb a d) refl);
  }
