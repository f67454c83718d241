-- The entry that ended a document is the first that replaced it, or that cut or replaced something that it stands in.
use Rattle.std.proofs.Common.{◌≡◌, ℕ, zero, suc, ◌<◌, ◌≤◌, ◌^◌, List, [], ◌∷◌, length, Option, Some, None, Bool, true, false, refl, sym, ap, subst, ◌∙◌, arith, inl, inr}
use Rattle.std.specs.Prelude.{◌||◌, not, is_some, is_none, unwrap_or}
use Rattle.std.specs.Option.{option_or}
use Rattle.std.proofs.lemmas.Bool.{false≢true, cases_lt}
use Rattle.tree_log.specs.declared.entry.Entry.{Entry}
use Rattle.tree_log.specs.Tree.{Tree, tree_of, embedder, nav_of, is_shown, is_embedded, is_cut, is_discarded, is_active}
use Rattle.tree_log.specs.Admits.{AreAdmitted}
use Rattle.tree_log.proofs.Admitted.{both}
use Rattle.tree_log.proofs.Unmade.{unmade_inactive}
use Rattle.tree_view.proofs.Walk.{gone_above, discarded_step}
use Rattle.coordinator_rules.specs.Decision.{end_of}
use Rattle.agent_laws.specs.Wellness.{IsWell}
use Rattle.agent_laws.proofs.Logs.Discarded.{IsSeated, shown_active}
use Rattle.document_ends.specs.Ended.{sooner, cut_by, ended_by, first_cut, own_end, nav_end, first_end}
use Rattle.document_ends.proofs.Places.{Grows, grows_or, sooner_grows, grown_some, grown_none, some_sooner, none_left, none_right, none_of, none_is, sooner_zero}
use Rattle.document_ends.proofs.Steps.{IsStep, IsLate, IsArrived, step_of, cut_now, active_kept, not_true, false_if, or_false}
use Rattle.document_ends.proofs.Walks.{ordered, nav_end_by, nav_step, cut_most, own_most, cut_is}

-- WHAT HOLDS OF A LOG

pub record IsEnding (log : List Entry) : Type 0 where
  pub discards : (n : ℕ) → n < (tree_of log).navs → is_discarded (tree_of log) n ≡ is_some (nav_end log n)
  pub shows : (d : ℕ) → ((tree_of log).doc d).been_active ≡ true → is_discarded (tree_of log) (nav_of (tree_of log) d) ≡ false → is_shown (tree_of log) d ≡ is_none (own_end log d)
  pub uncut : (n : ℕ) → (tree_of log).navs ≤ n → first_cut log n ≡ None
  pub fresh : (d : ℕ) → ((tree_of log).doc d).been_active ≡ false → own_end log d ≡ None
  pub never : (d : ℕ) → d < 2 ^ 32 → ((tree_of log).doc d).been_active ≡ false → end_of log d ≡ 0
  pub ends : (d p : ℕ) → ((tree_of log).doc d).been_active ≡ true → first_end log d ≡ Some p → end_of log d ≡ p

-- TESTS

three : (a b c : Bool) (x y z : Option ℕ) → a ≡ is_some x → b ≡ is_some y → c ≡ is_some z → ((a || b) || c) ≡ is_some (sooner (sooner x y) z)
three a b c x y z ha hb hc =
    ap (λ (q : Bool). (q || b) || c) ha ∙ ap (λ (q : Bool). (is_some x || q) || c) hb ∙ ap (λ (q : Bool). (is_some x || is_some y) || q) hc
    ∙ sym (some_sooner (sooner x y) z ∙ ap (λ (q : Bool). q || is_some z) (some_sooner x y))

not_none : (o : Option ℕ) → not (is_none o) ≡ is_some o
not_none None = refl
not_none (Some a) = refl

grows_some : (l : ℕ) (o x : Option ℕ) → Grows l o x → is_some o ≡ true → is_some x ≡ true
grows_some l None x g h = absurd cc
grows_some l (Some a) None g h = absurd g
grows_some l (Some a) (Some b) g h = refl

active_if : (t : Tree) (d : ℕ) → is_shown t d ≡ true → is_discarded t (nav_of t d) ≡ false → is_active t d ≡ true
unfolding is_active
active_if t d shown kept = rw (shown, kept) refl

active_shown : (t : Tree) (d : ℕ) → is_active t d ≡ true → is_shown t d ≡ true
unfolding is_active
active_shown t d h = (both (is_shown t d) (not (is_discarded t (nav_of t d))) h).0

-- a document that is there and active
record IsLive (t : Tree) (p : ℕ) : Type 0 where
  there : p < t.docs
  been : (t.doc p).been_active ≡ true
  active : is_active t p ≡ true

live_active : (t : Tree) → IsWell t → IsSeated t → (p : ℕ) → p < t.docs → is_active t p ≡ true → IsLive t p
live_active t well seated p there active = record {
  there = there;
  been = subst (λ (x : ℕ). (t.doc x).been_active ≡ true) (shown_active t p active) (seated.actives (nav_of t p) (well.below p there));
  active = active;
}

-- what embeds a navigable that isn't discarded
live_above : (t : Tree) → IsWell t → IsSeated t → (n p : ℕ) → n < t.navs → is_discarded t n ≡ false → embedder t n ≡ Some p → IsLive t p
live_above t well seated n p lt kept is = record {
  there = (well.up n p is).0;
  been = seated.embedders n p is;
  active = active_if t p (shown (is_shown t p) two.0) two.1;
}
  where
    shown : (b : Bool) → ((t.nav n).dropped || (t.nav n).gone || not b) ≡ false → b ≡ true
    shown true h = refl
    shown false h = absurd (not_true (not false) refl (or_false ((t.nav n).dropped || (t.nav n).gone) (not false) h).1)

    parts : (o : Option ℕ) → o ≡ Some p → (((t.nav n).dropped || (t.nav n).gone || not (is_embedded t o)) || gone_above t o) ≡ false
        → (((t.nav n).dropped || (t.nav n).gone || not (is_shown t p)) ≡ false) × (is_discarded t (nav_of t p) ≡ false)
    parts None k h = absurd cc
    parts (Some q) k h = let same : q ≡ p = cc in
        subst (λ (x : ℕ). (((t.nav n).dropped || (t.nav n).gone || not (is_shown t x)) ≡ false) × (is_discarded t (nav_of t x) ≡ false)) same
        (or_false ((t.nav n).dropped || (t.nav n).gone || not (is_shown t q)) (is_discarded t (nav_of t q)) h)

    two : (((t.nav n).dropped || (t.nav n).gone || not (is_shown t p)) ≡ false) × (is_discarded t (nav_of t p) ≡ false)
    two = parts (embedder t n) is (sym (discarded_step t n (ordered t well) lt) ∙ kept)

-- a document that was active and that nothing has ended is active
active_of_none : (log : List Entry) → IsEnding log → (d : ℕ) → IsWell (tree_of log) → ((tree_of log).doc d).been_active ≡ true → first_end log d ≡ None → is_active (tree_of log) d ≡ true
active_of_none log i d well been none =
    let t = tree_of log in
    let home = well.below d (well.shown d been) in
    let kept : is_discarded t (nav_of t d) ≡ false = i.discards (nav_of t d) home ∙ ap (λ (o : Option ℕ). is_some o) (none_right (own_end log d) (nav_end log (nav_of t d)) none) in
    active_if t d (i.shows d been kept ∙ ap (λ (o : Option ℕ). is_none o) (none_left (own_end log d) (nav_end log (nav_of t d)) none)) kept

-- and nothing has ended one that is active
own_none : (log : List Entry) → IsEnding log → (d : ℕ) → ((tree_of log).doc d).been_active ≡ true → is_active (tree_of log) d ≡ true → own_end log d ≡ None
own_none log i d been active = none_is (own_end log d) (sym (i.shows d been (active_kept (tree_of log) d active)) ∙ active_shown (tree_of log) d active)

none_of_active : (log : List Entry) → IsEnding log → (d : ℕ) → IsWell (tree_of log) → ((tree_of log).doc d).been_active ≡ true → is_active (tree_of log) d ≡ true → first_end log d ≡ None
none_of_active log i d well been active =
    let t = tree_of log in
    ap (λ (o : Option ℕ). sooner o (nav_end log (nav_of t d))) (own_none log i d been active)
    ∙ none_of (nav_end log (nav_of t d)) (sym (i.discards (nav_of t d) (well.below d (well.shown d been))) ∙ active_kept t d active)

-- ONE MORE ENTRY

module _ (e : Entry) (log : List Entry) (step : IsStep (tree_of log) (tree_of (e ∷ log)) e.what (length log)) where
  cut_grows : (n : ℕ) → Grows (length log) (first_cut log n) (first_cut (e ∷ log) n)
  cut_grows n = grows_or (length log) (first_cut log n) (cut_by (length log) n e.what) (cut_most log n) (cut_now (length log) n e.what)

  own_grows : (d : ℕ) → ((tree_of log).doc d).been_active ≡ true → Grows (length log) (own_end log d) (own_end (e ∷ log) d)
  own_grows d been = grows_or (length log) (own_end log d) (ended_by (tree_of log) (length log) d e.what) (own_most log d) (step.ends_now d been)

  nav_grows : (k n : ℕ) → n < k → n < (tree_of log).navs → Grows (length log) (nav_end log n) (nav_end (e ∷ log) n)
  nav_grows zero n below lt = absurd (omega arith)
  nav_grows (suc k) n below lt =
      subst (λ (o : Option ℕ). Grows (length log) o (nav_end (e ∷ log) n)) (sym (nav_step log n step.well lt))
      (subst (λ (o : Option ℕ). Grows (length log) (nav_end_by log n (embedder (tree_of log) n)) o)
      (sym (nav_step (e ∷ log) n step.grown (let more = step.navs in omega arith) ∙ ap (nav_end_by (e ∷ log) n) (step.embedder_stays n lt)))
      (by_embedder (embedder (tree_of log) n) refl (λ m small there. nav_grows k m small there)))
    where
      by_embedder : (o : Option ℕ) → embedder (tree_of log) n ≡ o → ((m : ℕ) → m < k → m < (tree_of log).navs → Grows (length log) (nav_end log m) (nav_end (e ∷ log) m))
          → Grows (length log) (nav_end_by log n o) (nav_end_by (e ∷ log) n o)
      by_embedder None is later =
          sooner_grows (length log) (sooner (first_cut log n) None) (sooner (first_cut (e ∷ log) n) None) None None
          (sooner_grows (length log) (first_cut log n) (first_cut (e ∷ log) n) None None (cut_grows n) tt) tt
      by_embedder (Some p) is later =
          let there = (step.well.up n p is).0 in
          let less : nav_of (tree_of log) p < n = (step.well.up n p is).1 in
          sooner_grows (length log) (sooner (first_cut log n) (own_end log p)) (sooner (first_cut (e ∷ log) n) (own_end (e ∷ log) p))
          (nav_end log (nav_of (tree_of log) p)) (nav_end (e ∷ log) (nav_of (tree_of (e ∷ log)) p))
          (sooner_grows (length log) (first_cut log n) (first_cut (e ∷ log) n) (own_end log p) (own_end (e ∷ log) p) (cut_grows n) (own_grows p (step.seated.embedders n p is)))
          (subst (λ (m : ℕ). Grows (length log) (nav_end log (nav_of (tree_of log) p)) (nav_end (e ∷ log) m)) (sym (step.stays p there))
          (later (nav_of (tree_of log) p) (omega arith) (step.well.below p there)))

module _ (e : Entry) (log : List Entry) (all : AreAdmitted log) (step : IsStep (tree_of log) (tree_of (e ∷ log)) e.what (length log)) (i : IsEnding log) where
  -- what embeds a navigable that is new, or that wasn't discarded
  live_embedder : (n p : ℕ) → n < (tree_of (e ∷ log)).navs → (n < (tree_of log).navs → is_discarded (tree_of log) n ≡ false) → embedder (tree_of (e ∷ log)) n ≡ Some p → IsLive (tree_of log) p
  live_embedder n p lt kept is = elim (cases_lt n (tree_of log).navs) as (λ _. IsLive (tree_of log) p) [
    | inl old ↦ live_above (tree_of log) step.well step.seated n p old (kept old) (sym (step.embedder_stays n old) ∙ is)
    | inr new ↦ let two = step.embeds n new lt p is in live_active (tree_of log) step.well step.seated p two.0 two.1
  ]

  -- it is shown on, or ends now
  shown_or_ends : (p : ℕ) → IsLive (tree_of log) p → not (is_shown (tree_of (e ∷ log)) p) ≡ is_some (own_end (e ∷ log) p)
  shown_or_ends p live =
      ap not (step.shown_on p live.been live.active) ∙ not_none (ended_by (tree_of log) (length log) p e.what)
      ∙ ap (λ (o : Option ℕ). is_some (option_or o (ended_by (tree_of log) (length log) p e.what))) (sym (own_none log i p live.been live.active))

  open_step : (k n : ℕ) → n < k → n < (tree_of (e ∷ log)).navs → (n < (tree_of log).navs → is_discarded (tree_of log) n ≡ false) → is_discarded (tree_of (e ∷ log)) n ≡ is_some (nav_end (e ∷ log) n)
  open_step zero n below lt kept = absurd (omega arith)
  open_step (suc k) n below lt kept =
      discarded_step (tree_of (e ∷ log)) n (ordered (tree_of (e ∷ log)) step.grown) lt
      ∙ by_embedder (embedder (tree_of (e ∷ log)) n) refl (λ m small there still. open_step k m small there still)
      ∙ sym (ap (λ (o : Option ℕ). is_some o) (nav_step (e ∷ log) n step.grown lt))
    where
      by_embedder : (o : Option ℕ) → embedder (tree_of (e ∷ log)) n ≡ o
          → ((m : ℕ) → m < k → m < (tree_of (e ∷ log)).navs → (m < (tree_of log).navs → is_discarded (tree_of log) m ≡ false) → is_discarded (tree_of (e ∷ log)) m ≡ is_some (nav_end (e ∷ log) m))
          → ((((tree_of (e ∷ log)).nav n).dropped || ((tree_of (e ∷ log)).nav n).gone || not (is_embedded (tree_of (e ∷ log)) o)) || gone_above (tree_of (e ∷ log)) o) ≡ is_some (nav_end_by (e ∷ log) n o)
      by_embedder None is later =
          three (((tree_of (e ∷ log)).nav n).dropped || ((tree_of (e ∷ log)).nav n).gone) false false (first_cut (e ∷ log) n) None None (cut_is (e ∷ log) n) refl refl
      by_embedder (Some p) is later =
          let live = live_embedder n p lt kept is in
          let home : nav_of (tree_of (e ∷ log)) p ≡ nav_of (tree_of log) p = step.stays p live.there in
          let up : nav_of (tree_of (e ∷ log)) p < n = (step.grown.up n p is).1 in
          three (((tree_of (e ∷ log)).nav n).dropped || ((tree_of (e ∷ log)).nav n).gone) (not (is_shown (tree_of (e ∷ log)) p)) (is_discarded (tree_of (e ∷ log)) (nav_of (tree_of (e ∷ log)) p))
          (first_cut (e ∷ log) n) (own_end (e ∷ log) p) (nav_end (e ∷ log) (nav_of (tree_of (e ∷ log)) p))
          (cut_is (e ∷ log) n) (shown_or_ends p live)
          (later (nav_of (tree_of (e ∷ log)) p) (omega arith) (omega arith) (λ there. ap (is_discarded (tree_of log)) home ∙ active_kept (tree_of log) p live.active))

  discards_next : (n : ℕ) → n < (tree_of (e ∷ log)).navs → is_discarded (tree_of (e ∷ log)) n ≡ is_some (nav_end (e ∷ log) n)
  discards_next n lt = elim (cases_lt n (tree_of log).navs) as (λ _. is_discarded (tree_of (e ∷ log)) n ≡ is_some (nav_end (e ∷ log) n)) [
    | inl old ↦ by_test old (is_discarded (tree_of log) n) refl
    | inr new ↦ open_step (suc n) n (omega arith) lt (λ old. absurd (omega arith))
  ]
    where
      by_test : n < (tree_of log).navs → (b : Bool) → is_discarded (tree_of log) n ≡ b → is_discarded (tree_of (e ∷ log)) n ≡ is_some (nav_end (e ∷ log) n)
      by_test old true is =
          step.discarded_on n old is
          ∙ sym (grows_some (length log) (nav_end log n) (nav_end (e ∷ log) n) (nav_grows e log step (suc n) n (omega arith) old) (sym (i.discards n old) ∙ is))
      by_test old false is = open_step (suc n) n (omega arith) lt (λ there. is)

  shows_next : (d : ℕ) → ((tree_of (e ∷ log)).doc d).been_active ≡ true → is_discarded (tree_of (e ∷ log)) (nav_of (tree_of (e ∷ log)) d) ≡ false → is_shown (tree_of (e ∷ log)) d ≡ is_none (own_end (e ∷ log) d)
  shows_next d been kept = by_been ((tree_of log).doc d).been_active refl
    where
      by_own : ((tree_of log).doc d).been_active ≡ true → is_discarded (tree_of log) (nav_of (tree_of log) d) ≡ false → (o : Option ℕ) → own_end log d ≡ o
          → is_shown (tree_of (e ∷ log)) d ≡ is_none (option_or o (ended_by (tree_of log) (length log) d e.what))
      by_own was open_home None is = step.shown_on d was (active_if (tree_of log) d (i.shows d was open_home ∙ ap (λ (o : Option ℕ). is_none o) is) open_home)
      by_own was open_home (Some a) is = step.replaced_on d was (i.shows d was open_home ∙ ap (λ (o : Option ℕ). is_none o) is)

      by_been : (b : Bool) → ((tree_of log).doc d).been_active ≡ b → is_shown (tree_of (e ∷ log)) d ≡ is_none (own_end (e ∷ log) d)
      by_been true was =
          let there = step.well.shown d was in
          let home = step.stays d there in
          by_own was (false_if (is_discarded (tree_of log) (nav_of (tree_of log) d))
          (λ out. not_true (is_discarded (tree_of (e ∷ log)) (nav_of (tree_of (e ∷ log)) d)) (ap (is_discarded (tree_of (e ∷ log))) home ∙ step.discarded_on (nav_of (tree_of log) d) (step.well.below d there) out) kept))
          (own_end log d) refl
      by_been false was = elim (step.arrives d was been).arrives as (λ _. is_shown (tree_of (e ∷ log)) d ≡ is_none (own_end (e ∷ log) d)) [
        | inl late ↦ absurd (not_true (is_discarded (tree_of (e ∷ log)) (nav_of (tree_of (e ∷ log)) d)) (step.discarded_on (nav_of (tree_of (e ∷ log)) d) late.home late.discarded) kept)
        | inr arrived ↦ arrived.shown ∙ sym (ap (λ (o : Option ℕ). is_none o) (ap (λ (o : Option ℕ). option_or o (ended_by (tree_of log) (length log) d e.what)) (i.fresh d was) ∙ arrived.own))
      ]

  uncut_next : (n : ℕ) → (tree_of (e ∷ log)).navs ≤ n → first_cut (e ∷ log) n ≡ None
  uncut_next n le =
      let older : (tree_of log).navs ≤ n = let more = step.navs in omega arith in
      ap (λ (o : Option ℕ). option_or o (cut_by (length log) n e.what)) (i.uncut n older) ∙ step.uncut n older

  unbeen : (d : ℕ) → ((tree_of (e ∷ log)).doc d).been_active ≡ false → ((tree_of log).doc d).been_active ≡ false
  unbeen d out = false_if ((tree_of log).doc d).been_active (λ was. not_true ((tree_of (e ∷ log)).doc d).been_active (step.been_on d was) out)

  fresh_next : (d : ℕ) → ((tree_of (e ∷ log)).doc d).been_active ≡ false → own_end (e ∷ log) d ≡ None
  fresh_next d out = ap (λ (o : Option ℕ). option_or o (ended_by (tree_of log) (length log) d e.what)) (i.fresh d (unbeen d out)) ∙ step.ends_none d out

  inactive_unbeen : (d : ℕ) → d < 2 ^ 32 → ((tree_of log).doc d).been_active ≡ false → is_active (tree_of log) d ≡ false
  inactive_unbeen d small out = elim (cases_lt d (tree_of log).docs) as (λ _. is_active (tree_of log) d ≡ false) [
    | inl there ↦ false_if (is_active (tree_of log) d) (λ active. not_true ((tree_of log).doc d).been_active (live_active (tree_of log) step.well step.seated d there active).been out)
    | inr beyond ↦ unmade_inactive log d all beyond small
  ]

  end_older : (d : ℕ) → is_active (tree_of log) d ≡ false → end_of (e ∷ log) d ≡ end_of log d
  unfolding end_of
  end_older d out = rw out refl

  end_now : (d : ℕ) → is_active (tree_of log) d ≡ true → end_of (e ∷ log) d ≡ length log
  unfolding end_of
  end_now d active = rw active refl

  unbeen_end : (d : ℕ) → d < 2 ^ 32 → ((tree_of log).doc d).been_active ≡ false → end_of (e ∷ log) d ≡ 0
  unbeen_end d small was = end_older d (inactive_unbeen d small was) ∙ i.never d small was

  -- nothing has ended what a new document stands in
  module _ (d : ℕ) (arrived : IsArrived (tree_of log) (tree_of (e ∷ log)) e.what (length log) d) where
    no_cut : (n : ℕ) → (n < (tree_of log).navs → is_discarded (tree_of log) n ≡ false) → first_cut log n ≡ None
    no_cut n kept = elim (cases_lt n (tree_of log).navs) as (λ _. first_cut log n ≡ None) [
      | inl old ↦ none_of (first_cut log n) (sym (cut_is log n) ∙ (or_false (((tree_of log).nav n).dropped || ((tree_of log).nav n).gone) (not (is_embedded (tree_of log) (embedder (tree_of log) n)))
          (or_false (is_cut (tree_of log) n) (gone_above (tree_of log) (embedder (tree_of log) n)) (sym (discarded_step (tree_of log) n (ordered (tree_of log) step.well) old) ∙ kept old)).0).0)
      | inr new ↦ i.uncut n new
    ]

    no_cut_now : (n : ℕ) → (n < (tree_of log).navs → is_discarded (tree_of log) n ≡ false) → first_cut (e ∷ log) n ≡ None
    no_cut_now n kept = ap (λ (o : Option ℕ). option_or o (cut_by (length log) n e.what)) (no_cut n kept) ∙ arrived.cuts n

    quiet : (k n : ℕ) → n < k → n ≤ nav_of (tree_of (e ∷ log)) d → n < (tree_of (e ∷ log)).navs → (n < (tree_of log).navs → is_discarded (tree_of log) n ≡ false) → nav_end (e ∷ log) n ≡ None
    quiet zero n below le lt kept = absurd (omega arith)
    quiet (suc k) n below le lt kept = nav_step (e ∷ log) n step.grown lt ∙ by_embedder (embedder (tree_of (e ∷ log)) n) refl (λ m small low there still. quiet k m small low there still)
      where
        by_embedder : (o : Option ℕ) → embedder (tree_of (e ∷ log)) n ≡ o
            → ((m : ℕ) → m < k → m ≤ nav_of (tree_of (e ∷ log)) d → m < (tree_of (e ∷ log)).navs → (m < (tree_of log).navs → is_discarded (tree_of log) m ≡ false) → nav_end (e ∷ log) m ≡ None)
            → nav_end_by (e ∷ log) n o ≡ None
        by_embedder None is later = ap (λ (o : Option ℕ). sooner (sooner o None) None) (no_cut_now n kept)
        by_embedder (Some p) is later =
            let live = live_embedder n p lt kept is in
            let home : nav_of (tree_of (e ∷ log)) p ≡ nav_of (tree_of log) p = step.stays p live.there in
            let up : nav_of (tree_of (e ∷ log)) p < n = (step.grown.up n p is).1 in
            let own : own_end (e ∷ log) p ≡ None =
            ap (λ (o : Option ℕ). option_or o (ended_by (tree_of log) (length log) p e.what)) (own_none log i p live.been live.active) ∙ arrived.ends p live.been (omega arith) in
            ap (λ (o : Option ℕ). sooner (sooner o (own_end (e ∷ log) p)) (nav_end (e ∷ log) (nav_of (tree_of (e ∷ log)) p))) (no_cut_now n kept)
            ∙ ap (λ (o : Option ℕ). sooner (sooner None o) (nav_end (e ∷ log) (nav_of (tree_of (e ∷ log)) p))) own
            ∙ later (nav_of (tree_of (e ∷ log)) p) (omega arith) (omega arith) (omega arith) (λ there. ap (is_discarded (tree_of log)) home ∙ active_kept (tree_of log) p live.active)

    arrived_none : ((tree_of log).doc d).been_active ≡ false → first_end (e ∷ log) d ≡ None
    arrived_none was =
        ap (λ (o : Option ℕ). sooner o (nav_end (e ∷ log) (nav_of (tree_of (e ∷ log)) d))) (ap (λ (o : Option ℕ). option_or o (ended_by (tree_of log) (length log) d e.what)) (i.fresh d was) ∙ arrived.own)
        ∙ quiet (suc (nav_of (tree_of (e ∷ log)) d)) (nav_of (tree_of (e ∷ log)) d) (omega arith) (omega arith) arrived.below arrived.open_home

  -- nothing is sooner than the beginning
  late_zero : (d : ℕ) → IsLate (tree_of log) (tree_of (e ∷ log)) e.what (length log) d → ((tree_of log).doc d).been_active ≡ false → first_end (e ∷ log) d ≡ Some 0
  late_zero d late was =
      ap (λ (o : Option ℕ). sooner o (nav_end (e ∷ log) (nav_of (tree_of (e ∷ log)) d))) (ap (λ (o : Option ℕ). option_or o (ended_by (tree_of log) (length log) d e.what)) (i.fresh d was) ∙ late.own)
      ∙ sooner_zero (nav_end (e ∷ log) (nav_of (tree_of (e ∷ log)) d))

  first_grows : (d : ℕ) → ((tree_of log).doc d).been_active ≡ true → Grows (length log) (first_end log d) (first_end (e ∷ log) d)
  first_grows d was =
      let there = step.well.shown d was in
      let n = nav_of (tree_of log) d in
      subst (λ (m : ℕ). Grows (length log) (first_end log d) (sooner (own_end (e ∷ log) d) (nav_end (e ∷ log) m))) (sym (step.stays d there))
      (sooner_grows (length log) (own_end log d) (own_end (e ∷ log) d) (nav_end log n) (nav_end (e ∷ log) n) (own_grows e log step d was) (nav_grows e log step (suc n) n (omega arith) (step.well.below d there)))

  some_same : (a p : ℕ) (o : Option ℕ) → o ≡ Some a → o ≡ Some p → a ≡ p
  some_same a p o h k = let one : Some a ≡ Some p = sym h ∙ k in cc

  ends_next : (d p : ℕ) → ((tree_of (e ∷ log)).doc d).been_active ≡ true → first_end (e ∷ log) d ≡ Some p → end_of (e ∷ log) d ≡ p
  ends_next d p been is = by_been ((tree_of log).doc d).been_active refl
    where
      by_first : ((tree_of log).doc d).been_active ≡ true → is_active (tree_of log) d ≡ false → (o : Option ℕ) → first_end log d ≡ o → Grows (length log) o (first_end (e ∷ log) d) → end_of (e ∷ log) d ≡ p
      by_first was out None none g = absurd (not_true (is_active (tree_of log) d) (active_of_none log i d step.well was none) out)
      by_first was out (Some q) some g = end_older d out ∙ i.ends d q was some ∙ some_same q p (first_end (e ∷ log) d) (grown_some (length log) q (first_end (e ∷ log) d) g) is

      by_active : ((tree_of log).doc d).been_active ≡ true → (b : Bool) → is_active (tree_of log) d ≡ b → end_of (e ∷ log) d ≡ p
      by_active was true active =
          end_now d active
          ∙ sym (grown_none (length log) p (first_end (e ∷ log) d) (subst (λ (o : Option ℕ). Grows (length log) o (first_end (e ∷ log) d)) (none_of_active log i d step.well was active) (first_grows d was)) is)
      by_active was false out = by_first was out (first_end log d) refl (first_grows d was)

      by_been : (b : Bool) → ((tree_of log).doc d).been_active ≡ b → end_of (e ∷ log) d ≡ p
      by_been true was = by_active was (is_active (tree_of log) d) refl
      by_been false was =
          let new = step.arrives d was been in
          unbeen_end d new.small was ∙ elim new.arrives as (λ _. 0 ≡ p) [
            | inl late ↦ some_same 0 p (first_end (e ∷ log) d) (late_zero d late was) is
            | inr arrived ↦ absurd (let no : None ≡ Some p = sym (arrived_none d arrived was) ∙ is in cc)
          ]

  ending_next : IsEnding (e ∷ log)
  ending_next = record {
    discards = discards_next;
    shows = shows_next;
    uncut = uncut_next;
    fresh = fresh_next;
    never = λ d small out. unbeen_end d small (unbeen d out);
    ends = ends_next;
  }

-- THE WHOLE

ending_start : IsEnding []
unfolding tree_of end_of
ending_start = record {
  discards = λ n lt. absurd (omega arith);
  shows = λ d been kept. absurd (false≢true been);
  uncut = λ n le. refl;
  fresh = λ d out. refl;
  never = λ d small out. refl;
  ends = λ d p been is. absurd (false≢true been);
}

pub ending_of : (log : List Entry) → AreAdmitted log → IsEnding log
ending_of [] all = ending_start
ending_of (e ∷ older) all = ending_next e older all.1 (step_of e older all) (ending_of older all.1)

-- of a document that was active and isn't any more, the definition's place is the first at which it ended
pub ended_at : (log : List Entry) (d : ℕ) → AreAdmitted log → IsWell (tree_of log) → ((tree_of log).doc d).been_active ≡ true → is_active (tree_of log) d ≡ false → unwrap_or (first_end log d) 0 ≡ end_of log d
ended_at log d all well been out = by_first (first_end log d) refl
  where
    by_first : (o : Option ℕ) → first_end log d ≡ o → unwrap_or o 0 ≡ end_of log d
    by_first None none = absurd (not_true (is_active (tree_of log) d) (active_of_none log (ending_of log all) d well been none) out)
    by_first (Some p) some = sym ((ending_of log all).ends d p been some)
