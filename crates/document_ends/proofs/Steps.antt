-- What one more entry does to the tree.
use Rattle.std.proofs.Common.{◌≡◌, ℕ, ◌+◌, ◌<◌, ◌≤◌, ◌^◌, List, [], ◌∷◌, length, Option, Some, None, Bool, true, false, refl, sym, ap, subst, ◌∙◌, arith, inl, inr, eq-eqb, ne_eqb}
use Rattle.std.specs.Prelude.{◌⊎◌, ◌==◌, ◌||◌, nat_lt, not, is_none, unwrap_or, if◌then◌else◌}
use Rattle.std.proofs.lemmas.Bool.{false≢true, eqb-true, eqb-false}
use Rattle.std.proofs.lemmas.Bool.Decides.{eqb_tells}
use Rattle.tree_log.specs.declared.entry.Entry.{Entry}
use Rattle.tree_log.specs.declared.entry.Load.{Load}
use Rattle.tree_log.specs.declared.entry.What.{What}
use Rattle.tree_log.specs.declared.entry.What.TheVariants.{Open, Frame, Drop, Gone, Begin, Commit}
use Rattle.tree_log.specs.Facts.{at, Making, making, activates, shows, loads_of, navs_after, docs_after}
use Rattle.tree_log.specs.Tree.{Tree, tree_of, tree_after, tree_of_step, embedder, nav_of, is_shown, is_discarded, is_active}
use Rattle.tree_log.specs.Admits.{admits, admits_what, is_next, is_next_load, has, AreAdmitted}
use Rattle.tree_log.proofs.Admitted.{both, lt_of, what_admitted, navs_at_step}
use Rattle.agent_laws.specs.Wellness.{IsWell}
use Rattle.agent_laws.proofs.Logs.Entries.{entry, next_number, at_self, open_next, frame_next, commit_there}
use Rattle.agent_laws.proofs.Logs.Older.{made_stays, at_other}
use Rattle.agent_laws.proofs.Logs.Discarded.{IsSeated, been_later, shown_active, seated_of, active_after, replaced_later, discarded_later}
use Rattle.agent_laws.proofs.Groups.Well.{as_top, as_frame, nav_stays, more_navs, admitted_well}
use Rattle.document_ends.specs.Ended.{cut_by, ended_by}
use Rattle.document_ends.proofs.Places.{IsNow, AtMost, at_apart, at_now, at_most}

-- TESTS

pub not_true : (b : Bool) → b ≡ true → b ≡ false → ⊥
not_true b h k = false≢true (sym k ∙ h)

pub false_if : (b : Bool) → (b ≡ true → ⊥) → b ≡ false
false_if true h = absurd (h refl)
false_if false h = refl

pub or_false : (a b : Bool) → (a || b) ≡ false → (a ≡ false) × (b ≡ false)
or_false true b h = absurd cc
or_false false b h = (refl, h)

pub or_first : (a b : Bool) → (a || b) ≡ true → b ≡ false → a ≡ true
or_first true b h k = refl
or_first false b h k = absurd (not_true b h k)

pub not_of : (b : Bool) → not b ≡ true → b ≡ false
not_of true h = absurd cc
not_of false h = refl

-- WHAT AN ENTRY ENDS

-- a document that had been active isn't the one that a commit shows
fresh_commit : (t : Tree) (by actor : Option ℕ) (nav doc begin : ℕ) → admits_what t by actor (Commit nav doc begin) ≡ true → (d : ℕ) → (t.doc d).been_active ≡ true → doc ≡ d → ⊥
fresh_commit t by actor nav doc begin h d been same =
    let never : (t.doc doc).been_active ≡ false = not_of (t.doc doc).been_active (both _ (not (t.doc doc).been_active) h).1 in
    not_true (t.doc d).been_active been (ap (λ (x : ℕ). (t.doc x).been_active) (sym same) ∙ never)

pub cut_now : (l n : ℕ) (w : What) → IsNow l (cut_by l n w)
cut_now l n (Drop nav) = at_now n nav l
cut_now l n (Gone nav) = at_now n nav l
cut_now l n w = tt

-- an entry ends a document that had been active at its own place
ended_now : (t : Tree) (by actor : Option ℕ) (w : What) → admits_what t by actor w ≡ true → (l d : ℕ) → (t.doc d).been_active ≡ true → IsNow l (ended_by t l d w)
ended_now t by actor (Commit nav doc begin) h l d been = by_test (is_discarded t nav)
  where
    by_test : (b : Bool) → IsNow l (if b then at d doc 0 else at d (t.nav nav).active l)
    by_test true = subst (IsNow l) (sym (at_apart d doc 0 (fresh_commit t by actor nav doc begin h d been))) tt
    by_test false = at_now d (t.nav nav).active l
ended_now t by actor w h l d been = tt

pub ended_most : (t : Tree) (w : What) (l d : ℕ) → AtMost l (ended_by t l d w)
ended_most t (Commit nav doc begin) l d = by_test (is_discarded t nav)
  where
    by_test : (b : Bool) → AtMost l (if b then at d doc 0 else at d (t.nav nav).active l)
    by_test true = at_most d doc 0 l (omega arith)
    by_test false = at_most d (t.nav nav).active l l (omega arith)
ended_most t w l d = tt

-- an entry doesn't end what isn't active by it
unended : (t : Tree) (by actor : Option ℕ) (w : What) → admits_what t by actor w ≡ true → IsSeated t → (l d : ℕ) → (shows d w || (t.doc d).been_active) ≡ false → ended_by t l d w ≡ None
unended t by actor (Commit nav doc begin) h seated l d out = by_test (is_discarded t nav)
  where
    by_test : (b : Bool) → (if b then at d doc 0 else at d (t.nav nav).active l) ≡ None
    by_test true = at_apart d doc 0 (eqb-false doc d (or_false (doc == d) (t.doc d).been_active out).0)
    by_test false = at_apart d (t.nav nav).active l
        (λ same. not_true (t.doc d).been_active (subst (λ (x : ℕ). (t.doc x).been_active ≡ true) same (seated.actives nav (commit_there t by actor nav doc begin h).0)) (or_false (doc == d) (t.doc d).been_active out).1)
unended t by actor w h seated l d out = refl

-- and cuts no navigable that isn't there
uncut : (t : Tree) (by actor : Option ℕ) (w : What) → admits_what t by actor w ≡ true → (l n : ℕ) → t.navs ≤ n → cut_by l n w ≡ None
uncut t by actor (Drop nav) h l n le = let lt : nav < t.navs = lt_of nav t.navs (both _ (has t.navs nav) h).1 in at_apart n nav l (λ same. absurd (omega arith))
uncut t by actor (Gone nav) h l n le = let lt : nav < t.navs = lt_of nav t.navs (both _ (has t.navs nav) h).1 in at_apart n nav l (λ same. absurd (omega arith))
uncut t by actor w h l n le = refl

-- what was active is shown on, or ends at the place of the entry
shown_now : (t : Tree) (by actor : Option ℕ) (w : What) → admits t (entry by actor w) ≡ true → IsWell t → (l p : ℕ) → p < t.docs → (t.doc p).been_active ≡ true → is_discarded t (nav_of t p) ≡ false → (t.nav (nav_of t p)).active ≡ p
    → (unwrap_or (activates (nav_of t p) w) (t.nav (nav_of t p)).active == p) ≡ is_none (ended_by t l p w)
shown_now t by actor (Open nav doc group home origin name opener flags navigator load) h well l p there been kept shown =
    let next = open_next t by actor nav doc group home origin name opener flags navigator load (what_admitted t (entry by actor (Open nav doc group home origin name opener flags navigator load)) h) in
    let is : nav ≡ t.navs = next.new_nav in
    let below : nav_of t p < t.navs = well.below p there in
    ap (λ (o : Option ℕ). unwrap_or o (t.nav (nav_of t p)).active == p) (at_other {A = ℕ} (nav_of t p) nav doc (omega arith)) ∙ eq-eqb _ _ shown
shown_now t by actor (Frame nav doc home origin name flags load) h well l p there been kept shown =
    let next = frame_next t by actor nav doc home origin name flags load (what_admitted t (entry by actor (Frame nav doc home origin name flags load)) h) in
    let is : nav ≡ t.navs = next.new_nav in
    let below : nav_of t p < t.navs = well.below p there in
    ap (λ (o : Option ℕ). unwrap_or o (t.nav (nav_of t p)).active == p) (at_other {A = ℕ} (nav_of t p) nav doc (omega arith)) ∙ eq-eqb _ _ shown
shown_now t by actor (Commit nav doc begin) h well l p there been kept shown =
    let what = what_admitted t (entry by actor (Commit nav doc begin)) h in
    let other = fresh_commit t by actor nav doc begin what p been in
    let placed = well.placed nav (commit_there t by actor nav doc begin what).0 in
    elim (eqb_tells nav (nav_of t p)) as (λ _. (unwrap_or (at (nav_of t p) nav doc) (t.nav (nav_of t p)).active == p) ≡ is_none (if is_discarded t nav then at p doc 0 else at p (t.nav nav).active l)) [
      | inl same ↦
          let replaced : (t.nav nav).active ≡ p = ap (λ (n : ℕ). (t.nav n).active) same.1 ∙ shown in
          rw (same.0, ap (is_discarded t) same.1 ∙ kept, eq-eqb (t.nav nav).active p replaced) (ne_eqb doc p other)
      | inr apart ↦
          rw (apart.0, eq-eqb (t.nav (nav_of t p)).active p shown)
          (sym (ap (λ (o : Option ℕ). is_none o) (by_test other (λ same. apart.1 (sym placed ∙ ap (nav_of t) same)) (is_discarded t nav))))
    ]
  where
    by_test : (doc ≡ p → ⊥) → ((t.nav nav).active ≡ p → ⊥) → (b : Bool) → (if b then at p doc 0 else at p (t.nav nav).active l) ≡ None
    by_test other elsewhere true = at_apart p doc 0 other
    by_test other elsewhere false = at_apart p (t.nav nav).active l elsewhere
shown_now t by actor w h well l p there been kept shown = eq-eqb _ _ shown

-- A NEW ACTIVE DOCUMENT

-- it is committed in a navigable that was discarded
pub record IsLate (t s : Tree) (w : What) (l d : ℕ) : Type 0 where
  pub own : ended_by t l d w ≡ Some 0
  pub home : nav_of s d < t.navs
  pub discarded : is_discarded t (nav_of s d) ≡ true

-- or it is shown in one that isn't, and the entry ends nothing above it
pub record IsArrived (t s : Tree) (w : What) (l d : ℕ) : Type 0 where
  pub own : ended_by t l d w ≡ None
  pub shown : is_shown s d ≡ true
  pub below : nav_of s d < s.navs
  pub open_home : nav_of s d < t.navs → is_discarded t (nav_of s d) ≡ false
  pub cuts : (n : ℕ) → cut_by l n w ≡ None
  pub ends : (p : ℕ) → (t.doc p).been_active ≡ true → nav_of t p < nav_of s d → ended_by t l p w ≡ None

pub record IsNew (t s : Tree) (w : What) (l d : ℕ) : Type 0 where
  pub small : d < 2 ^ 32
  pub arrives : IsLate t s w l d ⊎ IsArrived t s w l d

-- a document that an entry shows in a navigable stands there
module _ (t : Tree) (e : Entry) (well : IsWell (tree_after t e)) (nav doc d : ℕ) (below : nav < (tree_after t e).navs) (active : ((tree_after t e).nav nav).active ≡ doc) (same : doc ≡ d) where
  home_is : nav_of (tree_after t e) d ≡ nav
  home_is = ap (nav_of (tree_after t e)) (sym (active ∙ same)) ∙ well.placed nav below

  shown_there : is_shown (tree_after t e) d ≡ true
  shown_there = eq-eqb ((tree_after t e).nav (nav_of (tree_after t e) d)).active d (ap (λ (n : ℕ). ((tree_after t e).nav n).active) home_is ∙ active ∙ same)

  -- in a navigable that the entry makes
  arrives_new : (l : ℕ) → nav ≡ t.navs → ended_by t l d e.what ≡ None → ((n : ℕ) → cut_by l n e.what ≡ None) → ((p : ℕ) → ended_by t l p e.what ≡ None) → IsArrived t (tree_after t e) e.what l d
  arrives_new l new own cuts ends = record {
    own = own;
    shown = shown_there;
    below = subst (λ (n : ℕ). n < (tree_after t e).navs) (sym home_is) below;
    open_home = λ lt. let at_nav : nav_of (tree_after t e) d ≡ nav = home_is in absurd (omega arith);
    cuts = cuts;
    ends = λ p been lt. ends p;
  }

next_small : (count number : ℕ) → is_next count number ≡ true → number < 2 ^ 32
next_small count number h = let lt : number < 4294967295 = lt_of number 4294967295 (both (number == count) (nat_lt number 4294967295) h).1 in omega arith

new_by : (t : Tree) (by actor : Option ℕ) (w : What) → admits t (entry by actor w) ≡ true → IsWell t → IsSeated t → IsWell (tree_after t (entry by actor w)) → t.docs ≤ 2 ^ 32 → (l d : ℕ) → shows d w ≡ true → (t.doc d).been_active ≡ false
    → IsNew t (tree_after t (entry by actor w)) w l d
new_by t by actor (Open nav doc group home origin name opener flags navigator load) h well seated grown few l d shows_it never =
    let w = Open nav doc group home origin name opener flags navigator load in
    let e = entry by actor w in
    let what = what_admitted t e h in
    let next = open_next t by actor nav doc group home origin name opener flags navigator load what in
    let five = both _ _ (both _ _ (both _ _ (both _ (is_next_load (t.docs + 1) load) what).0).0).0 in
    let small = next_small t.docs doc (both _ (is_next t.docs doc) five.0).1 in
    let same = eqb-true doc d shows_it in
    let is : nav ≡ t.navs = next.new_nav in
    record {
      small = subst (λ (x : ℕ). x < 2 ^ 32) same small;
      arrives = inr (arrives_new t e grown nav doc d (let more : (tree_after t e).navs ≡ t.navs + 1 = navs_at_step t e in omega arith) (active_after t e nav ∙ at_self nav doc (t.nav nav).active) same l next.new_nav refl (λ n. refl) (λ p. refl));
    }
new_by t by actor (Frame nav doc home origin name flags load) h well seated grown few l d shows_it never =
    let w = Frame nav doc home origin name flags load in
    let e = entry by actor w in
    let what = what_admitted t e h in
    let next = frame_next t by actor nav doc home origin name flags load what in
    let small = next_small t.docs doc (both _ (is_next t.docs doc) (both _ (is_next_load (t.docs + 1) load) what).0).1 in
    let same = eqb-true doc d shows_it in
    let is : nav ≡ t.navs = next.new_nav in
    record {
      small = subst (λ (x : ℕ). x < 2 ^ 32) same small;
      arrives = inr (arrives_new t e grown nav doc d (let more : (tree_after t e).navs ≡ t.navs + 1 = navs_at_step t e in omega arith) (active_after t e nav ∙ at_self nav doc (t.nav nav).active) same l next.new_nav refl (λ n. refl) (λ p. refl));
    }
new_by t by actor (Commit nav doc begin) h well seated grown few l d shows_it never =
    let w = Commit nav doc begin in
    let e = entry by actor w in
    let what = what_admitted t e h in
    let there = commit_there t by actor nav doc begin what in
    let nav_there : nav < t.navs = there.0 in
    let doc_there : doc < t.docs = there.1 in
    let same : doc ≡ d = eqb-true doc d shows_it in
    let shown : ((tree_after t e).nav nav).active ≡ doc = active_after t e nav ∙ at_self nav doc (t.nav nav).active in
    let below : nav < (tree_after t e).navs = omega (arith, more_navs t e) in
    let home : nav_of (tree_after t e) d ≡ nav = home_is t e grown nav doc d below shown same in
    record { small = omega arith; arrives = by_test e below shown same home there.0 (is_discarded t nav) refl }
  where
    by_test : (e : Entry) → nav < (tree_after t e).navs → ((tree_after t e).nav nav).active ≡ doc → doc ≡ d → nav_of (tree_after t e) d ≡ nav → nav < t.navs → (b : Bool) → is_discarded t nav ≡ b
        → IsLate t (tree_after t e) (Commit nav doc begin) l d ⊎ IsArrived t (tree_after t e) (Commit nav doc begin) l d
    by_test e below shown same home there true out = inl (record {
      own = rw (out, eq-eqb doc d same) refl;
      home = subst (λ (n : ℕ). n < t.navs) (sym home) there;
      discarded = ap (is_discarded t) home ∙ out;
    })
    by_test e below shown same home there false open_there = inr (record {
      own = rw open_there (at_apart d (t.nav nav).active l (λ is. not_true (t.doc d).been_active (subst (λ (x : ℕ). (t.doc x).been_active ≡ true) is (seated.actives nav there)) never));
      shown = eq-eqb ((tree_after t e).nav (nav_of (tree_after t e) d)).active d (ap (λ (n : ℕ). ((tree_after t e).nav n).active) home ∙ shown ∙ same);
      below = subst (λ (n : ℕ). n < (tree_after t e).navs) (sym home) below;
      open_home = λ lt. ap (is_discarded t) home ∙ open_there;
      cuts = λ n. refl;
      ends = λ p been lt. rw open_there (at_apart p (t.nav nav).active l (λ is. let placed : nav_of t (t.nav nav).active ≡ nav = well.placed nav there in let at_p : nav_of t (t.nav nav).active ≡ nav_of t p = ap (nav_of t) is in absurd (omega arith)));
    })
new_by t by actor w h well seated grown few l d shows_it never = absurd (false≢true shows_it)

-- what embeds a navigable that an entry makes
embeds_new : (t : Tree) (by actor : Option ℕ) (w : What) → admits t (entry by actor w) ≡ true → (n : ℕ) → t.navs ≤ n → n < navs_after w t.navs → (p : ℕ) → (unwrap_or (making n actor w) (t.nav n).made).embedder ≡ Some p → (p < t.docs) × (is_active t p ≡ true)
embeds_new t by actor (Open nav doc group home origin name opener flags navigator load) h n le lt p is =
    let next = open_next t by actor nav doc group home origin name opener flags navigator load (what_admitted t (entry by actor (Open nav doc group home origin name opener flags navigator load)) h) in
    let new : nav ≡ n = let here : nav ≡ t.navs = next.new_nav in omega arith in
    let none : (unwrap_or (at n nav (as_top actor group flags navigator)) (t.nav n).made).embedder ≡ None = rw (eq-eqb nav n new) refl in
    absurd (let no : None ≡ Some p = sym none ∙ is in cc)
embeds_new t by actor (Frame nav doc home origin name flags load) h n le lt p is =
    let next = frame_next t by actor nav doc home origin name flags load (what_admitted t (entry by actor (Frame nav doc home origin name flags load)) h) in
    let new : nav ≡ n = let here : nav ≡ t.navs = next.new_nav in omega arith in
    let some : (unwrap_or (at n nav (as_frame actor flags)) (t.nav n).made).embedder ≡ actor = rw (eq-eqb nav n new) refl in
    let one : Some next.who.document ≡ Some p = sym next.who.acts ∙ sym some ∙ is in
    let it : next.who.document ≡ p = cc in
    subst (λ (x : ℕ). (x < t.docs) × (is_active t x ≡ true)) it (next.who.there, next.who.is_there)
embeds_new t by actor w h n le lt p is = absurd (omega arith)

-- the numbers of documents are small
load_small : (count : ℕ) (load : Option Load) → is_next_load (count + 1) load ≡ true → count < 2 ^ 32 → count + (1 + loads_of load) ≤ 2 ^ 32
load_small count None h lt = omega arith
load_small count (Some load) h lt =
    let small : load.doc < 2 ^ 32 = next_small (count + 1) load.doc h in
    let same : load.doc ≡ count + 1 = next_number (count + 1) load.doc h in
    omega arith

few_after : (t : Tree) (by actor : Option ℕ) (w : What) → admits_what t by actor w ≡ true → t.docs ≤ 2 ^ 32 → docs_after w t.docs ≤ 2 ^ 32
few_after t by actor (Open nav doc group home origin name opener flags navigator load) h few =
    let last = both _ (is_next_load (t.docs + 1) load) h in
    let three = (both _ (is_next t.docs doc) (both _ _ (both _ _ (both _ _ last.0).0).0).0).1 in
    load_small t.docs load last.1 (subst (λ (n : ℕ). n < 2 ^ 32) (next_number t.docs doc three) (next_small t.docs doc three))
few_after t by actor (Frame nav doc home origin name flags load) h few =
    let last = both _ (is_next_load (t.docs + 1) load) h in
    let three = (both _ (is_next t.docs doc) last.0).1 in
    load_small t.docs load last.1 (subst (λ (n : ℕ). n < 2 ^ 32) (next_number t.docs doc three) (next_small t.docs doc three))
few_after t by actor (Begin nav load) h few =
    let three = (both _ (is_next t.docs load.doc) h).1 in
    let small : load.doc < 2 ^ 32 = next_small t.docs load.doc three in
    let same : load.doc ≡ t.docs = next_number t.docs load.doc three in
    omega arith
few_after t by actor w h few = few

few_docs : (log : List Entry) → AreAdmitted log → (tree_of log).docs ≤ 2 ^ 32
unfolding tree_of
few_docs [] all = omega arith
few_docs (e ∷ older) all = few_after (tree_of older) e.by e.actor e.what (what_admitted (tree_of older) e all.0) (few_docs older all.1)

-- THE WHOLE

-- what the entry w at place l makes of the tree t
pub record IsStep (t s : Tree) (w : What) (l : ℕ) : Type 0 where
  pub well : IsWell t
  pub grown : IsWell s
  pub seated : IsSeated t
  pub reseated : IsSeated s
  pub navs : t.navs ≤ s.navs
  pub stays : (d : ℕ) → d < t.docs → nav_of s d ≡ nav_of t d
  pub embedder_stays : (n : ℕ) → n < t.navs → embedder s n ≡ embedder t n
  pub discarded_on : (n : ℕ) → n < t.navs → is_discarded t n ≡ true → is_discarded s n ≡ true
  pub been_on : (d : ℕ) → (t.doc d).been_active ≡ true → (s.doc d).been_active ≡ true
  pub replaced_on : (d : ℕ) → (t.doc d).been_active ≡ true → is_shown t d ≡ false → is_shown s d ≡ false
  pub shown_on : (p : ℕ) → (t.doc p).been_active ≡ true → is_active t p ≡ true → is_shown s p ≡ is_none (ended_by t l p w)
  pub ends_now : (p : ℕ) → (t.doc p).been_active ≡ true → IsNow l (ended_by t l p w)
  pub ends_none : (d : ℕ) → (s.doc d).been_active ≡ false → ended_by t l d w ≡ None
  pub uncut : (n : ℕ) → t.navs ≤ n → cut_by l n w ≡ None
  pub embeds : (n : ℕ) → t.navs ≤ n → n < s.navs → (p : ℕ) → embedder s n ≡ Some p → (p < t.docs) × (is_active t p ≡ true)
  pub arrives : (d : ℕ) → (t.doc d).been_active ≡ false → (s.doc d).been_active ≡ true → IsNew t s w l d

pub active_kept : (t : Tree) (d : ℕ) → is_active t d ≡ true → is_discarded t (nav_of t d) ≡ false
unfolding is_active
active_kept t d h = not_of (is_discarded t (nav_of t d)) (both (is_shown t d) (not (is_discarded t (nav_of t d))) h).1

been_after : (t : Tree) (e : Entry) (d : ℕ) → ((tree_after t e).doc d).been_active ≡ (shows d e.what || (t.doc d).been_active)
unfolding tree_after
been_after t e d = refl

embedder_after : (t : Tree) (e : Entry) (n : ℕ) → embedder (tree_after t e) n ≡ (unwrap_or (making n e.actor e.what) (t.nav n).made).embedder
unfolding tree_after
embedder_after t e n = refl

step_after : (t : Tree) (e : Entry) (l : ℕ) → admits t e ≡ true → IsWell t → IsSeated t → IsWell (tree_after t e) → IsSeated (tree_after t e) → t.docs ≤ 2 ^ 32 → IsStep t (tree_after t e) e.what l
step_after t e l h well seated grown reseated few = record {
  well = well;
  grown = grown;
  seated = seated;
  reseated = reseated;
  navs = more_navs t e;
  stays = λ d there. nav_stays t e d h there;
  embedder_stays = λ n lt. ap (λ (m : Making). m.embedder) (made_stays t e h n lt);
  discarded_on = λ n lt out. discarded_later t e h well seated n lt out;
  been_on = λ d been. been_later t e d been;
  replaced_on = λ d been out. (replaced_later t e h well d (record { been = been; not_shown = out })).not_shown;
  shown_on = λ p been active.
      let there = well.shown p been in
      ap (λ (n : ℕ). ((tree_after t e).nav n).active == p) (nav_stays t e p h there)
      ∙ ap (λ (a : ℕ). a == p) (active_after t e (nav_of t p))
      ∙ shown_now t e.by e.actor e.what h well l p there been (active_kept t p active) (shown_active t p active);
  ends_now = λ p been. ended_now t e.by e.actor e.what (what_admitted t e h) l p been;
  ends_none = λ d out. unended t e.by e.actor e.what (what_admitted t e h) seated l d (sym (been_after t e d) ∙ out);
  uncut = λ n le. uncut t e.by e.actor e.what (what_admitted t e h) l n le;
  embeds = λ n le lt p is. embeds_new t e.by e.actor e.what h n le (subst (λ (m : ℕ). n < m) (navs_at_step t e) lt) p (sym (embedder_after t e n) ∙ is);
  arrives = λ d never been. new_by t e.by e.actor e.what h well seated grown few l d (or_first (shows d e.what) (t.doc d).been_active (sym (been_after t e d) ∙ been) never) never;
}

pub step_of : (e : Entry) (log : List Entry) → AreAdmitted (e ∷ log) → IsStep (tree_of log) (tree_of (e ∷ log)) e.what (length log)
step_of e log all =
    let is = tree_of_step e log in
    subst (λ (s : Tree). IsStep (tree_of log) s e.what (length log)) (sym is)
    (step_after (tree_of log) e (length log) all.0 (admitted_well log all.1) (seated_of log all.1)
    (subst IsWell is (admitted_well (e ∷ log) all)) (subst IsSeated is (seated_of (e ∷ log) all)) (few_docs log all.1))
