-- What was discarded stays so, and a document that is shown no more never is again.
use Rattle.std.proofs.Common.{◌≡◌, ℕ, zero, suc, ◌+◌, ◌<◌, List, [], ◌∷◌, Option, Some, None, Bool, true, false, refl, ap, sym, subst, ◌∙◌, arith}
use Rattle.std.specs.Prelude.{◌==◌, ◌||◌, not, unwrap_or}
use Rattle.std.specs.List.{list_any}
use Rattle.std.proofs.lemmas.Bool.{false≢true, eqb-true, eqb-false, eq-eqb, ne_eqb}
use Rattle.tree_log.specs.declared.entry.Entry.{Entry}
use Rattle.tree_log.specs.declared.entry.What.{What}
use Rattle.tree_log.specs.declared.entry.What.TheVariants.{Open, Frame, Commit}
use Rattle.tree_log.specs.Facts.{Making, making, activates, shows}
use Rattle.tree_log.specs.Tree.{Tree, tree_of, tree_after, tree_of_step, embedder, nav_of, chain, chain_from, is_shown, is_embedded, is_cut, is_discarded, is_active}
use Rattle.tree_log.specs.Admits.{admits, AreAdmitted}
use Rattle.tree_log.proofs.Admitted.{both, what_admitted}
use Rattle.agent_laws.specs.Wellness.{AllBelow, IsWell}
use Rattle.agent_laws.proofs.Logs.Entries.{entry, at_cases, open_next, frame_next, FrameNext}
use Rattle.agent_laws.proofs.Groups.Well.{as_top, as_frame, nav_stays, admitted_well}
use Rattle.agent_laws.proofs.Logs.Older.{made_stays, chain_stays}

-- WHAT HAS BEEN ACTIVE

-- active documents and embedders have been active
pub record IsSeated (t : Tree) : Type 0 where
  pub actives : (n : ℕ) → n < t.navs → (t.doc (t.nav n).active).been_active ≡ true
  pub embedders : (n d : ℕ) → embedder t n ≡ Some d → (t.doc d).been_active ≡ true

or_right : (a b : Bool) → b ≡ true → (a || b) ≡ true
or_right true b h = refl
or_right false b h = h

or_left : (a b : Bool) → a ≡ true → (a || b) ≡ true
or_left true b h = refl
or_left false b h = absurd (false≢true h)

-- what has been active has been so later
pub been_later : (t : Tree) (e : Entry) (d : ℕ) → (t.doc d).been_active ≡ true → ((tree_after t e).doc d).been_active ≡ true
unfolding tree_after
been_later t e d h = or_right (shows d e.what) (t.doc d).been_active h

pub shown_active : (t : Tree) (d : ℕ) → is_active t d ≡ true → (t.nav (nav_of t d)).active ≡ d
unfolding is_active
shown_active t d h = eqb-true (t.nav (nav_of t d)).active d (both (is_shown t d) (not (is_discarded t (nav_of t d))) h).0

active_been : (t : Tree) → IsWell t → IsSeated t → (d : ℕ) → d < t.docs → is_active t d ≡ true → (t.doc d).been_active ≡ true
active_been t well seated d there active = subst (λ (x : ℕ). (t.doc x).been_active ≡ true) (shown_active t d active) (seated.actives (nav_of t d) (well.below d there))

old_nav : (t : Tree) (nav n : ℕ) → nav ≡ t.navs → (nav ≡ n → ⊥) → n < t.navs + 1 → n < t.navs
old_nav t nav n is other lt = let differs : nav ≡ n → ⊥ = other in grind arith

-- whether the entry makes d active, or it has been so
abbrev Been : Tree → What → ℕ → Type 0
Been t w d = (shows d w || (t.doc d).been_active) ≡ true

actives_at_step : (t : Tree) (by actor : Option ℕ) (w : What) → admits t (entry by actor w) ≡ true → IsSeated t → (n : ℕ) → n < (tree_after t (entry by actor w)).navs → Been t w (unwrap_or (activates n w) (t.nav n).active)
unfolding tree_after
actives_at_step t by actor (Open nav doc group home origin name opener flags navigator load) h seated n lt =
    let w = Open nav doc group home origin name opener flags navigator load in
    let next = open_next t by actor nav doc group home origin name opener flags navigator load (what_admitted t (entry by actor w) h) in
    at_cases (Been t w) n nav doc (t.nav n).active (λ same. or_left (doc == doc) (t.doc doc).been_active (eq-eqb doc doc refl))
    (λ other. or_right (shows (t.nav n).active w) (t.doc (t.nav n).active).been_active (seated.actives n (old_nav t nav n next.new_nav other lt)))
actives_at_step t by actor (Frame nav doc home origin name flags load) h seated n lt =
    let w = Frame nav doc home origin name flags load in
    let next = frame_next t by actor nav doc home origin name flags load (what_admitted t (entry by actor w) h) in
    at_cases (Been t w) n nav doc (t.nav n).active (λ same. or_left (doc == doc) (t.doc doc).been_active (eq-eqb doc doc refl))
    (λ other. or_right (shows (t.nav n).active w) (t.doc (t.nav n).active).been_active (seated.actives n (old_nav t nav n next.new_nav other lt)))
actives_at_step t by actor (Commit nav doc begin) h seated n lt =
    at_cases (Been t (Commit nav doc begin)) n nav doc (t.nav n).active (λ same. or_left (doc == doc) (t.doc doc).been_active (eq-eqb doc doc refl))
    (λ other. or_right (doc == (t.nav n).active) (t.doc (t.nav n).active).been_active (seated.actives n lt))
actives_at_step t by actor w h seated n lt = seated.actives n lt

abbrev EmbedderBeen : Tree → What → Making → Type 0
EmbedderBeen t w m = (d : ℕ) → m.embedder ≡ Some d → Been t w d

embedder_later : (t : Tree) (w : What) → IsSeated t → (n : ℕ) → EmbedderBeen t w (t.nav n).made
embedder_later t w seated n d is = or_right (shows d w) (t.doc d).been_active (seated.embedders n d is)

embedders_at_step : (t : Tree) (by actor : Option ℕ) (w : What) → admits t (entry by actor w) ≡ true → IsWell t → IsSeated t → (n : ℕ) → EmbedderBeen t w (unwrap_or (making n actor w) (t.nav n).made)
embedders_at_step t by actor (Open nav doc group home origin name opener flags navigator load) h well seated n =
    let w = Open nav doc group home origin name opener flags navigator load in
    at_cases (EmbedderBeen t w) n nav (as_top actor group flags navigator) (t.nav n).made (λ same d is. absurd cc) (λ other. embedder_later t w seated n)
embedders_at_step t by actor (Frame nav doc home origin name flags load) h well seated n =
    let w = Frame nav doc home origin name flags load in
    let next = frame_next t by actor nav doc home origin name flags load (what_admitted t (entry by actor w) h) in
    at_cases (EmbedderBeen t w) n nav (as_frame actor flags) (t.nav n).made (framed next) (λ other. embedder_later t w seated n)
  where
    framed : FrameNext t by actor nav doc load → nav ≡ n → EmbedderBeen t (Frame nav doc home origin name flags load) (as_frame actor flags)
    framed next same d is =
        let one : Some next.who.document ≡ Some d = sym next.who.acts ∙ is in
        let it : next.who.document ≡ d = cc in
        subst (λ (x : ℕ). Been t (Frame nav doc home origin name flags load) x) it
        (or_right (doc == next.who.document) (t.doc next.who.document).been_active (active_been t well seated next.who.document next.who.there next.who.is_there))
embedders_at_step t by actor w h well seated n = embedder_later t w seated n

seated_at_step : (t : Tree) (e : Entry) → admits t e ≡ true → IsWell t → IsSeated t → IsSeated (tree_after t e)
unfolding tree_after
seated_at_step t e h well seated = record {
  actives = λ n lt. actives_at_step t e.by e.actor e.what h seated n lt;
  embedders = λ n d is. embedders_at_step t e.by e.actor e.what h well seated n d is;
}

seated_at_start : IsSeated (tree_of [])
unfolding tree_of
seated_at_start = record { actives = λ n lt. absurd (omega arith); embedders = λ n d is. absurd cc }

pub seated_of : (log : List Entry) → AreAdmitted log → IsSeated (tree_of log)
seated_of [] all = seated_at_start
seated_of (e ∷ older) all = subst IsSeated (sym (tree_of_step e older)) (seated_at_step (tree_of older) e all.0 (admitted_well older all.1) (seated_of older all.1))

-- WHAT IS NO LONGER SHOWN

-- the document had been active, and isn't shown in its navigable
pub record IsReplaced (t : Tree) (d : ℕ) : Type 0 where
  pub been : (t.doc d).been_active ≡ true
  pub not_shown : is_shown t d ≡ false

-- no entry makes it the active one of a navigable that was there
never_activated : (t : Tree) (by actor : Option ℕ) (w : What) → admits t (entry by actor w) ≡ true → (n d : ℕ) → n < t.navs → (t.doc d).been_active ≡ true → ((t.nav n).active ≡ d → ⊥) → unwrap_or (activates n w) (t.nav n).active ≡ d → ⊥
never_activated t by actor (Open nav doc group home origin name opener flags navigator load) h n d lt been other =
    let next = open_next t by actor nav doc group home origin name opener flags navigator load (what_admitted t (entry by actor (Open nav doc group home origin name opener flags navigator load)) h) in
    at_cases (λ (a : ℕ). a ≡ d → ⊥) n nav doc (t.nav n).active (λ same is. let new : nav ≡ t.navs = next.new_nav in absurd (omega arith)) (λ differs. other)
never_activated t by actor (Frame nav doc home origin name flags load) h n d lt been other =
    let next = frame_next t by actor nav doc home origin name flags load (what_admitted t (entry by actor (Frame nav doc home origin name flags load)) h) in
    at_cases (λ (a : ℕ). a ≡ d → ⊥) n nav doc (t.nav n).active (λ same is. let new : nav ≡ t.navs = next.new_nav in absurd (omega arith)) (λ differs. other)
never_activated t by actor (Commit nav doc begin) h n d lt been other =
    let never = (both _ (not (t.doc doc).been_active) (what_admitted t (entry by actor (Commit nav doc begin)) h)).1 in
    at_cases (λ (a : ℕ). a ≡ d → ⊥) n nav doc (t.nav n).active
    (λ same is. let now : not (t.doc d).been_active ≡ true = subst (λ (x : ℕ). not (t.doc x).been_active ≡ true) is never in let no : not true ≡ true = subst (λ (b : Bool). not b ≡ true) been now in absurd cc)
    (λ differs. other)
never_activated t by actor w h n d lt been other = other

pub shown_other : (t s : Tree) (d n : ℕ) → nav_of s d ≡ n → ((s.nav n).active ≡ d → ⊥) → is_shown s d ≡ false
shown_other t s d n is other = ne_eqb (s.nav (nav_of s d)).active d (subst (λ (x : ℕ). (s.nav x).active ≡ d → ⊥) (sym is) other)

pub active_after : (t : Tree) (e : Entry) (n : ℕ) → ((tree_after t e).nav n).active ≡ unwrap_or (activates n e.what) (t.nav n).active
unfolding tree_after
active_after t e n = refl

pub replaced_later : (t : Tree) (e : Entry) → admits t e ≡ true → IsWell t → (d : ℕ) → IsReplaced t d → IsReplaced (tree_after t e) d
replaced_later t e h well d r =
    let there : d < t.docs = well.shown d r.been in
    record {
      been = been_later t e d r.been;
      not_shown = shown_other t (tree_after t e) d (nav_of t d) (nav_stays t e d h there)
          (λ is. never_activated t e.by e.actor e.what h (nav_of t d) d (well.below d there) r.been (λ was. eqb-false (t.nav (nav_of t d)).active d r.not_shown was) (sym (active_after t e (nav_of t d)) ∙ is));
    }

-- WHAT WAS DISCARDED

dropped_later : (t : Tree) (e : Entry) (n : ℕ) → (t.nav n).dropped ≡ true → ((tree_after t e).nav n).dropped ≡ true
unfolding tree_after
dropped_later t e n h = or_right _ (t.nav n).dropped h

gone_later : (t : Tree) (e : Entry) (n : ℕ) → (t.nav n).gone ≡ true → ((tree_after t e).nav n).gone ≡ true
unfolding tree_after
gone_later t e n h = or_right _ (t.nav n).gone h

three_later : (a b c x y z : Bool) → (a ≡ true → x ≡ true) → (b ≡ true → y ≡ true) → (c ≡ true → z ≡ true) → (a || b || c) ≡ true → (x || y || z) ≡ true
three_later true b c x y z f g k h = or_left (x || y) z (or_left x y (f refl))
three_later false true c x y z f g k h = or_left (x || y) z (or_right x y (g refl))
three_later false false true x y z f g k h = or_right (x || y) z (k refl)
three_later false false false x y z f g k h = absurd cc

not_later : (a b : Bool) → (a ≡ false → b ≡ false) → not a ≡ true → not b ≡ true
not_later true b f h = absurd cc
not_later false b f h = rw (f refl) refl

cut_later : (t : Tree) (e : Entry) → admits t e ≡ true → IsWell t → IsSeated t → (n : ℕ) → n < t.navs → is_cut t n ≡ true → is_cut (tree_after t e) n ≡ true
cut_later t e h well seated n lt =
    three_later (t.nav n).dropped (t.nav n).gone (not (is_embedded t (embedder t n))) ((tree_after t e).nav n).dropped ((tree_after t e).nav n).gone (not (is_embedded (tree_after t e) (embedder (tree_after t e) n)))
    (dropped_later t e n) (gone_later t e n)
    (not_later (is_embedded t (embedder t n)) (is_embedded (tree_after t e) (embedder (tree_after t e) n))
    (λ out. ap (is_embedded (tree_after t e)) (ap (λ (m : Making). m.embedder) (made_stays t e h n lt)) ∙ embedded (embedder t n) refl out))
  where
    embedded : (o : Option ℕ) → embedder t n ≡ o → is_embedded t o ≡ false → is_embedded (tree_after t e) o ≡ false
    embedded None is out = absurd cc
    embedded (Some d) is out = (replaced_later t e h well d (record { been = seated.embedders n d is; not_shown = out })).not_shown

chain_below : (t : Tree) → IsWell t → (j x : ℕ) → x < t.navs → AllBelow t.navs (chain_from t j x)
chain_below t well zero x lt = tt
chain_below t well (suc j) x lt = (lt, above (embedder t x) (λ d is. chain_below t well j (nav_of t d) (well.below d (well.up x d is).0)))
  where
    above : (o : Option ℕ) → ((d : ℕ) → o ≡ Some d → AllBelow t.navs (chain_from t j (nav_of t d))) → AllBelow t.navs (elim o as (λ _. List ℕ) [ None ↦ [] | Some d ↦ chain_from t j (nav_of t d) ])
    above None later = tt
    above (Some d) later = later d refl

any_later : (n : ℕ) (p q : ℕ → Bool) → ((x : ℕ) → x < n → p x ≡ true → q x ≡ true) → (xs : List ℕ) → AllBelow n xs → list_any p xs ≡ true → list_any q xs ≡ true
any_later n p q f [] below h = h
any_later n p q f (x ∷ xs) below h = by_test (p x) refl h (λ k. any_later n p q f xs below.1 k)
  where
    by_test : (b : Bool) → p x ≡ b → (b || list_any p xs) ≡ true → (list_any p xs ≡ true → list_any q xs ≡ true) → (q x || list_any q xs) ≡ true
    by_test true is k later = or_left (q x) (list_any q xs) (f x below.0 is)
    by_test false is k later = or_right (q x) (list_any q xs) (later k)

pub discarded_later : (t : Tree) (e : Entry) → admits t e ≡ true → IsWell t → IsSeated t → (n : ℕ) → n < t.navs → is_discarded t n ≡ true → is_discarded (tree_after t e) n ≡ true
unfolding is_discarded chain
discarded_later t e h well seated n lt out =
    ap (list_any (is_cut (tree_after t e))) (chain_stays t e h well (suc n) n lt)
    ∙ any_later t.navs (is_cut t) (is_cut (tree_after t e)) (λ x below cut. cut_later t e h well seated x below cut) (chain_from t (suc n) n) (chain_below t well (suc n) n lt) out
