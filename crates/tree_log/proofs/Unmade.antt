-- Nothing that was not made is anything.
use Rattle.std.proofs.Common.{◌≡◌, ℕ, ◌+◌, ◌<◌, ◌≤◌, ◌^◌, List, [], ◌∷◌, Option, Some, None, Bool, true, false, refl, sym, ap, subst, ◌∙◌, arith}
use Rattle.std.specs.Prelude.{◌&&◌, ◌==◌, nat_lt, not, unwrap_or, is_none}
use Rattle.std.proofs.lemmas.Bool.{ne_eqb}
use Rattle.std.proofs.lemmas.Bool.Decides.{nat_tests}
use Rattle.std.specs.Option.{option_or}
use Rattle.origin_core.specs.declared.origin.Origin.{Origin}
use Rattle.tree_log.specs.declared.entry.Entry.{Entry}
use Rattle.tree_log.specs.declared.entry.Load.{Load}
use Rattle.tree_log.specs.declared.entry.What.{What}
use Rattle.tree_log.specs.declared.entry.What.TheVariants.{Open, Frame, Begin, Commit}
use Rattle.tree_log.specs.Facts.{at, no_number, Birth, no_birth, Making, no_making, making, activates, bears, bears_load, loads_of, docs_after, navs_after}
use Rattle.tree_log.specs.Tree.{Tree, tree_of, tree_after, tree_of_step, nav_of, origin_of, embedder, chain, chain_from, last_or, group_of, is_shown, is_discarded, is_active, is_top_level, are_same, same_group, same_domain}
use Rattle.tree_log.specs.Blanking.{is_open_to}
use Rattle.tree_log.specs.Admits.{has, is_next, is_next_load, admits_what, admits, AreAdmitted}
use Rattle.tree_log.proofs.Admitted.{both, lt_of, eq_of, what_admitted, docs_grow, navs_grow}

at_another : {A : Type 0} (asked number : ℕ) (x : A) → number < asked → at asked number x ≡ None
at_another asked number x lt = rw (ne_eqb number asked (λ e. absurd (omega arith))) refl

next_number : (count number : ℕ) → is_next count number ≡ true → (number ≡ count) × (number < 4294967295)
next_number count number h =
    let two = both (number == count) (nat_lt number 4294967295) h in
    (eq_of number count two.0, lt_of number 4294967295 two.1)

no_load_bears : (d count nav : ℕ) (load : Option Load) → is_next_load count load ≡ true → count + loads_of load ≤ d → bears_load d nav load ≡ None
no_load_bears d count nav None h le = refl
no_load_bears d count nav (Some load) h le = at_another {A = Birth} d load.doc _ (let next = (next_number count load.doc h).0 in omega arith)

-- of a new navigable's document and of that which it loads
neither_bears : (d count nav doc : ℕ) (origin : Origin) (home : ℕ) (load : Option Load) → doc ≡ count → is_next_load (count + 1) load ≡ true → count + (1 + loads_of load) ≤ d
    → option_or (at d doc (record { nav = nav; origin = origin; home = home; loaded = false })) (bears_load d nav load) ≡ None
neither_bears d count nav doc origin home load doc_is last le =
    rw (at_another {A = Birth} d doc (record { nav = nav; origin = origin; home = home; loaded = false }) (omega (arith, doc_is))) (no_load_bears d (count + 1) nav load last (omega arith))

-- an entry says nothing of numbers that are not made with it
record SaysNothing (t : Tree) (actor : Option ℕ) (w : What) : Type 0 where
  few : navs_after w t.navs ≤ 4294967295
  births : (d : ℕ) → docs_after w t.docs ≤ d → bears d w ≡ None
  makings : (n : ℕ) → navs_after w t.navs ≤ n → making n actor w ≡ None
  shown : (n : ℕ) → navs_after w t.navs ≤ n → activates n w ≡ None

says_nothing : (t : Tree) (by actor : Option ℕ) (w : What) → admits_what t by actor w ≡ true → t.navs ≤ 4294967295 → SaysNothing t actor w
says_nothing t by actor (Open nav doc group home origin name opener flags navigator load) h few =
    let last = both _ (is_next_load (t.docs + 1) load) h in
    let six = both _ _ last.0 in
    let five = both _ _ six.0 in
    let four = both _ _ five.0 in
    let three = both _ (is_next t.docs doc) four.0 in
    let two = both _ (is_next t.navs nav) three.0 in
    let doc_is : doc ≡ t.docs = (next_number t.docs doc three.1).0 in
    let nav_is = next_number t.navs nav two.1 in
    record {
      few = omega (arith, nav_is.0, nav_is.1);
      births = λ d le. neither_bears d t.docs nav doc origin home load doc_is last.1 le;
      makings = λ n le. at_another {A = Making} n nav _ (omega (arith, nav_is.0));
      shown = λ n le. at_another {A = ℕ} n nav doc (omega (arith, nav_is.0));
    }
says_nothing t by actor (Frame nav doc home origin name flags load) h few =
    let last = both _ (is_next_load (t.docs + 1) load) h in
    let three = both _ (is_next t.docs doc) last.0 in
    let two = both _ (is_next t.navs nav) three.0 in
    let doc_is : doc ≡ t.docs = (next_number t.docs doc three.1).0 in
    let nav_is = next_number t.navs nav two.1 in
    record {
      few = omega (arith, nav_is.0, nav_is.1);
      births = λ d le. neither_bears d t.docs nav doc origin home load doc_is last.1 le;
      makings = λ n le. at_another {A = Making} n nav _ (omega (arith, nav_is.0));
      shown = λ n le. at_another {A = ℕ} n nav doc (omega (arith, nav_is.0));
    }
says_nothing t by actor (Begin nav load) h few =
    let doc_is : load.doc ≡ t.docs = (next_number t.docs load.doc (both _ (is_next t.docs load.doc) h).1).0 in
    record { few = few; births = λ d le. at_another {A = Birth} d load.doc _ (omega arith); makings = λ n le. refl; shown = λ n le. refl }
says_nothing t by actor (Commit nav doc begin) h few =
    let three = (both _ _ (both _ _ h).0).0 in
    let there : nav < t.navs = lt_of nav t.navs (both _ (has t.navs nav) (both _ _ three).0).1 in
    record { few = few; births = λ d le. refl; makings = λ n le. refl; shown = λ n le. at_another {A = ℕ} n nav doc (omega arith) }
says_nothing t by actor _ h few = record { few = few; births = λ d le. refl; makings = λ n le. refl; shown = λ n le. refl }

-- numbers that were not made have the answers of an empty log
pub record IsBounded (t : Tree) : Type 0 where
  pub few : t.navs ≤ 4294967295
  pub births : (d : ℕ) → t.docs ≤ d → (t.doc d).born ≡ no_birth
  pub makings : (n : ℕ) → t.navs ≤ n → (t.nav n).made ≡ no_making
  pub shown : (n : ℕ) → t.navs ≤ n → (t.nav n).active ≡ no_number

fewer_docs : (w : What) (n d : ℕ) → docs_after w n ≤ d → n ≤ d
fewer_docs w n d le = omega (arith, docs_grow w n)

fewer_navs : (w : What) (m n : ℕ) → navs_after w m ≤ n → m ≤ n
fewer_navs w m n le = omega (arith, navs_grow w m)

bounded_step : (t : Tree) (e : Entry) → admits t e ≡ true → IsBounded t → IsBounded (tree_after t e)
unfolding tree_after
bounded_step t e h b =
    let says = says_nothing t e.by e.actor e.what (what_admitted t e h) b.few in
    record {
      few = says.few;
      births = λ d le. ap (λ (o : Option Birth). unwrap_or o (t.doc d).born) (says.births d le) ∙ b.births d (fewer_docs e.what t.docs d le);
      makings = λ n le. ap (λ (o : Option Making). unwrap_or o (t.nav n).made) (says.makings n le) ∙ b.makings n (fewer_navs e.what t.navs n le);
      shown = λ n le. ap (λ (o : Option ℕ). unwrap_or o (t.nav n).active) (says.shown n le) ∙ b.shown n (fewer_navs e.what t.navs n le);
    }

bounded_start : IsBounded (tree_of [])
unfolding tree_of
bounded_start = record { few = omega arith; births = λ d le. refl; makings = λ n le. refl; shown = λ n le. refl }

pub bounded : (log : List Entry) → AreAdmitted log → IsBounded (tree_of log)
bounded [] all = bounded_start
bounded (e ∷ older) all = subst IsBounded (sym (tree_of_step e older)) (bounded_step (tree_of older) e all.0 (bounded older all.1))

never : (a b : Bool) → a ≡ false → (a && b) ≡ false
never a b h = rw h refl

not_shown : (t : Tree) (d : ℕ) → IsBounded t → t.docs ≤ d → d < 2 ^ 32 → is_shown t d ≡ false
not_shown t d b le lt =
    ap (λ (x : Birth). (t.nav x.nav).active == d) (b.births d le)
    ∙ ap (λ (x : ℕ). x == d) (b.shown no_number (omega (arith, b.few)))
    ∙ ne_eqb no_number d (λ e. absurd (omega arith))

-- a document that was not made isn't active
pub unmade_inactive : (log : List Entry) (d : ℕ) → AreAdmitted log → (tree_of log).docs ≤ d → d < 2 ^ 32 → is_active (tree_of log) d ≡ false
unfolding is_active
unmade_inactive log d all le lt = never (is_shown (tree_of log) d) (not (is_discarded (tree_of log) (nav_of (tree_of log) d))) (not_shown (tree_of log) d (bounded log all) le lt)

alone : (t : Tree) (n : ℕ) → embedder t n ≡ None → chain t n ≡ n ∷ []
unfolding chain
alone t n h = ap (λ (o : Option ℕ). n ∷ elim o as (λ _. List ℕ) [ None ↦ [] | Some d ↦ chain_from t n (nav_of t d) ]) h

no_group : (t : Tree) (n : ℕ) → (t.nav n).made ≡ no_making → group_of t n ≡ None
unfolding group_of
no_group t n h = ap (λ (ns : List ℕ). (t.nav (last_or n ns)).made.group) (alone t n (ap (λ (m : Making). m.embedder) h)) ∙ ap (λ (m : Making). m.group) h

no_group_of : (t : Tree) (d : ℕ) → IsBounded t → t.docs ≤ d → group_of t (nav_of t d) ≡ None
no_group_of t d b le = ap (λ (x : Birth). group_of t x.nav) (b.births d le) ∙ no_group t no_number (b.makings no_number (omega (arith, b.few)))

apart : (a b : Option ℕ) → b ≡ None → are_same a b ≡ false
apart None b h = refl
apart (Some n) b h = rw h refl

-- nothing is open to it, and it to nothing
pub unmade_sees_none : (log : List Entry) (d other : ℕ) → AreAdmitted log → (tree_of log).docs ≤ d → is_open_to (tree_of log) d other ≡ false
unmade_sees_none log d other all le =
    let t : Tree = tree_of log in
    never (same_group t (nav_of t d) (nav_of t other)) (same_domain t d other)
    (ap (λ (o : Option ℕ). are_same o (group_of t (nav_of t other))) (no_group_of t d (bounded log all) le))

pub unmade_unseen : (log : List Entry) (d other : ℕ) → AreAdmitted log → (tree_of log).docs ≤ d → is_open_to (tree_of log) other d ≡ false
unmade_unseen log d other all le =
    let t : Tree = tree_of log in
    never (same_group t (nav_of t other) (nav_of t d)) (same_domain t other d)
    (apart (group_of t (nav_of t other)) (group_of t (nav_of t d)) (no_group_of t d (bounded log all) le))

-- and a navigable that was not made is no top-level
pub unmade_no_top : (t : Tree) (n : ℕ) → t.navs ≤ n → is_top_level t n ≡ false
unmade_no_top t n le = never (nat_lt n t.navs) (is_none (embedder t n)) (beyond n t.navs le)
  where
    beyond : (a b : ℕ) → b ≤ a → nat_lt a b ≡ false
    beyond a b h = grind (arith, nat_tests)

pub ruleset unmade_laws = (unmade_inactive, unmade_sees_none, unmade_unseen, unmade_no_top)
