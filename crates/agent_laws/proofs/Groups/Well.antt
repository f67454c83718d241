-- In a log whose entries were all admitted, everything that is named is there.
use Rattle.std.proofs.Common.{◌≡◌, ℕ, ◌+◌, ◌<◌, ◌≤◌, List, [], ◌∷◌, ◌++◌, Option, Some, None, Bool, true, false, refl, ap, sym, subst, ◌∙◌, if◌then◌else◌, arith, inl, inr, eq-eqb}
use Rattle.std.specs.Prelude.{◌⊎◌, ◌==◌, ◌||◌, unwrap_or, is_some}
use Rattle.std.proofs.lemmas.Bool.{false≢true, eqb-true, cases_lt}
use Rattle.std.proofs.lemmas.Bool.Decides.{eqb_tells}
use Rattle.std.specs.Option.{option_or}
use Rattle.origin_core.specs.declared.origin.Origin.{Origin}
use Rattle.tree_log.specs.declared.entry.Entry.{Entry}
use Rattle.tree_log.specs.declared.entry.Load.{Load}
use Rattle.tree_log.specs.declared.entry.What.{What}
use Rattle.tree_log.specs.declared.entry.What.TheVariants.{Open, Frame, Begin, Commit}
use Rattle.tree_log.specs.Facts.{at, Making, Birth, bears_load, bears, making, activates, shows, loads_of, docs_after, navs_after, groups_after, with_frame, frames_after, tops_after}
use Rattle.tree_log.specs.Tree.{Tree, tree_of, tree_after, tree_of_step, nav_of}
use Rattle.tree_log.specs.Admits.{admits, AreAdmitted}
use Rattle.tree_log.proofs.Admitted.{docs_grow, navs_grow, docs_at_step, navs_at_step, born_stays, what_admitted}
use Rattle.agent_laws.specs.Wellness.{AllBelow, IsWell}
use Rattle.agent_laws.proofs.Logs.Lists.{more_below, last_below}
use Rattle.agent_laws.proofs.Logs.Entries.{at_first, entry, at_cases, IsNextLoad, open_next, FrameNext, frame_next, begin_next, commit_there}

pub nav_stays : (t : Tree) (e : Entry) (d : ℕ) → admits t e ≡ true → d < t.docs → nav_of (tree_after t e) d ≡ nav_of t d
nav_stays t e d h lt = ap (λ (b : Birth). b.nav) (born_stays t e d h lt)

pub more_docs : (t : Tree) (e : Entry) → t.docs ≤ (tree_after t e).docs
more_docs t e = subst (λ n. t.docs ≤ n) (sym (docs_at_step t e)) (docs_grow e.what t.docs)

pub more_navs : (t : Tree) (e : Entry) → t.navs ≤ (tree_after t e).navs
more_navs t e = subst (λ n. t.navs ≤ n) (sym (navs_at_step t e)) (navs_grow e.what t.navs)

-- EMBEDDERS

abbrev Up : Tree → ℕ → Making → Type 0
Up t n m = (d : ℕ) → m.embedder ≡ Some d → (d < t.docs) × (nav_of t d < n)

abbrev pub as_top : Option ℕ → ℕ → ℕ → Option ℕ → Making
as_top actor group flags navigator = record { embedder = None; group = Some group; flags = flags; navigator = navigator; scripted = is_some actor }

abbrev pub as_frame : Option ℕ → ℕ → Making
as_frame actor flags = record { embedder = actor; group = None; flags = flags; navigator = None; scripted = false }

up_stays : (t : Tree) (e : Entry) → admits t e ≡ true → IsWell t → (n : ℕ) → Up (tree_after t e) n (t.nav n).made
up_stays t e h well n d is = let up = well.up n d is in let up_docs : d < t.docs = up.0 in (omega (arith, more_docs t e), subst (λ (m : ℕ). m < n) (sym (nav_stays t e d h up.0)) up.1)

up_at_step : (t : Tree) (by actor : Option ℕ) (w : What) → admits t (entry by actor w) ≡ true → IsWell t → (n : ℕ) → Up (tree_after t (entry by actor w)) n (unwrap_or (making n actor w) (t.nav n).made)
up_at_step t by actor (Open nav doc group home origin name opener flags navigator load) h well n =
    let e = entry by actor (Open nav doc group home origin name opener flags navigator load) in
    at_cases (Up (tree_after t e) n) n nav (as_top actor group flags navigator) (t.nav n).made (λ same d is. absurd cc) (λ other. up_stays t e h well n)
up_at_step t by actor (Frame nav doc home origin name flags load) h well n =
    let e = entry by actor (Frame nav doc home origin name flags load) in
    let next = frame_next t by actor nav doc home origin name flags load (what_admitted t e h) in
    at_cases (Up (tree_after t e) n) n nav (as_frame actor flags) (t.nav n).made (up_here e h next) (λ other. up_stays t e h well n)
  where
    up_here : (e : Entry) → admits t e ≡ true → FrameNext t by actor nav doc load → nav ≡ n → Up (tree_after t e) n (as_frame actor flags)
    up_here e h next same d is =
        let one : Some next.who.document ≡ Some d = sym next.who.acts ∙ is in
        let it : next.who.document ≡ d = cc in
        let there : d < t.docs = subst (λ x. x < t.docs) it next.who.there in
        let place : nav ≡ t.navs = next.new_nav in
        (omega (arith, more_docs t e), rw (nav_stays t e d h there) (omega (arith, well.below d there)))
up_at_step t by actor w h well n = up_stays t (entry by actor w) h well n

old_nav : (t : Tree) (nav n : ℕ) → nav ≡ t.navs → (nav ≡ n → ⊥) → n < t.navs + 1 → n < t.navs
old_nav t nav n is other lt = elim (cases_lt n t.navs) [ inl old ↦ old | inr new ↦ absurd (other (omega arith)) ]

-- DOCUMENTS

-- the navigable of a document that is new
new_load_nav : (t s : Tree) (nav doc d : ℕ) (initial : Birth) (load : Option Load) → initial.nav ≡ nav → doc ≡ t.docs → IsNextLoad t.docs load → t.docs ≤ d → d < t.docs + (1 + loads_of load)
    → (unwrap_or (option_or (at d doc initial) (bears_load d nav load)) (t.doc d).born).nav ≡ nav
new_load_nav t s nav doc d initial load is doc_is load_is ge lt = elim (eqb_tells doc d) as (λ _. (unwrap_or (option_or (at d doc initial) (bears_load d nav load)) (t.doc d).born).nav ≡ nav) [
  | inl p ↦ rw (p.0) is
  | inr p ↦ rw (p.0) (loaded load load_is lt p.1)
]
  where
    loaded : (load : Option Load) → IsNextLoad t.docs load → d < t.docs + (1 + loads_of load) → (doc ≡ d → ⊥) → (unwrap_or (bears_load d nav load) (t.doc d).born).nav ≡ nav
    loaded None load_is lt other = absurd (other (omega arith))
    loaded (Some load) load_is lt other =
        let same : load.doc ≡ d = let differs : doc ≡ d → ⊥ = other in grind arith in
        rw (eq-eqb load.doc d same) refl

-- the navigable of an older document stays
old_below : (t : Tree) (e : Entry) → admits t e ≡ true → IsWell t → (d : ℕ) → d < t.docs → (unwrap_or (bears d e.what) (t.doc d).born).nav < navs_after e.what t.navs
unfolding tree_after
old_below t e h well d lt = let stays : (unwrap_or (bears d e.what) (t.doc d).born).nav ≡ nav_of t d = nav_stays t e d h lt in omega (arith, well.below d lt, navs_grow e.what t.navs)

below_at_step : (t : Tree) (by actor : Option ℕ) (w : What) → admits t (entry by actor w) ≡ true → IsWell t → (d : ℕ) → d < docs_after w t.docs
    → (unwrap_or (bears d w) (t.doc d).born).nav < navs_after w t.navs
below_at_step t by actor (Open nav doc group home origin name opener flags navigator load) h well d lt =
    let w = Open nav doc group home origin name opener flags navigator load in
    elim (cases_lt d t.docs) as (λ _. (unwrap_or (bears d w) (t.doc d).born).nav < t.navs + 1) [
      | inl old ↦ old_below t (entry by actor w) h well d old
      | inr new ↦
          let next = open_next t by actor nav doc group home origin name opener flags navigator load (what_admitted t (entry by actor w) h) in
          let place : nav ≡ t.navs = next.new_nav in
          rw (new_load_nav t t nav doc d (record { nav = nav; origin = origin; home = home; loaded = false }) load refl next.new_doc next.new_load new lt) (omega arith)
    ]
below_at_step t by actor (Frame nav doc home origin name flags load) h well d lt =
    let w = Frame nav doc home origin name flags load in
    elim (cases_lt d t.docs) as (λ _. (unwrap_or (bears d w) (t.doc d).born).nav < t.navs + 1) [
      | inl old ↦ old_below t (entry by actor w) h well d old
      | inr new ↦
          let next = frame_next t by actor nav doc home origin name flags load (what_admitted t (entry by actor w) h) in
          let place : nav ≡ t.navs = next.new_nav in
          rw (new_load_nav t t nav doc d (record { nav = nav; origin = origin; home = home; loaded = false }) load refl next.new_doc next.new_load new lt) (omega arith)
    ]
below_at_step t by actor (Begin nav load) h well d lt =
    elim (cases_lt d t.docs) as (λ _. (unwrap_or (bears d (Begin nav load)) (t.doc d).born).nav < t.navs) [
      | inl old ↦ old_below t (entry by actor (Begin nav load)) h well d old
      | inr new ↦
          let next = begin_next t by actor nav load (what_admitted t (entry by actor (Begin nav load)) h) in
          let place : nav < t.navs = next.0 in
          let doc : load.doc ≡ t.docs = next.1 in
          let same : load.doc ≡ d = omega arith in
          rw (eq-eqb load.doc d same) place
    ]
below_at_step t by actor w h well d lt = well.below d lt

-- GROUPS

abbrev InGroups : ℕ → Making → Type 0
InGroups groups m = (g : ℕ) → m.group ≡ Some g → g < groups

groups_grow : (w : What) (n : ℕ) → n ≤ groups_after w n
groups_grow (Open _ _ group _ _ _ _ _ _ _) n = grown (group == n)
  where
    grown : (b : Bool) → n ≤ (if b then n + 1 else n)
    grown true = omega arith
    grown false = omega arith
groups_grow _ n = omega arith

groups_stay : (t : Tree) (w : What) → IsWell t → (n : ℕ) → InGroups (groups_after w t.groups) (t.nav n).made
groups_stay t w well n g is = let lt : g < t.groups = well.groups n g is in omega (arith, groups_grow w t.groups)

groups_at_step : (t : Tree) (by actor : Option ℕ) (w : What) → admits t (entry by actor w) ≡ true → IsWell t → (n : ℕ) → InGroups (groups_after w t.groups) (unwrap_or (making n actor w) (t.nav n).made)
groups_at_step t by actor (Open nav doc group home origin name opener flags navigator load) h well n =
    let w = Open nav doc group home origin name opener flags navigator load in
    let next = open_next t by actor nav doc group home origin name opener flags navigator load (what_admitted t (entry by actor w) h) in
    at_cases (InGroups (groups_after w t.groups)) n nav (as_top actor group flags navigator) (t.nav n).made (λ same g is. let it : group ≡ g = cc in rw (sym it) (group_below next.in_group)) (λ other. groups_stay t w well n)
  where
    group_below : (group < t.groups) ⊎ (group ≡ t.groups) → group < (if group == t.groups then t.groups + 1 else t.groups)
    group_below (inl lt) = omega (arith, groups_grow (Open nav doc group home origin name opener flags navigator load) t.groups)
    group_below (inr e) = rw (eq-eqb group t.groups e) (omega arith)
groups_at_step t by actor (Frame nav doc home origin name flags load) h well n =
    at_cases (InGroups t.groups) n nav (as_frame actor flags) (t.nav n).made (λ same g is. absurd cc) (λ other. well.groups n)
groups_at_step t by actor w h well n = well.groups n

abbrev HasGroup : Making → Type 0
HasGroup m = m.embedder ≡ None → is_some m.group ≡ true

grouped_at_step : (t : Tree) (by actor : Option ℕ) (w : What) → admits t (entry by actor w) ≡ true → IsWell t → (n : ℕ) → n < navs_after w t.navs → HasGroup (unwrap_or (making n actor w) (t.nav n).made)
grouped_at_step t by actor (Open nav doc group home origin name opener flags navigator load) h well n lt =
    let w = Open nav doc group home origin name opener flags navigator load in
    let next = open_next t by actor nav doc group home origin name opener flags navigator load (what_admitted t (entry by actor w) h) in
    at_cases HasGroup n nav (as_top actor group flags navigator) (t.nav n).made (λ same none. refl) (λ other. well.grouped n (old_nav t nav n next.new_nav other lt))
grouped_at_step t by actor (Frame nav doc home origin name flags load) h well n lt =
    let w = Frame nav doc home origin name flags load in
    let next = frame_next t by actor nav doc home origin name flags load (what_admitted t (entry by actor w) h) in
    at_cases HasGroup n nav (as_frame actor flags) (t.nav n).made (λ same none. absurd (let clash : None ≡ Some next.who.document = sym none ∙ next.who.acts in cc)) (λ other. well.grouped n (old_nav t nav n next.new_nav other lt))
grouped_at_step t by actor w h well n lt = well.grouped n lt

-- ACTIVE DOCUMENTS

shown_at_step : (t : Tree) (by actor : Option ℕ) (w : What) → admits t (entry by actor w) ≡ true → (d : ℕ) → shows d w ≡ true → d < docs_after w t.docs
shown_at_step t by actor (Open nav doc group home origin name opener flags navigator load) h d is =
    let w = Open nav doc group home origin name opener flags navigator load in
    let next = open_next t by actor nav doc group home origin name opener flags navigator load (what_admitted t (entry by actor w) h) in
    let doc_is : doc ≡ t.docs = next.new_doc in
    let same : doc ≡ d = eqb-true doc d is in
    omega arith
shown_at_step t by actor (Frame nav doc home origin name flags load) h d is =
    let w = Frame nav doc home origin name flags load in
    let next = frame_next t by actor nav doc home origin name flags load (what_admitted t (entry by actor w) h) in
    let doc_is : doc ≡ t.docs = next.new_doc in
    let same : doc ≡ d = eqb-true doc d is in
    omega arith
shown_at_step t by actor (Commit nav doc begin) h d is =
    let there = commit_there t by actor nav doc begin (what_admitted t (entry by actor (Commit nav doc begin)) h) in
    let lt : doc < t.docs = there.1 in
    let same : doc ≡ d = eqb-true doc d is in
    omega arith
shown_at_step t by actor w h d is = absurd (false≢true is)

been_at_step : (t : Tree) (by actor : Option ℕ) (w : What) → admits t (entry by actor w) ≡ true → IsWell t → (d : ℕ) → (shows d w || (t.doc d).been_active) ≡ true → d < docs_after w t.docs
been_at_step t by actor w h well d been = been_case (shows d w) refl been
  where
    been_case : (b : Bool) → shows d w ≡ b → (b || (t.doc d).been_active) ≡ true → d < docs_after w t.docs
    been_case true e k = shown_at_step t by actor w h d e
    been_case false e k = let lt : d < t.docs = well.shown d k in omega (arith, docs_grow w t.docs)

active_at_step : (t : Tree) (by actor : Option ℕ) (w : What) → admits t (entry by actor w) ≡ true → IsWell t → (n : ℕ) → n < navs_after w t.navs → unwrap_or (activates n w) (t.nav n).active < docs_after w t.docs
active_at_step t by actor (Open nav doc group home origin name opener flags navigator load) h well n lt =
    let w = Open nav doc group home origin name opener flags navigator load in
    let next = open_next t by actor nav doc group home origin name opener flags navigator load (what_admitted t (entry by actor w) h) in
    let doc_is : doc ≡ t.docs = next.new_doc in
    at_cases (λ a. a < docs_after w t.docs) n nav doc (t.nav n).active (λ same. omega arith) (λ other. let old : (t.nav n).active < t.docs = well.active n (old_nav t nav n next.new_nav other lt) in omega arith)
active_at_step t by actor (Frame nav doc home origin name flags load) h well n lt =
    let w = Frame nav doc home origin name flags load in
    let next = frame_next t by actor nav doc home origin name flags load (what_admitted t (entry by actor w) h) in
    let doc_is : doc ≡ t.docs = next.new_doc in
    at_cases (λ a. a < docs_after w t.docs) n nav doc (t.nav n).active (λ same. omega arith) (λ other. let old : (t.nav n).active < t.docs = well.active n (old_nav t nav n next.new_nav other lt) in omega arith)
active_at_step t by actor (Commit nav doc begin) h well n lt =
    let there = commit_there t by actor nav doc begin (what_admitted t (entry by actor (Commit nav doc begin)) h) in
    at_cases (λ a. a < t.docs) n nav doc (t.nav n).active (λ same. there.1) (λ other. well.active n lt)
active_at_step t by actor w h well n lt = let old : (t.nav n).active < t.docs = well.active n lt in omega (arith, docs_grow w t.docs)

-- the active document of a navigable that was there stays in it
old_placed : (t : Tree) (e : Entry) → admits t e ≡ true → IsWell t → (n : ℕ) → n < t.navs → (unwrap_or (bears (t.nav n).active e.what) (t.doc (t.nav n).active).born).nav ≡ n
unfolding tree_after
old_placed t e h well n lt = nav_stays t e (t.nav n).active h (well.active n lt) ∙ well.placed n lt

-- the document of a new navigable
new_placed : (t : Tree) (nav doc home : ℕ) (origin : Origin) (load : Option Load) → doc ≡ t.docs
    → (unwrap_or (option_or (at doc doc (record { nav = nav; origin = origin; home = home; loaded = false })) (bears_load doc nav load)) (t.doc doc).born).nav ≡ nav
new_placed t nav doc home origin load is = ap (λ (b : Birth). b.nav) (at_first doc (record { nav = nav; origin = origin; home = home; loaded = false }) (t.doc doc).born (bears_load doc nav load))

placed_at_step : (t : Tree) (by actor : Option ℕ) (w : What) → admits t (entry by actor w) ≡ true → IsWell t → (n : ℕ) → n < navs_after w t.navs
    → (unwrap_or (bears (unwrap_or (activates n w) (t.nav n).active) w) (t.doc (unwrap_or (activates n w) (t.nav n).active)).born).nav ≡ n
placed_at_step t by actor (Open nav doc group home origin name opener flags navigator load) h well n lt =
    let w = Open nav doc group home origin name opener flags navigator load in
    let next = open_next t by actor nav doc group home origin name opener flags navigator load (what_admitted t (entry by actor w) h) in
    at_cases (λ (a : ℕ). (unwrap_or (bears a w) (t.doc a).born).nav ≡ n) n nav doc (t.nav n).active (λ same. new_placed t nav doc home origin load next.new_doc ∙ same)
    (λ other. old_placed t (entry by actor w) h well n (old_nav t nav n next.new_nav other lt))
placed_at_step t by actor (Frame nav doc home origin name flags load) h well n lt =
    let w = Frame nav doc home origin name flags load in
    let next = frame_next t by actor nav doc home origin name flags load (what_admitted t (entry by actor w) h) in
    at_cases (λ (a : ℕ). (unwrap_or (bears a w) (t.doc a).born).nav ≡ n) n nav doc (t.nav n).active (λ same. new_placed t nav doc home origin load next.new_doc ∙ same)
    (λ other. old_placed t (entry by actor w) h well n (old_nav t nav n next.new_nav other lt))
placed_at_step t by actor (Begin nav load) h well n lt = old_placed t (entry by actor (Begin nav load)) h well n lt
placed_at_step t by actor (Commit nav doc begin) h well n lt =
    let there = commit_there t by actor nav doc begin (what_admitted t (entry by actor (Commit nav doc begin)) h) in
    at_cases (λ (a : ℕ). nav_of t a ≡ n) n nav doc (t.nav n).active (λ same. there.2 ∙ same) (λ other. well.placed n lt)
placed_at_step t by actor w h well n lt = old_placed t (entry by actor w) h well n lt

-- CHILDREN AND TOP-LEVELS

frames_with : (t : Tree) (actor : Option ℕ) (nav d : ℕ) → nav ≡ t.navs → IsWell t → AllBelow (t.navs + 1) (with_frame d actor nav (t.frames d))
frames_with t None nav d is well = more_below t.navs (t.navs + 1) (omega arith) (t.frames d) (well.frames d)
frames_with t (Some a) nav d is well = frames_if (a == d)
  where
    frames_if : (b : Bool) → AllBelow (t.navs + 1) (if b then t.frames d ++ nav ∷ [] else t.frames d)
    frames_if true = last_below (t.navs + 1) nav (omega arith) (t.frames d) (more_below t.navs (t.navs + 1) (omega arith) (t.frames d) (well.frames d))
    frames_if false = more_below t.navs (t.navs + 1) (omega arith) (t.frames d) (well.frames d)

frames_at_step : (t : Tree) (by actor : Option ℕ) (w : What) → admits t (entry by actor w) ≡ true → IsWell t → (d : ℕ) → AllBelow (navs_after w t.navs) (frames_after d actor w (t.frames d))
frames_at_step t by actor (Open nav doc group home origin name opener flags navigator load) h well d = more_below t.navs (t.navs + 1) (omega arith) (t.frames d) (well.frames d)
frames_at_step t by actor (Frame nav doc home origin name flags load) h well d =
    let next = frame_next t by actor nav doc home origin name flags load (what_admitted t (entry by actor (Frame nav doc home origin name flags load)) h) in
    frames_with t actor nav d next.new_nav well
frames_at_step t by actor w h well d = well.frames d

tops_at_step : (t : Tree) (by actor : Option ℕ) (w : What) → admits t (entry by actor w) ≡ true → IsWell t → AllBelow (navs_after w t.navs) (tops_after w t.tops)
tops_at_step t by actor (Open nav doc group home origin name opener flags navigator load) h well =
    let next = open_next t by actor nav doc group home origin name opener flags navigator load (what_admitted t (entry by actor (Open nav doc group home origin name opener flags navigator load)) h) in
    let is : nav ≡ t.navs = next.new_nav in
    last_below (t.navs + 1) nav (omega arith) t.tops (more_below t.navs (t.navs + 1) (omega arith) t.tops well.tops)
tops_at_step t by actor (Frame nav doc home origin name flags load) h well = more_below t.navs (t.navs + 1) (omega arith) t.tops well.tops
tops_at_step t by actor w h well = well.tops

-- THE WHOLE

pub well_at_step : (t : Tree) (e : Entry) → admits t e ≡ true → IsWell t → IsWell (tree_after t e)
unfolding tree_after
well_at_step t e h well = record {
  up = λ n d is. up_at_step t e.by e.actor e.what h well n d is;
  below = λ d lt. below_at_step t e.by e.actor e.what h well d lt;
  groups = λ n g is. groups_at_step t e.by e.actor e.what h well n g is;
  grouped = λ n lt none. grouped_at_step t e.by e.actor e.what h well n lt none;
  shown = λ d been. been_at_step t e.by e.actor e.what h well d been;
  active = λ n lt. active_at_step t e.by e.actor e.what h well n lt;
  placed = λ n lt. placed_at_step t e.by e.actor e.what h well n lt;
  frames = λ d. frames_at_step t e.by e.actor e.what h well d;
  tops = tops_at_step t e.by e.actor e.what h well;
}

well_at_start : IsWell (tree_of [])
unfolding tree_of
well_at_start = record {
  up = λ n d is. absurd cc;
  below = λ d lt. absurd (omega arith);
  groups = λ n g is. absurd cc;
  grouped = λ n lt none. absurd (omega arith);
  shown = λ d been. absurd (false≢true been);
  active = λ n lt. absurd (omega arith);
  placed = λ n lt. absurd (omega arith);
  frames = λ d. tt;
  tops = tt;
}

pub admitted_well : (log : List Entry) → AreAdmitted log → IsWell (tree_of log)
admitted_well [] all = well_at_start
admitted_well (e ∷ older) all = subst IsWell (sym (tree_of_step e older)) (well_at_step (tree_of older) e all.0 (admitted_well older all.1))
