-- In a log whose entries were all admitted, what an entry made is there for good.
use Rattle.std.proofs.Common.{◌≡◌, ℕ, ◌+◌, ◌*◌, ◌<◌, ◌≤◌, List, [], ◌∷◌, length, Option, Some, None, Bool, true, false, refl, sym, ap, subst, ◌∙◌, arith, eq-eqb}
use Rattle.std.specs.Prelude.{◌&&◌, ◌==◌, nat_lt, unwrap_or, if◌then◌else◌}
use Rattle.std.specs.Coded.{×_prop, Unit-prop, Coded-set, coded_bool}
use Rattle.std.proofs.lemmas.Bool.{ne_eqb}
use Rattle.std.proofs.lemmas.Bool.Decides.{nat_tests}
use Rattle.std.specs.Option.{option_or}
use Rattle.tree_log.specs.declared.entry.Entry.{Entry}
use Rattle.tree_log.specs.declared.entry.Load.{Load}
use Rattle.tree_log.specs.declared.entry.What.{What}
use Rattle.tree_log.specs.declared.entry.What.TheVariants.{Open, Frame, Begin, Post, Closing}
use Rattle.tree_log.specs.Facts.{at, Birth, bears, bears_load, docs_after, navs_after, groups_after}
use Rattle.tree_log.specs.Tree.{Tree, tree_of, tree_after, tree_of_step, nav_of, home_of}
use Rattle.tree_log.specs.Admits.{has, is_next, is_next_load, admits_what, admits, AreAdmitted}

-- TESTS

pub both : (a b : Bool) → (a && b) ≡ true → (a ≡ true) × (b ≡ true)
both true true h = (refl, refl)
both true false h = absurd cc
both false b h = absurd cc

pub lt_of : (a b : ℕ) → nat_lt a b ≡ true → a < b
lt_of a b h = grind (arith, nat_tests)

pub eq_of : (a b : ℕ) → (a == b) ≡ true → a ≡ b
eq_of a b h = grind (arith, nat_tests)

next_is : (count number : ℕ) → is_next count number ≡ true → number ≡ count
next_is count number h = eq_of number count (both (number == count) (nat_lt number 4294967295) h).0

-- any two proofs that a log is admitted are equal
pub AreAdmitted-prop : (log : List Entry) → IsProp (AreAdmitted log)
AreAdmitted-prop [] = Unit-prop
AreAdmitted-prop (e ∷ older) = ×_prop (Coded-set coded_bool _ _) (AreAdmitted-prop older)

-- NUMBERS GROW

pub docs_grow : (w : What) (n : ℕ) → n ≤ docs_after w n
docs_grow (Open _ _ _ _ _ _ _ _ _ load) n = omega arith
docs_grow (Frame _ _ _ _ _ _ load) n = omega arith
docs_grow (Begin _ _) n = omega arith
docs_grow _ n = omega arith

pub navs_grow : (w : What) (n : ℕ) → n ≤ navs_after w n
navs_grow (Open _ _ _ _ _ _ _ _ _ _) n = omega arith
navs_grow (Frame _ _ _ _ _ _ _) n = omega arith
navs_grow _ n = omega arith

pub docs_at_step : (t : Tree) (e : Entry) → (tree_after t e).docs ≡ docs_after e.what t.docs
unfolding tree_after
docs_at_step t e = refl

pub navs_at_step : (t : Tree) (e : Entry) → (tree_after t e).navs ≡ navs_after e.what t.navs
unfolding tree_after
navs_at_step t e = refl

-- WHAT WAS BORN STAYS

at_other : {A : Type 0} (asked number : ℕ) (x : A) → asked < number → at asked number x ≡ None
at_other asked number x lt = rw (ne_eqb number asked (λ e. absurd (omega arith))) refl

no_load_born : (d count nav : ℕ) (load : Option Load) → is_next_load count load ≡ true → d < count → bears_load d nav load ≡ None
no_load_born d count nav None h lt = refl
no_load_born d count nav (Some load) h lt = at_other {A = Birth} d load.doc _ (let e = next_is count load.doc h in omega arith)

none_born : (t : Tree) (by actor : Option ℕ) (w : What) (d : ℕ) → admits_what t by actor w ≡ true → d < t.docs → bears d w ≡ None
none_born t by actor (Open nav doc group home origin name opener flags navigator load) d h lt =
    let last = both _ (is_next_load (t.docs + 1) load) h in
    let six = both _ _ last.0 in
    let five = both _ _ six.0 in
    let four = both _ _ five.0 in
    let three = both _ (is_next t.docs doc) four.0 in
    let doc_is : doc ≡ t.docs = next_is t.docs doc three.1 in
    rw (at_other {A = Birth} d doc (record { nav = nav; origin = origin; home = home; loaded = false }) (omega arith)) (no_load_born d (t.docs + 1) nav load last.1 (omega arith))
none_born t by actor (Frame nav doc home origin name flags load) d h lt =
    let last = both _ (is_next_load (t.docs + 1) load) h in
    let three = both _ (is_next t.docs doc) last.0 in
    let doc_is : doc ≡ t.docs = next_is t.docs doc three.1 in
    rw (at_other {A = Birth} d doc (record { nav = nav; origin = origin; home = home; loaded = false }) (omega arith)) (no_load_born d (t.docs + 1) nav load last.1 (omega arith))
none_born t by actor (Begin nav load) d h lt =
    let last = both _ (is_next t.docs load.doc) h in
    let doc_is : load.doc ≡ t.docs = next_is t.docs load.doc last.1 in
    at_other {A = Birth} d load.doc _ (omega arith)
none_born t by actor _ d h lt = refl

pub born_stays : (t : Tree) (e : Entry) (d : ℕ) → admits t e ≡ true → d < t.docs → ((tree_after t e).doc d).born ≡ (t.doc d).born
unfolding tree_after admits
born_stays t e d h lt = ap (λ b. unwrap_or b (t.doc d).born) (none_born t e.by e.actor e.what d (both _ _ h).1 lt)

-- THE TASKS OF A LOG

-- the document of a load is there, was made for its navigable, and has its home
pub record StandsFor (t : Tree) (nav : ℕ) (load : Load) : Type 0 where
  pub doc : load.doc < t.docs
  pub nav_there : nav < t.navs
  pub made_for : nav_of t load.doc ≡ nav
  pub home : home_of t load.doc ≡ load.home

abbrev pub StandsIfAny : Tree → ℕ → Option Load → Type 0
StandsIfAny t nav None = Unit {0}
StandsIfAny t nav (Some load) = StandsFor t nav load

-- what the entry's task is about is there: its load, the document of its message, or its window
abbrev pub TaskStands : Tree → What → Type 0
TaskStands t (Open nav _ _ _ _ _ _ _ _ load) = StandsIfAny t nav load
TaskStands t (Frame nav _ _ _ _ _ load) = StandsIfAny t nav load
TaskStands t (Begin nav load) = StandsFor t nav load
TaskStands t (Post to _ _ _ _) = to < t.docs
TaskStands t (Closing nav) = nav < t.navs
TaskStands t _ = Unit {0}

abbrev pub AllStand : Tree → List Entry → Type 0
AllStand t [] = Unit {0}
AllStand t (e ∷ older) = TaskStands t e.what × AllStand t older

-- what stood stands once an entry more was admitted
stands_later : (t : Tree) (e : Entry) (nav : ℕ) (load : Load) → admits t e ≡ true → StandsFor t nav load → StandsFor (tree_after t e) nav load
stands_later t e nav load h s =
    let docs : t.docs ≤ (tree_after t e).docs = subst (λ n. t.docs ≤ n) (sym (docs_at_step t e)) (docs_grow e.what t.docs) in
    let navs : t.navs ≤ (tree_after t e).navs = subst (λ n. t.navs ≤ n) (sym (navs_at_step t e)) (navs_grow e.what t.navs) in
    record {
      doc = omega (arith, s.doc);
      nav_there = omega (arith, s.nav_there);
      made_for = ap (λ (b : Birth). b.nav) (born_stays t e load.doc h s.doc) ∙ s.made_for;
      home = ap (λ (b : Birth). b.home) (born_stays t e load.doc h s.doc) ∙ s.home;
    }

any_later : (t : Tree) (e : Entry) (nav : ℕ) (load : Option Load) → admits t e ≡ true → StandsIfAny t nav load → StandsIfAny (tree_after t e) nav load
any_later t e nav None h s = tt
any_later t e nav (Some load) h s = stands_later t e nav load h s

tasks_later : (t : Tree) (e : Entry) (w : What) → admits t e ≡ true → TaskStands t w → TaskStands (tree_after t e) w
tasks_later t e (Open nav _ _ _ _ _ _ _ _ load) h s = any_later t e nav load h s
tasks_later t e (Frame nav _ _ _ _ _ load) h s = any_later t e nav load h s
tasks_later t e (Begin nav load) h s = stands_later t e nav load h s
tasks_later t e (Post to _ _ _ _) h s =
    let docs : t.docs ≤ (tree_after t e).docs = subst (λ n. t.docs ≤ n) (sym (docs_at_step t e)) (docs_grow e.what t.docs) in
    omega (arith, s)
tasks_later t e (Closing nav) h s =
    let navs : t.navs ≤ (tree_after t e).navs = subst (λ n. t.navs ≤ n) (sym (navs_at_step t e)) (navs_grow e.what t.navs) in
    omega (arith, s)
tasks_later t e _ h s = tt

all_later : (t : Tree) (e : Entry) (log : List Entry) → admits t e ≡ true → AllStand t log → AllStand (tree_after t e) log
all_later t e [] h s = tt
all_later t e (x ∷ log) h s = (tasks_later t e x.what h s.0, all_later t e log h s.1)

at_self : {A : Type 0} (n : ℕ) (x : A) → at n n x ≡ Some x
at_self n x = rw (eq-eqb n n refl) refl

-- the entry that makes a navigable and begins its first load
makes_both : (t : Tree) (by actor : Option ℕ) (w : What) (nav doc : ℕ) (initial : Birth) (load : Load) → doc ≡ t.docs → load.doc ≡ t.docs + 1 → nav ≡ t.navs
    → docs_after w t.docs ≡ t.docs + 2 → navs_after w t.navs ≡ t.navs + 1 → bears load.doc w ≡ option_or (at load.doc doc initial) (bears_load load.doc nav (Some load))
    → StandsFor (tree_after t (record { by = by; actor = actor; what = w })) nav load
unfolding tree_after
makes_both t by actor w nav doc initial load doc_is load_is nav_is docs navs bears_is =
    let other : at load.doc doc initial ≡ None = rw (ne_eqb doc load.doc (λ e. absurd (omega arith))) refl in
    let none : bears load.doc w ≡ Some (record { nav = nav; origin = load.origin; home = load.home; loaded = true }) =
    bears_is ∙ ap (λ o. option_or o (bears_load load.doc nav (Some load))) other ∙ at_self load.doc _ in
    record {
      doc = omega arith;
      nav_there = omega arith;
      made_for = ap (λ (b : Option Birth). (unwrap_or b (t.doc load.doc).born).nav) none;
      home = ap (λ (b : Option Birth). (unwrap_or b (t.doc load.doc).born).home) none;
    }

begins_there : (t : Tree) (by actor : Option ℕ) (nav : ℕ) (load : Load) → load.doc ≡ t.docs → nav < t.navs → StandsFor (tree_after t (record { by = by; actor = actor; what = Begin nav load })) nav load
unfolding tree_after
begins_there t by actor nav load doc_is there =
    let made : bears load.doc (Begin nav load) ≡ Some (record { nav = nav; origin = load.origin; home = load.home; loaded = true }) = at_self load.doc _ in
    record {
      doc = omega arith;
      nav_there = there;
      made_for = ap (λ (b : Option Birth). (unwrap_or b (t.doc load.doc).born).nav) made;
      home = ap (λ (b : Option Birth). (unwrap_or b (t.doc load.doc).born).home) made;
    }

pub what_admitted : (t : Tree) (e : Entry) → admits t e ≡ true → admits_what t e.by e.actor e.what ≡ true
unfolding admits
what_admitted t e h = (both _ _ h).1

post_there : (t : Tree) (e : Entry) (to : ℕ) → docs_after e.what t.docs ≡ t.docs → to < t.docs → to < (tree_after t e).docs
post_there t e to same lt = subst (λ n. to < n) (sym (docs_at_step t e ∙ same)) lt

closing_there : (t : Tree) (e : Entry) (nav : ℕ) → navs_after e.what t.navs ≡ t.navs → nav < t.navs → nav < (tree_after t e).navs
closing_there t e nav same lt = subst (λ n. nav < n) (sym (navs_at_step t e ∙ same)) lt

tasks_here : (t : Tree) (by actor : Option ℕ) (w : What) → admits_what t by actor w ≡ true → TaskStands (tree_after t (record { by = by; actor = actor; what = w })) w
tasks_here t by actor (Open nav doc group home origin name opener flags navigator None) h = tt
tasks_here t by actor (Open nav doc group home origin name opener flags navigator (Some load)) h =
    let last = both _ (is_next (t.docs + 1) load.doc) h in
    let six = both _ _ last.0 in
    let five = both _ _ six.0 in
    let four = both _ _ five.0 in
    let three = both _ (is_next t.docs doc) four.0 in
    let two = both _ (is_next t.navs nav) three.0 in
    makes_both t by actor (Open nav doc group home origin name opener flags navigator (Some load)) nav doc (record { nav = nav; origin = origin; home = home; loaded = false }) load
    (next_is t.docs doc three.1) (next_is (t.docs + 1) load.doc last.1) (next_is t.navs nav two.1) (omega arith) refl refl
tasks_here t by actor (Frame nav doc home origin name flags None) h = tt
tasks_here t by actor (Frame nav doc home origin name flags (Some load)) h =
    let last = both _ (is_next (t.docs + 1) load.doc) h in
    let three = both _ (is_next t.docs doc) last.0 in
    let two = both _ (is_next t.navs nav) three.0 in
    makes_both t by actor (Frame nav doc home origin name flags (Some load)) nav doc (record { nav = nav; origin = origin; home = home; loaded = false }) load
    (next_is t.docs doc three.1) (next_is (t.docs + 1) load.doc last.1) (next_is t.navs nav two.1) (omega arith) refl refl
tasks_here t by actor (Begin nav load) h =
    let last = both _ (is_next t.docs load.doc) h in
    let two = both _ (has t.navs nav) last.0 in
    begins_there t by actor nav load (next_is t.docs load.doc last.1) (lt_of nav t.navs two.1)
tasks_here t by actor (Post to from origin target body) h = post_there t (record { by = by; actor = actor; what = Post to from origin target body }) to refl (lt_of to t.docs (both _ _ (both _ _ h).0).1)
tasks_here t by actor (Closing nav) h = closing_there t (record { by = by; actor = actor; what = Closing nav }) nav refl (lt_of nav t.navs (both _ _ h).1)
tasks_here t by actor _ h = tt

-- what each task of an admitted log is about is there
pub tasks_stand : (log : List Entry) → AreAdmitted log → AllStand (tree_of log) log
tasks_stand [] h = tt
tasks_stand (e ∷ older) h =
    let rest : AllStand (tree_after (tree_of older) e) older = all_later (tree_of older) e older h.0 (tasks_stand older h.1) in
    subst (λ (t : Tree). AllStand t (e ∷ older)) (sym (tree_of_step e older)) (tasks_here (tree_of older) e.by e.actor e.what (what_admitted (tree_of older) e h.0), rest)

-- HOW MANY THERE ARE

docs_step : (w : What) (n : ℕ) → docs_after w n ≤ n + 2
docs_step (Open _ _ _ _ _ _ _ _ _ None) n = omega arith
docs_step (Open _ _ _ _ _ _ _ _ _ (Some load)) n = omega arith
docs_step (Frame _ _ _ _ _ _ None) n = omega arith
docs_step (Frame _ _ _ _ _ _ (Some load)) n = omega arith
docs_step (Begin _ _) n = omega arith
docs_step _ n = omega arith

navs_step : (w : What) (n : ℕ) → navs_after w n ≤ n + 1
navs_step (Open _ _ _ _ _ _ _ _ _ _) n = omega arith
navs_step (Frame _ _ _ _ _ _ _) n = omega arith
navs_step _ n = omega arith

one_more_if : (b : Bool) (n : ℕ) → (if b then n + 1 else n) ≤ n + 1
one_more_if true n = omega arith
one_more_if false n = omega arith

groups_step : (w : What) (n : ℕ) → groups_after w n ≤ n + 1
groups_step (Open _ _ group _ _ _ _ _ _ _) n = one_more_if (group == n) n
groups_step _ n = omega arith

-- a log of so many entries has at most so many navigables and groups, and twice as many documents
pub record HasFew (t : Tree) (n : ℕ) : Type 0 where
  pub len : t.len ≡ n
  pub navs : t.navs ≤ n
  pub docs : t.docs ≤ 2 * n
  pub groups : t.groups ≤ n

pub few_of : (log : List Entry) → HasFew (tree_of log) (length log)
unfolding tree_of
few_of [] = record { len = refl; navs = omega arith; docs = omega arith; groups = omega arith }
few_of (e ∷ older) =
    let few = few_of older in
    record {
      len = refl;
      navs = omega (arith, few.navs, navs_step e.what (tree_of older).navs);
      docs = omega (arith, few.docs, docs_step e.what (tree_of older).docs);
      groups = omega (arith, few.groups, groups_step e.what (tree_of older).groups);
    }
