-- Documents that are committed were loaded.
use Rattle.std.proofs.Common.{◌≡◌, ℕ, ◌+◌, ◌<◌, List, [], ◌∷◌, length, Option, Some, None, Bool, true, false, ap, sym, subst, ◌∙◌, if◌then◌else◌, arith, inl, inr}
use Rattle.std.specs.Prelude.{nat_le, ◌==◌, ◌&&◌, not}
use Rattle.std.proofs.lemmas.Bool.{false≢true}
use Rattle.tree_log.specs.declared.entry.Entry.{Entry}
use Rattle.tree_log.specs.declared.entry.Load.{Load}
use Rattle.tree_log.specs.declared.entry.What.{What}
use Rattle.tree_log.specs.declared.entry.What.TheVariants.{Open, Frame, Begin, Commit, Post, Fire, Lapse, Closing, Gone}
use Rattle.tree_log.specs.declared.entry.Target.{Target}
use Rattle.tree_log.specs.declared.entry.Cause.TheVariants as causes
use Rattle.tree_log.specs.Log.{entry_at, prefix}
use Rattle.tree_log.specs.Facts.{Birth}
use Rattle.tree_log.specs.Tree.{Tree, tree_of, tree_after, tree_of_step, home_of, origin_of, is_active, is_discarded}
use Rattle.tree_log.specs.Admits.{admits, AreAdmitted}
use Rattle.tree_log.proofs.Admitted.{born_stays, what_admitted}
use Rattle.coordinator_rules.specs.NextTask.{load_waits, load_task, is_for, delivery, is_over, task_of, first_task, next_task}
use Rattle.log_laws.specs.Homes.{is_loaded}
use Rattle.agent_laws.proofs.Logs.Entries.{entry, at_self, at_next, open_next, frame_next, begin_next}
use Rattle.agent_laws.proofs.Groups.Well.{more_docs}
use Rattle.agent_laws.proofs.Logs.Admitted.{either_is, tested_is}

-- document d is there and was loaded
pub record WasLoaded (t : Tree) (d : ℕ) : Type 0 where
  pub there : d < t.docs
  pub was_loaded : is_loaded t d ≡ true

pub loaded_later : (t : Tree) (e : Entry) (d : ℕ) → admits t e ≡ true → WasLoaded t d → WasLoaded (tree_after t e) d
loaded_later t e d h l = record { there = omega (arith, l.there, more_docs t e); was_loaded = ap (λ (b : Birth). b.loaded) (born_stays t e d h l.there) ∙ l.was_loaded }

-- LOADS

abbrev pub IsLoadLoaded : Tree → Option Load → Type 0
IsLoadLoaded t None = Unit {0}
IsLoadLoaded t (Some load) = WasLoaded t load.doc

abbrev pub HasLoaded : Tree → What → Type 0
HasLoaded t (Open _ _ _ _ _ _ _ _ _ load) = IsLoadLoaded t load
HasLoaded t (Frame _ _ _ _ _ _ load) = IsLoadLoaded t load
HasLoaded t (Begin _ load) = WasLoaded t load.doc
HasLoaded t w = Unit {0}

abbrev AllLoaded : Tree → List Entry → Type 0
AllLoaded t [] = Unit {0}
AllLoaded t (e ∷ older) = HasLoaded t e.what × AllLoaded t older

load_later : (t : Tree) (e : Entry) (load : Option Load) → admits t e ≡ true → IsLoadLoaded t load → IsLoadLoaded (tree_after t e) load
load_later t e None h l = tt
load_later t e (Some load) h l = loaded_later t e load.doc h l

has_later : (t : Tree) (e : Entry) (w : What) → admits t e ≡ true → HasLoaded t w → HasLoaded (tree_after t e) w
has_later t e (Open _ _ _ _ _ _ _ _ _ load) h l = load_later t e load h l
has_later t e (Frame _ _ _ _ _ _ load) h l = load_later t e load h l
has_later t e (Begin _ load) h l = loaded_later t e load.doc h l
has_later t e w h l = tt

all_later : (t : Tree) (e : Entry) (log : List Entry) → admits t e ≡ true → AllLoaded t log → AllLoaded (tree_after t e) log
all_later t e [] h l = tt
all_later t e (x ∷ log) h l = (has_later t e x.what h l.0, all_later t e log h l.1)

-- the load of an entry that is there now
pub loads_now : (t : Tree) (by actor : Option ℕ) (w : What) → admits t (entry by actor w) ≡ true → HasLoaded (tree_after t (entry by actor w)) w
unfolding tree_after
loads_now t by actor (Open nav doc group home origin name opener flags navigator None) h = tt
loads_now t by actor (Open nav doc group home origin name opener flags navigator (Some load)) h =
    let next = open_next t by actor nav doc group home origin name opener flags navigator (Some load) (what_admitted t (entry by actor (Open nav doc group home origin name opener flags navigator (Some load))) h) in
    let doc_is : doc ≡ t.docs = next.new_doc in
    let load_is : load.doc ≡ t.docs + 1 = next.new_load in
    record { there = omega arith; was_loaded = rw (load_is, doc_is) (ap (λ (b : Birth). b.loaded) (at_next t.docs (record { nav = nav; origin = origin; home = home; loaded = false }) (record { nav = nav; origin = load.origin; home = load.home; loaded = true }) (t.doc (t.docs + 1)).born)) }
loads_now t by actor (Frame nav doc home origin name flags None) h = tt
loads_now t by actor (Frame nav doc home origin name flags (Some load)) h =
    let next = frame_next t by actor nav doc home origin name flags (Some load) (what_admitted t (entry by actor (Frame nav doc home origin name flags (Some load))) h) in
    let doc_is : doc ≡ t.docs = next.new_doc in
    let load_is : load.doc ≡ t.docs + 1 = next.new_load in
    record { there = omega arith; was_loaded = rw (load_is, doc_is) (ap (λ (b : Birth). b.loaded) (at_next t.docs (record { nav = nav; origin = origin; home = home; loaded = false }) (record { nav = nav; origin = load.origin; home = load.home; loaded = true }) (t.doc (t.docs + 1)).born)) }
loads_now t by actor (Begin nav load) h =
    let next = begin_next t by actor nav load (what_admitted t (entry by actor (Begin nav load)) h) in
    let load_is : load.doc ≡ t.docs = next.1 in
    record { there = omega arith; was_loaded = ap (λ (b : Birth). b.loaded) (at_self load.doc (record { nav = nav; origin = load.origin; home = load.home; loaded = true }) (t.doc load.doc).born) }
loads_now t by actor w h = tt

loads_loaded : (log : List Entry) → AreAdmitted log → AllLoaded (tree_of log) log
loads_loaded [] all = tt
loads_loaded (e ∷ older) all =
    let rest : AllLoaded (tree_after (tree_of older) e) older = all_later (tree_of older) e older all.0 (loads_loaded older all.1) in
    subst (λ (t : Tree). AllLoaded t (e ∷ older)) (sym (tree_of_step e older)) (loads_now (tree_of older) e.by e.actor e.what all.0, rest)

-- COMMITS

-- a committed document was loaded
abbrev pub IsCommitLoaded : Tree → What → Type 0
IsCommitLoaded t (Commit _ doc _) = WasLoaded t doc
IsCommitLoaded t w = Unit {0}

abbrev pub CommitsLoaded : Tree → List Entry → Type 0
CommitsLoaded t [] = Unit {0}
CommitsLoaded t (e ∷ older) = IsCommitLoaded t e.what × CommitsLoaded t older

commit_later : (t : Tree) (e : Entry) (w : What) → admits t e ≡ true → IsCommitLoaded t w → IsCommitLoaded (tree_after t e) w
commit_later t e (Commit _ doc _) h l = loaded_later t e doc h l
commit_later t e w h l = tt

pub commits_later : (t : Tree) (e : Entry) (log : List Entry) → admits t e ≡ true → CommitsLoaded t log → CommitsLoaded (tree_after t e) log
commits_later t e [] h l = tt
commits_later t e (x ∷ log) h l = (commit_later t e x.what h l.0, commits_later t e log h l.1)

-- a next task commits a document that was loaded
load_task_loaded : (t : Tree) (r place nav : ℕ) (load : Option Load) (w : What) → IsLoadLoaded t load → load_task t r place nav load ≡ Some w → IsCommitLoaded t w
load_task_loaded t r place nav None w l h = absurd cc
load_task_loaded t r place nav (Some load) w l h = subst (IsCommitLoaded t) (tested_is (load_waits t r nav load) (Commit nav load.doc place) w h).1 l

delivery_loaded : (t : Tree) (place to : ℕ) (target : Target) → IsCommitLoaded t (delivery t place to target)
delivery_loaded t place to target = by_tests (not (is_active t to)) (is_for target (origin_of t to))
  where
    by_tests : (a b : Bool) → IsCommitLoaded t (if a then Lapse to place causes.Inactive else if b then Fire to place else Lapse to place causes.Origin)
    by_tests true b = tt
    by_tests false true = tt
    by_tests false false = tt

task_of_loaded : (t : Tree) (over : ℕ → ℕ → Bool) (r place : ℕ) (v w : What) → HasLoaded t v → task_of t over r place v ≡ Some w → IsCommitLoaded t w
task_of_loaded t over r place (Open nav _ _ _ _ _ _ _ _ load) w l h = load_task_loaded t r place nav load w l h
task_of_loaded t over r place (Frame nav _ _ _ _ _ load) w l h = load_task_loaded t r place nav load w l h
task_of_loaded t over r place (Begin nav load) w l h = load_task_loaded t r place nav (Some load) w l h
task_of_loaded t over r place (Post to _ _ target _) w l h =
    subst (IsCommitLoaded t) (tested_is (home_of t to == r && not (over to place)) (delivery t place to target) w h).1 (delivery_loaded t place to target)
task_of_loaded t over r place (Closing nav) w l h = subst (IsCommitLoaded t) (tested_is (home_of t (t.nav nav).active == r && not (is_discarded t nav)) (Gone nav) w h).1 tt
task_of_loaded t over r place v w l h = absurd cc

first_task_loaded : (t : Tree) (over : ℕ → ℕ → Bool) (r : ℕ) (log : List Entry) (w : What) → AllLoaded t log → first_task t over r log ≡ Some w → IsCommitLoaded t w
first_task_loaded t over r [] w l h = absurd cc
first_task_loaded t over r (e ∷ older) w l h =
    elim (either_is (first_task t over r older) (task_of t over r (length older) e.what) w h) as (λ _. IsCommitLoaded t w) [
      | inl p ↦ first_task_loaded t over r older w l.1 p
      | inr p ↦ task_of_loaded t over r (length older) e.what w l.0 p
    ]

pub next_task_loaded : (log : List Entry) (r : ℕ) (w : What) → AreAdmitted log → next_task log r ≡ Some w → IsCommitLoaded (tree_of log) w
unfolding next_task
next_task_loaded log r w all h = first_task_loaded (tree_of log) (is_over log) r log w (loads_loaded log all) h

-- an entry that a document acts in commits none
pub acted_commits_none : (t s : Tree) (by : Option ℕ) (a : ℕ) (w : What) → admits t (entry by (Some a) w) ≡ true → IsCommitLoaded s w
acted_commits_none t s None a (Commit nav doc begin) h = absurd (false≢true (what_admitted t (entry None (Some a) (Commit nav doc begin)) h))
acted_commits_none t s (Some r) a (Commit nav doc begin) h = absurd (false≢true (what_admitted t (entry (Some r) (Some a) (Commit nav doc begin)) h))
acted_commits_none t s by a w h = tt

-- THE ENTRY AT A PLACE

pub commits_before : (t : Tree) (k : ℕ) (log : List Entry) → CommitsLoaded t log → CommitsLoaded t (prefix k log)
unfolding prefix
commits_before t k [] l = tt
commits_before t k (e ∷ older) l = by_test (nat_le k (length older)) (commits_before t k older l.1)
  where
    by_test : (b : Bool) → CommitsLoaded t (prefix k older) → CommitsLoaded t (if b then prefix k older else e ∷ older)
    by_test true h = h
    by_test false h = l

pub commit_at : (t : Tree) (log : List Entry) (place : ℕ) (e : Entry) → CommitsLoaded t log → entry_at log place ≡ Some e → IsCommitLoaded t e.what
unfolding entry_at
commit_at t [] place e l h = absurd cc
commit_at t (x ∷ older) place e l h = by_test (length older == place) h (λ later. commit_at t older place e l.1 later)
  where
    by_test : (b : Bool) → (if b then Some x else entry_at older place) ≡ Some e → (entry_at older place ≡ Some e → IsCommitLoaded t e.what) → IsCommitLoaded t e.what
    by_test true is later = let same : x ≡ e = cc in subst (λ (z : Entry). IsCommitLoaded t z.what) same l.0
    by_test false is later = later is
