-- The entries that the start windows and exchanges make can follow the log.
use Rattle.std.proofs.Common.{◌≡◌, ℕ, ◌+◌, ◌<◌, ◌^◌, List, [], ◌∷◌, length, Option, Some, None, Bool, true, false, refl, sym, ap, subst, ◌∙◌, arith, inl, inr, eq-eqb}
use mathlib.Core.Logic.{◌⊎◌}
use Rattle.std.specs.Prelude.{◌&&◌, ◌||◌, ◌==◌, not, nat_lt, is_none, IsTrue, if◌then◌else◌}
use Rattle.origin_core.specs.Origin.{page_origin}
use Rattle.std.proofs.lemmas.Bool.Decides.{nat_tests}
use Rattle.std.specs.Option.{option_or}
use Rattle.tree_log.specs.declared.entry.Entry.{Entry}
use Rattle.tree_log.specs.declared.entry.Load.{Load}
use Rattle.tree_log.specs.declared.entry.What.{What}
use Rattle.tree_log.specs.declared.entry.Target.{Target}
use Rattle.tree_log.specs.declared.entry.Cause.TheVariants as causes
use Rattle.tree_log.specs.declared.entry.What.TheVariants.{Open, Frame, Drop, Begin, Commit, Post, Fire, Lapse, Closing, Gone, Sync}
use Rattle.tree_log.specs.Log.{is}
use Rattle.tree_log.specs.Tree.{Tree, tree_of, nav_of, home_of, origin_of, is_discarded, is_active}
use Rattle.tree_log.specs.Admits.{has, is_next, is_next_load, admits_what, admits, AreAdmitted}
use Rattle.tree_log.proofs.Admitted.{both, StandsFor, StandsIfAny, TaskStands, AllStand, tasks_stand, few_of}
use Rattle.agent_terms.specs.declared.session.Session.{Session}
use Rattle.single_agent.specs.Session.{starts_of, started, start_entry}
use Rattle.coordinator_rules.specs.NextTask.{load_waits, load_task, is_for, delivery, task_of, first_task, next_task, is_over, task_entry}
use Rattle.coordinator_rules.specs.Decision.{Rules, rules_of, by, frame_entry, frame_load, load_for, group_in}

lt_true : (a b : ℕ) → a < b → nat_lt a b ≡ true
lt_true a b h = grind (arith, nat_tests)

not_true : (b : Bool) → not b ≡ true → b ≡ false
not_true true h = absurd cc
not_true false h = refl

-- A TASK

commit_admitted : (t : Tree) (r place nav : ℕ) (load : Load) → StandsFor t nav load → (t.doc load.doc).been_active ≡ false → admits_what t (Some r) None (Commit nav load.doc place) ≡ true
commit_admitted t r place nav load s never =
    let there = lt_true nav t.navs s.nav_there in
    let made = lt_true load.doc t.docs s.doc in
    let same = eq-eqb (nav_of t load.doc) nav s.made_for in
    rw (there, made, same, never) refl

waiting_admitted : (t : Tree) (r place nav : ℕ) (load : Load) (what : What) (b : Bool) → load_waits t r nav load ≡ b → StandsFor t nav load
    → (if b then Some (Commit nav load.doc place) else None) ≡ Some what → admits_what t (Some r) None what ≡ true
waiting_admitted t r place nav load what false e s h = absurd cc
waiting_admitted t r place nav load what true e s h =
    let same : Commit nav load.doc place ≡ what = cc in
    let first = both (load.home == r && is (t.nav nav).last_load load.doc && not (t.doc load.doc).been_active) (not (is_discarded t nav)) e in
    let second = both (load.home == r && is (t.nav nav).last_load load.doc) (not (t.doc load.doc).been_active) first.0 in
    subst (λ (w : What). admits_what t (Some r) None w ≡ true) same (commit_admitted t r place nav load s (not_true _ second.1))

load_admitted : (t : Tree) (r place nav : ℕ) (load : Option Load) (what : What) → StandsIfAny t nav load → load_task t r place nav load ≡ Some what → admits_what t (Some r) None what ≡ true
load_admitted t r place nav None what s h = absurd cc
load_admitted t r place nav (Some load) what s h = waiting_admitted t r place nav load what (load_waits t r nav load) refl s h

-- a message fires or lapses at a document that is there
delivered_admitted : (t : Tree) (r place to : ℕ) (target : Target) (quiet fits : Bool) → to < t.docs
    → admits_what t (Some r) None (if quiet then Lapse to place causes.Inactive else if fits then Fire to place else Lapse to place causes.Origin) ≡ true
delivered_admitted t r place to target true fits s = rw (lt_true to t.docs s) refl
delivered_admitted t r place to target false true s = rw (lt_true to t.docs s) refl
delivered_admitted t r place to target false false s = rw (lt_true to t.docs s) refl

message_admitted : (t : Tree) (r place to : ℕ) (target : Target) (b : Bool) (what : What) → to < t.docs
    → (if b then Some (delivery t place to target) else None) ≡ Some what → admits_what t (Some r) None what ≡ true
message_admitted t r place to target false what s h = absurd cc
message_admitted t r place to target true what s h =
    let same : delivery t place to target ≡ what = cc in
    subst (λ (w : What). admits_what t (Some r) None w ≡ true) same (delivered_admitted t r place to target (not (is_active t to)) (is_for target (origin_of t to)) s)

closing_admitted : (t : Tree) (r nav : ℕ) (b : Bool) (what : What) → nav < t.navs → (if b then Some (Gone nav) else None) ≡ Some what → admits_what t (Some r) None what ≡ true
closing_admitted t r nav false what s h = absurd cc
closing_admitted t r nav true what s h =
    let same : Gone nav ≡ what = cc in
    subst (λ (w : What). admits_what t (Some r) None w ≡ true) same (rw (lt_true nav t.navs s) refl)

task_of_admitted : (t : Tree) (over : ℕ → ℕ → Bool) (r place : ℕ) (w what : What) → TaskStands t w → task_of t over r place w ≡ Some what → admits_what t (Some r) None what ≡ true
task_of_admitted t over r place (Open nav _ _ _ _ _ _ _ _ load) what s h = load_admitted t r place nav load what s h
task_of_admitted t over r place (Frame nav _ _ _ _ _ load) what s h = load_admitted t r place nav load what s h
task_of_admitted t over r place (Begin nav load) what s h = load_admitted t r place nav (Some load) what s h
task_of_admitted t over r place (Post to _ _ target _) what s h = message_admitted t r place to target (home_of t to == r && not (over to place)) what s h
task_of_admitted t over r place (Closing nav) what s h = closing_admitted t r nav (home_of t (t.nav nav).active == r && not (is_discarded t nav)) what s h
task_of_admitted t over r place _ what s h = absurd cc

either_is : (a b : Option What) (what : What) → option_or a b ≡ Some what → (a ≡ Some what) ⊎ (b ≡ Some what)
either_is (Some w) b what h = inl h
either_is None b what h = inr h

first_admitted : (t : Tree) (over : ℕ → ℕ → Bool) (r : ℕ) (log : List Entry) (what : What) → AllStand t log → first_task t over r log ≡ Some what → admits_what t (Some r) None what ≡ true
first_admitted t over r [] what s h = absurd cc
first_admitted t over r (e ∷ older) what s h =
    elim (either_is (first_task t over r older) (task_of t over r (length older) e.what) what h) [
      | inl p ↦ first_admitted t over r older what s.1 p
      | inr p ↦ task_of_admitted t over r (length older) e.what what s.0 p
    ]

-- the entry of a next task can follow the log
pub task_admitted : (log : List Entry) (r : ℕ) (what : What) → AreAdmitted log → length log < 2 ^ 30 → next_task log r ≡ Some what → IsTrue (admits (tree_of log) (task_entry r what))
unfolding next_task admits
task_admitted log r what all few h =
    let len = (few_of log).len in
    rw (lt_true (tree_of log).len 4294967295 (omega arith), first_admitted (tree_of log) (is_over log) r log what (tasks_stand log all) h) refl

-- THE START WINDOWS

or_true : (a b : Bool) → b ≡ true → (a || b) ≡ true
or_true true b h = refl
or_true false b h = h

next_true : (n : ℕ) → n < 4294967295 → is_next n n ≡ true
next_true n h = rw (eq-eqb n n refl, lt_true n 4294967295 h) refl

pub start_admitted : (rules : Rules) (log : List Entry) (url : List ℕ) → length log < 2 ^ 30 → admits (tree_of log) (start_entry rules (tree_of log) url) ≡ true
unfolding admits
start_admitted rules log url h =
    let few = few_of log in
    let t = tree_of log in
    rw (
      lt_true t.len 4294967295 (omega (arith, few.len)),
      next_true t.navs (omega (arith, few.navs)),
      next_true t.docs (omega (arith, few.docs)),
      or_true (has t.groups t.groups) (is_next t.groups t.groups) (next_true t.groups (omega (arith, few.groups))),
      next_true (t.docs + 1) (omega (arith, few.docs)),
    ) refl

pub started_admitted : (rules : Rules) (log : List Entry) (urls : List (List ℕ)) → AreAdmitted log → length log + length urls < 2 ^ 30 → AreAdmitted (started rules log urls)
started_admitted rules log [] all few = all
started_admitted rules log (url ∷ urls) all few =
    started_admitted rules (start_entry rules (tree_of log) url ∷ log) urls (start_admitted rules log url (omega arith), all) (omega arith)

started_length : (rules : Rules) (log : List Entry) (urls : List (List ℕ)) → length (started rules log urls) ≡ length log + length urls
started_length rules log [] = omega arith
started_length rules log (url ∷ urls) = started_length rules (start_entry rules (tree_of log) url ∷ log) urls ∙ (omega arith)

pub starts_length : (s : Session) → length (starts_of s) ≡ length s.start
unfolding starts_of
starts_length s = started_length (rules_of s) [] s.start ∙ (omega arith)

starts_admitted : (s : Session) → length (starts_of s) < 2 ^ 30 → AreAdmitted (starts_of s)
unfolding starts_of
starts_admitted s few = started_admitted (rules_of s) [] s.start tt (let e = started_length (rules_of s) [] s.start in omega arith)

-- WHAT A DOCUMENT ASKS FOR

module _ (log : List Entry) (r asker : ℕ) (few : length log < 2 ^ 30) (there : asker < (tree_of log).docs) (active : is_active (tree_of log) asker ≡ true) where
  is_its : (nat_lt asker (tree_of log).docs && is_active (tree_of log) asker) ≡ true
  is_its = rw (lt_true asker (tree_of log).docs there, active) refl

  short : nat_lt (tree_of log).len 4294967295 ≡ true
  short = let e = (few_of log).len in lt_true (tree_of log).len 4294967295 (omega arith)

  pub sync_admitted : admits (tree_of log) (by r asker Sync) ≡ true
  unfolding admits
  sync_admitted = rw (short, is_its) refl

  pub drop_admitted : (nav : ℕ) → nav < (tree_of log).navs → admits (tree_of log) (by r asker (Drop nav)) ≡ true
  unfolding admits
  drop_admitted nav h = rw (short, is_its, lt_true nav (tree_of log).navs h) refl

  next_load : (load : Option Load) → ((l : Load) → load ≡ Some l → l.doc ≡ (tree_of log).docs + 1) → is_next_load ((tree_of log).docs + 1) load ≡ true
  next_load None h = refl
  next_load (Some l) h =
      let e : l.doc ≡ (tree_of log).docs + 1 = h l refl in
      let docs = (few_of log).docs in
      subst (λ d. is_next ((tree_of log).docs + 1) d ≡ true) (sym e) (next_true ((tree_of log).docs + 1) (omega arith))

  frame_numbers : (rules : Rules) (flags : ℕ) (url : Option (List ℕ)) (l : Load) → frame_load rules (tree_of log) asker flags url ≡ Some l → l.doc ≡ (tree_of log).docs + 1
  frame_numbers rules flags None l h = absurd cc
  frame_numbers rules flags (Some url) l h = loaded (is_none (page_origin url)) h where
    loaded : (b : Bool) → (if b then None else Some (load_for rules (tree_of log) (group_in (tree_of log) (nav_of (tree_of log) asker)) flags ((tree_of log).docs + 1) asker url)) ≡ Some l → l.doc ≡ (tree_of log).docs + 1
    loaded true e = absurd cc
    loaded false e = let same : load_for rules (tree_of log) (group_in (tree_of log) (nav_of (tree_of log) asker)) flags ((tree_of log).docs + 1) asker url ≡ l = cc in ap (λ (x : Load). x.doc) (sym same)

  pub frame_admitted : (rules : Rules) (name : List ℕ) (flags : ℕ) (url : Option (List ℕ)) → admits (tree_of log) (by r asker (frame_entry rules (tree_of log) asker name flags url)) ≡ true
  unfolding admits
  frame_admitted rules name flags url =
      let few' = few_of log in
      rw (
        short,
        is_its,
        next_true (tree_of log).navs (omega (arith, few'.navs)),
        next_true (tree_of log).docs (omega (arith, few'.docs)),
        next_load (frame_load rules (tree_of log) asker flags url) (frame_numbers rules flags url),
      ) refl
