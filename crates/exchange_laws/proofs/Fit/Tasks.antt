-- What is done for a task is in range.
use Rattle.std.proofs.Common.{◌≡◌, ℕ, ◌+◌, ◌<◌, ◌≤◌, ◌^◌, List, [], ◌∷◌, length, Option, Some, None, Bool, true, false, refl, subst, inl, inr, arith}
use Rattle.std.specs.Prelude.{◌&&◌, ◌==◌, not, if◌then◌else◌}
use Rattle.tree_log.specs.declared.entry.Cause.{Cause}
use Rattle.tree_log.specs.declared.entry.Cause.TheVariants as causes
use Rattle.tree_log.specs.declared.entry.Entry.{Entry}
use Rattle.tree_log.specs.declared.entry.Load.{Load}
use Rattle.tree_log.specs.declared.entry.Target.{Target}
use Rattle.tree_log.specs.declared.entry.What.{What}
use Rattle.tree_log.specs.declared.entry.What.TheVariants.{Open, Frame, Begin, Commit, Post, Fire, Lapse, Closing, Gone}
use Rattle.tree_log.specs.Tree.{Tree, tree_of, home_of, origin_of, is_active, is_discarded}
use Rattle.coordinator_rules.specs.NextTask.{load_waits, load_task, is_for, delivery, is_over, task_of, first_task, next_task}
use Rattle.agent_laws.proofs.Logs.Admitted.{either_is, tested_is, IsTask, Commits, Fires, Lapses, Closes as Gones}
use Rattle.frame_grammar.specs.Parts.{cause}
use Rattle.exchange_laws.proofs.Fit.Parts.{WhatFits}
use Rattle.exchange_laws.proofs.Fit.Named.{IsNamed, IsSmall}

-- the place that it names is below this one
abbrev pub IsPlaced : ℕ → What → Type 0
IsPlaced len (Commit nav doc begin) = begin < len
IsPlaced len (Fire doc post) = post < len
IsPlaced len (Lapse doc post c) = post < len
IsPlaced len what = Unit {0}

delivery_placed : (t : Tree) (place to : ℕ) (target : Target) (len : ℕ) → place < len → IsPlaced len (delivery t place to target)
delivery_placed t place to target len lt = by_tests (not (is_active t to)) (is_for target (origin_of t to))
  where
    by_tests : (a b : Bool) → IsPlaced len (if a then Lapse to place causes.Inactive else if b then Fire to place else Lapse to place causes.Origin)
    by_tests true b = lt
    by_tests false true = lt
    by_tests false false = lt

load_placed : (t : Tree) (r place nav : ℕ) (load : Option Load) (what : What) (len : ℕ) → place < len → load_task t r place nav load ≡ Some what → IsPlaced len what
load_placed t r place nav None what len lt h = absurd cc
load_placed t r place nav (Some load) what len lt h = subst (IsPlaced len) (tested_is (load_waits t r nav load) (Commit nav load.doc place) what h).1 lt

task_placed : (t : Tree) (over : ℕ → ℕ → Bool) (r place : ℕ) (w what : What) (len : ℕ) → place < len → task_of t over r place w ≡ Some what → IsPlaced len what
task_placed t over r place (Open nav _ _ _ _ _ _ _ _ load) what len lt h = load_placed t r place nav load what len lt h
task_placed t over r place (Frame nav _ _ _ _ _ load) what len lt h = load_placed t r place nav load what len lt h
task_placed t over r place (Begin nav load) what len lt h = load_placed t r place nav (Some load) what len lt h
task_placed t over r place (Post to _ _ target _) what len lt h =
    subst (IsPlaced len) (tested_is (home_of t to == r && not (over to place)) (delivery t place to target) what h).1 (delivery_placed t place to target len lt)
task_placed t over r place (Closing nav) what len lt h = subst (IsPlaced len) (tested_is (home_of t (t.nav nav).active == r && not (is_discarded t nav)) (Gone nav) what h).1 tt
task_placed t over r place _ what len lt h = absurd cc

first_placed : (t : Tree) (over : ℕ → ℕ → Bool) (r : ℕ) (log : List Entry) (what : What) (len : ℕ) → length log ≤ len → first_task t over r log ≡ Some what → IsPlaced len what
first_placed t over r [] what len le h = absurd cc
first_placed t over r (e ∷ older) what len le h =
    elim (either_is (first_task t over r older) (task_of t over r (length older) e.what) what h) [
      | inl p ↦ first_placed t over r older what len (omega arith) p
      | inr p ↦ task_placed t over r (length older) e.what what len (omega arith) p
    ]

pub next_placed : (log : List Entry) (r : ℕ) (what : What) → next_task log r ≡ Some what → IsPlaced (length log) what
unfolding next_task
next_placed log r what h = first_placed (tree_of log) (is_over log) r log what (length log) (omega arith) h

cause_fits : (c : Cause) → cause.Fits c
cause_fits causes.Inactive = ((omega arith, refl), refl)
cause_fits causes.Origin = ((omega arith, refl), refl)

below : (count n : ℕ) → count < 2 ^ 31 + 2 → n < count → n < 2 ^ 32
below count n few lt = omega arith

pub task_fits : (t : Tree) (len : ℕ) (w : What) → IsSmall t → len < 2 ^ 30 → IsNamed t w → IsPlaced len w → IsTask w → WhatFits w
task_fits t len w small short n at (Commits nav doc begin) = (_, (below t.navs nav (omega (arith, small.navs)) n.0, (below t.docs doc small.docs n.1, below len begin (omega arith) at)), refl)
task_fits t len w small short n at (Fires doc post) = (_, (below t.docs doc small.docs n, below len post (omega arith) at), refl)
task_fits t len w small short n at (Lapses doc post c) = (_, (below t.docs doc small.docs n, (below len post (omega arith) at, cause_fits c)), refl)
task_fits t len w small short n at (Gones nav) = (nav, below t.navs nav (omega (arith, small.navs)) n, refl)
