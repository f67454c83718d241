-- The document of a running script is one of its renderer, which has been active.
use Rattle.std.proofs.Common.{◌≡◌, ℕ, ◌<◌, ◌≤◌, List, [], ◌∷◌, ◌++◌, length, Option, Some, None, Bool, true, false, refl, sym, ap, subst, ◌∙◌, arith, inl, inr, eq-eqb}
use mathlib.Core.Logic.{◌⊎◌}
use Rattle.std.specs.Prelude.{◌&&◌, ◌||◌, ◌==◌, not, nat_le, if◌then◌else◌}
use Rattle.std.specs.Option.{option_or}
use Rattle.tree_log.specs.declared.entry.Entry.{Entry}
use Rattle.tree_log.specs.declared.entry.Load.{Load}
use Rattle.tree_log.specs.declared.entry.What.{What}
use Rattle.tree_log.specs.declared.entry.What.TheVariants.{Open, Frame, Begin, Commit, Post, Fire, Lapse, Closing, Gone}
use Rattle.tree_log.specs.declared.entry.Target.{Target}
use Rattle.tree_log.specs.declared.entry.Cause.TheVariants as causes
use Rattle.tree_log.specs.Log.{prefix}
use Rattle.tree_log.specs.Facts.{shows, Birth}
use Rattle.tree_log.specs.Tree.{Tree, tree_of, tree_after, tree_of_step, is, home_of, origin_of, is_discarded, is_active}
use Rattle.tree_log.specs.Admits.{admits, AreAdmitted}
use Rattle.tree_log.proofs.Admitted.{both, eq_of, docs_grow, docs_at_step, born_stays, StandsFor, StandsIfAny, TaskStands, AllStand, tasks_stand}
use Rattle.agent_terms.specs.declared.request.Request.{Request}
use Rattle.agent_terms.specs.declared.request.Request.TheVariants as ask
use Rattle.coordinator_rules.specs.NextTask.{load_waits, load_task, is_for, delivery, task_of, first_task, next_task, is_over, task_entry}
use Rattle.coordinator_rules.specs.Decision.{Rules, asker_of, home_if_active, asked_decision, exchange}
use Rattle.single_agent.specs.Mine.{IsMine}

or_right : (a b : Bool) → b ≡ true → (a || b) ≡ true
or_right true b h = refl
or_right false b h = h

been_later : (t : Tree) (e : Entry) (d : ℕ) → (t.doc d).been_active ≡ true → ((tree_after t e).doc d).been_active ≡ true
unfolding tree_after
been_later t e d h = or_right (shows d e.what) (t.doc d).been_active h

-- it stays so
pub mine_later : (r : ℕ) (t : Tree) (e : Entry) (d : ℕ) → admits t e ≡ true → IsMine r t d → IsMine r (tree_after t e) d
mine_later r t e d h m =
    let more : t.docs ≤ (tree_after t e).docs = subst (λ n. t.docs ≤ n) (sym (docs_at_step t e)) (docs_grow e.what t.docs) in
    record {
      there = omega (arith, m.there);
      been = been_later t e d m.been;
      home = ap (λ (b : Birth). b.home) (born_stays t e d h m.there) ∙ m.home;
    }

mine_step : (r : ℕ) (e : Entry) (older : List Entry) (d : ℕ) → admits (tree_of older) e ≡ true → IsMine r (tree_of older) d → IsMine r (tree_of (e ∷ older)) d
mine_step r e older d h m = subst (λ (t : Tree). IsMine r t d) (sym (tree_of_step e older)) (mine_later r (tree_of older) e d h m)

pub mine_grown : (r : ℕ) (more log : List Entry) (d : ℕ) → AreAdmitted (more ++ log) → IsMine r (tree_of log) d → IsMine r (tree_of (more ++ log)) d
mine_grown r [] log d h m = m
mine_grown r (e ∷ more) log d h m = mine_step r e (more ++ log) d h.0 (mine_grown r more log d h.1 m)

-- what was so at an earlier length is so now
pub mine_now : (r k : ℕ) (log : List Entry) (d : ℕ) → AreAdmitted log → IsMine r (tree_of (prefix k log)) d → IsMine r (tree_of log) d
unfolding prefix
mine_now r k [] d h m = m
mine_now r k (e ∷ older) d h m = by_length (nat_le k (length older)) m (λ n. mine_now r k older d h.1 n) where
  by_length : (b : Bool) → IsMine r (tree_of (if b then prefix k older else e ∷ older)) d → (IsMine r (tree_of (prefix k older)) d → IsMine r (tree_of older) d) → IsMine r (tree_of (e ∷ older)) d
  by_length true n rest = mine_step r e older d h.0 (rest n)
  by_length false n rest = n

-- A TASK

-- the document of a commit is there, and homed at the renderer that takes the task
IsHomedTask : Tree → ℕ → What → Type 0
IsHomedTask t r (Commit nav doc begin) = (doc < t.docs) × (home_of t doc ≡ r)
IsHomedTask t r _ = Unit {0}

waiting_homed : (t : Tree) (r place nav : ℕ) (load : Load) (what : What) (b : Bool) → load_waits t r nav load ≡ b → StandsFor t nav load
    → (if b then Some (Commit nav load.doc place) else None) ≡ Some what → IsHomedTask t r what
unfolding IsHomedTask
waiting_homed t r place nav load what false e s h = absurd cc
waiting_homed t r place nav load what true e s h =
    let same : Commit nav load.doc place ≡ what = cc in
    let first = both (load.home == r && is (t.nav nav).last_load load.doc && not (t.doc load.doc).been_active) (not (is_discarded t nav)) e in
    let second = both (load.home == r && is (t.nav nav).last_load load.doc) (not (t.doc load.doc).been_active) first.0 in
    let third = both (load.home == r) (is (t.nav nav).last_load load.doc) second.0 in
    subst (IsHomedTask t r) same (s.doc, s.home ∙ eq_of load.home r third.0)

load_homed : (t : Tree) (r place nav : ℕ) (load : Option Load) (what : What) → StandsIfAny t nav load → load_task t r place nav load ≡ Some what → IsHomedTask t r what
load_homed t r place nav None what s h = absurd cc
load_homed t r place nav (Some load) what s h = waiting_homed t r place nav load what (load_waits t r nav load) refl s h

delivered_homed : (t : Tree) (r place to : ℕ) (quiet fits : Bool) → IsHomedTask t r (if quiet then Lapse to place causes.Inactive else if fits then Fire to place else Lapse to place causes.Origin)
unfolding IsHomedTask
delivered_homed t r place to true fits = tt
delivered_homed t r place to false true = tt
delivered_homed t r place to false false = tt

message_homed : (t : Tree) (r place to : ℕ) (target : Target) (b : Bool) (what : What) → (if b then Some (delivery t place to target) else None) ≡ Some what → IsHomedTask t r what
message_homed t r place to target false what h = absurd cc
message_homed t r place to target true what h =
    let same : delivery t place to target ≡ what = cc in
    subst (IsHomedTask t r) same (delivered_homed t r place to (not (is_active t to)) (is_for target (origin_of t to)))

closing_homed : (t : Tree) (r nav : ℕ) (b : Bool) (what : What) → (if b then Some (Gone nav) else None) ≡ Some what → IsHomedTask t r what
unfolding IsHomedTask
closing_homed t r nav false what h = absurd cc
closing_homed t r nav true what h = let same : Gone nav ≡ what = cc in subst (IsHomedTask t r) same tt

task_of_homed : (t : Tree) (over : ℕ → ℕ → Bool) (r place : ℕ) (w what : What) → TaskStands t w → task_of t over r place w ≡ Some what → IsHomedTask t r what
task_of_homed t over r place (Open nav _ _ _ _ _ _ _ _ load) what s h = load_homed t r place nav load what s h
task_of_homed t over r place (Frame nav _ _ _ _ _ load) what s h = load_homed t r place nav load what s h
task_of_homed t over r place (Begin nav load) what s h = load_homed t r place nav (Some load) what s h
task_of_homed t over r place (Post to _ _ target _) what s h = message_homed t r place to target (home_of t to == r && not (over to place)) what h
task_of_homed t over r place (Closing nav) what s h = closing_homed t r nav (home_of t (t.nav nav).active == r && not (is_discarded t nav)) what h
task_of_homed t over r place _ what s h = absurd cc

either_is : (a b : Option What) (what : What) → option_or a b ≡ Some what → (a ≡ Some what) ⊎ (b ≡ Some what)
either_is (Some w) b what h = inl h
either_is None b what h = inr h

first_homed : (t : Tree) (over : ℕ → ℕ → Bool) (r : ℕ) (log : List Entry) (what : What) → AllStand t log → first_task t over r log ≡ Some what → IsHomedTask t r what
first_homed t over r [] what s h = absurd cc
first_homed t over r (e ∷ older) what s h =
    elim (either_is (first_task t over r older) (task_of t over r (length older) e.what) what h) [
      | inl p ↦ first_homed t over r older what s.1 p
      | inr p ↦ task_of_homed t over r (length older) e.what what s.0 p
    ]

committed_mine : (r : ℕ) (t : Tree) (nav doc begin : ℕ) → doc < t.docs → home_of t doc ≡ r → IsMine r (tree_after t (task_entry r (Commit nav doc begin))) doc
unfolding tree_after
committed_mine r t nav doc begin there home = record { there = there; been = rw (eq-eqb doc doc refl) refl; home = home }

homed_mine : (r : ℕ) (t : Tree) (nav doc begin : ℕ) → IsHomedTask t r (Commit nav doc begin) → IsMine r (tree_after t (task_entry r (Commit nav doc begin))) doc
unfolding IsHomedTask
homed_mine r t nav doc begin h = committed_mine r t nav doc begin h.0 h.1

-- the document of a commit that is the next task
pub commit_mine : (r : ℕ) (log : List Entry) (nav doc begin : ℕ) → AreAdmitted log → next_task log r ≡ Some (Commit nav doc begin) → IsMine r (tree_of (task_entry r (Commit nav doc begin) ∷ log)) doc
unfolding next_task
commit_mine r log nav doc begin all next =
    subst (λ (t : Tree). IsMine r t doc) (sym (tree_of_step (task_entry r (Commit nav doc begin)) log))
    (homed_mine r (tree_of log) nav doc begin (first_homed (tree_of log) (is_over log) r log (Commit nav doc begin) (tasks_stand log all) next))

-- A REQUEST

pub yours_of : (r : ℕ) (t : Tree) (d : ℕ) → IsMine r t d → is (home_if_active t d) r ≡ true
yours_of r t d m = rw (m.been) (eq-eqb (home_of t d) r m.home)

abbrev pub IsNoTask : Request → Type 0
IsNoTask ask.Next = ⊥
IsNoTask ask.More = ⊥
IsNoTask q = Unit {0}

if_true : {A : Type 0} (b : Bool) (x y : A) → b ≡ true → (if b then x else y) ≡ x
if_true true x y h = refl
if_true false x y h = absurd cc

-- what is asked for such a document is decided
pub exchange_asked : (rules : Rules) (log : List Entry) (r : ℕ) (q : Request) → IsNoTask q → is (home_if_active (tree_of log) (asker_of q)) r ≡ true → exchange rules log r q ≡ asked_decision rules log r q
unfolding exchange
exchange_asked rules log r ask.Next n h = absurd n
exchange_asked rules log r ask.More n h = absurd n
exchange_asked rules log r q n h = if_true (is (home_if_active (tree_of log) (asker_of q)) r) (asked_decision rules log r q) _ h
