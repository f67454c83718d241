-- Each next task is of a kind that has a name.
use Rattle.std.proofs.Common.{◌≡◌, ℕ, List, [], ◌∷◌, length, Option, Some, None, Bool, true, false, subst, ◌⊎◌, inl, inr}
use Rattle.std.specs.Prelude.{if◌then◌else◌}
use Rattle.std.specs.Option.{option_or}
use Rattle.tree_log.specs.declared.entry.Entry.{Entry}
use Rattle.tree_log.specs.declared.entry.Load.{Load}
use Rattle.tree_log.specs.declared.entry.What.{What}
use Rattle.tree_log.specs.declared.entry.What.TheVariants.{Open, Frame, Begin, Commit, Post, Fire, Lapse, Closing, Gone}
use Rattle.tree_log.specs.declared.entry.Cause.TheVariants as causes
use Rattle.tree_log.specs.Tree.{Tree, tree_of, home_of, origin_of, is_active, is_discarded}
use Rattle.std.specs.Prelude.{not, ◌&&◌, ◌==◌}
use Rattle.coordinator_rules.specs.NextTask.{load_waits, load_task, is_for, delivery, is_over, task_of, first_task, next_task}
use Rattle.web_message.specs.Tasks.{task_by}

kind : (b : Bool) (w what : What) → (task_by w ≡ None → ⊥) → (if b then Some w else None) ≡ Some what → task_by what ≡ None → ⊥
kind true w what some h e = let same : what ≡ w = cc in some (subst (λ x. task_by x ≡ None) same e)
kind false w what some h e = absurd cc

delivered : (a b : Bool) (to place : ℕ) → task_by (if a then Lapse to place causes.Inactive else if b then Fire to place else Lapse to place causes.Origin) ≡ None → ⊥
delivered true b to place e = absurd cc
delivered false true to place e = absurd cc
delivered false false to place e = absurd cc

module _ (t : Tree) (over : ℕ → ℕ → Bool) (r : ℕ) where
  load_kind : (place nav : ℕ) (load : Option Load) (what : What) → load_task t r place nav load ≡ Some what → task_by what ≡ None → ⊥
  load_kind place nav None what h e = absurd cc
  load_kind place nav (Some load) what h e = kind (load_waits t r nav load) (Commit nav load.doc place) what (λ n. absurd cc) h e

  task_kind : (place : ℕ) (w what : What) → task_of t over r place w ≡ Some what → task_by what ≡ None → ⊥
  task_kind place (Open nav _ _ _ _ _ _ _ _ load) what h e = load_kind place nav load what h e
  task_kind place (Frame nav _ _ _ _ _ load) what h e = load_kind place nav load what h e
  task_kind place (Begin nav load) what h e = load_kind place nav (Some load) what h e
  task_kind place (Post to _ _ target _) what h e =
      kind (home_of t to == r && not (over to place)) (delivery t place to target) what (delivered (not (is_active t to)) (is_for target (origin_of t to)) to place) h e
  task_kind place (Closing nav) what h e = kind (home_of t (t.nav nav).active == r && not (is_discarded t nav)) (Gone nav) what (λ n. absurd cc) h e
  task_kind place _ what h e = absurd cc

  either_is : (a b : Option What) (what : What) → option_or a b ≡ Some what → (a ≡ Some what) ⊎ (b ≡ Some what)
  either_is (Some w) b what h = inl h
  either_is None b what h = inr h

  first_kind : (log : List Entry) (what : What) → first_task t over r log ≡ Some what → task_by what ≡ None → ⊥
  first_kind [] what h e = absurd cc
  first_kind (x ∷ older) what h e = elim (either_is (first_task t over r older) (task_of t over r (length older) x.what) what h) [
    | inl p ↦ first_kind older what p e
    | inr p ↦ task_kind (length older) x.what what p e
  ]

pub next_kind : (log : List Entry) (r : ℕ) (what : What) → next_task log r ≡ Some what → task_by what ≡ None → ⊥
unfolding next_task
next_kind log r what h e = first_kind (tree_of log) (is_over log) r log what h e
