-- The first task of a log, by places that have each task.
use Rattle.std.proofs.Common.{◌≡◌, ℕ, ◌<◌, ◌≤◌, List, [], ◌∷◌, length, Option, Some, None, Bool, true, false, refl, sym, ap, subst, ◌∙◌, arith, inl, inr, eq-eqb}
use Rattle.std.specs.Prelude.{if◌then◌else◌}
use Rattle.std.specs.Option.{option_or}
use Rattle.std.proofs.lemmas.Bool.{eqb-true}
use Rattle.std.proofs.lemmas.Bool.Decides.{eqb_tells}
use Rattle.tree_log.specs.declared.entry.Entry.{Entry}
use Rattle.tree_log.specs.declared.entry.What.{What}
use Rattle.tree_log.specs.declared.entry.What.TheVariants.{Closing}
use Rattle.tree_log.specs.Facts.{says_closing}
use Rattle.tree_log.specs.Log.{entry_at}
use Rattle.tree_log.specs.Tree.{Tree, tree_of}
use Rattle.tree_log.proofs.Places.{entry_below, entry_newest}
use Rattle.coordinator_rules.specs.NextTask.{is_over, task_of, first_task, next_task}
use Rattle.task_index.specs.Fed.{first_closing, Counts, task_of_entry, task_at, HasTasks}

-- THE FIRST TASK

-- what stood at a place stands there when the log has grown
pub entry_older : (e : Entry) (older : List Entry) (k : ℕ) (x : Entry) → entry_at older k ≡ Some x → entry_at (e ∷ older) k ≡ Some x
unfolding entry_at
entry_older e older k x h = elim (eqb_tells (length older) k) [
  | inl p ↦ absurd (let lt = entry_below older k x h in omega (arith, p.1))
  | inr p ↦ rw (p.0) h
]

pub none_left : (t : Tree) (over : ℕ → ℕ → Bool) (r : ℕ) (log : List Entry) → ((p : ℕ) (x : Entry) → entry_at log p ≡ Some x → task_of t over r p x.what ≡ None) → first_task t over r log ≡ None
none_left t over r [] h = refl
none_left t over r (e ∷ older) h =
    ap (λ (o : Option What). option_or o (task_of t over r (length older) e.what)) (none_left t over r older (λ p x at. h p x (entry_older e older p x at)))
    ∙ h (length older) e (entry_newest e older)

pub found_first : (t : Tree) (over : ℕ → ℕ → Bool) (r : ℕ) (log : List Entry) (k : ℕ) (e : Entry) (task : What) → entry_at log k ≡ Some e → task_of t over r k e.what ≡ Some task
    → ((p : ℕ) (x : Entry) → p < k → entry_at log p ≡ Some x → task_of t over r p x.what ≡ None) → first_task t over r log ≡ Some task
unfolding entry_at
found_first t over r [] k e task at is none = absurd cc
found_first t over r (y ∷ older) k e task at is none = elim (eqb_tells (length older) k) [
  | inl p ↦
      let here : Some y ≡ Some e = rw p.0 at at in
      let same : e ≡ y = cc in
      let place : k ≡ length older = sym p.1 in
      let task_here : task_of t over r (length older) y.what ≡ Some task =
      subst (λ (n : ℕ). task_of t over r n y.what ≡ Some task) place (subst (λ (x : Entry). task_of t over r k x.what ≡ Some task) same is) in
      let none_older = none_left t over r older (λ q x there. let lt = entry_below older q x there in none q x (omega arith) (entry_older y older q x there)) in
      ap (λ (o : Option What). option_or o (task_of t over r (length older) y.what)) none_older ∙ task_here
  | inr p ↦
      let rest : entry_at older k ≡ Some e = rw p.0 at at in
      ap (λ (o : Option What). option_or o (task_of t over r (length older) y.what))
      (found_first t over r older k e task rest is (λ q x lt there. none q x lt (entry_older y older q x there)))
]

-- WINDOWS THAT WERE ASKED TO CLOSE

pub says_is : (nav : ℕ) (w : What) → says_closing nav w ≡ true → w ≡ Closing nav
says_is nav (Closing n) h = ap Closing (eqb-true n nav h)
says_is nav _ h = absurd cc

says_self : (nav : ℕ) (w : What) → w ≡ Closing nav → says_closing nav w ≡ true
says_self nav w is = subst (λ (v : What). says_closing nav v ≡ true) (sym is) (eq-eqb nav nav refl)

-- an entry that asks a navigable to close stands at a place
pub record IsClosing (log : List Entry) (nav place : ℕ) : Type 0 where
  pub entry : Entry
  pub there : entry_at log place ≡ Some entry
  pub is : entry.what ≡ Closing nav

closing_older : (e : Entry) (older : List Entry) (nav place : ℕ) → IsClosing older nav place → IsClosing (e ∷ older) nav place
closing_older e older nav place c = record { entry = c.entry; there = entry_older e older place c.entry c.there; is = c.is }

pub closing_is : (log : List Entry) (nav place : ℕ) → first_closing log nav ≡ Some place → IsClosing log nav place
closing_is [] nav place h = absurd cc
closing_is (e ∷ older) nav place h = by_older (first_closing older nav) refl h (λ first. closing_older e older nav place (closing_is older nav place first)) where
  by_says : (b : Bool) → says_closing nav e.what ≡ b → (if b then Some (length older) else None) ≡ Some place → IsClosing (e ∷ older) nav place
  by_says true says h =
      let at : length older ≡ place = cc in
      record { entry = e; there = subst (λ (n : ℕ). entry_at (e ∷ older) n ≡ Some e) at (entry_newest e older); is = says_is nav e.what says }
  by_says false says h = absurd cc

  by_older : (o : Option ℕ) → first_closing older nav ≡ o → option_or o (if says_closing nav e.what then Some (length older) else None) ≡ Some place
      → (first_closing older nav ≡ Some place → IsClosing (e ∷ older) nav place) → IsClosing (e ∷ older) nav place
  by_older None is h later = by_says (says_closing nav e.what) refl h
  by_older (Some q) is h later = later (is ∙ h)

-- the first of the entries that ask the same is there, and not later
pub record HasFirst (log : List Entry) (nav place : ℕ) : Type 0 where
  pub first : ℕ
  pub is : first_closing log nav ≡ Some first
  pub early : first ≤ place

pub closing_first : (log : List Entry) (nav place : ℕ) (x : Entry) → entry_at log place ≡ Some x → x.what ≡ Closing nav → HasFirst log nav place
unfolding entry_at
closing_first [] nav place x at is = absurd cc
closing_first (e ∷ older) nav place x at is = elim (eqb_tells (length older) place) [
  | inl p ↦
      let here : Some e ≡ Some x = rw p.0 at at in
      let same : x ≡ e = cc in
      by_older (first_closing older nav) refl p.1 (says_self nav e.what (subst (λ (y : Entry). y.what ≡ Closing nav) same is))
  | inr p ↦
      let rest : entry_at older place ≡ Some x = rw p.0 at at in
      let known = closing_first older nav place x rest is in
      record { first = known.first; is = ap (λ (o : Option ℕ). option_or o (if says_closing nav e.what then Some (length older) else None)) known.is; early = known.early }
]
  where
    by_older : (o : Option ℕ) → first_closing older nav ≡ o → length older ≡ place → says_closing nav e.what ≡ true → HasFirst (e ∷ older) nav place
    by_older None none at says = record {
      first = length older;
      is = ap (λ (o : Option ℕ). option_or o (if says_closing nav e.what then Some (length older) else None)) none ∙ ap (λ (b : Bool). if b then Some (length older) else None) says;
      early = omega arith;
    }
    by_older (Some q) some at says = record {
      first = q;
      is = ap (λ (o : Option ℕ). option_or o (if says_closing nav e.what then Some (length older) else None)) some;
      early = (let c = closing_is older nav q some in let lt = entry_below older q c.entry c.there in omega arith);
    }

-- TASKS THAT COUNT

-- an entry that counts and leaves a task, not after this place
pub record HasEarly (log : List Entry) (r place : ℕ) : Type 0 where
  pub first : ℕ
  pub entry : Entry
  pub task : What
  pub early : first ≤ place
  pub there : entry_at log first ≡ Some entry
  pub counts : Counts log first entry.what
  pub is : task_of (tree_of log) (is_over log) r first entry.what ≡ Some task

pub early_of : (log : List Entry) (r place : ℕ) (x : Entry) (task : What) → entry_at log place ≡ Some x → task_of (tree_of log) (is_over log) r place x.what ≡ Some task → HasEarly log r place
early_of log r place x task at h = by_what x.what refl h where
  of_closing : (nav : ℕ) → x.what ≡ Closing nav → task_of (tree_of log) (is_over log) r place (Closing nav) ≡ Some task → HasFirst log nav place → HasEarly log r place
  of_closing nav is k known =
      let c = closing_is log nav known.first known.is in
      record {
        first = known.first;
        entry = c.entry;
        task = task;
        early = known.early;
        there = c.there;
        counts = subst (λ (w : What). Counts log known.first w) (sym c.is) known.is;
        is = subst (λ (w : What). task_of (tree_of log) (is_over log) r known.first w ≡ Some task) (sym c.is) k;
      }

  itself : Counts log place x.what → HasEarly log r place
  itself counts = record { first = place; entry = x; task = task; early = omega arith; there = at; counts = counts; is = h }

  by_what : (w : What) → x.what ≡ w → task_of (tree_of log) (is_over log) r place w ≡ Some task → HasEarly log r place
  by_what (Closing nav) is k = of_closing nav is k (closing_first log nav place x at is)
  by_what w is k = itself (subst (λ (v : What). Counts log place v) (sym is) tt)

none_of : (o : Option What) → ((w : What) → o ≡ Some w → ⊥) → o ≡ None
none_of None h = refl
none_of (Some w) h = absurd (h w refl)

-- no task stands before the least of the places
none_before : (log : List Entry) (r : ℕ) (places : ℕ → Bool) → HasTasks log r places → (p : ℕ) (x : Entry) → ((q : ℕ) → q ≤ p → places q ≡ false) → entry_at log p ≡ Some x → task_of (tree_of log) (is_over log) r p x.what ≡ None
none_before log r places tasks p x out at = none_of (task_of (tree_of log) (is_over log) r p x.what) (λ task is. in_place (early_of log r p x task at is)) where
  in_place : HasEarly log r p → ⊥
  in_place known =
      let there = tasks.all known.first known.entry known.task known.there known.counts known.is in
      let out_there = out known.first known.early in
      absurd cc

pub record HasTaskAt (log : List Entry) (r place : ℕ) (task : What) : Type 0 where
  pub entry : Entry
  pub there : entry_at log place ≡ Some entry
  pub is : task_of (tree_of log) (is_over log) r place entry.what ≡ Some task

task_there : (log : List Entry) (r place : ℕ) (task : What) → task_at log r place ≡ Some task → HasTaskAt log r place task
task_there log r place task h = by_entry (entry_at log place) refl h where
  by_entry : (o : Option Entry) → entry_at log place ≡ o → task_of_entry log r place o ≡ Some task → HasTaskAt log r place task
  by_entry None at k = absurd cc
  by_entry (Some e) at k = record { entry = e; there = at; is = k }

-- a task at the least of the places is the next
pub next_found : (log : List Entry) (r : ℕ) (places : ℕ → Bool) (k : ℕ) (task : What) → HasTasks log r places → ((p : ℕ) → p < k → places p ≡ false) → task_at log r k ≡ Some task → next_task log r ≡ Some task
unfolding next_task
next_found log r places k task tasks least h =
    let here = task_there log r k task h in
    found_first (tree_of log) (is_over log) r log k here.entry task here.there here.is (λ p x lt at. none_before log r places tasks p x (λ q le. least q (omega arith)) at)

-- and there is none where no place is left
pub next_none : (log : List Entry) (r : ℕ) (places : ℕ → Bool) → HasTasks log r places → ((p : ℕ) → places p ≡ false) → next_task log r ≡ None
unfolding next_task
next_none log r places tasks none = none_left (tree_of log) (is_over log) r log (λ p x at. none_before log r places tasks p x (λ q le. none q) at)

-- more places
pub same_places : (log : List Entry) (r : ℕ) (places more : ℕ → Bool) → HasTasks log r places → ((q : ℕ) → places q ≡ true → more q ≡ true) → HasTasks log r more
same_places log r places more tasks kept = record { all = λ p e task at counts is. kept p (tasks.all p e task at counts is) }

-- no entry stands in an empty log
pub none_at_start : (r : ℕ) (places : ℕ → Bool) → HasTasks [] r places
unfolding entry_at
none_at_start r places = record { all = λ p e task at counts is. absurd cc }
