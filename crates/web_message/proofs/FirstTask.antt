-- The first task of a log, an entry at a time.
use Rattle.std.proofs.Common.{◌≡◌, ℕ, ◌+◌, ◌<◌, ◌≤◌, List, [], ◌∷◌, length, Option, Some, None, Bool, true, false, refl, sym, ap, subst, ◌∙◌, arith}
use Rattle.std.specs.Prelude.{nat_le, ◌||◌, if◌then◌else◌}
use Rattle.std.proofs.Common.{inl, inr}
use Rattle.std.proofs.lemmas.Bool.Decides.{eqb_tells}
use Rattle.std.specs.Option.{option_or}
use Rattle.tree_log.specs.declared.entry.Entry.{Entry}
use Rattle.tree_log.specs.declared.entry.What.{What}
use Rattle.tree_log.specs.Log.{entry_at, prefix}
use Rattle.tree_log.specs.Tree.{Tree, tree_of}
use Rattle.tree_log.proofs.Admitted.{TaskStands, AllStand}
use Rattle.tree_log.proofs.Places.{entry_below, prefix_next, prefix_length, prefix_whole}
use Rattle.coordinator_rules.specs.NextTask.{ends, is_over, task_of, first_task, next_task}

-- the loads of the entry at a place stand
pub stands_at : (t : Tree) (log : List Entry) (k : ℕ) (e : Entry) → AllStand t log → entry_at log k ≡ Some e → TaskStands t e.what
unfolding entry_at
stands_at t [] k e s h = absurd cc
stands_at t (x ∷ older) k e s h = elim (eqb_tells (length older) k) [
  | inl p ↦ let here : Some x ≡ Some e = rw p.0 at h in let same : x ≡ e = cc in subst (λ (y : Entry). TaskStands t y.what) same s.0
  | inr p ↦ let rest : entry_at older k ≡ Some e = rw p.0 at h in stands_at t older k e s.1 rest
]

-- a task that an early part of the log leaves is the first of the whole
pub first_kept : (t : Tree) (over : ℕ → ℕ → Bool) (r k : ℕ) (log : List Entry) (what : What) → first_task t over r (prefix k log) ≡ Some what → first_task t over r log ≡ Some what
unfolding prefix
first_kept t over r k [] what h = h
first_kept t over r k (e ∷ older) what h = by_length (nat_le k (length older)) h (λ early. first_kept t over r k older what early) where
  by_length : (b : Bool) → first_task t over r (if b then prefix k older else e ∷ older) ≡ Some what → (first_task t over r (prefix k older) ≡ Some what → first_task t over r older ≡ Some what)
      → first_task t over r (e ∷ older) ≡ Some what
  by_length true h early = ap (λ o. option_or o (task_of t over r (length older) e.what)) (early h)
  by_length false h early = h

-- one entry more
pub first_next : (t : Tree) (over : ℕ → ℕ → Bool) (r k : ℕ) (log : List Entry) (e : Entry) (task : Option What) → entry_at log k ≡ Some e → first_task t over r (prefix k log) ≡ None → task ≡ task_of t over r k e.what
    → first_task t over r (prefix (k + 1) log) ≡ task
first_next t over r k log e task h none is =
    let lt = entry_below log k e h in
    ap (first_task t over r) (prefix_next log k e h) ∙ ap (λ o. option_or o (task_of t over r (length (prefix k log)) e.what)) none
    ∙ ap (λ n. task_of t over r n e.what) (prefix_length log k (omega arith)) ∙ sym is

pub found_at : (t : Tree) (over : ℕ → ℕ → Bool) (r k : ℕ) (log : List Entry) (e : Entry) (what : What) → entry_at log k ≡ Some e → first_task t over r (prefix k log) ≡ None → Some what ≡ task_of t over r k e.what
    → Some what ≡ first_task t over r log
found_at t over r k log e what h none is = sym (first_kept t over r (k + 1) log what (first_next t over r k log e (Some what) h none is))

pub none_left : (t : Tree) (over : ℕ → ℕ → Bool) (r k : ℕ) (log : List Entry) → length log ≤ k → first_task t over r (prefix k log) ≡ None → None ≡ first_task t over r log
none_left t over r k log done none = sym none ∙ ap (first_task t over r) (prefix_whole log k done)

-- WHETHER A MESSAGE IS OVER

pub over_next : (to place k : ℕ) (log : List Entry) (e : Entry) → entry_at log k ≡ Some e → false ≡ ends to place e.what → is_over (prefix k log) to place ≡ false → is_over (prefix (k + 1) log) to place ≡ false
over_next to place k log e h other so_far =
    ap (λ (g : List Entry). is_over g to place) (prefix_next log k e h) ∙ ap (λ b. b || is_over (prefix k log) to place) (sym other) ∙ so_far

or_right : (a b : Bool) → b ≡ true → (a || b) ≡ true
or_right true b h = refl
or_right false b h = h

pub over_found : (to place k : ℕ) (log : List Entry) (e : Entry) → entry_at log k ≡ Some e → true ≡ ends to place e.what → true ≡ is_over log to place
unfolding entry_at
over_found to place k [] e h is = absurd cc
over_found to place k (x ∷ older) e h is = elim (eqb_tells (length older) k) [
  | inl p ↦
      let here : Some x ≡ Some e = rw p.0 at h in
      let same : e ≡ x = cc in
      ap (λ b. b || is_over older to place) (is ∙ ap (λ (y : Entry). ends to place y.what) same)
  | inr p ↦
      let rest : entry_at older k ≡ Some e = rw p.0 at h in
      sym (or_right (ends to place x.what) (is_over older to place) (sym (over_found to place k older e rest is)))
]

pub never_over : (to place k : ℕ) (log : List Entry) → length log ≤ k → is_over (prefix k log) to place ≡ false → false ≡ is_over log to place
never_over to place k log done none = sym none ∙ ap (λ (g : List Entry). is_over g to place) (prefix_whole log k done)

-- the first task on a view of the log is the next task of the log
pub next_on : (log : List Entry) (t : Tree) (r : ℕ) (found : Option What) → t ≡ tree_of log → found ≡ first_task t (is_over log) r log → found ≡ next_task log r
unfolding next_task
next_on log t r found same is = is ∙ ap (λ (u : Tree). first_task u (is_over log) r log) same
