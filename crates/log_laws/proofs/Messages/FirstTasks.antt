-- The first task of a log, and the message that it ends.
use Rattle.std.proofs.Common.{◌≡◌, ℕ, ◌<◌, List, [], ◌∷◌, length, Option, Some, None, Bool, true, false, refl, ap, sym, subst, ◌∙◌, arith, inl, inr}
use Rattle.std.specs.Prelude.{◌⊎◌, ◌==◌, ◌&&◌, not, if◌then◌else◌}
use Rattle.std.proofs.lemmas.Bool.{false≢true, eqb-true, eq-eqb}
use Rattle.std.proofs.lemmas.Bool.Decides.{eqb_tells}
use Rattle.std.specs.Option.{option_or}
use Rattle.origin_core.specs.declared.origin.Origin.{Origin}
use Rattle.plain_data.specs.declared.data.Data.{Data}
use Rattle.tree_log.specs.declared.entry.Cause.{Cause}
use Rattle.tree_log.specs.declared.entry.Cause.TheVariants as causes
use Rattle.tree_log.specs.declared.entry.Entry.{Entry}
use Rattle.tree_log.specs.declared.entry.Load.{Load}
use Rattle.tree_log.specs.declared.entry.Target.{Target}
use Rattle.tree_log.specs.declared.entry.What.{What}
use Rattle.tree_log.specs.declared.entry.What.TheVariants.{Open, Frame, Begin, Commit, Post, Fire, Lapse, Closing, Gone}
use Rattle.tree_log.specs.Log.{entry_at}
use Rattle.tree_log.specs.Tree.{Tree, home_of, origin_of, is_active, is_discarded}
use Rattle.tree_log.proofs.Admitted.{both}
use Rattle.tree_log.proofs.Places.{entry_below}
use Rattle.coordinator_rules.specs.NextTask.{is_for, delivery, ends, load_waits, load_task, message_task, closing_task, task_of, first_task}
use Rattle.log_laws.specs.Messages.{IsCause}
use Rattle.log_laws.proofs.Messages.Endings.{is_ending}

-- PLACES

-- an entry that stands below the newest one's place
pub older_entry : (x : Entry) (older : List Entry) (k : ℕ) → k < length older → entry_at (x ∷ older) k ≡ entry_at older k
unfolding entry_at
older_entry x older k lt = elim (eqb_tells (length older) k) as (λ _. (if length older == k then Some x else entry_at older k) ≡ entry_at older k) [
  | inl p ↦ absurd (let same : length older ≡ k = p.1 in omega arith)
  | inr p ↦ rw (p.0) refl
]

pub newest_entry : (x : Entry) (older : List Entry) → entry_at (x ∷ older) (length older) ≡ Some x
unfolding entry_at
newest_entry x older = elim (eqb_tells (length older) (length older)) as (λ _. (if length older == length older then Some x else entry_at older (length older)) ≡ Some x) [
  | inl p ↦ rw (p.0) refl
  | inr p ↦ absurd (p.1 refl)
]

-- the entry at a place is the newest one, or one before it
pub entry_cases : (x : Entry) (older : List Entry) (k : ℕ) (e : Entry) → entry_at (x ∷ older) k ≡ Some e → ((k ≡ length older) × (x ≡ e)) ⊎ ((k < length older) × (entry_at older k ≡ Some e))
unfolding entry_at
entry_cases x older k e h = elim (eqb_tells (length older) k) as (λ _. ((k ≡ length older) × (x ≡ e)) ⊎ ((k < length older) × (entry_at older k ≡ Some e))) [
  | inl p ↦ let here : Some x ≡ Some e = rw (p.0) at h in let same : x ≡ e = cc in inl (sym p.1, same)
  | inr p ↦ let there : entry_at older k ≡ Some e = rw (p.0) at h in inr (entry_below older k e there, there)
]

pub none_stands : (k : ℕ) (x : Entry) → entry_at [] k ≡ Some x → ⊥
unfolding entry_at
none_stands k x at = let clash : None ≡ Some x = at in absurd cc

-- THE FIRST TASK

none_first : (a b : Option What) → option_or a b ≡ None → (a ≡ None) × (b ≡ None)
none_first (Some w) b h = absurd cc
none_first None b h = (refl, h)

module _ (t : Tree) (over : ℕ → ℕ → Bool) (r : ℕ) where
  -- where there is no task, no entry leaves one
  none_left : (log : List Entry) → first_task t over r log ≡ None → (k : ℕ) (x : Entry) → entry_at log k ≡ Some x → task_of t over r k x.what ≡ None
  none_left [] h k x at = absurd (none_stands k x at)
  none_left (e ∷ older) h k x at =
      let both_none = none_first (first_task t over r older) (task_of t over r (length older) e.what) h in
      elim (entry_cases e older k x at) as (λ _. task_of t over r k x.what ≡ None) [
        | inl p ↦ ap (λ (j : ℕ). task_of t over r j x.what) p.0 ∙ ap (λ (y : Entry). task_of t over r (length older) y.what) (sym p.1) ∙ both_none.1
        | inr p ↦ none_left older both_none.0 k x p.1
      ]

  -- the first task is that of an entry, and no earlier entry leaves one
  pub record IsFirst (log : List Entry) (what : What) : Type 0 where
    pub place : ℕ
    pub entry : Entry
    pub stands : entry_at log place ≡ Some entry
    pub leaves : task_of t over r place entry.what ≡ Some what
    pub none_before : (k : ℕ) (x : Entry) → k < place → entry_at log k ≡ Some x → task_of t over r k x.what ≡ None

  first_of_older : (e : Entry) (older : List Entry) (what : What) → IsFirst older what → IsFirst (e ∷ older) what
  first_of_older e older what f =
      let below = entry_below older f.place f.entry f.stands in
      record {
        place = f.place;
        entry = f.entry;
        stands = older_entry e older f.place below ∙ f.stands;
        leaves = f.leaves;
        none_before = λ k x lt at. f.none_before k x lt (sym (older_entry e older k (omega arith)) ∙ at);
      }

  first_is_newest : (e : Entry) (older : List Entry) (what : What) → first_task t over r older ≡ None → task_of t over r (length older) e.what ≡ Some what → IsFirst (e ∷ older) what
  first_is_newest e older what none is = record {
    place = length older;
    entry = e;
    stands = newest_entry e older;
    leaves = is;
    none_before = λ k x lt at. none_left older none k x (sym (older_entry e older k lt) ∙ at);
  }

  pub first_is : (log : List Entry) (what : What) → first_task t over r log ≡ Some what → IsFirst log what
  first_is [] what h = absurd cc
  first_is (e ∷ older) what h = by_older (first_task t over r older) refl h (λ found. first_of_older e older what (first_is older what found))
    where
      by_older : (o : Option What) → first_task t over r older ≡ o → option_or o (task_of t over r (length older) e.what) ≡ Some what → (first_task t over r older ≡ Some what → IsFirst (e ∷ older) what) → IsFirst (e ∷ older) what
      by_older (Some w) is k later = later (is ∙ k)
      by_older None is k later = first_is_newest e older what is k

-- TASKS THAT END MESSAGES

-- the task is the delivery of the message that this entry at this place is
pub record IsDelivery (t : Tree) (over : ℕ → ℕ → Bool) (r place : ℕ) (w what : What) : Type 0 where
  pub to : ℕ
  pub from : ℕ
  pub origin : Origin
  pub target : Target
  pub body : Data
  pub posted : w ≡ Post to from origin target body
  pub home : home_of t to ≡ r
  pub waits : over to place ≡ false
  pub delivers : delivery t place to target ≡ what

not_true : (b : Bool) → not b ≡ true → b ≡ false
not_true true h = absurd cc
not_true false h = refl

load_ends_none : (t : Tree) (r place nav : ℕ) (load : Option Load) (what : What) → is_ending what ≡ true → load_task t r place nav load ≡ Some what → ⊥
unfolding is_ending
load_ends_none t r place nav None what ends h = absurd cc
load_ends_none t r place nav (Some load) what ends h = by_test (load_waits t r nav load) h
  where
    by_test : (b : Bool) → (if b then Some (Commit nav load.doc place) else None) ≡ Some what → ⊥
    by_test false e = absurd cc
    by_test true e = let same : Commit nav load.doc place ≡ what = cc in false≢true (subst (λ (w : What). is_ending w ≡ true) (sym same) ends)

closing_ends_none : (t : Tree) (r nav : ℕ) (what : What) → is_ending what ≡ true → closing_task t r nav ≡ Some what → ⊥
unfolding is_ending
closing_ends_none t r nav what ends h = by_test (home_of t (t.nav nav).active == r && not (is_discarded t nav)) h
  where
    by_test : (b : Bool) → (if b then Some (Gone nav) else None) ≡ Some what → ⊥
    by_test false e = absurd cc
    by_test true e = let same : Gone nav ≡ what = cc in false≢true (subst (λ (w : What). is_ending w ≡ true) (sym same) ends)

message_waits : (t : Tree) (over : ℕ → ℕ → Bool) (r place to from : ℕ) (origin : Origin) (target : Target) (body : Data) (what : What)
    → message_task t over r place to target ≡ Some what → IsDelivery t over r place (Post to from origin target body) what
message_waits t over r place to from origin target body what h = by_test (home_of t to == r && not (over to place)) refl h
  where
    by_test : (b : Bool) → (home_of t to == r && not (over to place)) ≡ b → (if b then Some (delivery t place to target) else None) ≡ Some what → IsDelivery t over r place (Post to from origin target body) what
    by_test false is e = absurd cc
    by_test true is e =
        let two = both (home_of t to == r) (not (over to place)) is in
        record {
          to = to;
          from = from;
          origin = origin;
          target = target;
          body = body;
          posted = refl;
          home = eqb-true (home_of t to) r two.0;
          waits = not_true (over to place) two.1;
          delivers = cc;
        }

-- a task that ends a message is that message's delivery
pub delivery_of : (t : Tree) (over : ℕ → ℕ → Bool) (r place : ℕ) (w what : What) → is_ending what ≡ true → task_of t over r place w ≡ Some what → IsDelivery t over r place w what
delivery_of t over r place (Open nav _ _ _ _ _ _ _ _ load) what ends h = absurd (load_ends_none t r place nav load what ends h)
delivery_of t over r place (Frame nav _ _ _ _ _ load) what ends h = absurd (load_ends_none t r place nav load what ends h)
delivery_of t over r place (Begin nav load) what ends h = absurd (load_ends_none t r place nav (Some load) what ends h)
delivery_of t over r place (Post to from origin target body) what ends h = message_waits t over r place to from origin target body what h
delivery_of t over r place (Closing nav) what ends h = absurd (closing_ends_none t r nav what ends h)
delivery_of t over r place w what ends h = absurd cc

-- a message that leaves no task at its home is over
pub message_over : (t : Tree) (over : ℕ → ℕ → Bool) (r place to : ℕ) (target : Target) → home_of t to ≡ r → message_task t over r place to target ≡ None → over to place ≡ true
message_over t over r place to target home h = by_test (home_of t to == r) (over to place) (eq-eqb (home_of t to) r home) h
  where
    by_test : (a b : Bool) → a ≡ true → (if a && not b then Some (delivery t place to target) else None) ≡ None → b ≡ true
    by_test true true is e = refl
    by_test true false is e = absurd cc
    by_test false b is e = absurd (false≢true is)

-- WHAT A DELIVERY IS

abbrev either_way : ℕ → ℕ → Bool → Bool → What
either_way place to active wanted = if not active then Lapse to place causes.Inactive else if wanted then Fire to place else Lapse to place causes.Origin

named_by : (to place d p : ℕ) → (to == d && place == p) ≡ true → (to ≡ d) × (place ≡ p)
named_by to place d p h = let two = both (to == d) (place == p) h in (eqb-true to d two.0, eqb-true place p two.1)

-- a delivery ends its own message
pub delivery_ends : (t : Tree) (place to : ℕ) (target : Target) (d p : ℕ) → ends d p (delivery t place to target) ≡ true → (to ≡ d) × (place ≡ p)
delivery_ends t place to target d p h = by_test (is_active t to) (is_for target (origin_of t to)) h
  where
    by_test : (a b : Bool) → ends d p (either_way place to a b) ≡ true → (to ≡ d) × (place ≡ p)
    by_test false b e = named_by to place d p e
    by_test true true e = named_by to place d p e
    by_test true false e = named_by to place d p e

pub delivery_fires : (t : Tree) (place to : ℕ) (target : Target) (doc post : ℕ) → delivery t place to target ≡ Fire doc post → (is_active t to ≡ true) × (is_for target (origin_of t to) ≡ true)
delivery_fires t place to target doc post h = by_test (is_active t to) (is_for target (origin_of t to)) h
  where
    by_test : (a b : Bool) → either_way place to a b ≡ Fire doc post → (a ≡ true) × (b ≡ true)
    by_test false b e = absurd cc
    by_test true true e = (refl, refl)
    by_test true false e = absurd cc

pub delivery_lapses : (t : Tree) (place to : ℕ) (target : Target) (doc post : ℕ) (cause : Cause) → delivery t place to target ≡ Lapse doc post cause → IsCause t to target cause
delivery_lapses t place to target doc post cause h = by_test (is_active t to) (is_for target (origin_of t to)) refl refl h
  where
    by_test : (a b : Bool) → is_active t to ≡ a → is_for target (origin_of t to) ≡ b → either_way place to a b ≡ Lapse doc post cause → IsCause t to target cause
    by_test false b is for e = let same : causes.Inactive ≡ cause = cc in subst (IsCause t to target) same is
    by_test true true is for e = absurd cc
    by_test true false is for e = let same : causes.Origin ≡ cause = cc in subst (IsCause t to target) same (is, for)
