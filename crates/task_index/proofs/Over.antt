-- Messages that are over, by a list of truth values, one for each place.
use Rattle.std.proofs.Common.{◌≡◌, ℕ, zero, suc, ◌<◌, ◌≤◌, List, [], ◌∷◌, ◌++◌, length, Option, Some, None, Bool, true, false, refl, sym, ap, subst, ◌∙◌, arith, inl, inr, eq-eqb, slice_index_or, slice_set}
use Rattle.std.specs.Prelude.{◌==◌, ◌&&◌, ◌||◌}
use Rattle.std.specs.Option.{is_none}
use Rattle.std.proofs.lemmas.Bool.{eqb-true}
use Rattle.std.proofs.lemmas.Bool.Decides.{eqb_tells}
use Rattle.tree_log.specs.declared.entry.Entry.{Entry}
use Rattle.tree_log.specs.declared.entry.What.{What}
use Rattle.tree_log.specs.declared.entry.What.TheVariants.{Post, Fire, Lapse}
use Rattle.tree_log.specs.Log.{entry_at}
use Rattle.tree_log.proofs.Places.{entry_below}
use Rattle.coordinator_rules.specs.NextTask.{ends}
use Rattle.task_index.specs.declared.waiting.Waiting.{Waiting}
use Rattle.task_index.specs.Fed.{ends_early, has_early, has_message, holds_message, is_message_to, over_at, turns_over}

-- THE LIST

pub over_is : (xs : List Bool) (i : ℕ) → slice_index_or xs i false ≡ over_at xs i
over_is [] i = refl
over_is (x ∷ xs) zero = refl
over_is (x ∷ xs) (suc i) = over_is xs i

pub over_past : (xs : List Bool) (i : ℕ) → length xs ≤ i → over_at xs i ≡ false
over_past [] i le = refl
over_past (x ∷ xs) zero le = absurd (omega arith)
over_past (x ∷ xs) (suc i) le = over_past xs i (omega arith)

pub over_push : (xs : List Bool) (i : ℕ) → over_at (xs ++ false ∷ []) i ≡ over_at xs i
over_push [] zero = refl
over_push [] (suc i) = refl
over_push (x ∷ xs) zero = refl
over_push (x ∷ xs) (suc i) = over_push xs i

set_here : (xs : List Bool) (i j : ℕ) → i < length xs → i ≡ j → over_at (slice_set xs i true) j ≡ true
set_here [] i j lt is = absurd (omega arith)
set_here (x ∷ xs) zero zero lt is = refl
set_here (x ∷ xs) zero (suc j) lt is = absurd (omega arith)
set_here (x ∷ xs) (suc i) zero lt is = absurd (omega arith)
set_here (x ∷ xs) (suc i) (suc j) lt is = set_here xs i j (omega arith) (omega arith)

set_there : (xs : List Bool) (i j : ℕ) → (i ≡ j → ⊥) → over_at (slice_set xs i true) j ≡ over_at xs j
set_there [] i j other = refl
set_there (x ∷ xs) zero zero other = absurd (other refl)
set_there (x ∷ xs) zero (suc j) other = refl
set_there (x ∷ xs) (suc i) zero other = refl
set_there (x ∷ xs) (suc i) (suc j) other = set_there xs i j (λ e. other (omega arith))

pub over_set : (xs : List Bool) (i j : ℕ) → i < length xs → over_at (slice_set xs i true) j ≡ (i == j) || over_at xs j
over_set xs i j lt = elim (eqb_tells i j) as (λ _. over_at (slice_set xs i true) j ≡ (i == j) || over_at xs j) [
  | inl p ↦ set_here xs i j lt p.1 ∙ sym (ap (λ (b : Bool). b || over_at xs j) p.0)
  | inr p ↦ set_there xs i j p.1 ∙ sym (ap (λ (b : Bool). b || over_at xs j) p.0)
]

-- TESTS

left_false : (a b : Bool) → a ≡ false → (a && b) ≡ false
left_false a b is = ap (λ (c : Bool). c && b) is

right_false : (a b : Bool) → b ≡ false → (a && b) ≡ false
right_false true b is = is
right_false false b is = refl

right_true : (a b : Bool) → b ≡ true → (a && b) ≡ a
right_true true b is = is
right_true false b is = refl

eq_turned : (a b : ℕ) → (a == b) ≡ (b == a)
eq_turned a b = elim (eqb_tells a b) as (λ _. (a == b) ≡ (b == a)) [
  | inl p ↦ p.0 ∙ sym (eq-eqb b a (sym p.1))
  | inr p ↦ p.0 ∙ sym (elim (eqb_tells b a) as (λ _. (b == a) ≡ false) [
    | inl q ↦ absurd (p.1 (sym q.1))
    | inr q ↦ q.0
  ])
]

entry_past : (log : List Entry) (k : ℕ) → length log ≤ k → entry_at log k ≡ None
entry_past log k le = by_entry (entry_at log k) refl where
  by_entry : (o : Option Entry) → entry_at log k ≡ o → o ≡ None
  by_entry None at = refl
  by_entry (Some e) at = absurd (let lt = entry_below log k e at in omega arith)

-- ENDS

-- the document of the message that stands at a place is one
one_document : (o : Option Entry) (doc to : ℕ) → holds_message o to ≡ true → holds_message o doc ≡ (doc == to)
one_document None doc to h = absurd cc
one_document (Some e) doc to h = by_what e.what h where
  by_what : (w : What) → is_message_to to w ≡ true → is_message_to doc w ≡ (doc == to)
  by_what (Post d _ _ _ _) k =
      let is : d ≡ to = eqb-true d to k in
      subst (λ (n : ℕ). (n == doc) ≡ (doc == to)) (sym is) (eq_turned to doc)
  by_what w k = absurd cc

-- the end of a message, at a place where one to that document stands
end_there : (log : List Entry) (doc q to post : ℕ) → has_message log to post ≡ true → (has_message log doc q && q == post) ≡ (doc == to && q == post)
end_there log doc q to post h = elim (eqb_tells q post) as (λ _. (has_message log doc q && q == post) ≡ (doc == to && q == post)) [
  | inl p ↦ ap (λ (b : Bool). b && q == post) (subst (λ (k : ℕ). has_message log doc k ≡ (doc == to)) (sym p.1) (one_document (entry_at log post) doc to h))
  | inr p ↦ right_false (has_message log doc q) (q == post) p.0 ∙ sym (right_false (doc == to) (q == post) p.0)
]

pub old_turns : (log : List Entry) (n : ℕ) (old : Waiting) (w : What) (to post : ℕ) → has_message log to post ≡ true → (n ≡ post → ⊥) → turns_over log n old w post ≡ ends to post w
old_turns log n old (Fire doc q) to post h other = end_there log doc q to post h
old_turns log n old (Lapse doc q cause) to post h other = end_there log doc q to post h
old_turns log n old (Post doc _ _ _ _) to post h other = elim (eqb_tells n post) as (λ _. (has_early old doc n && n == post) ≡ false) [
  | inl p ↦ absurd (other p.1)
  | inr p ↦ right_false (has_early old doc n) (n == post) p.0
]
old_turns log n old w to post h other = refl

-- the message that joins at place n
pub new_turns : (log : List Entry) (n : ℕ) (old : Waiting) (w : What) (to : ℕ) → is_message_to to w ≡ true → turns_over log n old w n ≡ has_early old to n
new_turns log n old (Post doc _ _ _ _) to h =
    let is : doc ≡ to = eqb-true doc to h in
    subst (λ (d : ℕ). (has_early old doc n && n == n) ≡ has_early old d n) is (right_true (has_early old doc n) (n == n) (eq-eqb n n refl))
new_turns log n old w to h = absurd cc

pub no_end : (w : What) (to post : ℕ) → is_message_to to w ≡ true → ends to post w ≡ false
no_end (Post doc _ _ _ _) to post h = refl
no_end w to post h = absurd cc

-- past the log no message stands
end_past : (log : List Entry) (doc q post : ℕ) → length log < post → (has_message log doc q && q == post) ≡ false
end_past log doc q post lt = elim (eqb_tells q post) as (λ _. (has_message log doc q && q == post) ≡ false) [
  | inl p ↦ left_false (has_message log doc q) (q == post) (ap (λ (o : Option Entry). holds_message o doc) (entry_past log q (let same = p.1 in omega arith)))
  | inr p ↦ right_false (has_message log doc q) (q == post) p.0
]

pub later_turns : (log : List Entry) (old : Waiting) (w : What) (post : ℕ) → length log < post → turns_over log (length log) old w post ≡ false
later_turns log old (Fire doc q) post lt = end_past log doc q post lt
later_turns log old (Lapse doc q cause) post lt = end_past log doc q post lt
later_turns log old (Post doc _ _ _ _) post lt = elim (eqb_tells (length log) post) as (λ _. (has_early old doc (length log) && length log == post) ≡ false) [
  | inl p ↦ absurd (let same = p.1 in omega arith)
  | inr p ↦ right_false (has_early old doc (length log)) (length log == post) p.0
]
later_turns log old w post lt = refl

early_past : (log : List Entry) (doc q to post : ℕ) → length log ≤ post → (is_none (entry_at log q) && (doc == to && q == post)) ≡ (doc == to && q == post)
early_past log doc q to post le = elim (eqb_tells q post) as (λ _. (is_none (entry_at log q) && (doc == to && q == post)) ≡ (doc == to && q == post)) [
  | inl p ↦ ap (λ (o : Option Entry). is_none o && (doc == to && q == post)) (entry_past log q (let same = p.1 in omega arith))
  | inr p ↦
      let none = right_false (doc == to) (q == post) p.0 in
      right_false (is_none (entry_at log q)) (doc == to && q == post) none ∙ sym none
]

pub later_ends : (log : List Entry) (w : What) (to post : ℕ) → length log ≤ post → ends_early log w to post ≡ ends to post w
later_ends log (Fire doc q) to post le = early_past log doc q to post le
later_ends log (Lapse doc q cause) to post le = early_past log doc q to post le
later_ends log w to post le = refl

-- no message stands in an empty log
pub none_posted : (to post : ℕ) → has_message [] to post ≡ true → ⊥
unfolding entry_at
none_posted to post h = absurd cc
