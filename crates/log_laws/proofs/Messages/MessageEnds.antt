-- Each message ends at most once, where it should.
use Rattle.std.proofs.Common.{◌≡◌, ℕ, ◌<◌, ◌≤◌, List, [], ◌∷◌, length, Some, None, Bool, true, false, refl, ap, sym, subst, ◌∙◌, if◌then◌else◌, arith, inl, inr}
use Rattle.std.specs.Prelude.{◌==◌, ◌||◌, ◌&&◌, nat_le}
use Rattle.std.proofs.lemmas.Bool.{false≢true, eq-eqb, cases_lt}
use Rattle.std.proofs.lemmas.Bool.Decides.{nat_tests}
use Rattle.origin_core.specs.declared.origin.Origin.{Origin}
use Rattle.plain_data.specs.declared.data.Data.{Data}
use Rattle.tree_log.specs.declared.entry.Cause.{Cause}
use Rattle.tree_log.specs.declared.entry.Entry.{Entry}
use Rattle.tree_log.specs.declared.entry.Target.{Target}
use Rattle.tree_log.specs.declared.entry.What.{What}
use Rattle.tree_log.specs.declared.entry.What.TheVariants.{Post, Fire, Lapse}
use Rattle.tree_log.specs.Log.{entry_at, prefix}
use Rattle.tree_log.specs.Tree.{tree_of, home_of}
use Rattle.tree_log.proofs.Places.{prefix_more, prefix_whole, prefix_length, entry_below}
use Rattle.agent_terms.specs.declared.session.Session.{Session}
use Rattle.single_agent.specs.LegalLog.{IsLegalLog}
use Rattle.coordinator_rules.specs.NextTask.{delivery, ends, is_over, task_of, next_task}
use Rattle.log_laws.specs.Messages.{HasFired, HasLapsed}
use Rattle.log_laws.proofs.Messages.Endings.{is_ending, IsTaken, AreTaken, legal_taken}
use Rattle.log_laws.proofs.Messages.FirstTasks.{older_entry, newest_entry, entry_cases, none_stands, IsFirst, first_is, IsDelivery, delivery_of, delivery_ends, delivery_fires, delivery_lapses}

-- WHAT STOOD EARLIER

-- an entry of the log as it stood
pub entry_before : (log : List Entry) (q k : ℕ) → k < q → entry_at (prefix q log) k ≡ entry_at log k
unfolding prefix
entry_before [] q k lt = refl
entry_before (e ∷ older) q k lt = by_length (nat_le q (length older)) refl (entry_before older q k lt)
  where
    by_length : (b : Bool) → nat_le q (length older) ≡ b → entry_at (prefix q older) k ≡ entry_at older k → entry_at (if b then prefix q older else e ∷ older) k ≡ entry_at (e ∷ older) k
    by_length true is before = let le : q ≤ length older = grind (arith, nat_tests) in before ∙ sym (older_entry e older k (omega arith))
    by_length false is before = refl

taken_at : (log : List Entry) → AreTaken log → (q : ℕ) (e : Entry) → entry_at log q ≡ Some e → IsTaken (prefix q log) e
taken_at [] taken q e at = absurd (none_stands q e at)
taken_at (x ∷ older) taken q e at = elim (entry_cases x older q e at) as (λ _. IsTaken (prefix q (x ∷ older)) e) [
  | inl p ↦
      let here : q ≡ length older = p.0 in
      let same : prefix q (x ∷ older) ≡ older = prefix_more (x ∷ []) older q (omega arith) ∙ prefix_whole older q (omega arith) in
      subst (λ (l : List Entry). IsTaken l e) (sym same) (subst (IsTaken older) p.1 taken.0)
  | inr p ↦
      let below : q < length older = p.0 in
      subst (λ (l : List Entry). IsTaken l e) (sym (prefix_more (x ∷ []) older q (omega arith))) (taken_at older taken.1 q e p.1)
]

-- a message is over once an entry ended it
pub over_there : (log : List Entry) (q d p : ℕ) (e : Entry) → entry_at log q ≡ Some e → ends d p e.what ≡ true → is_over log d p ≡ true
over_there [] q d p e at end = absurd (none_stands q e at)
over_there (x ∷ older) q d p e at end = elim (entry_cases x older q e at) as (λ _. (ends d p x.what || is_over older d p) ≡ true) [
  | inl here ↦ ap (λ (b : Bool). b || is_over older d p) (ap (λ (y : Entry). ends d p y.what) here.1 ∙ end)
  | inr there ↦ or_true (ends d p x.what) (is_over older d p) (over_there older q d p e there.1 end)
]
  where
    or_true : (a b : Bool) → b ≡ true → (a || b) ≡ true
    or_true true b h = refl
    or_true false b h = h

-- and where it is over, an entry ended it
pub over_by : (log : List Entry) (d p : ℕ) → is_over log d p ≡ true → (k : ℕ) × (e : Entry) × (entry_at log k ≡ Some e) × (ends d p e.what ≡ true)
over_by [] d p h = absurd (false≢true h)
over_by (x ∷ older) d p h = by_test (ends d p x.what) refl h (λ k. over_by older d p k)
  where
    by_test : (b : Bool) → ends d p x.what ≡ b → (b || is_over older d p) ≡ true → (is_over older d p ≡ true → (k : ℕ) × (e : Entry) × (entry_at older k ≡ Some e) × (ends d p e.what ≡ true))
        → (k : ℕ) × (e : Entry) × (entry_at (x ∷ older) k ≡ Some e) × (ends d p e.what ≡ true)
    by_test true is k later = (length older, x, newest_entry x older, is)
    by_test false is k later = let found = later k in (found.0, found.1, older_entry x older found.0 (entry_below older found.0 found.1 found.2) ∙ found.2, found.3)

-- HOW A MESSAGE ENDED

-- the entry at place q ended the message at place p to document d, as the next task of its renderer on the log before it
pub record IsEnded (log : List Entry) (q d p : ℕ) (e : Entry) : Type 0 where
  pub renderer : ℕ
  pub by_it : e.by ≡ Some renderer
  pub message : Entry
  pub from : ℕ
  pub origin : Origin
  pub target : Target
  pub body : Data
  pub earlier : p < q
  pub stands : entry_at log p ≡ Some message
  pub posted : message.what ≡ Post d from origin target body
  pub home : home_of (tree_of (prefix q log)) d ≡ renderer
  pub waits : is_over (prefix q log) d p ≡ false
  pub delivers : delivery (tree_of (prefix q log)) p d target ≡ e.what
  pub none_before : (k : ℕ) (x : Entry) → k < p → entry_at log k ≡ Some x → task_of (tree_of (prefix q log)) (is_over (prefix q log)) renderer k x.what ≡ None

ending : (d p : ℕ) (w : What) → ends d p w ≡ true → is_ending w ≡ true
unfolding is_ending
ending d p (Fire doc post) h = refl
ending d p (Lapse doc post cause) h = refl
ending d p w h = absurd (false≢true h)

first_of : (log : List Entry) (r : ℕ) (w : What) → next_task log r ≡ Some w → IsFirst (tree_of log) (is_over log) r log w
unfolding next_task
first_of log r w h = first_is (tree_of log) (is_over log) r log w h

module _ (log : List Entry) (q d p : ℕ) (e : Entry) (at : entry_at log q ≡ Some e) (end : ends d p e.what ≡ true) where
  ended_by : (r : ℕ) → e.by ≡ Some r → (f : IsFirst (tree_of (prefix q log)) (is_over (prefix q log)) r (prefix q log) e.what)
      → IsDelivery (tree_of (prefix q log)) (is_over (prefix q log)) r f.place f.entry.what e.what → IsEnded log q d p e
  ended_by r by_it f it =
      let own = delivery_ends (tree_of (prefix q log)) f.place it.to it.target d p (subst (λ (w : What). ends d p w ≡ true) (sym it.delivers) end) in
      let to_is : it.to ≡ d = own.0 in
      let place_is : f.place ≡ p = own.1 in
      let long : length (prefix q log) ≡ q = prefix_length log q (let below = entry_below log q e at in omega arith) in
      let below : f.place < length (prefix q log) = entry_below (prefix q log) f.place f.entry f.stands in
      let earlier : p < q = omega arith in
      record {
        renderer = r;
        by_it = by_it;
        message = f.entry;
        from = it.from;
        origin = it.origin;
        target = it.target;
        body = it.body;
        earlier = earlier;
        stands = sym (entry_before log q p earlier) ∙ ap (entry_at (prefix q log)) (sym place_is) ∙ f.stands;
        posted = it.posted ∙ ap (λ (to : ℕ). Post to it.from it.origin it.target it.body) to_is;
        home = ap (home_of (tree_of (prefix q log))) (sym to_is) ∙ it.home;
        waits = ap (λ (to : ℕ). is_over (prefix q log) to p) (sym to_is) ∙ ap (is_over (prefix q log) it.to) (sym place_is) ∙ it.waits;
        delivers = ap (λ (to : ℕ). delivery (tree_of (prefix q log)) p to it.target) (sym to_is) ∙ ap (λ (place : ℕ). delivery (tree_of (prefix q log)) place it.to it.target) (sym place_is) ∙ it.delivers;
        none_before = λ k x lt stands. f.none_before k x (omega arith) (entry_before log q k (omega arith) ∙ stands);
      }

  pub ended : AreTaken log → IsEnded log q d p e
  unfolding IsTaken
  ended taken =
      let end_of_it = ending d p e.what end in
      let taken_so : (r : ℕ) × (e.by ≡ Some r) × (next_task (prefix q log) r ≡ Some e.what) = taken_at log taken q e at end_of_it in
      let f = first_of (prefix q log) taken_so.0 e.what taken_so.2 in
      ended_by taken_so.0 taken_so.1 f (delivery_of (tree_of (prefix q log)) (is_over (prefix q log)) taken_so.0 f.place f.entry.what e.what end_of_it f.leaves)

-- ONCE

-- no later entry ends a message that one ended
pub not_again : (log : List Entry) (q u a b p : ℕ) (e f : Entry) → AreTaken log → entry_at log q ≡ Some e → entry_at log u ≡ Some f → ends a p e.what ≡ true → ends b p f.what ≡ true → q < u → ⊥
not_again log q u a b p e f taken at other end again lt =
    let first = ended log q a p e at end taken in
    let second = ended log u b p f other again taken in
    let one : Some first.message ≡ Some second.message = sym first.stands ∙ second.stands in
    let same : first.message ≡ second.message = cc in
    let posts : Post a first.from first.origin first.target first.body ≡ Post b second.from second.origin second.target second.body = sym first.posted ∙ ap (λ (x : Entry). x.what) same ∙ second.posted in
    let to : a ≡ b = cc in
    let over : is_over (prefix u log) b p ≡ true = over_there (prefix u log) q b p e (entry_before log u q lt ∙ at) (subst (λ (d : ℕ). ends d p e.what ≡ true) to end) in
    false≢true (sym second.waits ∙ over)

pub ends_once : (s : Session) (log : List Entry) (q u a b p : ℕ) (e f : Entry) → IsLegalLog s log → entry_at log q ≡ Some e → entry_at log u ≡ Some f → ends a p e.what ≡ true → ends b p f.what ≡ true → q ≡ u
ends_once s log q u a b p e f legal at other end again =
    let taken = legal_taken s log legal in
    elim (cases_lt q u) as (λ _. q ≡ u) [
      | inl lt ↦ absurd (not_again log q u a b p e f taken at other end again lt)
      | inr le ↦ elim (cases_lt u q) as (λ _. q ≡ u) [
        | inl lt ↦ absurd (not_again log u q b a p f e taken other at again end lt)
        | inr ge ↦ omega arith
      ]
    ]

-- WHERE THEY ARE FOR

ends_itself : (doc post : ℕ) → (doc == doc && post == post) ≡ true
ends_itself doc post = rw (eq-eqb doc doc refl, eq-eqb post post refl) refl

pub fires_rightly : (s : Session) (log : List Entry) (q doc post : ℕ) (e : Entry) → IsLegalLog s log → entry_at log q ≡ Some e → e.what ≡ Fire doc post → HasFired log q e.by doc post
fires_rightly s log q doc post e legal at is =
    let end : ends doc post e.what ≡ true = subst (λ (w : What). ends doc post w ≡ true) (sym is) (ends_itself doc post) in
    let it = ended log q doc post e at end (legal_taken s log legal) in
    let both = delivery_fires (tree_of (prefix q log)) post doc it.target doc post (it.delivers ∙ is) in
    record {
      target = it.target;
      message = record { entry = it.message; from = it.from; origin = it.origin; body = it.body; stands = it.stands; posted = it.posted };
      earlier = it.earlier;
      active = both.0;
      wanted = both.1;
      home = it.by_it ∙ ap Some (sym it.home);
    }

pub lapses_rightly : (s : Session) (log : List Entry) (q doc post : ℕ) (cause : Cause) (e : Entry) → IsLegalLog s log → entry_at log q ≡ Some e → e.what ≡ Lapse doc post cause → HasLapsed log q e.by doc post cause
lapses_rightly s log q doc post cause e legal at is =
    let end : ends doc post e.what ≡ true = subst (λ (w : What). ends doc post w ≡ true) (sym is) (ends_itself doc post) in
    let it = ended log q doc post e at end (legal_taken s log legal) in
    record {
      target = it.target;
      message = record { entry = it.message; from = it.from; origin = it.origin; body = it.body; stands = it.stands; posted = it.posted };
      earlier = it.earlier;
      why = delivery_lapses (tree_of (prefix q log)) post doc it.target doc post cause (it.delivers ∙ is);
      home = it.by_it ∙ ap Some (sym it.home);
    }
