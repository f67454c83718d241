-- An exchange over a link of a renderer that alone talks to a coordinator.
use Rattle.std.proofs.Common.{◌≡◌, ℕ, List, [], ◌++◌, length, reverse, Option, Some, None, true, false, refl, sym, ap, subst, ◌∙◌, arith, Ok, inl, inr}
use Rattle.ports.specs.Causes.{Rose}
use Rattle.agent_terms.specs.declared.request.Request.{Request}
use Rattle.agent_terms.specs.declared.request.Request.TheVariants.{More}
use Rattle.agent_terms.specs.declared.request.ReplyOutcome.{ReplyOutcome}
use Rattle.coordinator_rules.specs.Decision.{Decision}
use Rattle.coordinator_rules.specs.Told.{told_log}
use Rattle.desk.specs.History.{log_of, told_of}
use Rattle.desk.specs.Serving.{Coordinator, IsServed}
use Rattle.desk.proofs.Deciding.{decided_more}
use Rattle.exchange_laws.specs.Fit.{IsFitLog}
use Rattle.frame_grammar.specs.Cut.{ReplyParts}
use Rattle.link_exchange.specs.Calls.{IsCall, Exchanges, Told, Fails, Strays, Knows, Ends, Goes_on}
use Rattle.link_exchange.proofs.Courses.{rose_where_failed, strays_untold}
use Rattle.link_port.specs.Hearing.{heard_of}
use Rattle.link_port.proofs.Told.{told_length}
use Rattle.link_wire.specs.declared.link.Link.{Ghosts}
use Rattle.link_wire.specs.Links.{Pending, Hears, is_fit, step_of, under_way}
use Rattle.link_wire.specs.Replies.{reply_of}
use Rattle.link_wire.specs.Requests.{IsRequest, request_frame}
use Rattle.tree_log.specs.declared.entry.Entry.{Entry}
use Rattle.tree_log.proofs.Places.{prefix_whole}
use Rattle.link_laws.specs.Standing.{HasFitLog, Stands}
use Rattle.link_laws.specs.Talking.{HasHeard, IsAnswered, decision}
use Rattle.link_laws.proofs.Answered.{same_answer, all_told, is_answered, outcome_is, stands}

-- a link over a coordinator, which answers each of its calls
pub record IsOver {L : Type 0} (link : Ghosts L) (seat : L → ℕ) (below : L → Coordinator) : Type 0 where
  pub renderer : (l : L) → link.renderer l ≡ Some (seat l)
  pub heard : (l : L) → link.heard l ≡ Some (heard_of (seat l) (below l).history)
  pub faults : (l : L) → link.faults l ≡ 0
  pub stays : (l m : L) (bytes reply : List ℕ) → link.relation l bytes (Ok tt) reply m → seat m ≡ seat l
  pub served : (l m : L) (bytes reply : List ℕ) → link.relation l bytes (Ok tt) reply m → IsServed (seat l) bytes (below l) reply (below m)

pub more_fits : IsRequest More
more_fits = ((tt, refl, refl), omega arith)

no_entries : (r : ℕ) (desk : Coordinator) → (decision r desk More).entries ≡ []
no_entries r desk = ap (λ (d : Decision). d.entries) (decided_more desk.rules (log_of desk.history) r)

-- nothing joined the log, and nothing was told to others
pub record Rests (r : ℕ) (old new : Coordinator) : Type 0 where
  pub rules : new.rules ≡ old.rules
  pub serves : new.spent ≡ false
  pub log : log_of new.history ≡ log_of old.history
  pub others : (x : ℕ) → (x ≡ r → ⊥) → told_of new.history x ≡ told_of old.history x

rests_once : (r : ℕ) (old new : Coordinator) → IsAnswered r old new More → Rests r old new
rests_once r old new a =
    record { rules = a.rules; serves = a.serves; log = a.log ∙ ap (λ (es : List Entry). es ++ log_of old.history) (no_entries r old); others = a.others }

rests_twice : (r : ℕ) (old mid new : Coordinator) → Rests r old mid → Rests r mid new → Rests r old new
rests_twice r old mid new a b =
    record { rules = b.rules ∙ a.rules; serves = b.serves; log = b.log ∙ a.log; others = λ x apart. b.others x apart ∙ a.others x apart }

-- frames can spell the log before, since they can spell the one after
fit_before : (r : ℕ) (old new : Coordinator) → Rests r old new → HasFitLog new → HasFitLog old
fit_before r old new a fit =
    subst (λ rules. IsFitLog rules (log_of old.history)) a.rules (subst (λ (l : List Entry). IsFitLog new.rules l) a.log fit)

fit_after : (r : ℕ) (old new : Coordinator) → Rests r old new → HasFitLog old → HasFitLog new
fit_after r old new a fit =
    subst (λ rules. IsFitLog rules (log_of new.history)) (sym a.rules) (subst (λ (l : List Entry). IsFitLog old.rules l) (sym a.log) fit)

-- all was heard
pub record HeardAll (r : ℕ) (desk : Coordinator) (now : List Entry) : Type 0 where
  pub all : told_of desk.history r ≡ length (log_of desk.history)
  pub heard_is : now ≡ told_log r (log_of desk.history)

heard_all : (r : ℕ) (desk : Coordinator) (now : List Entry) → told_of desk.history r ≡ length (log_of desk.history) → now ≡ heard_of r desk.history → HeardAll r desk now
heard_all r desk now all is = record {
  all = all;
  heard_is =
      let long = told_length r (log_of desk.history) in
      is ∙ prefix_whole (told_log r (log_of desk.history)) (told_of desk.history r) (omega arith);
}

same_entries : (a b : List Entry) (told : Option (List Entry)) → told ≡ Some a → told ≡ Some b → a ≡ b
same_entries a b told p q = let e : Some a ≡ Some b = sym p ∙ q in cc

module _ {L : Type 0} (link : Ghosts L) (seat : L → ℕ) (below : L → Coordinator) (over : IsOver link seat below) (r : ℕ) where
  pub served_as : (l m : L) (q : Request) (bytes : List ℕ) → seat l ≡ r → IsCall link l q (Ok tt) bytes m → IsServed r (request_frame q) (below l) bytes (below m)
  served_as l m q bytes at call = subst (λ x. IsServed x (request_frame q) (below l) bytes (below m)) at (over.served l m (request_frame q) bytes call.relation)

  seat_after : (l m : L) (q : Request) (bytes : List ℕ) → seat l ≡ r → IsCall link l q (Ok tt) bytes m → seat m ≡ r
  seat_after l m q bytes at call = over.stays l m (request_frame q) bytes call.relation ∙ at

  heard_after : (l m : L) (q : Request) (heard : List Entry) (bytes : List ℕ) (answer : ReplyParts) → seat l ≡ r → heard ≡ heard_of r (below l).history
      → IsCall link l q (Ok tt) bytes m → reply_of bytes ≡ Ok answer → reverse answer.news ++ heard ≡ heard_of r (below m).history
  heard_after l m q heard bytes answer at is call reads =
      let before : link.heard l ≡ Some heard = over.heard l ∙ ap (λ x. Some (heard_of x (below l).history)) at ∙ ap (λ (h : List Entry). Some h) (sym is) in
      let hears : Hears (Some heard) (Ok tt) bytes (link.heard m) = subst (λ h. Hears h (Ok tt) bytes (link.heard m)) before call.hears in
      let same : hears.0 ≡ answer = same_answer hears.0 answer (reply_of bytes) hears.1 reads in
      let now : link.heard m ≡ Some (reverse answer.news ++ heard) = hears.2 ∙ ap (λ (a : ReplyParts). Some (reverse a.news ++ heard)) same in
      let after : link.heard m ≡ Some (heard_of r (below m).history) = over.heard m ∙ ap (λ x. Some (heard_of x (below m).history)) (seat_after l m q bytes at call) in
      same_entries (reverse answer.news ++ heard) (heard_of r (below m).history) (link.heard m) now after

  -- THE REST OF A REPLY

  rests : (l m : L) (heard now : List Entry) (pending : Option Pending) (outcome : ReplyOutcome) → seat l ≡ r
      → Exchanges link r l heard pending More (Told now outcome) m → Rests r (below l) (below m)
  rests l m heard now pending outcome at (Ends _ _ _ _ _ bytes answer call answered last) =
      rests_once r (below l) (below m) (is_answered r More (below l) (below m) bytes more_fits (served_as l m More bytes at call))
  rests l m heard now pending outcome at (Goes_on _ mid _ _ _ _ bytes answer _ call answered more rest) =
      rests_twice r (below l) (below mid) (below m) (rests_once r (below l) (below mid) (is_answered r More (below l) (below mid) bytes more_fits (served_as l mid More bytes at call)))
      (rests mid m (reverse answer.news ++ heard) now (under_way (length heard) pending More answer) outcome (seat_after l mid More bytes at call) rest)

  goes_under : (n : ℕ) (pending : Option Pending) (q : Request) (answer : ReplyParts) → answer.more ≡ true → under_way n pending q answer ≡ Some (step_of n pending q answer.outcome)
  goes_under n pending q answer more = rw more refl

  -- its calls keep the step's outcome, and tell all in the end
  pub record RestTold (m : L) (now : List Entry) (step : Pending) (outcome : ReplyOutcome) : Type 0 where
    pub heard : HeardAll r (below m) now
    pub outcome_is : outcome ≡ step.outcome

  rest_told : (l m : L) (heard now : List Entry) (pending : Option Pending) (step : Pending) (outcome : ReplyOutcome) → seat l ≡ r → heard ≡ heard_of r (below l).history → pending ≡ Some step
      → Stands r (below l) → Exchanges link r l heard pending More (Told now outcome) m → RestTold m now step outcome
  rest_told l m heard now pending step outcome at is under s (Ends _ _ _ _ _ bytes answer call answered last) =
      let served = served_as l m More bytes at call in
      let fit = fit_after r (below l) (below m) (rests_once r (below l) (below m) (is_answered r More (below l) (below m) bytes more_fits served)) s.fit in
      record {
        heard =
            heard_all r (below m) (reverse answer.news ++ heard)
            (all_told r More (below l) (below m) bytes more_fits served s fit answer answered.reads answered.right.outcome last)
            (heard_after l m More heard bytes answer at is call answered.reads);
        outcome_is = ap (λ p. (step_of (length heard) p More answer.outcome).outcome) under;
      }
  rest_told l m heard now pending step outcome at is under s (Goes_on _ mid _ _ _ _ bytes answer _ call answered more rest) =
      let served = served_as l mid More bytes at call in
      let fit = fit_after r (below l) (below mid) (rests_once r (below l) (below mid) (is_answered r More (below l) (below mid) bytes more_fits served)) s.fit in
      rest_told mid m (reverse answer.news ++ heard) now (under_way (length heard) pending More answer) step outcome (seat_after l mid More bytes at call)
      (heard_after l mid More heard bytes answer at is call answered.reads)
      (goes_under (length heard) pending More answer more ∙ ap (λ p. Some (step_of (length heard) p More answer.outcome)) under)
      (stands r More (below l) (below mid) bytes more_fits served s fit answer answered.reads) rest

  -- A WHOLE EXCHANGE

  pub has_heard : (l m : L) (q : Request) (heard now : List Entry) (outcome : ReplyOutcome) → IsRequest q → seat l ≡ r → heard ≡ heard_of r (below l).history
      → Stands r (below l) → HasFitLog (below m) → Exchanges link r l heard None q (Told now outcome) m → HasHeard r (below l) (below m) q now outcome
  has_heard l m q heard now outcome fits at is s fit (Ends _ _ _ _ _ bytes answer call answered last) =
      let served = served_as l m q bytes at call in
      let h =
      heard_all r (below m) (reverse answer.news ++ heard)
      (all_told r q (below l) (below m) bytes fits served s fit answer answered.reads answered.right.outcome last)
      (heard_after l m q heard bytes answer at is call answered.reads) in
      record {
        answered = is_answered r q (below l) (below m) bytes fits served;
        outcome_is = outcome_is r q (below l) (below m) bytes fits served s fit answer answered.reads;
        all = h.all;
        heard_is = h.heard_is;
      }
  has_heard l m q heard now outcome fits at is s fit (Goes_on _ mid _ _ _ _ bytes answer _ call answered more rest) =
      let served = served_as l mid q bytes at call in
      let under = under_way (length heard) None q answer in
      let at_mid = seat_after l mid q bytes at call in
      let rested = rests mid m (reverse answer.news ++ heard) now under outcome at_mid rest in
      let fit_mid = fit_before r (below mid) (below m) rested fit in
      let first = is_answered r q (below l) (below mid) bytes fits served in
      let told =
      rest_told mid m (reverse answer.news ++ heard) now under (step_of (length heard) None q answer.outcome) outcome at_mid
      (heard_after l mid q heard bytes answer at is call answered.reads) (goes_under (length heard) None q answer more)
      (stands r q (below l) (below mid) bytes fits served s fit_mid answer answered.reads) rest in
      record {
        answered = record {
          rules = rested.rules ∙ first.rules;
          serves = rested.serves;
          log = rested.log ∙ first.log;
          others = λ x apart. rested.others x apart ∙ first.others x apart;
        };
        outcome_is = told.outcome_is ∙ outcome_is r q (below l) (below mid) bytes fits served s fit_mid answer answered.reads;
        all = told.heard.all;
        heard_is = told.heard.heard_is;
      }

  -- IT NEITHER FAILS NOR STRAYS

  pub never_fails : (l m : L) (q : Request) (heard : List Entry) (pending : Option Pending) → Exchanges link r l heard pending q Fails m → ⊥
  never_fails l m q heard pending calls =
      let rose : Rose (link.faults l) (link.faults m) = rose_where_failed link r l m heard pending q calls in
      let none : Rose 0 0 = subst (λ n. Rose n 0) (over.faults l) (subst (λ n. Rose (link.faults l) n) (over.faults m) rose) in
      omega (arith, none)

  same_number : (a b : ℕ) (told : Option ℕ) → told ≡ Some a → told ≡ Some b → a ≡ b
  same_number a b told p q = let e : Some a ≡ Some b = sym p ∙ q in cc

  knows : (l : L) (heard : List Entry) (pending : Option Pending) → seat l ≡ r → heard ≡ heard_of r (below l).history → link.pending l ≡ pending → Knows link r l heard pending
  knows l heard pending at is under = record {
    renderer = λ x e. same_number x (seat l) (link.renderer l) e (over.renderer l) ∙ at;
    heard_are = λ entries e.
        same_entries entries (heard_of (seat l) (below l).history) (link.heard l) e (over.heard l) ∙ ap (λ x. heard_of x (below l).history) at ∙ sym is;
    under = λ entries e. under;
  }

  none_told : {A : Type 0} (a : A) (told : Option A) → told ≡ Some a → told ≡ None → ⊥
  none_told {A} a told p q = let e : Some a ≡ None = sym p ∙ q in absurd cc

  pub never_strays : (l m : L) (q : Request) (heard : List Entry) (pending : Option Pending) (place : ℕ) → IsRequest q → is_fit r heard q ≡ true → seat l ≡ r
      → heard ≡ heard_of r (below l).history → link.pending l ≡ pending → Exchanges link r l heard pending q (Strays place) m → ⊥
  never_strays l m q heard pending place fits fit at is under calls =
      elim (strays_untold link r l m heard pending q place fits fit (knows l heard pending at is under) calls) [
        | inl untold ↦ none_told (heard_of (seat l) (below l).history) (link.heard l) (over.heard l) untold
        | inr unnamed ↦ none_told (seat m) (link.renderer m) (over.renderer m) unnamed
      ]
