-- Calls one after the other.
use Rattle.std.proofs.Common.{◌≡◌, ℕ, ◌+◌, ◌≤◌, ◌<◌, List, ◌++◌, length, reverse, Bool, true, false, Option, Some, Ok, Err, refl, ap, sym, subst, ◌∙◌, arith, append_assoc, length-append, inl, inr}
use Rattle.std.proofs.lemmas.List.{length-reverse}
use Rattle.std.specs.Prelude.{Result, OnErr, IfOk}
use Rattle.tree_log.specs.declared.entry.Entry.{Entry}
use Rattle.agent_terms.specs.declared.request.Request.{Request}
use Rattle.agent_terms.specs.declared.request.Request.TheVariants.{More}
use Rattle.agent_terms.specs.declared.request.ReplyOutcome.{ReplyOutcome}
use Rattle.frame_grammar.specs.Cut.{ReplyParts}
use Rattle.link_wire.specs.declared.link.Link.{Ghosts}
use Rattle.link_wire.specs.Links.{Pending, IsReplyTo, step_of, under_way, names_of_step, names_what_is_there, answers, most_heard}
use Rattle.link_exchange.specs.Hearing.{Unfitting, IsHeard, Extends}
use Rattle.link_exchange.specs.Calls.{Course, Told, Fails, Strays, Starves, Exchanges, Unasked, Unanswered, Unread, Fails_now, Strays_now, Ends, Goes_on, AskedOnce, HasCalled}
use Rattle.link_exchange.specs.Ending.{Whole, HasOutcome, IsReplied, course_of}
use Rattle.link_exchange.specs.declared.exchanging.End.{End}
use Rattle.link_exchange.specs.declared.exchanging.End.TheVariants as ends
use Rattle.link_exchange.specs.declared.asking.Heard.TheVariants as heards

pub grown_more : (a b c : List Entry) → Extends a b → Extends b c → Extends a c
grown_more a b c first next = (next.0 ++ first.0, next.1 ∙ ap (λ es. next.0 ++ es) first.1 ∙ sym (append_assoc next.0 first.0 a))

-- memory ran out at a call
pub starves_at : {L : Type 0} (link : Ghosts L) (r : ℕ) (l m : L) (heard : List Entry) (pending : Option Pending) (request : Request)
    → HasCalled link l request m → Exchanges link r l heard pending request Starves m
starves_at link r l m heard pending request (inl same) = subst (λ x. Exchanges link r l heard pending request Starves x) (sym same) (Unasked l heard pending request)
starves_at link r l m heard pending request (inr (bytes, inl call)) = Unread l m heard pending request bytes call
starves_at link r l m heard pending request (inr (bytes, inr call)) = Unanswered l m heard pending request bytes call

-- a reply that was heard is one to its request, so long as what its outcome names is there where it is the last
right_of : (r : ℕ) (heard : List Entry) (pending : Option Pending) (request : Request) (answer : ReplyParts) → IsHeard heard request answer
    → (answer.more ≡ false → names_of_step r (reverse answer.news ++ heard) (step_of (length heard) pending request answer.outcome) ≡ true)
    → IsReplyTo r heard pending request answer
right_of r heard pending request answer h there = record { outcome = h.outcome; from = h.from; admitted = h.admitted; room = h.room; there = there }

pub goes_on_with : {L : Type 0} (link : Ghosts L) (r : ℕ) (l mid m : L) (heard now : List Entry) (pending : Option Pending) (request : Request) (outcome : ReplyOutcome) (course : Course)
    → AskedOnce link l heard request (heards.Told outcome true) mid now
    → Exchanges link r mid now (Some (step_of (length heard) pending request outcome)) More course m
    → Exchanges link r l heard pending request course m
goes_on_with link r l mid m heard now pending request outcome course (bytes, call, (answer, reads, outcome_is, more_is, is, now_is, some)) rest =
    let stated : Exchanges link r mid (reverse answer.news ++ heard) (Some (step_of (length heard) pending request outcome)) More course m =
    subst (λ es. Exchanges link r mid es (Some (step_of (length heard) pending request outcome)) More course m) now_is rest in
    let same : Some (step_of (length heard) pending request outcome) ≡ under_way (length heard) pending request answer =
    ap (λ o. Some (step_of (length heard) pending request o)) (sym outcome_is) ∙ sym (going answer.more more_is) in
    Goes_on l mid m heard pending request bytes answer course call
    (record { reads = reads; right = right_of r heard pending request answer is (λ last. let e : true ≡ false = sym more_is ∙ last in absurd cc) })
    more_is (subst (λ p. Exchanges link r mid (reverse answer.news ++ heard) p More course m) same stated)
  where
    going : (b : Bool) → b ≡ true → under_way (length heard) pending request (record answer { more = b }) ≡ Some (step_of (length heard) pending request answer.outcome)
    going true e = refl
    going false e = absurd cc

pub ends_with : {L : Type 0} (link : Ghosts L) (r : ℕ) (l m : L) (heard now : List Entry) (pending : Option Pending) (request : Request) (outcome : ReplyOutcome)
    → AskedOnce link l heard request (heards.Told outcome false) m now
    → names_of_step r now (step_of (length heard) pending request outcome) ≡ true
    → Exchanges link r l heard pending request (Told now (step_of (length heard) pending request outcome).outcome) m
ends_with link r l m heard now pending request outcome (bytes, call, (answer, reads, outcome_is, more_is, is, now_is, some)) there =
    let named : names_of_step r (reverse answer.news ++ heard) (step_of (length heard) pending request answer.outcome) ≡ true =
    subst (λ o. names_of_step r (reverse answer.news ++ heard) (step_of (length heard) pending request o) ≡ true) (sym outcome_is)
    (subst (λ es. names_of_step r es (step_of (length heard) pending request outcome) ≡ true) now_is there) in
    let told : Exchanges link r l heard pending request (Told (reverse answer.news ++ heard) (step_of (length heard) pending request answer.outcome).outcome) m =
    Ends l m heard pending request bytes answer call (record { reads = reads; right = right_of r heard pending request answer is (λ last. named) }) more_is in
    subst (λ es. Exchanges link r l heard pending request (Told es (step_of (length heard) pending request outcome).outcome) m) (sym now_is)
    (subst (λ o. Exchanges link r l heard pending request (Told (reverse answer.news ++ heard) (step_of (length heard) pending request o).outcome) m) outcome_is told)

-- the last reply was heard, and what the outcome of its step names isn't there
pub strays_with : {L : Type 0} (link : Ghosts L) (r : ℕ) (l m : L) (heard now : List Entry) (pending : Option Pending) (request : Request) (outcome : ReplyOutcome)
    → AskedOnce link l heard request (heards.Told outcome false) m now
    → names_of_step r now (step_of (length heard) pending request outcome) ≡ false
    → Exchanges link r l heard pending request (Strays 0) m
strays_with link r l m heard now pending request outcome (bytes, call, (answer, reads, outcome_is, more_is, is, now_is, some)) there =
    let named : names_of_step r (reverse answer.news ++ heard) (step_of (length heard) pending request answer.outcome) ≡ false =
    subst (λ o. names_of_step r (reverse answer.news ++ heard) (step_of (length heard) pending request o) ≡ false) (sym outcome_is)
    (subst (λ es. names_of_step r es (step_of (length heard) pending request outcome) ≡ false) now_is there) in
    Strays_now l m heard pending request bytes 0 call
    (Unfitting answer reads (λ right. let e : true ≡ false = sym (right.there more_is) ∙ named in absurd cc))

-- the reply is none
pub strays_at : {L : Type 0} (link : Ghosts L) (r : ℕ) (l m : L) (heard now : List Entry) (pending : Option Pending) (request : Request) (place : ℕ)
    → AskedOnce link l heard request (heards.Stray place) m now → Exchanges link r l heard pending request (Strays place) m
strays_at link r l m heard now pending request place (bytes, call, stray) = Strays_now l m heard pending request bytes place call (stray r pending)

-- the link failed
pub fails_at : {L : Type 0} (link : Ghosts L) (r : ℕ) (l m : L) (heard now : List Entry) (pending : Option Pending) (request : Request)
    → AskedOnce link l heard request heards.Failed m now → Exchanges link r l heard pending request Fails m
fails_at link r l m heard now pending request (bytes, call) = Fails_now l m heard pending request bytes call

-- with each reply that has more to tell, fewer entries can be told
pub fewer : {L : Type 0} (link : Ghosts L) (l m : L) (heard now : List Entry) (request : Request) (outcome : ReplyOutcome)
    → AskedOnce link l heard request (heards.Told outcome true) m now → (length heard < length now) × (length now ≤ most_heard)
fewer link l m heard now request outcome (bytes, call, (answer, reads, outcome_is, more_is, is, now_is, some)) =
    let long : length now ≡ length answer.news + length heard = ap length now_is ∙ length-append (reverse answer.news) heard ∙ ap (λ n. n + length heard) (length-reverse answer.news) in
    let tells = some refl in
    (omega arith, omega (arith, is.room))

-- the request may have the outcome of its first reply
pub answers_of : {L : Type 0} (link : Ghosts L) (l m : L) (heard now : List Entry) (request : Request) (outcome : ReplyOutcome) (more : Bool)
    → AskedOnce link l heard request (heards.Told outcome more) m now → answers request outcome ≡ true
answers_of link l m heard now request outcome more (bytes, call, (answer, reads, outcome_is, more_is, is, now_is, some)) =
    subst (λ o. answers request o ≡ true) outcome_is is.outcome

-- where it is an error, and where it is none
pub if_err : {T E P : Type 0} (x : Result T E) → P → OnErr x P
if_err (Ok v) h = tt
if_err (Err e) h = h

pub if_ok : {T E : Type 0} {P Q : T → Type 0} (x : Result T E) → ((v : T) → P v → Q v) → IfOk x P → IfOk x Q
if_ok (Ok v) f h = f v h
if_ok (Err e) f h = tt

pub err_if : {T E P Q : Type 0} (x : Result T E) → (P → Q) → OnErr x P → OnErr x Q
err_if (Ok v) f h = tt
err_if (Err e) f h = f h

-- how a step ends whose last reply was heard
pub ended_with : {L : Type 0} (link : Ghosts L) (r : ℕ) (l m : L) (heard now : List Entry) (pending : Option Pending) (request : Request) (outcome : ReplyOutcome) (end : End)
    → AskedOnce link l heard request (heards.Told outcome false) m now
    → Whole r now (step_of (length heard) pending request outcome).older (step_of (length heard) pending request outcome).outcome end
    → Exchanges link r l heard pending request (course_of end now) m
ended_with link r l m heard now pending request outcome (ends.Told given) asked whole =
    subst (λ o. Exchanges link r l heard pending request (Told now o) m) (sym whole.0) (ends_with link r l m heard now pending request outcome asked whole.1)
ended_with link r l m heard now pending request outcome ends.Failed asked whole = absurd whole
ended_with link r l m heard now pending request outcome (ends.Strays place) asked whole =
    subst (λ n. Exchanges link r l heard pending request (Strays n) m) (sym whole.0) (strays_with link r l m heard now pending request outcome asked whole.1)

-- an outcome that is told is the first reply's
pub answered_on : (request : Request) (r : ℕ) (now : List Entry) (older n : ℕ) (outcome : ReplyOutcome) (end : End) → answers request outcome ≡ true → n ≡ older
    → HasOutcome r now n outcome end → IsReplied request r now older end
answered_on request r now older n outcome (ends.Told given) may same h = (
  subst (λ o. answers request o ≡ true) (sym h.0) may,
  subst (λ o. names_what_is_there r now older o ≡ true) (sym h.0) (subst (λ k. names_what_is_there r now k outcome ≡ true) same h.1),
)
answered_on request r now older n outcome _ may same h = tt

pub whole_on : (r : ℕ) (now : List Entry) (older : ℕ) (outcome : ReplyOutcome) (end : End) → Whole r now older outcome end → HasOutcome r now older outcome end
whole_on r now older outcome (ends.Told given) h = h
whole_on r now older outcome _ h = tt
