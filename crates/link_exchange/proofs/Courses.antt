-- Where calls lead: the link's count, and what it tells.
use Rattle.std.proofs.Common.{◌≡◌, ℕ, ◌≤◌, List, ◌++◌, length, reverse, true, false, Option, Some, None, Ok, Err, refl, sym, ap, subst, ◌∙◌, arith, inl, inr}
use Rattle.std.specs.Prelude.{◌⊎◌, Result}
use Rattle.ports.specs.Causes.{Rose}
use Rattle.tree_log.specs.declared.entry.Entry.{Entry}
use Rattle.agent_terms.specs.declared.request.Request.{Request}
use Rattle.agent_terms.specs.declared.request.Request.TheVariants.{More}
use Rattle.agent_terms.specs.declared.request.ReplyOutcome.{ReplyOutcome}
use Rattle.frame_grammar.specs.Cut.{ReplyParts}
use Rattle.link_wire.specs.declared.link.LinkError.{LinkError}
use Rattle.link_wire.specs.declared.link.Link.{Ghosts}
use Rattle.link_wire.specs.declared.bad.Bad.{Bad}
use Rattle.link_wire.specs.Links.{Pending, IsReplyTo, AnswersFit, Hears, GoesOn, Stays, under_way, is_fit}
use Rattle.link_wire.specs.Replies.{reply_of}
use Rattle.link_wire.specs.Requests.{IsRequest, request_frame}
use Rattle.link_wire.proofs.RequestFrames.{request_again}
use Rattle.link_exchange.specs.Hearing.{IsStray, Unreadable, Unfitting}
use Rattle.link_exchange.specs.Calls.{IsCall, Knows, Told, Fails, Strays, Exchanges, Fails_now, Strays_now, Ends, Goes_on}

-- THE COUNT

later_rose : (before mid now : ℕ) → before ≤ mid → Rose mid now → Rose before now
later_rose before mid now le rose = omega (arith, rose, le)

-- where the calls end by a failure, the count rose
pub rose_where_failed : {L : Type 0} (link : Ghosts L) (r : ℕ) (l m : L) (heard : List Entry) (pending : Option Pending) (request : Request)
    → Exchanges link r l heard pending request Fails m → Rose (link.faults l) (link.faults m)
rose_where_failed link r l m heard pending request (Fails_now _ _ _ _ _ bytes call) = call.fails
rose_where_failed link r l m heard pending request (Goes_on _ mid _ _ _ _ bytes answer _ call answered more rest) =
    later_rose (link.faults l) (link.faults mid) (link.faults m) call.counts.0
    (rose_where_failed link r mid m (reverse answer.news ++ heard) (under_way (length heard) pending request answer) More rest)

-- WHAT THE LINK TELLS

same_answer : (a b : ReplyParts) (read : Result ReplyParts Bad) → read ≡ Ok a → read ≡ Ok b → a ≡ b
same_answer a b read p q = let e : Ok a ≡ Ok b = sym p ∙ q in cc

same_entries : (a b : List Entry) (told : Option (List Entry)) → told ≡ Some a → told ≡ Some b → a ≡ b
same_entries a b told p q = let e : Some a ≡ Some b = sym p ∙ q in cc

-- a call that succeeds on a link that tells
pub record WasTold {L : Type 0} (link : Ghosts L) (l mid : L) (heard : List Entry) (pending : Option Pending) (request : Request) (answer : ReplyParts) : Type 0 where
  pub heard_are : link.heard mid ≡ Some (reverse answer.news ++ heard)
  pub under : link.pending mid ≡ under_way (length heard) pending request answer

was_told : {L : Type 0} (link : Ghosts L) (r : ℕ) (l mid : L) (heard : List Entry) (pending : Option Pending) (request : Request) (bytes : List ℕ) (answer : ReplyParts)
    → IsRequest request → IsCall link l request (Ok tt) bytes mid → reply_of bytes ≡ Ok answer → link.heard l ≡ Some heard → link.pending l ≡ pending
    → WasTold link l mid heard pending request answer
was_told link r l mid heard pending request bytes answer fits call reads told under =
    let hears : Hears (Some heard) (Ok tt) bytes (link.heard mid) = subst (λ h. Hears h (Ok tt) bytes (link.heard mid)) told call.hears in
    let goes : GoesOn (Some heard) pending (request_frame request) (Ok tt) bytes (link.pending mid) =
    subst (λ p. GoesOn (Some heard) p (request_frame request) (Ok tt) bytes (link.pending mid)) under
    (subst (λ h. GoesOn h (link.pending l) (request_frame request) (Ok tt) bytes (link.pending mid)) told call.goes_on) in
    let same : hears.0 ≡ answer = same_answer hears.0 answer (reply_of bytes) hears.1 reads in
    record {
      heard_are = subst (λ a. link.heard mid ≡ Some (reverse a.news ++ heard)) same hears.2;
      under = goes request answer (request_again request fits) reads;
    }

-- it told before, if it tells now
told_before : {L : Type 0} (link : Ghosts L) (l mid : L) (request : Request) (bytes : List ℕ) (entries : List Entry) → IsCall link l request (Ok tt) bytes mid
    → link.heard mid ≡ Some entries → link.heard l ≡ None → ⊥
told_before link l mid request bytes entries call now before =
    subst (λ n. Hears None (Ok tt) bytes n) now (subst (λ h. Hears h (Ok tt) bytes (link.heard mid)) before call.hears)

named_before : {L : Type 0} (link : Ghosts L) (l mid : L) (request : Request) (result : Result (Unit {0}) LinkError) (bytes : List ℕ) (x : ℕ)
    → IsCall link l request result bytes mid → link.renderer mid ≡ Some x → link.renderer l ≡ Some x
named_before link l mid request result bytes x call now = subst (λ n. Stays (link.renderer l) n) now call.stays

knows_more : {L : Type 0} (link : Ghosts L) (r : ℕ) (l mid : L) (heard : List Entry) (pending : Option Pending) (request : Request) (bytes : List ℕ) (answer : ReplyParts)
    → IsRequest request → IsCall link l request (Ok tt) bytes mid → reply_of bytes ≡ Ok answer → Knows link r l heard pending
    → Knows link r mid (reverse answer.news ++ heard) (under_way (length heard) pending request answer)
knows_more {L} link r l mid heard pending request bytes answer fits call reads knows = by_heard (link.heard l) refl
  where
    by_heard : (h : Option (List Entry)) → link.heard l ≡ h → Knows link r mid (reverse answer.news ++ heard) (under_way (length heard) pending request answer)
    by_heard None none = record {
      renderer = λ x e. knows.renderer x (named_before link l mid request (Ok tt) bytes x call e);
      heard_are = λ entries e. absurd (told_before link l mid request bytes entries call e none);
      under = λ entries e. absurd (told_before link l mid request bytes entries call e none);
    }
    by_heard (Some xs) some =
        let told : link.heard l ≡ Some heard = some ∙ ap Some (knows.heard_are xs some) in
        let w = was_told link r l mid heard pending request bytes answer fits call reads told (knows.under xs some) in
        record {
          renderer = λ x e. knows.renderer x (named_before link l mid request (Ok tt) bytes x call e);
          heard_are = λ entries e. same_entries entries (reverse answer.news ++ heard) (link.heard mid) e w.heard_are;
          under = λ entries e. w.under;
        }

-- A REPLY THAT IS NONE

stray_answered : (r : ℕ) (heard : List Entry) (pending : Option Pending) (request : Request) (bytes : List ℕ) (place : ℕ) (answer : ReplyParts)
    → IsStray r heard pending request bytes place → reply_of bytes ≡ Ok answer → IsReplyTo r heard pending request answer → ⊥
stray_answered r heard pending request bytes place answer (Unreadable bad none) reads right = let e : Err bad ≡ Ok answer = sym none ∙ reads in absurd cc
stray_answered r heard pending request bytes place answer (Unfitting other some wrong) reads right =
    wrong (subst (λ a. IsReplyTo r heard pending request a) (same_answer answer other (reply_of bytes) reads some) right)

-- the link doesn't tell what was heard, or no more its renderer
strays_now : {L : Type 0} (link : Ghosts L) (r : ℕ) (l m : L) (heard : List Entry) (pending : Option Pending) (request : Request) (bytes : List ℕ) (place : ℕ)
    → IsRequest request → is_fit r heard request ≡ true → Knows link r l heard pending
    → IsCall link l request (Ok tt) bytes m → IsStray r heard pending request bytes place → (link.heard l ≡ None) ⊎ (link.renderer m ≡ None)
strays_now {L} link r l m heard pending request bytes place fits fit knows call stray = by_heard (link.heard l) refl
  where
    by_renderer : (entries : List Entry) → link.heard l ≡ Some entries → (x : Option ℕ) → link.renderer m ≡ x → (link.heard l ≡ None) ⊎ (link.renderer m ≡ None)
    by_renderer entries some None e = inr e
    by_renderer entries some (Some x) e =
        let named : link.renderer l ≡ Some r = named_before link l m request (Ok tt) bytes x call e ∙ ap Some (knows.renderer x (named_before link l m request (Ok tt) bytes x call e)) in
        let told : link.heard l ≡ Some heard = some ∙ ap Some (knows.heard_are entries some) in
        let answers : AnswersFit (Some r) (Some heard) pending (request_frame request) (Ok tt) bytes =
        subst (λ p. AnswersFit (Some r) (Some heard) p (request_frame request) (Ok tt) bytes) (knows.under entries some)
        (subst (λ h. AnswersFit (Some r) h (link.pending l) (request_frame request) (Ok tt) bytes) told
        (subst (λ n. AnswersFit n (link.heard l) (link.pending l) (request_frame request) (Ok tt) bytes) named call.answers)) in
        let right = answers request (request_again request fits) fit in
        absurd (stray_answered r heard pending request bytes place right.0 stray right.1 right.2)

    by_heard : (h : Option (List Entry)) → link.heard l ≡ h → (link.heard l ≡ None) ⊎ (link.renderer m ≡ None)
    by_heard None none = inl none
    by_heard (Some entries) some = by_renderer entries some (link.renderer m) refl

more_fits : IsRequest More
more_fits = ((tt, refl, refl), omega arith)

pub strays_untold : {L : Type 0} (link : Ghosts L) (r : ℕ) (l m : L) (heard : List Entry) (pending : Option Pending) (request : Request) (place : ℕ)
    → IsRequest request → is_fit r heard request ≡ true → Knows link r l heard pending
    → Exchanges link r l heard pending request (Strays place) m → (link.heard l ≡ None) ⊎ (link.renderer m ≡ None)
strays_untold link r l m heard pending request place fits fit knows (Strays_now _ _ _ _ _ bytes _ call stray) =
    strays_now link r l m heard pending request bytes place fits fit knows call stray
strays_untold {L} link r l m heard pending request place fits fit knows (Goes_on _ mid _ _ _ _ bytes answer _ call answered more rest) =
    by_rest (strays_untold link r mid m (reverse answer.news ++ heard) (under_way (length heard) pending request answer) More place more_fits refl
    (knows_more link r l mid heard pending request bytes answer fits call answered.reads knows) rest)
  where
    by_heard : (h : Option (List Entry)) → link.heard l ≡ h → link.heard mid ≡ None → (link.heard l ≡ None) ⊎ (link.renderer m ≡ None)
    by_heard None none untold = inl none
    by_heard (Some xs) some untold =
        let told : link.heard l ≡ Some heard = some ∙ ap Some (knows.heard_are xs some) in
        let w = was_told link r l mid heard pending request bytes answer fits call answered.reads told (knows.under xs some) in
        let e : None ≡ Some (reverse answer.news ++ heard) = sym untold ∙ w.heard_are in
        absurd cc

    by_rest : (link.heard mid ≡ None) ⊎ (link.renderer m ≡ None) → (link.heard l ≡ None) ⊎ (link.renderer m ≡ None)
    by_rest (inl untold) = by_heard (link.heard l) refl untold
    by_rest (inr unnamed) = inr unnamed

-- WHERE ALL WAS TOLD

no_more : (heard : ℕ) (pending : Option Pending) (request : Request) (answer : ReplyParts) → answer.more ≡ false → under_way heard pending request answer ≡ None
no_more heard pending request answer e = rw e refl

-- the link knows what was heard, and no step is under way
pub told_knows : {L : Type 0} (link : Ghosts L) (r : ℕ) (l m : L) (heard now : List Entry) (pending : Option Pending) (request : Request) (outcome : ReplyOutcome)
    → IsRequest request → Knows link r l heard pending → Exchanges link r l heard pending request (Told now outcome) m → Knows link r m now None
told_knows link r l m heard now pending request outcome fits knows (Ends _ _ _ _ _ bytes answer call answered last) =
    subst (λ p. Knows link r m (reverse answer.news ++ heard) p) (no_more (length heard) pending request answer last)
    (knows_more link r l m heard pending request bytes answer fits call answered.reads knows)
told_knows link r l m heard now pending request outcome fits knows (Goes_on _ mid _ _ _ _ bytes answer _ call answered more rest) =
    told_knows link r mid m (reverse answer.news ++ heard) now (under_way (length heard) pending request answer) More outcome more_fits
    (knows_more link r l mid heard pending request bytes answer fits call answered.reads knows) rest
