-- An exchange over a link that passes its calls on.
use Rattle.std.proofs.Common.{ℕ, List, ◌++◌, length, reverse, Option, Ok, Err}
use Rattle.std.specs.Prelude.{Result}
use Rattle.tree_log.specs.declared.entry.Entry.{Entry}
use Rattle.agent_terms.specs.declared.request.Request.{Request}
use Rattle.agent_terms.specs.declared.request.Request.TheVariants.{More}
use Rattle.link_exchange.specs.Calls.{Course, IsCall, Exchanges, Unasked, Unanswered, Unread, Fails_now, Strays_now, Ends, Goes_on}
use Rattle.link_wire.specs.declared.link.Link.{Ghosts}
use Rattle.link_wire.specs.declared.link.LinkError.{LinkError}
use Rattle.link_wire.specs.declared.link.LinkError.TheVariants.{Failed, NoMemory}
use Rattle.link_wire.specs.Links.{Pending, under_way}

-- A call of one link, where it is as P says, is one of the other link; and then it is so again. Such are the calls with requests as Q
-- says, among them those for the rest of a reply.
pub record Passes_on {L K : Type 0} (link : Ghosts L) (inner : Ghosts K) (inside : L → K) (P : L → Type 0) (Q : Request → Type 0) : Type 0 where
  pub more : Q More
  pub call : (l m : L) (q : Request) (result : Result (Unit {0}) LinkError) (bytes : List ℕ) → Q q → P l → IsCall link l q result bytes m → IsCall inner (inside l) q result bytes (inside m)
  pub kept : (l m : L) (q : Request) (result : Result (Unit {0}) LinkError) (bytes : List ℕ) → Q q → P l → IsCall link l q result bytes m → P m

module _ {L K : Type 0} (link : Ghosts L) (inner : Ghosts K) (inside : L → K) (P : L → Type 0) (Q : Request → Type 0) (on : Passes_on link inner inside P Q) (r : ℕ) where
  pub carried : (l m : L) (heard : List Entry) (pending : Option Pending) (q : Request) (course : Course) → Q q → P l → Exchanges link r l heard pending q course m
      → Exchanges inner r (inside l) heard pending q course (inside m)
  carried l m heard pending q course asks is (Unasked _ _ _ _) = Unasked (inside l) heard pending q
  carried l m heard pending q course asks is (Unanswered _ _ _ _ _ bytes call) =
      Unanswered (inside l) (inside m) heard pending q bytes (on.call l m q (Err NoMemory) bytes asks is call)
  carried l m heard pending q course asks is (Unread _ _ _ _ _ bytes call) = Unread (inside l) (inside m) heard pending q bytes (on.call l m q (Ok tt) bytes asks is call)
  carried l m heard pending q course asks is (Fails_now _ _ _ _ _ bytes call) = Fails_now (inside l) (inside m) heard pending q bytes (on.call l m q (Err Failed) bytes asks is call)
  carried l m heard pending q course asks is (Strays_now _ _ _ _ _ bytes place call stray) =
      Strays_now (inside l) (inside m) heard pending q bytes place (on.call l m q (Ok tt) bytes asks is call) stray
  carried l m heard pending q course asks is (Ends _ _ _ _ _ bytes answer call answered last) =
      Ends (inside l) (inside m) heard pending q bytes answer (on.call l m q (Ok tt) bytes asks is call) answered last
  carried l m heard pending q course asks is (Goes_on _ mid _ _ _ _ bytes answer _ call answered more rest) =
      Goes_on (inside l) (inside mid) (inside m) heard pending q bytes answer course (on.call l mid q (Ok tt) bytes asks is call) answered more
      (carried mid m (reverse answer.news ++ heard) (under_way (length heard) pending q answer) More course on.more (on.kept l mid q (Ok tt) bytes asks is call) rest)

  pub kept_on : (l m : L) (heard : List Entry) (pending : Option Pending) (q : Request) (course : Course) → Q q → P l → Exchanges link r l heard pending q course m → P m
  kept_on l m heard pending q course asks is (Unasked _ _ _ _) = is
  kept_on l m heard pending q course asks is (Unanswered _ _ _ _ _ bytes call) = on.kept l m q (Err NoMemory) bytes asks is call
  kept_on l m heard pending q course asks is (Unread _ _ _ _ _ bytes call) = on.kept l m q (Ok tt) bytes asks is call
  kept_on l m heard pending q course asks is (Fails_now _ _ _ _ _ bytes call) = on.kept l m q (Err Failed) bytes asks is call
  kept_on l m heard pending q course asks is (Strays_now _ _ _ _ _ bytes place call stray) = on.kept l m q (Ok tt) bytes asks is call
  kept_on l m heard pending q course asks is (Ends _ _ _ _ _ bytes answer call answered last) = on.kept l m q (Ok tt) bytes asks is call
  kept_on l m heard pending q course asks is (Goes_on _ mid _ _ _ _ bytes answer _ call answered more rest) =
      kept_on mid m (reverse answer.news ++ heard) (under_way (length heard) pending q answer) More course on.more (on.kept l mid q (Ok tt) bytes asks is call) rest

-- what is so of each call's link before and after it is so of a whole exchange's
pub kept_so : {L : Type 0} (link : Ghosts L) (S : L → L → Type 0) → ((l : L) → S l l) → ((k l m : L) → S k l → S l m → S k m)
    → ((l m : L) (q : Request) (result : Result (Unit {0}) LinkError) (bytes : List ℕ) → IsCall link l q result bytes m → S l m)
    → (r : ℕ) (l m : L) (heard : List Entry) (pending : Option Pending) (q : Request) (course : Course) → Exchanges link r l heard pending q course m → S l m
kept_so link S at_once then by_call r l m heard pending q course (Unasked _ _ _ _) = at_once l
kept_so link S at_once then by_call r l m heard pending q course (Unanswered _ _ _ _ _ bytes call) = by_call l m q (Err NoMemory) bytes call
kept_so link S at_once then by_call r l m heard pending q course (Unread _ _ _ _ _ bytes call) = by_call l m q (Ok tt) bytes call
kept_so link S at_once then by_call r l m heard pending q course (Fails_now _ _ _ _ _ bytes call) = by_call l m q (Err Failed) bytes call
kept_so link S at_once then by_call r l m heard pending q course (Strays_now _ _ _ _ _ bytes place call stray) = by_call l m q (Ok tt) bytes call
kept_so link S at_once then by_call r l m heard pending q course (Ends _ _ _ _ _ bytes answer call answered last) = by_call l m q (Ok tt) bytes call
kept_so link S at_once then by_call r l m heard pending q course (Goes_on _ mid _ _ _ _ bytes answer _ call answered more rest) =
    then l mid m (by_call l mid q (Ok tt) bytes call)
    (kept_so link S at_once then by_call r mid m (reverse answer.news ++ heard) (under_way (length heard) pending q answer) More course rest)
