-- Replies that are taken in, and bytes that are none.
use Rattle.std.proofs.Common.{◌≡◌, ℕ, zero, suc, ◌+◌, ◌≤◌, ◌<◌, List, length, Bool, true, false, Option, Ok, refl, sym, subst, ◌∙◌, arith}
use Rattle.std.specs.Prelude.{◌&&◌, ◌==◌, nat_le, not}
use Rattle.std.proofs.lemmas.Bool.Decides.{nat_tests}
use Rattle.tree_log.specs.declared.entry.Entry.{Entry}
use Rattle.tree_log.proofs.Admitted.{both}
use Rattle.agent_terms.specs.declared.request.Request.{Request}
use Rattle.frame_grammar.specs.Cut.{ReplyParts}
use Rattle.link_wire.specs.Links.{Pending, IsReplyTo, answers, are_admitted, most_heard}
use Rattle.link_wire.specs.Replies.{IsReply, reply_of}
use Rattle.link_exchange.specs.Hearing.{IsStray, Unfitting, IsHeard}

abbrev pub fits_at : ℕ → Request → ReplyParts → Bool
fits_at n request answer = answers request answer.outcome && (answer.from == n) && nat_le (n + length answer.news) most_heard

abbrev pub fits : List Entry → Request → ReplyParts → Bool
fits heard request answer = fits_at (length heard) request answer

pub at_length : (heard : List Entry) (request : Request) (answer : ReplyParts) (n : ℕ) (b : Bool) → n ≡ length heard → fits_at n request answer ≡ b → fits heard request answer ≡ b
at_length heard request answer n b same h = subst (λ k. fits_at k request answer ≡ b) same h

same_number : (a b : ℕ) → a ≡ b → (a == b) ≡ true
same_number a b e = grind (arith, nat_tests, e)

no_more_than : (a b : ℕ) → a ≤ b → nat_le a b ≡ true
no_more_than a b h = grind (arith, nat_tests)

right_fits : (r : ℕ) (heard : List Entry) (pending : Option Pending) (request : Request) (answer : ReplyParts) → IsReplyTo r heard pending request answer → fits heard request answer ≡ true
right_fits r heard pending request answer right =
    rw (right.outcome, same_number answer.from (length heard) right.from, no_more_than (length heard + length answer.news) most_heard right.room) refl

pub unfit : (heard : List Entry) (request : Request) (bytes : List ℕ) (answer : ReplyParts) → reply_of bytes ≡ Ok answer → fits heard request answer ≡ false
    → (r : ℕ) (pending : Option Pending) → IsStray r heard pending request bytes 0
unfit heard request bytes answer reads test r pending =
    Unfitting answer reads (λ right. let e : true ≡ false = sym (right_fits r heard pending request answer right) ∙ test in absurd cc)

pub unheard : (heard : List Entry) (request : Request) (bytes : List ℕ) (answer : ReplyParts) → reply_of bytes ≡ Ok answer → are_admitted heard answer.news ≡ false
    → (r : ℕ) (pending : Option Pending) → IsStray r heard pending request bytes 0
unheard heard request bytes answer reads test r pending =
    Unfitting answer reads (λ right. let e : true ≡ false = sym right.admitted ∙ test in absurd cc)

from_test : (a b : ℕ) → (a == b) ≡ true → a ≡ b
from_test a b h = grind (arith, nat_tests, h)

within_test : (a b : ℕ) → nat_le a b ≡ true → a ≤ b
within_test a b h = grind (arith, nat_tests)

pub heard_of : (heard : List Entry) (request : Request) (answer : ReplyParts) → fits heard request answer ≡ true → are_admitted heard answer.news ≡ true → IsHeard heard request answer
heard_of heard request answer test follow =
    let first = both (answers request answer.outcome && (answer.from == length heard)) (nat_le (length heard + length answer.news) most_heard) test in
    let second = both (answers request answer.outcome) (answer.from == length heard) first.0 in
    record {
      outcome = second.0;
      from = from_test answer.from (length heard) second.1;
      admitted = follow;
      room = within_test (length heard + length answer.news) most_heard first.1;
    }

pub room_of : (heard : List Entry) (request : Request) (answer : ReplyParts) → fits heard request answer ≡ true → length heard + length answer.news ≤ most_heard
room_of heard request answer test =
    within_test (length heard + length answer.news) most_heard (both (answers request answer.outcome && (answer.from == length heard)) (nat_le (length heard + length answer.news) most_heard) test).1

-- a reply that has more to tell tells something
some_if_more : (more : Bool) (n : ℕ) → not (more && (n == 0)) ≡ true → more ≡ true → 0 < n
some_if_more false n h e = absurd cc
some_if_more true zero h e = absurd cc
some_if_more true (suc n) h e = omega arith

pub tells_some : (answer : ReplyParts) → IsReply answer → answer.more ≡ true → 0 < length answer.news
tells_some answer is more = some_if_more answer.more (length answer.news) is.0.0.1.1.1.0.0.1 more
