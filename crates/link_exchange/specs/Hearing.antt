-- What a renderer takes in of one reply.
use Rattle.std.specs.Prelude.{◌≡◌, ◌<◌, ◌≤◌, ◌+◌, ℕ, List, length, reverse, ◌++◌, true, Option, Ok, Err}
use Rattle.tree_log.specs.declared.entry.Entry.{Entry}
use Rattle.agent_terms.specs.declared.request.Request.{Request}
use Rattle.frame_grammar.specs.Cut.{ReplyParts}
use Rattle.link_wire.specs.declared.bad.Bad.{Bad}
use Rattle.link_wire.specs.Links.{Pending, IsReplyTo, answers, are_admitted, most_heard}
use Rattle.link_wire.specs.Replies.{reply_of}
use Rattle.link_exchange.specs.declared.asking.Heard.{Heard}
use Rattle.link_exchange.specs.declared.asking.Heard.TheVariants as heards

-- the bytes are no reply to the request, and this is the place that is told of it
pub data IsStray (r : ℕ) (heard : List Entry) (pending : Option Pending) (request : Request) (bytes : List ℕ) : ℕ → Type 0 where
  Unreadable : (bad : Bad) → reply_of bytes ≡ Err bad → IsStray r heard pending request bytes bad.place
  Unfitting : (answer : ReplyParts) → reply_of bytes ≡ Ok answer → (IsReplyTo r heard pending request answer → ⊥) → IsStray r heard pending request bytes 0

-- the entries are those before and more
abbrev pub Extends : List Entry → List Entry → Type 0
Extends old new = (more : List Entry) × (new ≡ more ++ old)

-- for private clauses: but that what its outcome names is there, the reply is one to the request of who heard these
pub record IsHeard (heard : List Entry) (request : Request) (answer : ReplyParts) : Type 0 where
  pub outcome : answers request answer.outcome ≡ true
  pub from : answer.from ≡ length heard
  pub admitted : are_admitted heard answer.news ≡ true
  pub room : length heard + length answer.news ≤ most_heard

-- what is taken in of the bytes of a reply
abbrev pub TakesIn : List Entry → Request → List ℕ → Heard → List Entry → Type 0
TakesIn heard request bytes heards.Failed now = ⊥
TakesIn heard request bytes (heards.Stray place) now = (r : ℕ) (pending : Option Pending) → IsStray r heard pending request bytes place
TakesIn heard request bytes (heards.Told outcome more) now =
    (answer : ReplyParts) × (reply_of bytes ≡ Ok answer) × (answer.outcome ≡ outcome) × (answer.more ≡ more) × IsHeard heard request answer
    × (now ≡ reverse answer.news ++ heard) × (more ≡ true → 0 < length answer.news)
