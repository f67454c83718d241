-- What comes of an exchange over a link that fails at one call, and hasn't failed yet.
use Rattle.std.specs.Prelude.{◌≡◌, ℕ, ◌+◌, ◌-◌, ◌^◌, min, List, Bool, true, false, not, Option, Ok}
use Rattle.tree_log.specs.declared.entry.Entry.{Entry}
use Rattle.agent_terms.specs.declared.request.Request.{Request}
use Rattle.link_exchange.specs.Calls.{Course, Fails, Starves, Exchanges, Unread, Strays_now, Ends, Goes_on}
use Rattle.link_port.specs.Failing.{calls, has_failed, inside, is_served, number}
use Rattle.link_port.specs.Spelled.{is_nothing}
use Rattle.link_port.specs.declared.failing.FailingLink.{FailingLink}
use Rattle.link_wire.specs.declared.link.Link.{Ghosts}
use Rattle.link_wire.specs.Links.{Pending}
use Rattle.link_wire.specs.Requests.{request_frame}

-- whether the first call of an exchange has a reply that counts as a call: any but that nothing waits
abbrev pub first_counts : {L : Type 0} {link : Ghosts L} {r : ℕ} {old : L} {heard : List Entry} {pending : Option Pending} {request : Request}
    {course : Course} {new : L} → Exchanges link r old heard pending request course new → Bool
first_counts (Unread _ _ _ _ _ bytes call) = not (is_nothing bytes)
first_counts (Strays_now _ _ _ _ _ bytes place call stray) = not (is_nothing bytes)
first_counts (Ends _ _ _ _ _ bytes answer call answered last) = not (is_nothing bytes)
first_counts (Goes_on _ _ _ _ _ _ bytes answer course call answered more rest) = not (is_nothing bytes)
first_counts _ = false

-- so many calls, and one more if it counts; the count stays at 2^32 - 1 once it is there
abbrev pub calls_with : Bool → ℕ → ℕ
calls_with true n = min (n + 1) (2 ^ 32 - 1)
calls_with false n = n

-- How an exchange of renderer r ends. Its first call is the one with the number: it was refused; or it was passed on, and its reply,
-- which counts, was dropped. Or the whole exchange is one of the link inside: where the next call that counts has the number, that one
-- is to be served, and the first reply of this exchange didn't count. Or memory ran out before a call was made.
pub data Fares {L : Type 0} (link : Ghosts L) (r : ℕ) (old : FailingLink L) (heard : List Entry) (pending : Option Pending) (request : Request)
    (new : FailingLink L) : Course → Type 0 where
  Unmade : new ≡ old → Fares link r old heard pending request new Starves
  Refused : number old ≡ calls old + 1 → is_served old ≡ false → inside new ≡ inside old → calls new ≡ calls old → has_failed new ≡ true
      → Fares link r old heard pending request new Fails
  Dropped : (bytes : List ℕ) → number old ≡ calls old + 1 → is_served old ≡ true → is_nothing bytes ≡ false
      → link.relation (inside old) (request_frame request) (Ok tt) bytes (inside new)
      → calls new ≡ calls_with true (calls old) → has_failed new ≡ true
      → Fares link r old heard pending request new Fails
  Passed : (course : Course) (exchange : Exchanges link r (inside old) heard pending request course (inside new))
      → (number old ≡ calls old + 1 → (is_served old ≡ true) × (first_counts exchange ≡ false))
      → calls new ≡ calls_with (first_counts exchange) (calls old) → has_failed new ≡ false
      → Fares link r old heard pending request new course
