-- What comes of an exchange of a renderer with a coordinator that it alone talks to, over a link that fails at a call. Coordinators
-- and links are this project's own.
use Rattle.std.specs.Prelude.{◌≡◌, ℕ, List, ◌++◌, length, Bool, true, false}
use Rattle.tree_log.specs.declared.entry.Entry.{Entry}
use Rattle.agent_terms.specs.declared.request.Request.{Request}
use Rattle.agent_terms.specs.declared.request.ReplyOutcome.{ReplyOutcome}
use Rattle.agent_terms.specs.declared.request.ReplyOutcome.TheVariants as outcomes
use Rattle.coordinator_rules.specs.Decision.{Decision}
use Rattle.coordinator_rules.specs.Told.{told_log}
use Rattle.desk.specs.History.{log_of, told_of}
use Rattle.desk.specs.Serving.{Coordinator, decided}
use Rattle.link_exchange.specs.Calls.{Course, Told, Fails, Starves}

-- what the coordinator decides on a request of renderer r
abbrev pub decision : ℕ → Coordinator → Request → Decision
decision r desk request = decided desk.rules (log_of desk.history) r request

-- a request of renderer r was served
pub record IsAnswered (r : ℕ) (before after : Coordinator) (request : Request) : Type 0 where
  pub rules : after.rules ≡ before.rules
  pub serves : after.spent ≡ false
  pub log : log_of after.history ≡ (decision r before request).entries ++ log_of before.history
  pub others : (x : ℕ) → (x ≡ r → ⊥) → told_of after.history x ≡ told_of before.history x

-- and the renderer was told all of the log, blanked for it
pub record HasHeard (r : ℕ) (before after : Coordinator) (request : Request) (heard : List Entry) (outcome : ReplyOutcome) : Type 0 where
  pub answered : IsAnswered r before after request
  pub outcome_is : outcome ≡ (decision r before request).outcome
  pub all : told_of after.history r ≡ length (log_of after.history)
  pub heard_is : heard ≡ told_log r (log_of after.history)

-- whether a reply with this outcome counts as a call: any but that nothing waits
abbrev pub counts : ReplyOutcome → Bool
counts outcomes.Nothing = false
counts outcome = true

abbrev pub calls_by : ReplyOutcome → ℕ
calls_by outcomes.Nothing = 0
calls_by outcome = 1

-- How an exchange ends over a link whose call with a number, from 1, fails, served or not: the call was refused, or its reply was
-- dropped; or all was heard, and so many calls were counted; or memory ran out.
pub data Talks (r number : ℕ) (served : Bool) (before after : Coordinator) (request : Request) (calls : ℕ) : Course → Type 0 where
  Refused : number ≡ 1 → served ≡ false → after ≡ before → Talks r number served before after request calls Fails
  Dropped : number ≡ 1 → served ≡ true → counts (decision r before request).outcome ≡ true → IsAnswered r before after request → Talks r number served before after request calls Fails
  Heard : (heard : List Entry) (outcome : ReplyOutcome) → HasHeard r before after request heard outcome → calls ≡ calls_by outcome
      → (number ≡ 1 → (served ≡ true) × (counts outcome ≡ false)) → Talks r number served before after request calls (Told heard outcome)
  Starved : Talks r number served before after request calls Starves
