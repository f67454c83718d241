-- A link that fails at one call. It counts the calls that the link inside answers, but not those that ask for the rest of a
-- reply, nor those to which nothing waits.
use Rattle.std.specs.Prelude.{◌≡◌, ℕ, ◌+◌, ◌-◌, ◌^◌, min, ◌==◌, ◌&&◌, ◌||◌, not, List, [], Bool, true, false, Option, None, Result, Ok, Err, if◌then◌else◌}
use Rattle.ports.specs.Causes.{counted}
use Rattle.link_wire.specs.declared.link.LinkError.{LinkError}
use Rattle.link_wire.specs.declared.link.LinkError.TheVariants.{Failed}
use Rattle.link_port.specs.Spelled.{is_more, is_nothing}
use Rattle.link_port.specs.declared.failing.FailingLink.{FailingLink}

-- the link inside
abbrev pub inside : {L : Type 0} → FailingLink L → L
inside link = link.inner.now

-- the number of the call that fails, from 1, or 0
abbrev pub number : {L : Type 0} → FailingLink L → ℕ
number link = link.number

-- whether that call is served, and its reply dropped
abbrev pub is_served : {L : Type 0} → FailingLink L → Bool
is_served link = link.served

-- how many calls were counted
abbrev pub calls : {L : Type 0} → FailingLink L → ℕ
calls link = link.calls

-- whether it has failed
abbrev pub has_failed : {L : Type 0} → FailingLink L → Bool
has_failed link = link.failed

-- ---- what it tells: what the link inside does until it fails, and then no more

abbrev pub unless : {A : Type 0} → Bool → Option A → Option A
unless true told = None
unless false told = told

abbrev pub fault_count : Bool → ℕ → ℕ
fault_count true count = counted count
fault_count false count = min count (2 ^ 64 - 1)

-- ---- calls

-- what the link inside answered counts as a call
abbrev pub is_counted : List ℕ → Result (Unit {0}) LinkError → List ℕ → Bool
is_counted request (Ok _) reply = not (is_more request) && not (is_nothing reply)
is_counted request (Err _) reply = false

-- the next call that counts is the one that fails
abbrev pub is_due : {L : Type 0} → FailingLink L → Bool
is_due link = not (has_failed link) && (calls link + 1 == number link)

-- the call fails, and isn't passed on
abbrev pub refuses : {L : Type 0} → FailingLink L → List ℕ → Bool
refuses link request = not (is_served link) && is_due link && not (is_more request)

-- the call was passed on, and its reply is dropped
abbrev pub drops : {L : Type 0} → FailingLink L → List ℕ → Result (Unit {0}) LinkError → List ℕ → Bool
drops link request answer bytes = is_served link && is_due link && is_counted request answer bytes

abbrev pub calls_after : {L : Type 0} → FailingLink L → List ℕ → Result (Unit {0}) LinkError → List ℕ → ℕ
calls_after link request answer bytes = if is_counted request answer bytes then min (calls link + 1) (2 ^ 32 - 1) else calls link

-- it fails at the same call as before, and is over the same link
pub record IsSame {L : Type 0} (old new : FailingLink L) : Type 0 where
  pub number : number new ≡ number old
  pub served : is_served new ≡ is_served old
  pub inner : new.inner.ghost_name ≡ old.inner.ghost_name

-- the call fails, and the link inside knows nothing of it
pub record Refuses {L : Type 0} (old : FailingLink L) (result : Result (Unit {0}) LinkError) (reply : List ℕ) (new : FailingLink L) : Type 0 where
  pub same : IsSame old new
  pub inside : inside new ≡ inside old
  pub calls : calls new ≡ calls old
  pub failed : has_failed new ≡ true
  pub fails : result ≡ Err Failed
  pub silent : reply ≡ []

-- what is handed on of an answer: it, or where it is dropped a failure without bytes
abbrev pub Hands : Bool → Result (Unit {0}) LinkError → List ℕ → Result (Unit {0}) LinkError → List ℕ → Type 0
Hands true answer bytes result reply = (result ≡ Err Failed) × (reply ≡ [])
Hands false answer bytes result reply = (result ≡ answer) × (reply ≡ bytes)

-- the link inside was called, and answered with these bytes
pub record Passes {L : Type 0} (relation : L → List ℕ → Result (Unit {0}) LinkError → List ℕ → L → Type 0)
    (old : FailingLink L) (request : List ℕ) (result : Result (Unit {0}) LinkError) (reply : List ℕ) (new : FailingLink L) : Type 0 where
  pub answer : Result (Unit {0}) LinkError
  pub bytes : List ℕ
  pub same : IsSame old new
  pub inside : relation (inside old) request answer bytes (inside new)
  pub calls : calls new ≡ calls_after old request answer bytes
  pub failed : has_failed new ≡ (has_failed old || drops old request answer bytes)
  pub hands : Hands (drops old request answer bytes) answer bytes result reply

-- a call fails before the link inside, or is passed on to it
abbrev pub RefusesOr : Bool → Type 0 → Type 0 → Type 0
RefusesOr true A B = A
RefusesOr false A B = B

abbrev pub Behaves : {L : Type 0} → (L → List ℕ → Result (Unit {0}) LinkError → List ℕ → L → Type 0)
    → FailingLink L → List ℕ → Result (Unit {0}) LinkError → List ℕ → FailingLink L → Type 0
Behaves relation old request result reply new =
    RefusesOr (refuses old request) (Refuses old result reply new) (Passes relation old request result reply new)
