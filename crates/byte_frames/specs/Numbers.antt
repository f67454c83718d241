-- The numbers of requests and replies, 0 and false where a kind has no such one. Which they are is this project's own.
use Rattle.std.specs.Prelude.{ℕ, ◌≡◌, ◌⊎◌, Bool, false, length, Option, Some, None, is_some, Ok, Err}
use Rattle.agent_terms.specs.declared.request.ReplyOutcome.{ReplyOutcome}
use Rattle.agent_terms.specs.declared.request.ReplyOutcome.TheVariants as outcomes
use Rattle.agent_terms.specs.declared.request.Request.{Request}
use Rattle.agent_terms.specs.declared.request.Request.TheVariants as requests
use Rattle.byte_answers.specs.declared.answer.Answer.{Answer}
use Rattle.byte_answers.specs.declared.answer.Answer.TheVariants as answers
use Rattle.byte_frames.specs.declared.numbers.FrameFault.{FrameFault}
use Rattle.byte_frames.specs.declared.numbers.ReplyNumbers.{ReplyNumbers}
use Rattle.byte_frames.specs.declared.numbers.RequestNumbers.{RequestNumbers}
use Rattle.frame_grammar.specs.Cut.{ReplyParts}
use Rattle.frame_grammar.specs.Outcomes.{outcome_kind, why_number}
use Rattle.link_wire.specs.Bad.{Decoded}
use Rattle.link_wire.specs.declared.bad.Bad.{Bad}

-- REQUESTS

abbrev pub plain : ℕ → ℕ → ℕ → RequestNumbers
plain kind asker number = record { kind = kind; noopener = false; user = false; flags = 0; asker = asker; number = number }

abbrev pub chosen : ℕ → ℕ → ℕ → Bool → Bool → RequestNumbers
chosen kind asker number noopener user = record { kind = kind; noopener = noopener; user = user; flags = 0; asker = asker; number = number }

abbrev pub numbers_of : Request → RequestNumbers
numbers_of requests.Next = plain 1 0 0
numbers_of (requests.Sync asker) = plain 2 asker 0
numbers_of (requests.Frame asker name flags url) = record { kind = 3; noopener = false; user = false; flags = flags; asker = asker; number = 0 }
numbers_of (requests.Drop asker nav) = plain 4 asker nav
numbers_of (requests.Open asker url target noopener user) = chosen 5 asker 0 noopener user
numbers_of (requests.Link asker url target noopener user) = chosen 6 asker 0 noopener user
numbers_of (requests.Go asker doc url user) = chosen 7 asker doc false user
numbers_of (requests.Name asker doc name) = plain 8 asker doc
numbers_of (requests.Disown asker doc) = plain 9 asker doc
numbers_of (requests.Close asker doc user) = chosen 10 asker doc false user
numbers_of (requests.Post asker doc target body) = plain 11 asker doc
numbers_of (requests.Domain asker value) = plain 12 asker 0
numbers_of requests.More = plain 13 0 0

-- REPLIES

abbrev pub number_of : ReplyOutcome → ℕ
number_of (outcomes.Made nav) = nav
number_of (outcomes.Task place) = place
number_of (outcomes.Unloaded place) = place
number_of (outcomes.NotYours doc home) = doc
number_of (outcomes.BadFrame place why) = place
number_of (outcomes.Full len) = len
number_of _ = 0

abbrev pub code_of : ReplyOutcome → ℕ
code_of (outcomes.Security rule) = rule
code_of (outcomes.BadFrame place why) = why_number why
code_of _ = 0

abbrev pub home_of : ReplyOutcome → Option ℕ
home_of (outcomes.NotYours doc home) = home
home_of _ = None

abbrev pub home_or_zero : Option ℕ → ℕ
home_or_zero (Some home) = home
home_or_zero None = 0

abbrev pub numbers_of_parts : ReplyOutcome → ℕ → Bool → ℕ → ReplyNumbers
numbers_of_parts outcome from more count = record {
  kind = outcome_kind outcome;
  code = code_of outcome;
  has_home = is_some (home_of outcome);
  more = more;
  home = home_or_zero (home_of outcome);
  number = number_of outcome;
  from = from;
  count = count;
}

abbrev pub numbers_of_reply : ReplyParts → ReplyNumbers
numbers_of_reply r = numbers_of_parts r.outcome r.from r.more (length r.news)

-- READING

abbrev pub fault_of : Bad → FrameFault
fault_of bad = record { place = bad.place; why = why_number bad.why }

-- what is read is shown; or the place and the reason are, and the answer says so
abbrev pub IsReadAs : {A N : Type 0} → (A → N) → Decoded A → N → N → FrameFault → FrameFault → Answer → Type 0
IsReadAs shown (Ok a) old new before after answer = (answer ≡ answers.Done) × (new ≡ shown a) × (after ≡ before)
IsReadAs shown (Err bad) old new before after answer = (answer ≡ answers.BadFrame) × (new ≡ old) × (after ≡ fault_of bad)

-- the same, or memory ran out
abbrev pub ReadsAs : {A N : Type 0} → (A → N) → Decoded A → N → N → FrameFault → FrameFault → Answer → Type 0
ReadsAs shown expected old new before after answer =
    IsReadAs shown expected old new before after answer ⊎ ((answer ≡ answers.NoMemory) × (new ≡ old) × (after ≡ before))
