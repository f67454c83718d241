-- The request that numbers and texts are, by its kind; and its frame.
use Rattle.std.specs.Prelude.{ℕ, ◌≡◌, ◌⊎◌, ◌==◌, nat_lt, List, [], ◌∷◌, length, codes, bytes_eq, Option, Some, None, Result, Ok, Err, if◌then◌else◌}
use Rattle.agent_terms.specs.declared.request.Request.{Request}
use Rattle.agent_terms.specs.declared.request.Request.TheVariants as requests
use Rattle.byte_answers.specs.Rules.{and_then, page_told, target_or_reason, text_told}
use Rattle.byte_answers.specs.declared.answer.Answer.{Answer}
use Rattle.byte_answers.specs.declared.answer.Answer.TheVariants as answers
use Rattle.byte_frames.specs.declared.numbers.RequestNumbers.{RequestNumbers}
use Rattle.link_fields.specs.Field.{Outcome}
use Rattle.link_fields.specs.Skipping.{data_field}
use Rattle.link_wire.specs.Requests.{request_frame}
use Rattle.object_access.specs.Methods.{target_of}
use Rattle.origin_core.specs.declared.origin.Origin.TheVariants.{Opaque}
use Rattle.plain_data.specs.DataLimits.{most_text}
use Rattle.plain_data.specs.declared.data.Data.{Data}
use Rattle.tree_log.specs.declared.entry.Target.{Target}

-- PARTS

-- a name or a domain: a text that isn't too long
abbrev pub name_told : List ℕ → Result (List ℕ) Answer
name_told bytes = if nat_lt most_text (length bytes) then Err answers.OutOfRange else text_told bytes

-- a URL, or none where there are no bytes
abbrev pub optional_url : List ℕ → Result (Option (List ℕ)) Answer
optional_url [] = Ok None
optional_url (b ∷ bytes) = and_then (page_told (b ∷ bytes)) (λ url. Ok (Some url))

abbrev pub flags_told : ℕ → Result ℕ Answer
flags_told flags = if nat_lt 255 flags then Err answers.OutOfRange else Ok flags

abbrev pub target_of_text : List ℕ → Result Target Answer
target_of_text text = if bytes_eq text (codes "/") then Err answers.NotAUrl else target_or_reason (target_of (Opaque 0) text)

-- the target of a message; `/`, which is that of its sender, is none here
abbrev pub target_told : List ℕ → Result Target Answer
target_told bytes = and_then (text_told bytes) target_of_text

abbrev pub whole : Outcome (Data × List ℕ) → Result Data Answer
whole (Ok x) = if length x.1 == 0 then Ok x.0 else Err answers.OutOfRange
whole (Err e) = Err answers.OutOfRange

-- data, as frames spell it
abbrev pub data_told : List ℕ → Result Data Answer
data_told bytes = whole (data_field.read bytes)

-- REQUESTS

-- a request that its numbers spell
abbrev pub bare : RequestNumbers → Option Request
bare n =
    if n.kind == 1 then Some requests.Next
    else if n.kind == 2 then Some (requests.Sync n.asker)
    else if n.kind == 4 then Some (requests.Drop n.asker n.number)
    else if n.kind == 9 then Some (requests.Disown n.asker n.number)
    else if n.kind == 10 then Some (requests.Close n.asker n.number n.user)
    else if n.kind == 13 then Some requests.More
    else None

abbrev pub framed : RequestNumbers → List ℕ → List ℕ → Result Request Answer
framed n url name = and_then (name_told name) (λ named. and_then (flags_told n.flags) (λ flags. and_then (optional_url url) (λ u. Ok (requests.Frame n.asker named flags u))))

abbrev pub opened : RequestNumbers → List ℕ → List ℕ → Result Request Answer
opened n url target = and_then (name_told target) (λ t. and_then (optional_url url) (λ u. Ok (requests.Open n.asker u t n.noopener n.user)))

abbrev pub linked : RequestNumbers → List ℕ → List ℕ → Result Request Answer
linked n url target = and_then (name_told target) (λ t. and_then (page_told url) (λ u. Ok (requests.Link n.asker u t n.noopener n.user)))

abbrev pub gone : RequestNumbers → List ℕ → Result Request Answer
gone n url = and_then (page_told url) (λ u. Ok (requests.Go n.asker n.number u n.user))

abbrev pub named : RequestNumbers → List ℕ → Result Request Answer
named n name = and_then (name_told name) (λ text. Ok (requests.Name n.asker n.number text))

abbrev pub posted : RequestNumbers → List ℕ → List ℕ → Result Request Answer
posted n target body = and_then (target_told target) (λ t. and_then (data_told body) (λ d. Ok (requests.Post n.asker n.number t d)))

abbrev pub with_domain : RequestNumbers → List ℕ → Result Request Answer
with_domain n value = and_then (name_told value) (λ text. Ok (requests.Domain n.asker text))

abbrev pub by_kind : RequestNumbers → List ℕ → List ℕ → List ℕ → Result Request Answer
by_kind n url text body =
    if n.kind == 3 then framed n url text
    else if n.kind == 5 then opened n url text
    else if n.kind == 6 then linked n url text
    else if n.kind == 7 then gone n url
    else if n.kind == 8 then named n text
    else if n.kind == 11 then posted n text body
    else if n.kind == 12 then with_domain n text
    else Err answers.OutOfRange

abbrev pub or_by_kind : Option Request → RequestNumbers → List ℕ → List ℕ → List ℕ → Result Request Answer
or_by_kind (Some q) n url text body = Ok q
or_by_kind None n url text body = by_kind n url text body

-- the request, or why there is none
abbrev pub request_told : RequestNumbers → List ℕ → List ℕ → List ℕ → Result Request Answer
request_told n url text body = or_by_kind (bare n) n url text body

abbrev pub frame_told : RequestNumbers → List ℕ → List ℕ → List ℕ → Result (List ℕ) Answer
frame_told n url text body = and_then (request_told n url text body) (λ q. Ok (request_frame q))

-- a call gave what is expected, seen by a view, or memory ran out
abbrev pub GivesAs : {A B : Type 0} → (A → B) → Result A Answer → Result B Answer → Type 0
GivesAs view (Ok a) expected = expected ≡ Ok (view a)
GivesAs view (Err why) expected = (expected ≡ Err why) ⊎ (why ≡ answers.NoMemory)
