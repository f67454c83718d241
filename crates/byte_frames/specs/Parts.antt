-- The texts of a request.
use Rattle.std.specs.Prelude.{ℕ, ◌==◌, List, Option, Some, None, Result, Ok, Err, if◌then◌else◌}
use Rattle.agent_terms.specs.declared.request.Request.{Request}
use Rattle.agent_terms.specs.declared.request.Request.TheVariants as requests
use Rattle.byte_answers.specs.Rules.{target_said}
use Rattle.byte_answers.specs.declared.answer.Answer.{Answer}
use Rattle.byte_answers.specs.declared.answer.Answer.TheVariants as answers
use Rattle.link_wire.specs.Bad.{Decoded}
use Rattle.plain_data.specs.DataText.{data_text}
use Rattle.plain_data.specs.declared.data.Data.{Data}
use Rattle.tree_log.specs.declared.entry.Target.{Target}

abbrev pub url_of : Request → Option (List ℕ)
url_of (requests.Frame asker name flags url) = url
url_of (requests.Open asker url target noopener user) = url
url_of (requests.Link asker url target noopener user) = Some url
url_of (requests.Go asker doc url user) = Some url
url_of _ = None

-- its name, the name of a window that it targets, or a domain
abbrev pub name_of : Request → Option (List ℕ)
name_of (requests.Frame asker name flags url) = Some name
name_of (requests.Open asker url target noopener user) = Some target
name_of (requests.Link asker url target noopener user) = Some target
name_of (requests.Name asker doc name) = Some name
name_of (requests.Domain asker value) = Some value
name_of _ = None

abbrev pub copied : List ℕ → Result (List ℕ) Answer
copied text = Ok text

abbrev pub told : Option (List ℕ) → Result (List ℕ) Answer
told (Some text) = Ok text
told None = Err answers.OutOfRange

abbrev pub target_told : Target → Result (List ℕ) Answer
target_told target = target_said target

abbrev pub data_told : Data → Result (List ℕ) Answer
data_told body = Ok (data_text body)

-- the target of the message that it posts
abbrev pub message_target : Request → Result (List ℕ) Answer
message_target (requests.Post asker doc target body) = target_told target
message_target _ = Err answers.OutOfRange

-- the message's data
abbrev pub message_data : Request → Result (List ℕ) Answer
message_data (requests.Post asker doc target body) = data_told body
message_data _ = Err answers.OutOfRange

-- a text of the request by its number
abbrev pub part_told : ℕ → Request → Result (List ℕ) Answer
part_told part q =
    if part == 0 then told (url_of q)
    else if part == 1 then told (name_of q)
    else if part == 2 then message_target q
    else if part == 3 then message_data q
    else Err answers.OutOfRange

-- that of the request which the bytes spell
abbrev pub part_read : ℕ → Decoded Request → Result (List ℕ) Answer
part_read part (Ok q) = part_told part q
part_read part (Err bad) = Err answers.BadFrame
