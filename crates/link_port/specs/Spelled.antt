-- What bytes of a frame say: of its kind, and of the outcome of a reply.
use Rattle.std.specs.Prelude.{ℕ, nat_lt, ◌==◌, ◌&&◌, not, List, length, take, drop, slice_index, Bool, Option, Some, None, if◌then◌else◌}
use Rattle.std.specs.Int.{w32, from_be_bytes}
use Rattle.agent_terms.specs.declared.request.ReplyOutcome.{ReplyOutcome}
use Rattle.agent_terms.specs.declared.request.ReplyOutcome.TheVariants as outcomes

abbrev pub kind_at : List ℕ → ℕ
kind_at frame = slice_index frame 1

-- the request asks for the rest of a reply
abbrev pub is_more : List ℕ → Bool
is_more request = kind_at request == 13

-- the reply says that nothing waits
abbrev pub is_nothing : List ℕ → Bool
is_nothing reply = kind_at reply == 70

-- a reply of the kind tells entries
abbrev pub tells : ℕ → Bool
tells kind = not (kind == 72) && not (kind == 73)

-- the number of four bytes behind the head of a frame
abbrev pub number_at : List ℕ → ℕ
number_at frame = if nat_lt (length frame) 10 then 0 else from_be_bytes w32 (take 4 (drop 6 frame))

abbrev pub outcome_by : ℕ → List ℕ → ReplyOutcome
outcome_by kind frame =
    if kind == 66 then outcomes.Security (slice_index frame 6)
    else (if kind == 67 then outcomes.Null
    else (if kind == 68 then outcomes.Made (number_at frame)
    else (if kind == 69 then outcomes.Task (number_at frame)
    else (if kind == 70 then outcomes.Nothing
    else (if kind == 71 then outcomes.Unloaded (number_at frame)
    else (if kind == 74 then outcomes.Full (number_at frame)
    else outcomes.Done))))))

-- the outcome of a reply that tells entries
abbrev pub outcome_at : List ℕ → ReplyOutcome
outcome_at frame = outcome_by (kind_at frame) frame

-- the outcome of a reply, where the renderer was told less than all of the log
abbrev pub left_in : List ℕ → ℕ → ℕ → Option ReplyOutcome
left_in reply told len = if tells (kind_at reply) && nat_lt told len then Some (outcome_at reply) else None
