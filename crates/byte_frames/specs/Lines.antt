-- The lines of the entries that a reply tells.
use Rattle.std.specs.Prelude.{ℕ, ◌+◌, ◌^◌, nat_lt, slice_get, List, Option, Some, None, Result, Ok, Err, if◌then◌else◌}
use Rattle.byte_answers.specs.Rules.{and_then}
use Rattle.byte_answers.specs.declared.answer.Answer.{Answer}
use Rattle.byte_answers.specs.declared.answer.Answer.TheVariants as answers
use Rattle.frame_grammar.specs.Cut.{ReplyParts}
use Rattle.link_wire.specs.Bad.{Decoded}
use Rattle.trace_text.specs.LogText.{entry_words}
use Rattle.tree_log.specs.declared.entry.Entry.{Entry}

-- the place of an entry with an index
abbrev pub place_told : ℕ → ℕ → Result ℕ Answer
place_told from index = if nat_lt (from + index) (2 ^ 32) then Ok (from + index) else Err answers.OutOfRange

abbrev pub line_at : ℕ → Option Entry → Result (List ℕ) Answer
line_at place (Some entry) = Ok (entry_words place entry)
line_at place None = Err answers.OutOfRange

-- the line of the entry with an index
abbrev pub line_of : ℕ → ReplyParts → Result (List ℕ) Answer
line_of index r = and_then (place_told r.from index) (λ place. line_at place (slice_get r.news index))

-- that of the reply which the bytes spell
abbrev pub line_read : ℕ → Decoded ReplyParts → Result (List ℕ) Answer
line_read index (Ok r) = line_of index r
line_read index (Err bad) = Err answers.BadFrame
