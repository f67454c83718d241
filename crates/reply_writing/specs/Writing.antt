-- What contracts see of a writer, and what is true of its fields.
use Rattle.std.specs.Prelude.{◌≡◌, ℕ, ◌+◌, ◌≤◌, List, length, Bool}
use Rattle.tree_log.specs.declared.entry.Entry.{Entry}
use Rattle.agent_terms.specs.declared.request.ReplyOutcome.{ReplyOutcome}
use Rattle.frame_grammar.specs.Cut.{ReplyParts, most_body}
use Rattle.link_wire.specs.Replies.{reply_frame}
use Rattle.reply_writing.specs.Bytes.{head, frame_so_far}
use Rattle.reply_writing.specs.declared.writer.ReplyWriter.TheInside.{Inside}

abbrev pub writer_view : Inside → ReplyParts
writer_view w = record { outcome = w.outcome.value; from = w.from.value; more = w.cut; news = w.news.entries }

-- the bytes are those of the frame so far, and within the limit
pub record IsWriting (outcome : ReplyOutcome) (from : ℕ) (news : List Entry) (bytes : List ℕ) (place count : ℕ) : Type 0 where
  pub spelled : bytes ≡ frame_so_far outcome from news
  pub placed : place ≡ length (head outcome from)
  pub counted : count ≡ length news
  pub short : length bytes ≤ 6 + most_body

abbrev pub IsWhole : Inside → Type 0
IsWhole w = IsWriting w.outcome.value w.from.value w.news.entries w.bytes.items w.more_at w.count

-- the bytes of a frame so far became the frame
abbrev pub Finishes : ℕ → ℕ → Bool → List ℕ → List ℕ → Type 0
Finishes place count cut old new = (r : ReplyParts) → IsWriting r.outcome r.from r.news old place count → cut ≡ r.more → new ≡ reply_frame r
