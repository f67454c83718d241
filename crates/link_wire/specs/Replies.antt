-- Replies: the outcome, the entries that are told, and the frame of each reply.
use Rattle.std.specs.Prelude.{◌≤◌, ℕ, ◌==◌, nat_le, ◌&&◌, ◌||◌, not, List, length, Bool}
use Rattle.tree_log.specs.declared.entry.Entry.{Entry}
use Rattle.link_fields.specs.declared.fault.Flaw.TheVariants.{Range}
use Rattle.link_fields.specs.Field.{Field, ◌⊗◌, only, mapped, keyed}
use Rattle.link_fields.specs.Basic.{u32, truth}
use Rattle.link_fields.specs.Values.{counted}
use Rattle.frame_grammar.specs.Entries.{entry}
use Rattle.frame_grammar.specs.Outcomes.{outcome_kind, outcome_row}
use Rattle.frame_grammar.specs.Cut.{ReplyParts, reply_body, most_body}
use Rattle.link_wire.specs.declared.frame.Side.TheVariants as sides
use Rattle.link_wire.specs.Bad.{Decoded}
use Rattle.link_wire.specs.Frames.{is_kind, frame, frame_at}

-- kinds 72 and 73 (48 and 49 in hexadecimal), NotYours and BadFrame, tell no entries
abbrev pub tells : ℕ → Bool
tells kind = nat_le kind 71 || kind == 74

-- a number that is 0 where a reply of the kind tells no entries
abbrev pub told : ℕ → Field ℕ
told kind = only Range (λ n. tells kind || n == 0) u32

-- whether more is to be told: never where a reply of the kind tells no entries
abbrev pub told_more : ℕ → Field Bool
told_more kind = only Range (λ more. tells kind || not more) truth

-- the count of the entries: it isn't 0 where more is to be told
abbrev pub told_count : ℕ → Bool → Field ℕ
told_count kind more = only Range (λ n. not (more && n == 0)) (told kind)

-- behind the byte that says whether more is to be told
abbrev pub news_behind : ℕ → Bool → Field (Bool × List Entry)
news_behind kind more = mapped (λ news. (more, news)) (λ x. x.1) (counted (told_count kind more) entry)

-- whether more is to be told, the count of the entries, the entries
abbrev pub told_news : ℕ → Field (Bool × List Entry)
told_news kind = keyed (λ x. x.0) (told_more kind) (news_behind kind)

-- the outcome's fields, the place of the first entry, and what is told
abbrev pub reply_row : ℕ → Field ReplyParts
reply_row kind =
    mapped (λ x. record { outcome = x.0; from = x.1.0; more = x.1.1.0; news = x.1.1.1 }) (λ r. (r.outcome, (r.from, (r.more, r.news))))
    (outcome_row kind ⊗ told kind ⊗ told_news kind)

-- ---- frames

abbrev pub reply_frame : ReplyParts → List ℕ
reply_frame r = frame (outcome_kind r.outcome) (reply_body r)

-- the reply is in range, and its body within the limit
abbrev pub IsReply : ReplyParts → Type 0
IsReply r = (reply_row (outcome_kind r.outcome)).Fits r × (length (reply_body r) ≤ most_body)

-- the reply that the bytes spell, or the first fault
abbrev pub reply_of : List ℕ → Decoded ReplyParts
reply_of bytes = frame_at (is_kind sides.Reply) most_body reply_row bytes
