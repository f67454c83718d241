-- No reply is longer than the head of its frame and a body of 64 KiB.
use Rattle.std.proofs.Common.{◌≡◌, ℕ, suc, zero, ◌+◌, ◌≤◌, Bool, true, false, List, [], length, refl, arith, if◌then◌else◌}
use Rattle.std.specs.Prelude.{take}
use Rattle.std.proofs.lemmas.Bool.{leb-true}
use Rattle.std.proofs.lemmas.List.{length-append}
use Rattle.agent_terms.specs.declared.request.ReplyOutcome.{ReplyOutcome}
use Rattle.tree_log.specs.declared.entry.Entry.{Entry}
use Rattle.link_fields.specs.Basic.{u32}
use Rattle.link_wire.specs.Replies.{reply_frame}
use Rattle.frame_grammar.specs.Cut.{reply_body, most_body, has_room, told_of, cut_at, cut_reply, is_telling, reply_telling}
use Rattle.reply_writing.proofs.Lengths.{u32_length, outcome_length, body_length}

nothing_told : (o : ReplyOutcome) (from : ℕ) (news : List Entry) → length (reply_body (cut_at o from news 0)) ≤ most_body
nothing_told o from news = omega (arith, body_length (cut_at o from news 0), outcome_length o)

so_many_told : (o : ReplyOutcome) (from : ℕ) (news : List Entry) (k : ℕ) → length (reply_body (cut_at o from news (told_of o from news k))) ≤ most_body
unfolding told_of
so_many_told o from news zero = nothing_told o from news
so_many_told o from news (suc k) = by_room (so_many_told o from news k) (has_room o from (take (suc k) news)) refl
  where
    by_room : length (reply_body (cut_at o from news (told_of o from news k))) ≤ most_body → (b : Bool) → has_room o from (take (suc k) news) ≡ b → length (reply_body (cut_at o from news (if b then suc k else told_of o from news k))) ≤ most_body
    by_room fewer true room =
        omega (
          arith,
          leb-true (length (reply_body (record { outcome = o; from = from; more = false; news = take (suc k) news }))) most_body room,
          body_length (record { outcome = o; from = from; more = false; news = take (suc k) news }),
          body_length (cut_at o from news (suc k)),
        )
    by_room fewer false room = fewer

pub short_body : (o : ReplyOutcome) (from : ℕ) (news : List Entry) → length (reply_body (reply_telling o from news)) ≤ most_body
unfolding reply_telling cut_reply
short_body o from news = by_telling (is_telling o)
  where
    by_telling : (b : Bool) → length (reply_body (if b then cut_reply o from news else cut_at o 0 [] 0)) ≤ most_body
    by_telling true = so_many_told o from news (length news)
    by_telling false = nothing_told o 0 []

pub short_reply : (o : ReplyOutcome) (from : ℕ) (news : List Entry) → length (reply_frame (reply_telling o from news)) ≤ 6 + most_body
short_reply o from news =
    let body = reply_body (reply_telling o from news) in
    omega (arith, short_body o from news, u32_length (length body), length-append (u32.spell (length body)) body)
