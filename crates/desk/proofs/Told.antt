-- How much a reply tells: no more than the log has.
use Rattle.std.proofs.Common.{◌≡◌, ℕ, zero, suc, ◌+◌, ◌-◌, ◌≤◌, ◌<◌, ◌^◌, List, [], ◌∷◌, ◌++◌, length, take, Bool, true, false, ap, ◌∙◌, arith, length-append, if◌then◌else◌}
use Rattle.std.proofs.lemmas.List.{length-reverse}
use Rattle.agent_terms.specs.declared.request.ReplyOutcome.{ReplyOutcome}
use Rattle.coordinator_rules.specs.Decision.{Decision}
use Rattle.coordinator_rules.specs.Told.{told_log, news_from}
use Rattle.frame_grammar.specs.Cut.{cut_at, cut_reply, is_telling, reply_telling, told_of}
use Rattle.link_wire.specs.Replies.{reply_frame}
use Rattle.request_decisions.specs.Made.{decision_of}
use Rattle.tree_log.specs.declared.entry.Entry.{Entry}
use Rattle.desk.specs.Answering.{Answers}
use Rattle.desk.specs.declared.answering.Answered.{Answered}
use Rattle.desk.specs.Books.{HasRoomFor, MayJoin}
use Rattle.desk.specs.Serving.{reply_to, told_after}

take_within : (n : ℕ) (es : List Entry) → length (take n es) ≤ n
take_within zero es = omega arith
take_within (suc n) [] = omega arith
take_within (suc n) (e ∷ es) = let le = take_within n es in omega arith

take_shorter : (n : ℕ) (es : List Entry) → length (take n es) ≤ length es
take_shorter zero es = omega arith
take_shorter (suc n) [] = omega arith
take_shorter (suc n) (e ∷ es) = let le = take_shorter n es in omega arith

telling_within : (outcome : ReplyOutcome) (from : ℕ) (news : List Entry) → length (reply_telling outcome from news).news ≤ length news
unfolding reply_telling cut_reply
telling_within outcome from news = by_kind (is_telling outcome) where
  by_kind : (b : Bool) → length (if b then cut_at outcome from news (told_of outcome from news (length news)) else cut_at outcome 0 [] 0).news ≤ length news
  by_kind true = take_shorter (told_of outcome from news (length news)) news
  by_kind false = omega arith

news_within : (r from : ℕ) (log : List Entry) → length (news_from r from log) ≤ length log - from
news_within r from log =
    let same = length-reverse (take (length log - from) (told_log r log)) in
    let le = take_within (length log - from) (told_log r log) in
    omega arith

-- what was told before, and what is told now
told_within : (outcome : ReplyOutcome) (r told : ℕ) (log : List Entry) → told ≤ length log → told + length (reply_telling outcome told (news_from r told log)).news ≤ length log
told_within outcome r told log h =
    let a = telling_within outcome told (news_from r told log) in
    let b = news_within r told log in
    omega arith

longer : (es log : List Entry) (told : ℕ) → told ≤ length log → told ≤ length (es ++ log)
longer es log told h = let e = length-append es log in omega arith

pub answers_within : (r : ℕ) (log : List Entry) (told : ℕ) (d : Decision) → told ≤ length log → told_after r log told d ≤ length (d.entries ++ log)
answers_within r log told d h = told_within d.outcome r told (d.entries ++ log) (longer d.entries log told h)

-- and with what joins, the log stays short
pub joined_short : (es log : List Entry) → HasRoomFor es log → length log < 2 ^ 30 → length (es ++ log) < 2 ^ 30
joined_short [] log room short = short
joined_short (e ∷ es) log room short = let l = length-append es log in omega arith

pub answers_short : (r : ℕ) (log : List Entry) (told : ℕ) (d : Decision) → MayJoin d.entries log → length log < 2 ^ 30 → told ≤ length log → told_after r log told d < 2 ^ 31
answers_short r log told d j short h = let w = answers_within r log told d h in let s = joined_short d.entries log j.room short in omega arith

pub answers_told : (r : ℕ) (log : List Entry) (told more : ℕ) (d : Decision) (a : Answered) → decision_of a.decided ≡ d → MayJoin d.entries log → told ≤ length log
    → a.upto ≡ told + more → more ≡ length (reply_to r log told (decision_of a.decided)).news → a.frame.items ≡ reply_frame (reply_to r log told (decision_of a.decided)) → Answers r log told d a
answers_told r log told more d a dec joins h upto news frame = record {
  decided = dec;
  joins = joins;
  upto = upto ∙ ap (λ n. told + n) news ∙ ap (λ (e : Decision). told_after r log told e) dec;
  within = answers_within r log told d h;
  frame = frame ∙ ap (λ (e : Decision). reply_frame (reply_to r log told e)) dec;
}
