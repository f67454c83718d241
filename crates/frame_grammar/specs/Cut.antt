-- Replies: what they hold, and how many entries one tells. That a reply is cut is this project's own.
use Rattle.std.specs.Prelude.{ℕ, zero, suc, nat_lt, nat_le, List, [], ◌++◌, length, take, Bool, true, false, if◌then◌else◌}
use Rattle.std.specs.List.{flat_map}
use Rattle.tree_log.specs.declared.entry.Entry.{Entry}
use Rattle.agent_terms.specs.declared.request.ReplyOutcome.{ReplyOutcome}
use Rattle.agent_terms.specs.declared.request.ReplyOutcome.TheVariants as outcomes
use Rattle.link_fields.specs.Basic.{u32, truth}
use Rattle.frame_grammar.specs.Entries.{entry}
use Rattle.frame_grammar.specs.Outcomes.{outcome_body}

-- the outcome, the place of the first entry told, whether more is to be told, and the entries told, the oldest first
pub record ReplyParts : Type 0 where
  pub outcome : ReplyOutcome
  pub from : ℕ
  pub more : Bool
  pub news : List Entry

unfoldable pub reply_body : ReplyParts → List ℕ
reply_body r = outcome_body r.outcome ++ (u32.spell r.from ++ (truth.spell r.more ++ (u32.spell (length r.news) ++ flat_map entry.spell r.news)))

-- how many bytes a reply's body has at most: 64 KiB
abbrev pub most_body : ℕ
most_body = 65536

-- whether a reply that tells these entries is within the limit
abbrev pub has_room : ReplyOutcome → ℕ → List Entry → Bool
has_room outcome from news = nat_le (length (reply_body (record { outcome = outcome; from = from; more = false; news = news }))) most_body

-- how many of the first k entries, at most, a reply can tell
unfoldable pub told_of : ReplyOutcome → ℕ → List Entry → ℕ → ℕ
told_of outcome from news zero = zero
told_of outcome from news (suc k) = if has_room outcome from (take (suc k) news) then suc k else told_of outcome from news k

abbrev pub cut_at : ReplyOutcome → ℕ → List Entry → ℕ → ReplyParts
cut_at outcome from news k = record { outcome = outcome; from = from; more = nat_lt k (length news); news = take k news }

-- the reply that tells all of these entries, where it has room; else the greatest number of first ones for which it has
unfoldable pub cut_reply : ReplyOutcome → ℕ → List Entry → ReplyParts
cut_reply outcome from news = cut_at outcome from news (told_of outcome from news (length news))

-- nothing is told to a renderer whose document didn't ask, or whose bytes are no request
abbrev pub is_telling : ReplyOutcome → Bool
is_telling (outcomes.NotYours doc home) = false
is_telling (outcomes.BadFrame place why) = false
is_telling _ = true

-- the reply where these entries follow what was told before
unfoldable pub reply_telling : ReplyOutcome → ℕ → List Entry → ReplyParts
reply_telling outcome from news = if is_telling outcome then cut_reply outcome from news else cut_at outcome 0 [] 0
