-- How long the parts of a reply are.
use Rattle.std.proofs.Common.{◌≡◌, ℕ, ◌+◌, ◌≤◌, Bool, true, false, List, [], ◌∷◌, ◌++◌, length, Option, Some, None, refl, ap, ◌∙◌, arith}
use Rattle.std.specs.Int.{w32, to_be_bytes}
use Rattle.std.specs.List.{flat_map}
use Rattle.std.proofs.lemmas.List.{length-append}
use Rattle.tree_log.specs.declared.entry.Entry.{Entry}
use Rattle.agent_terms.specs.declared.request.ReplyOutcome.{ReplyOutcome}
use Rattle.agent_terms.specs.declared.request.ReplyOutcome.TheVariants as outcomes
use Rattle.agent_terms.specs.declared.request.Why.{Why}
use Rattle.link_fields.specs.Basic.{number_bytes, u8, u16, u32, truth, optional}
use Rattle.frame_grammar.specs.Entries.{what_tag, entry_rest, entry}
use Rattle.frame_grammar.specs.Outcomes.{outcome_body, why_number, why_field}
use Rattle.frame_grammar.specs.Cut.{ReplyParts, reply_body}
use Rattle.reply_writing.specs.Bytes.{head, cleared, frame_so_far}

pub u8_length : (n : ℕ) → length (u8.spell n) ≡ 1
unfolding number_bytes
u8_length n = refl

pub u16_length : (n : ℕ) → length (u16.spell n) ≡ 2
unfolding number_bytes
u16_length n = refl

pub u32_length : (n : ℕ) → length (u32.spell n) ≡ 4
unfolding number_bytes
u32_length n = refl

pub u32_is : (n : ℕ) → to_be_bytes w32 n ≡ u32.spell n
unfolding number_bytes
u32_is n = refl

-- ---- an entry has a byte at least

entry_length : (e : Entry) → 1 ≤ length (entry.spell e)
unfolding entry
entry_length e = omega (arith, u8_length (what_tag e.what), length-append (u8.spell (what_tag e.what)) ((entry_rest (what_tag e.what)).spell e))

pub news_length : (news : List Entry) → length news ≤ length (flat_map entry.spell news)
news_length [] = omega arith
news_length (e ∷ news) = omega (arith, entry_length e, news_length news, length-append (entry.spell e) (flat_map entry.spell news))

-- ---- an outcome has few bytes

home_length : (home : Option ℕ) → length ((optional u16).spell home) ≤ 3
home_length None = omega (arith, u8_length 0, length-append (u8.spell 0) [])
home_length (Some n) = omega (arith, u8_length 1, u16_length n, length-append (u8.spell 1) (u16.spell n))

why_length : (why : Why) → length (why_field.spell why) ≡ 1
why_length why = u8_length (why_number why)

pub outcome_length : (o : ReplyOutcome) → length (outcome_body o) ≤ 7
outcome_length outcomes.Done = omega arith
outcome_length (outcomes.Security rule) = omega (arith, u8_length rule)
outcome_length outcomes.Null = omega arith
outcome_length (outcomes.Made nav) = omega (arith, u32_length nav)
outcome_length (outcomes.Task place) = omega (arith, u32_length place)
outcome_length outcomes.Nothing = omega arith
outcome_length (outcomes.Unloaded place) = omega (arith, u32_length place)
outcome_length (outcomes.NotYours doc home) = omega (arith, u32_length doc, home_length home, length-append (u32.spell doc) ((optional u16).spell home))
outcome_length (outcomes.BadFrame place why) = omega (arith, u32_length place, length-append (u32.spell place) (why_field.spell why), why_length why)
outcome_length (outcomes.Full len) = omega (arith, u32_length len)

-- ---- a body, and the frame that is being written

pub truth_length : (more : Bool) → length (truth.spell more) ≡ 1
truth_length true = u8_length 1
truth_length false = u8_length 0

cleared_length : length cleared ≡ 5
cleared_length = length-append (truth.spell false) (u32.spell 0) ∙ ap (λ n. n + length (u32.spell 0)) (truth_length false) ∙ ap (λ n. 1 + n) (u32_length 0)

pub head_length : (o : ReplyOutcome) (from : ℕ) → length (head o from) ≡ 10 + length (outcome_body o)
head_length o from = omega (arith, u32_length 0, u32_length from, length-append (u32.spell 0) (outcome_body o ++ u32.spell from), length-append (outcome_body o) (u32.spell from))

pub body_length : (r : ReplyParts) → length (reply_body r) ≡ 9 + length (outcome_body r.outcome) + length (flat_map entry.spell r.news)
unfolding reply_body
body_length r =
    omega (
      arith,
      u32_length r.from,
      truth_length r.more,
      u32_length (length r.news),
      length-append (outcome_body r.outcome) (u32.spell r.from ++ (truth.spell r.more ++ (u32.spell (length r.news) ++ flat_map entry.spell r.news))),
      length-append (u32.spell r.from) (truth.spell r.more ++ (u32.spell (length r.news) ++ flat_map entry.spell r.news)),
      length-append (truth.spell r.more) (u32.spell (length r.news) ++ flat_map entry.spell r.news),
      length-append (u32.spell (length r.news)) (flat_map entry.spell r.news),
    )

pub frame_length : (o : ReplyOutcome) (from : ℕ) (news : List Entry) → length (frame_so_far o from news) ≡ 15 + length (outcome_body o) + length (flat_map entry.spell news)
frame_length o from news =
    omega (arith, head_length o from, cleared_length, length-append (head o from) cleared, length-append (head o from ++ cleared) (flat_map entry.spell news))
