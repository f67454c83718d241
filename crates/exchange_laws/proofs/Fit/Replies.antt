-- A reply that tells entries in range, with an outcome in range, is in range, and tells at least one where there is one.
use Rattle.std.proofs.Common.{◌≡◌, ℕ, zero, suc, ◌+◌, ◌-◌, ◌<◌, ◌≤◌, ◌^◌, List, [], ◌∷◌, ◌++◌, length, take, Bool, true, false, IsTrue, refl, arith, length-append}
use Rattle.std.specs.Prelude.{◌==◌, nat_lt, ◌&&◌, ◌||◌, not, flat_map, if◌then◌else◌}
use Rattle.std.proofs.lemmas.Bool.{false≢true}
use Rattle.std.proofs.lemmas.Bool.Decides.{nat_tests}
use Rattle.std.proofs.lemmas.List.{length-take, length-reverse}
use Rattle.tree_log.specs.declared.entry.Entry.{Entry}
use Rattle.tree_log.proofs.Admitted.{lt_of}
use Rattle.agent_terms.specs.declared.request.ReplyOutcome.{ReplyOutcome}
use Rattle.agent_terms.specs.declared.request.ReplyOutcome.TheVariants as outcomes
use Rattle.coordinator_rules.specs.Told.{told_log, news_from}
use Rattle.link_fields.specs.Basic.{u8, u16, u32, small, truth, optional}
use Rattle.link_fields.proofs.FieldLaws.{at_most}
use Rattle.frame_grammar.specs.Entries.{entry}
use Rattle.frame_grammar.specs.Outcomes.{why_field, done_kind, security_kind, null_kind, made_kind, task_kind, nothing_kind, unloaded_kind, not_yours_kind, bad_frame_kind, full_kind, outcome_spelled, outcome_kind, outcome_body}
use Rattle.frame_grammar.specs.Cut.{reply_body, most_body, has_room, told_of, cut_at, cut_reply, is_telling, reply_telling}
use Rattle.link_wire.specs.Replies.{tells, reply_row, IsReply}
use Rattle.exchange_laws.specs.Fit.{AreFit, IsFitOutcome}
use Rattle.exchange_laws.proofs.Fit.Sizes.{byte_long, four_long, u8_size, u32_size, u16_size, nothing_size, pair_size, only_size, mapped_size, small_size, optional_size, kind_most}
use Rattle.exchange_laws.proofs.Fit.EntrySizes.{entry_most}
use Rattle.exchange_laws.proofs.Fit.Told.{news_fit, take_fits}

-- OUTCOMES

outcome_most : (o : ReplyOutcome) → IsFitOutcome o → length (outcome_body o) ≤ 7
outcome_most outcomes.Done h = kind_most outcome_spelled done_kind 0 7 (omega arith) (nothing_size tt) (λ a. refl) outcomes.Done h
outcome_most (outcomes.Security rule) h = kind_most outcome_spelled security_kind 1 7 (omega arith) (only_size _ _ u8 1 u8_size) (λ a. refl) (outcomes.Security rule) h
outcome_most outcomes.Null h = kind_most outcome_spelled null_kind 0 7 (omega arith) (nothing_size tt) (λ a. refl) outcomes.Null h
outcome_most (outcomes.Made nav) h = kind_most outcome_spelled made_kind 4 7 (omega arith) u32_size (λ a. refl) (outcomes.Made nav) h
outcome_most (outcomes.Task place) h = kind_most outcome_spelled task_kind 4 7 (omega arith) u32_size (λ a. refl) (outcomes.Task place) h
outcome_most outcomes.Nothing h = kind_most outcome_spelled nothing_kind 0 7 (omega arith) (nothing_size tt) (λ a. refl) outcomes.Nothing h
outcome_most (outcomes.Unloaded place) h = kind_most outcome_spelled unloaded_kind 4 7 (omega arith) u32_size (λ a. refl) (outcomes.Unloaded place) h
outcome_most (outcomes.NotYours doc home) h =
    kind_most outcome_spelled not_yours_kind 7 7 (omega arith) (pair_size u32 (optional u16) 4 3 u32_size (optional_size u16 2 u16_size)) (λ a. refl) (outcomes.NotYours doc home) h
outcome_most (outcomes.BadFrame place why) h =
    kind_most outcome_spelled bad_frame_kind 5 7 (omega arith) (pair_size u32 why_field 4 1 u32_size (mapped_size _ _ (small 7) 1 (small_size 7))) (λ a. refl) (outcomes.BadFrame place why) h
outcome_most (outcomes.Full len) h = kind_most outcome_spelled full_kind 4 7 (omega arith) u32_size (λ a. refl) (outcomes.Full len) h

telling_tells : (o : ReplyOutcome) → is_telling o ≡ true → tells (outcome_kind o) ≡ true
telling_tells outcomes.Done h = refl
telling_tells (outcomes.Security rule) h = refl
telling_tells outcomes.Null h = refl
telling_tells (outcomes.Made nav) h = refl
telling_tells (outcomes.Task place) h = refl
telling_tells outcomes.Nothing h = refl
telling_tells (outcomes.Unloaded place) h = refl
telling_tells (outcomes.NotYours doc home) h = absurd (false≢true h)
telling_tells (outcomes.BadFrame place why) h = absurd (false≢true h)
telling_tells (outcomes.Full len) h = refl

-- LENGTHS

body_length : (o : ReplyOutcome) (from : ℕ) (more : Bool) (news : List Entry)
    → length (reply_body (record { outcome = o; from = from; more = more; news = news })) ≡ length (outcome_body o) + 9 + length (flat_map entry.spell news)
unfolding reply_body
body_length o from more news =
    let told : List ℕ = flat_map entry.spell news in
    let count : List ℕ = u32.spell (length news) in
    let flag : List ℕ = truth.spell more in
    omega (
      arith,
      length-append (outcome_body o) (u32.spell from ++ (flag ++ (count ++ told))),
      length-append (u32.spell from) (flag ++ (count ++ told)),
      length-append flag (count ++ told),
      length-append count told,
      four_long from,
      four_long (length news),
      byte_long (if more then 1 else 0),
    )

room_length : (o : ReplyOutcome) (from : ℕ) (more : Bool) (news : List Entry) → has_room o from news ≡ true → length (reply_body (record { outcome = o; from = from; more = more; news = news })) ≤ most_body
room_length o from more news h =
    let le : length (reply_body (record { outcome = o; from = from; more = false; news = news })) ≤ most_body = at_most _ most_body h in
    omega (arith, body_length o from more news, body_length o from false news)

small_room : (o : ReplyOutcome) (from : ℕ) (news : List Entry) → length (outcome_body o) + 9 + length (flat_map entry.spell news) ≤ most_body → has_room o from news ≡ true
small_room o from news le =
    let same = body_length o from false news in
    let few : length (reply_body (record { outcome = o; from = from; more = false; news = news })) ≤ most_body = omega arith in
    grind (arith, nat_tests)

one_has_room : (o : ReplyOutcome) (from : ℕ) (e : Entry) → IsFitOutcome o → entry.Fits e → has_room o from (e ∷ []) ≡ true
one_has_room o from e fits h = small_room o from (e ∷ []) (omega (arith, outcome_most o fits, entry_most e h, length-append (entry.spell e) []))

none_has_room : (o : ReplyOutcome) (from : ℕ) → IsFitOutcome o → has_room o from [] ≡ true
none_has_room o from fits = small_room o from [] (omega (arith, outcome_most o fits))

-- HOW MANY ARE TOLD

-- so many have room, and at least one where there is one
pub record IsCut (o : ReplyOutcome) (from : ℕ) (news : List Entry) (most k : ℕ) : Type 0 where
  pub room : has_room o from (take k news) ≡ true
  pub within : k ≤ most
  pub some : 0 < most → 0 < k

cut_if : (o : ReplyOutcome) (from : ℕ) (news : List Entry) (n : ℕ) (b : Bool) → has_room o from (take (suc n) news) ≡ b → (n ≡ 0 → b ≡ true) → IsCut o from news n (told_of o from news n)
    → IsCut o from news (suc n) (if b then suc n else told_of o from news n)
cut_if o from news n true e first h = record { room = e; within = omega arith; some = λ lt. omega arith }
cut_if o from news zero false e first h = absurd (false≢true (first refl))
cut_if o from news (suc n) false e first h = record { room = h.room; within = let le : told_of o from news (suc n) ≤ suc n = h.within in omega arith; some = λ lt. h.some (omega arith) }

told_cut : (o : ReplyOutcome) (from : ℕ) (e : Entry) (news : List Entry) (n : ℕ) → IsFitOutcome o → entry.Fits e → IsCut o from (e ∷ news) n (told_of o from (e ∷ news) n)
unfolding told_of
told_cut o from e news zero fits h = record { room = none_has_room o from fits; within = omega arith; some = λ lt. absurd (omega arith) }
told_cut o from e news (suc n) fits h =
    cut_if o from (e ∷ news) n (has_room o from (take (suc n) (e ∷ news))) refl (λ first. rw first (one_has_room o from e fits h)) (told_cut o from e news n fits h)

pub cut_is : (o : ReplyOutcome) (from : ℕ) (news : List Entry) → IsFitOutcome o → AreFit news → IsCut o from news (length news) (told_of o from news (length news))
unfolding told_of
cut_is o from [] fits h = record { room = none_has_room o from fits; within = omega arith; some = λ lt. absurd (omega arith) }
cut_is o from (e ∷ news) fits h = told_cut o from e news (suc (length news)) fits h.0

-- REPLIES

or_first : (a b : Bool) → a ≡ true → IsTrue (a || b)
or_first true b h = refl
or_first false b h = absurd (false≢true h)

truth_fits : (b : Bool) → truth.Fits b
truth_fits true = ((omega arith, refl), refl)
truth_fits false = ((omega arith, refl), refl)

some_more : (more : Bool) (n : ℕ) → (more ≡ true → 0 < n) → IsTrue (not (more && n == 0))
some_more false n h = refl
some_more true n h = let lt : 0 < n = h refl in let other : (n == 0) ≡ false = grind (arith, nat_tests) in rw other refl

row_fits : (o : ReplyOutcome) (from k : ℕ) (news : List Entry) → IsFitOutcome o → is_telling o ≡ true → from < 2 ^ 32 → AreFit news → length news < 2 ^ 32 → (k < length news → 0 < k)
    → (reply_row (outcome_kind o)).Fits (cut_at o from news k)
row_fits o from k news fits telling few h short some =
    let tell : tells (outcome_kind o) ≡ true = telling_tells o telling in
    let shown : List Entry = take k news in
    let len = length-take k news in
    let more : Bool = nat_lt k (length news) in
    let count : length shown < 2 ^ 32 = omega arith in
    let one : more ≡ true → 0 < length shown = λ e. (let lt : k < length news = lt_of k (length news) e in let pos : 0 < k = some lt in omega arith) in (
      (fits, ((few, or_first _ _ tell), ((truth_fits more, or_first _ _ tell), ((((count, or_first _ _ tell), some_more more (length shown) one), take_fits k news h), refl)))),
      refl,
    )

silent_fits : (o : ReplyOutcome) → IsFitOutcome o → (reply_row (outcome_kind o)).Fits (cut_at o 0 [] 0)
silent_fits o fits = (
  (fits, ((omega arith, or_second _), ((truth_fits false, or_second _), ((((omega arith, or_second _), refl), tt), refl)))),
  refl,
)
  where
    or_second : (a : Bool) → IsTrue (a || true)
    or_second true = refl
    or_second false = refl

pub telling_is_reply : (o : ReplyOutcome) (from : ℕ) (news : List Entry) → IsFitOutcome o → from < 2 ^ 32 → AreFit news → length news < 2 ^ 32 → IsReply (reply_telling o from news)
unfolding reply_telling cut_reply
telling_is_reply o from news fits few h short = by_test (is_telling o) refl
  where
    cut : IsCut o from news (length news) (told_of o from news (length news))
    cut = cut_is o from news fits h

    by_test : (b : Bool) → is_telling o ≡ b → IsReply (if b then cut_at o from news (told_of o from news (length news)) else cut_at o 0 [] 0)
    by_test true e =
        let k = told_of o from news (length news) in
        (row_fits o from k news fits e few h short (λ lt. cut.some (omega arith)), room_length o from (nat_lt k (length news)) (take k news) cut.room)
    by_test false e = (silent_fits o fits, room_length o 0 false [] (none_has_room o 0 fits))

pub reply_tells_one : (o : ReplyOutcome) (from : ℕ) (news : List Entry) → IsFitOutcome o → AreFit news → is_telling o ≡ true → 0 < length news → 0 < length (reply_telling o from news).news
unfolding reply_telling cut_reply
reply_tells_one o from news fits h telling some =
    let cut = cut_is o from news fits h in
    let k = told_of o from news (length news) in
    let pos : 0 < k = cut.some some in
    let len = length-take k news in
    rw telling (omega arith)

-- WHAT IS TOLD OF A LOG

told_length : (r : ℕ) (log : List Entry) → length (told_log r log) ≡ length log
told_length r [] = refl
told_length r (e ∷ older) = omega (arith, told_length r older)

news_length : (r from : ℕ) (log : List Entry) → length (news_from r from log) ≤ length log
news_length r from log =
    omega (arith, length-reverse (take (length log - from) (told_log r log)), length-take (length log - from) (told_log r log), told_length r log)

pub log_reply : (o : ReplyOutcome) (r from : ℕ) (log : List Entry) → IsFitOutcome o → AreFit log → from < 2 ^ 32 → length log < 2 ^ 32 → IsReply (reply_telling o from (news_from r from log))
log_reply o r from log fits h few short = telling_is_reply o from (news_from r from log) fits few (news_fit r from log h) (let le = news_length r from log in omega arith)
