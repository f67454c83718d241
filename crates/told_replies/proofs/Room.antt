-- A reply that has no room for an entry has none for the entries behind it.
use Rattle.std.proofs.Common.{◌≡◌, ℕ, zero, suc, ◌+◌, ◌-◌, ◌<◌, ◌≤◌, List, [], ◌∷◌, ◌++◌, length, take, drop, Bool, true, false, Some, None, refl, sym, ap, subst, ◌∙◌, arith, inl, inr}
use Rattle.std.specs.Prelude.{nat_lt, slice_get}
use Rattle.std.specs.List.{flat_map}
use Rattle.std.proofs.lemmas.Bool.{false≢true, cases_lt}
use Rattle.std.proofs.lemmas.Bool.Decides.{nat_tests}
use Rattle.std.proofs.lemmas.Option.{slice_get_within, get_or_from_slice_get}
use Rattle.std.proofs.lemmas.Grind.{flat_map-append}
use Rattle.std.proofs.lemmas.List.{length-append, take_more}
use Rattle.std.proofs.Math.Seq.{take-add}
use Rattle.tree_log.specs.declared.entry.Entry.{Entry}
use Rattle.agent_terms.specs.declared.request.ReplyOutcome.{ReplyOutcome}
use Rattle.link_fields.specs.Basic.{number_bytes}
use Rattle.frame_grammar.specs.Entries.{entry}
use Rattle.frame_grammar.specs.Outcomes.{outcome_body}
use Rattle.frame_grammar.specs.Cut.{ReplyParts, reply_body, has_room, told_of, cut_at, cut_reply}
use Rattle.reply_writing.specs.Telling.{after_telling, IsTold}

-- how many bytes a body has: those of the outcome, 9 of numbers, and those of the entries
body_length : (outcome : ReplyOutcome) (from : ℕ) (more : Bool) (news : List Entry)
    → length (reply_body (record { outcome = outcome; from = from; more = more; news = news })) ≡ length (outcome_body outcome) + (9 + length (flat_map entry.spell news))
unfolding reply_body number_bytes
body_length outcome from true news = length-append (outcome_body outcome) _ ∙ omega arith
body_length outcome from false news = length-append (outcome_body outcome) _ ∙ omega arith

-- what has room has room with fewer entries
room_before : (outcome : ReplyOutcome) (from : ℕ) (news more : List Entry) → has_room outcome from (news ++ more) ≡ true → has_room outcome from news ≡ true
room_before outcome from news more h =
    let both_is = body_length outcome from false (news ++ more) in
    let one_is = body_length outcome from false news in
    let parts : length (flat_map entry.spell (news ++ more)) ≡ length (flat_map entry.spell news) + length (flat_map entry.spell more) =
    ap length (flat_map-append entry.spell news more) ∙ length-append (flat_map entry.spell news) (flat_map entry.spell more) in
    grind (arith, nat_tests)

not_roomy : (b : Bool) {c : Bool} → (b ≡ true → c ≡ true) → c ≡ false → b ≡ false
not_roomy true h none = absurd (false≢true (sym none ∙ h refl))
not_roomy false h none = refl

some_there : (news : List Entry) (k : ℕ) → k < length news → slice_get news k ≡ None → ⊥
some_there [] k lt none = absurd (omega arith)
some_there (x ∷ news) zero lt none = cc
some_there (x ∷ news) (suc k) lt none = some_there news k (omega arith) none

at_end : (news : List Entry) (k : ℕ) → k ≤ length news → slice_get news k ≡ None → k ≡ length news
at_end news k le none = elim (cases_lt k (length news)) as (λ _. k ≡ length news) [
  | inl lt ↦ absurd (some_there news k lt none)
  | inr ge ↦ omega arith
]

-- ENTRIES ARE TOLD ONE BY ONE

-- the first k are told, and the reply isn't cut
pub record IsUnderway (outcome : ReplyOutcome) (from : ℕ) (news : List Entry) (k : ℕ) (w : ReplyParts) : Type 0 where
  pub within : k ≤ length news
  pub so_far : w ≡ record { outcome = outcome; from = from; more = false; news = take k news }
  pub room : told_of outcome from news k ≡ k

-- nothing is told yet
pub begins : (outcome : ReplyOutcome) (from : ℕ) (news : List Entry) → IsUnderway outcome from news 0 (record { outcome = outcome; from = from; more = false; news = [] })
unfolding told_of
begins outcome from news = record { within = omega arith; so_far = refl; room = refl }

one_more : (news : List Entry) (k : ℕ) (x : Entry) → slice_get news k ≡ Some x → take (suc k) news ≡ take k news ++ x ∷ []
one_more news k x h =
    let lt = slice_get_within news k x h in
    ap (λ (n : ℕ). take n news) (let e : suc k ≡ k + 1 = omega arith in e) ∙ take_more news k x lt ∙ ap (λ (y : Entry). take k news ++ y ∷ []) (get_or_from_slice_get news k x x h)

told_more : (outcome : ReplyOutcome) (from : ℕ) (news : List Entry) (k : ℕ) → has_room outcome from (take (suc k) news) ≡ true → told_of outcome from news (suc k) ≡ suc k
unfolding told_of
told_more outcome from news k h = rw h refl

told_none : (outcome : ReplyOutcome) (from : ℕ) (news : List Entry) (k : ℕ) → has_room outcome from (take (suc k) news) ≡ false → told_of outcome from news (suc k) ≡ told_of outcome from news k
unfolding told_of
told_none outcome from news k h = rw h refl

module _ (outcome : ReplyOutcome) (from : ℕ) (news : List Entry) (k : ℕ) (w v : ReplyParts) (x : Entry) (underway : IsUnderway outcome from news k w) (there : slice_get news k ≡ Some x) where
  -- what the room of one more says of the news
  room_is : (told : Bool) → told ≡ has_room w.outcome w.from (w.news ++ x ∷ []) → has_room outcome from (take (suc k) news) ≡ told
  room_is told h =
      ap (has_room outcome from) (one_more news k x there)
      ∙ sym (ap (λ (r : ReplyParts). has_room r.outcome r.from (r.news ++ x ∷ [])) underway.so_far)
      ∙ sym h

  -- one more is told
  pub goes_on : IsTold x true w v → IsUnderway outcome from news (k + 1) v
  goes_on told = record {
    within = let lt = slice_get_within news k x there in omega arith;
    so_far =
        told.after
        ∙ ap (after_telling x true) underway.so_far
        ∙ ap (λ (es : List Entry). record { outcome = outcome; from = from; more = false; news = es }) (sym (one_more news k x there) ∙ ap (λ (n : ℕ). take n news) (let e : suc k ≡ k + 1 = omega arith in e));
    room = subst (λ (n : ℕ). told_of outcome from news n ≡ n) (let e : suc k ≡ k + 1 = omega arith in e) (told_more outcome from news k (room_is true told.room));
  }

  no_room_later : has_room outcome from (take (suc k) news) ≡ false → (j : ℕ) → has_room outcome from (take (suc k + j) news) ≡ false
  no_room_later none j = not_roomy (has_room outcome from (take (suc k + j) news)) (λ h. room_before outcome from (take (suc k) news) (take j (drop (suc k) news)) (subst (λ (es : List Entry). has_room outcome from es ≡ true) (take-add (suc k) j news) h)) none

  told_to : has_room outcome from (take (suc k) news) ≡ false → (j : ℕ) → told_of outcome from news (k + j) ≡ k
  told_to none zero = ap (told_of outcome from news) (let e : k + 0 ≡ k = omega arith in e) ∙ underway.room
  told_to none (suc j) =
      ap (told_of outcome from news) (let e : k + suc j ≡ suc (k + j) = omega arith in e)
      ∙ told_none outcome from news (k + j) (subst (λ (n : ℕ). has_room outcome from (take n news) ≡ false) (let e : suc k + j ≡ suc (k + j) = omega arith in e) (no_room_later none j))
      ∙ told_to none j

  -- there is no room for one more: the reply is cut here
  pub is_cut : IsTold x false w v → v ≡ cut_reply outcome from news
  unfolding cut_reply
  is_cut told =
      let lt = slice_get_within news k x there in
      let all : told_of outcome from news (length news) ≡ k =
      ap (told_of outcome from news) (let e : length news ≡ k + (length news - k) = omega arith in e) ∙ told_to (room_is false told.room) (length news - k) in
      let behind : nat_lt k (length news) ≡ true = grind (arith, nat_tests) in
      told.after
      ∙ ap (after_telling x false) underway.so_far
      ∙ ap (λ (b : Bool). record { outcome = outcome; from = from; more = b; news = take k news }) (sym behind)
      ∙ ap (cut_at outcome from news) (sym all)

-- all are told
pub ends : (outcome : ReplyOutcome) (from : ℕ) (news : List Entry) (k : ℕ) (w : ReplyParts) → IsUnderway outcome from news k w → slice_get news k ≡ None → w ≡ cut_reply outcome from news
unfolding cut_reply
ends outcome from news k w underway none =
    let all : k ≡ length news = at_end news k underway.within none in
    let whole : nat_lt k (length news) ≡ false = grind (arith, nat_tests) in
    underway.so_far
    ∙ ap (λ (b : Bool). record { outcome = outcome; from = from; more = b; news = take k news }) (sym whole)
    ∙ ap (cut_at outcome from news) (sym (ap (told_of outcome from news) (sym all) ∙ underway.room))
