-- The frame of a reply, out of the frame that was being written.
use Rattle.std.proofs.Common.{◌≡◌, ℕ, ◌+◌, false, List, [], ◌∷◌, ◌++◌, length, refl, sym, ap, ◌∙◌, append_assoc, arith}
use Rattle.std.specs.List.{flat_map}
use Rattle.std.proofs.lemmas.List.{length-append}
use Rattle.link_fields.specs.Basic.{u32, truth}
use Rattle.frame_grammar.specs.Entries.{entry}
use Rattle.frame_grammar.specs.Outcomes.{outcome_kind, outcome_body}
use Rattle.frame_grammar.specs.Cut.{ReplyParts, reply_body}
use Rattle.link_wire.specs.Frames.{version}
use Rattle.link_wire.specs.Replies.{reply_frame}
use Rattle.reply_writing.specs.Bytes.{head, cleared, frame_so_far}
use Rattle.reply_writing.specs.Patched.{Patches}
use Rattle.reply_writing.proofs.Lengths.{u32_length, truth_length}

-- ---- what stands before and behind each of the three

-- the outcome's fields and the place
abbrev front : ReplyParts → List ℕ
front r = outcome_body r.outcome ++ u32.spell r.from

abbrev told : ReplyParts → List ℕ
told r = flat_map entry.spell r.news

-- the frame up to `more`, with that length
abbrev head_with : ReplyParts → ℕ → List ℕ
head_with r len = version ∷ outcome_kind r.outcome ∷ u32.spell len ++ front r

start : (r : ReplyParts) → frame_so_far r.outcome r.from r.news ≡ (version ∷ outcome_kind r.outcome ∷ []) ++ (u32.spell 0 ++ (front r ++ (cleared ++ told r)))
start r = ap (λ xs. version ∷ outcome_kind r.outcome ∷ xs) (append_assoc (u32.spell 0 ++ front r) cleared (told r) ∙ append_assoc (u32.spell 0) (front r) (cleared ++ told r))

behind_length : (r : ReplyParts) (len : ℕ) → (version ∷ outcome_kind r.outcome ∷ []) ++ (u32.spell len ++ (front r ++ (cleared ++ told r))) ≡ head_with r len ++ (truth.spell false ++ (u32.spell 0 ++ told r))
behind_length r len = ap (λ xs. version ∷ outcome_kind r.outcome ∷ xs) (sym (append_assoc (u32.spell len) (front r) (cleared ++ told r)) ∙ ap (λ xs. (u32.spell len ++ front r) ++ xs) (append_assoc (truth.spell false) (u32.spell 0) (told r)))

behind_more : (r : ReplyParts) (len : ℕ) → head_with r len ++ (truth.spell r.more ++ (u32.spell 0 ++ told r)) ≡ (head_with r len ++ truth.spell r.more) ++ (u32.spell 0 ++ told r)
behind_more r len = sym (append_assoc (head_with r len) (truth.spell r.more) (u32.spell 0 ++ told r))

whole : (r : ReplyParts) → (head_with r (length (reply_body r)) ++ truth.spell r.more) ++ (u32.spell (length r.news) ++ told r) ≡ reply_frame r
unfolding reply_body
whole r = simp append_assoc

head_with_length : (r : ReplyParts) (len : ℕ) → length (head_with r len) ≡ length (head r.outcome r.from)
head_with_length r len = omega (arith, u32_length len, u32_length 0, length-append (u32.spell len) (front r), length-append (u32.spell 0) (front r))

-- ---- the frame that is left when the length, `more` and the count stand there

pub finished : (r : ReplyParts) (len place count : ℕ) (a b c d : List ℕ) → a ≡ frame_so_far r.outcome r.from r.news → len ≡ length (reply_body r) → place ≡ length (head r.outcome r.from) → count ≡ length r.news → Patches 2 (u32.spell len) a b → Patches place (truth.spell r.more) b c → Patches (place + 1) (u32.spell count) c d → d ≡ reply_frame r
finished r len place count a b c d is-a is-len is-place is-count first second third =
    let is-b : b ≡ (version ∷ outcome_kind r.outcome ∷ []) ++ (u32.spell len ++ (front r ++ (cleared ++ told r))) =
    first (version ∷ outcome_kind r.outcome ∷ []) (u32.spell 0) (front r ++ (cleared ++ told r)) (is-a ∙ start r) refl (u32_length 0 ∙ sym (u32_length len)) in
    let at : length (head_with r len) ≡ place = head_with_length r len ∙ sym is-place in
    let is-c : c ≡ head_with r len ++ (truth.spell r.more ++ (u32.spell 0 ++ told r)) =
    second (head_with r len) (truth.spell false) (u32.spell 0 ++ told r) (is-b ∙ behind_length r len) at (truth_length false ∙ sym (truth_length r.more)) in
    let at-count : length (head_with r len ++ truth.spell r.more) ≡ place + 1 = omega (arith, length-append (head_with r len) (truth.spell r.more), truth_length r.more) in
    let is-d : d ≡ (head_with r len ++ truth.spell r.more) ++ (u32.spell count ++ told r) =
    third (head_with r len ++ truth.spell r.more) (u32.spell 0) (told r) (is-c ∙ behind_more r len) at-count (u32_length 0 ∙ sym (u32_length count)) in
    is-d ∙ ap (λ n. (head_with r len ++ truth.spell r.more) ++ (u32.spell n ++ told r)) is-count ∙ ap (λ n. (head_with r n ++ truth.spell r.more) ++ (u32.spell (length r.news) ++ told r)) is-len ∙ whole r
