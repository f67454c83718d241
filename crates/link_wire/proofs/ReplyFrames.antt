-- Frames of replies.
use Rattle.std.proofs.Common.{◌≡◌, ℕ, ◌≤◌, true, List, [], ◌++◌, length, Result, Ok, Err, refl, sym, ap, subst, ◌∙◌, arith}
use Rattle.std.specs.Prelude.{IfOk}
use Rattle.std.specs.List.{flat_map}
use Rattle.std.proofs.lemmas.List.{append-nil}
use Rattle.agent_terms.specs.declared.request.ReplyOutcome.{ReplyOutcome}
use Rattle.agent_terms.specs.declared.request.ReplyOutcome.TheVariants as outcomes
use Rattle.link_fields.specs.Basic.{u32, truth}
use Rattle.link_fields.specs.Lawful.{IsBytes}
use Rattle.link_wire.specs.declared.bad.DecodeError.{DecodeError}
use Rattle.link_wire.specs.declared.frame.Side.TheVariants as sides
use Rattle.link_wire.specs.Bad.{Decoded, Decodes}
use Rattle.frame_grammar.specs.Cut.{most_body}
use Rattle.link_wire.specs.Frames.{is_kind, frame}
use Rattle.frame_grammar.specs.Entries.{entry}
use Rattle.frame_grammar.specs.Cut.{ReplyParts}
use Rattle.frame_grammar.specs.Outcomes.{outcome_kind, outcome_body, outcome_row}
use Rattle.frame_grammar.specs.Cut.{reply_body}
use Rattle.link_wire.specs.Replies.{reply_row, reply_frame, IsReply, reply_of}
use Rattle.link_wire.proofs.ReplyLaws.{reply_row_law, reply_key}
use Rattle.link_wire.proofs.FrameLaws.{frame_takes, frame_again, frame_whole}

outcome_is : (o : ReplyOutcome) → (outcome_row (outcome_kind o)).spell o ≡ outcome_body o
outcome_is outcomes.Done = refl
outcome_is (outcomes.Security rule) = refl
outcome_is outcomes.Null = refl
outcome_is (outcomes.Made nav) = refl
outcome_is (outcomes.Task place) = refl
outcome_is outcomes.Nothing = refl
outcome_is (outcomes.Unloaded place) = refl
outcome_is (outcomes.NotYours doc home) = refl
outcome_is (outcomes.BadFrame place why) = refl
outcome_is (outcomes.Full len) = refl

known_outcome : (o : ReplyOutcome) → is_kind sides.Reply (outcome_kind o) ≡ true
known_outcome outcomes.Done = refl
known_outcome (outcomes.Security rule) = refl
known_outcome outcomes.Null = refl
known_outcome (outcomes.Made nav) = refl
known_outcome (outcomes.Task place) = refl
known_outcome outcomes.Nothing = refl
known_outcome (outcomes.Unloaded place) = refl
known_outcome (outcomes.NotYours doc home) = refl
known_outcome (outcomes.BadFrame place why) = refl
known_outcome (outcomes.Full len) = refl

body_is : (r : ReplyParts) → (reply_row (outcome_kind r.outcome)).spell r ≡ reply_body r
unfolding reply_body
body_is r = ap (λ (b : List ℕ). b ++ (u32.spell r.from ++ (truth.spell r.more ++ (u32.spell (length r.news) ++ flat_map entry.spell r.news)))) (outcome_is r.outcome)

pub reply_found : (bytes : List ℕ) (r : ReplyParts) → IsBytes bytes → reply_of bytes ≡ Ok r → IsReply r × (bytes ≡ reply_frame r)
reply_found bytes r fits e =
    let t = frame_takes (is_kind sides.Reply) most_body reply_row reply_row_law bytes r fits e in
    let k : t.0 ≡ outcome_kind r.outcome = sym (reply_key t.0 r t.2) in
    let fits_there : (reply_row (outcome_kind r.outcome)).Fits r = subst (λ (k : ℕ). (reply_row k).Fits r) k t.2 in
    let spelled : (reply_row t.0).spell r ≡ reply_body r = ap (λ (k : ℕ). (reply_row k).spell r) k ∙ body_is r in
    ((fits_there, subst (λ (b : List ℕ). length b ≤ most_body) spelled t.3), t.1 ∙ ap (frame t.0) spelled ∙ ap (λ k. frame k (reply_body r)) k)

pub reply_again : (r : ReplyParts) → IsReply r → reply_of (reply_frame r) ≡ Ok r
reply_again r h =
    let small : length ((reply_row (outcome_kind r.outcome)).spell r) ≤ most_body = subst (λ (b : List ℕ). length b ≤ most_body) (sym (body_is r)) h.1 in
    ap (λ b. reply_of (frame (outcome_kind r.outcome) b)) (sym (body_is r))
    ∙ frame_again (is_kind sides.Reply) most_body reply_row reply_row_law (omega arith) (outcome_kind r.outcome) r (known_outcome r.outcome) h.0 small

abbrev made : ReplyParts → Decoded ReplyParts
made r = Ok r

same_result : (a b : ReplyParts) → made a ≡ made b → a ≡ b
same_result a b e = cc

pub one_spelling : (a b : ReplyParts) (x : List ℕ) → IsReply a → IsReply b → reply_frame a ++ x ≡ reply_frame b → (a ≡ b) × (x ≡ [])
one_spelling a b x ha hb e =
    let none : x ≡ [] = frame_whole (is_kind sides.Reply) most_body (omega arith) (outcome_kind a.outcome) (outcome_kind b.outcome) (reply_body a) (reply_body b) x (known_outcome a.outcome) (known_outcome b.outcome) ha.1 hb.1 e in
    let same : reply_frame a ≡ reply_frame b = sym (append-nil (reply_frame a)) ∙ ap (λ (t : List ℕ). reply_frame a ++ t) (sym none) ∙ e in
    (same_result a b (sym (reply_again a ha) ∙ ap reply_of same ∙ reply_again b hb), none)

pub found : (bytes : List ℕ) (result : Result ReplyParts DecodeError) → IsBytes bytes → Decodes result (reply_of bytes) → IfOk result (λ r. IsReply r × (bytes ≡ reply_frame r))
found bytes (Ok r) fits h = reply_found bytes r fits h
found bytes (Err e) fits h = tt
