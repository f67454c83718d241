-- What the front of a frame says.
use Rattle.std.proofs.Common.{◌≡◌, ℕ, ◌<◌, ◌^◌, List, ◌∷◌, ◌++◌, length, take, drop, true, false, refl, ap, subst, ◌∙◌, arith}
use Rattle.std.specs.Prelude.{slice_index, nat_lt, Ok}
use Rattle.std.specs.List.{flat_map}
use Rattle.std.specs.Int.{w32, from_be_bytes}
use Rattle.std.proofs.lemmas.Bool.{false≢true, le-ltb}
use Rattle.agent_terms.specs.declared.request.Request.{Request}
use Rattle.agent_terms.specs.declared.request.ReplyOutcome.{ReplyOutcome}
use Rattle.agent_terms.specs.declared.request.ReplyOutcome.TheVariants as outcomes
use Rattle.exchange_laws.specs.Fit.{IsFitOutcome}
use Rattle.frame_grammar.specs.Cut.{ReplyParts, is_telling, reply_body}
use Rattle.frame_grammar.specs.Entries.{entry}
use Rattle.frame_grammar.specs.Outcomes.{outcome_kind, outcome_body}
use Rattle.link_fields.specs.Basic.{number_bytes, truth, u8, u32}
use Rattle.link_fields.specs.Lawful.{IsBytes}
use Rattle.link_fields.proofs.FieldLaws.{wide8, wide32}
use Rattle.link_wire.specs.Frames.{version}
use Rattle.link_wire.specs.Replies.{IsReply, reply_frame}
use Rattle.link_wire.specs.Requests.{kind_of, request_read}
use Rattle.link_wire.proofs.RequestFrames.{request_found}
use Rattle.link_port.specs.Spelled.{kind_at, number_at, outcome_at, outcome_by, tells}

-- a request that is read has its kind in the second byte
pub kind_of_request : (bytes : List ℕ) (q : Request) → IsBytes bytes → request_read bytes ≡ Ok q → kind_at bytes ≡ kind_of q
kind_of_request bytes q fits e = ap kind_at (request_found bytes q fits e).1

-- a reply tells entries where its kind does
kind_tells : (o : ReplyOutcome) → tells (outcome_kind o) ≡ is_telling o
kind_tells outcomes.Done = refl
kind_tells (outcomes.Security rule) = refl
kind_tells outcomes.Null = refl
kind_tells (outcomes.Made nav) = refl
kind_tells (outcomes.Task place) = refl
kind_tells outcomes.Nothing = refl
kind_tells (outcomes.Unloaded place) = refl
kind_tells (outcomes.NotYours doc home) = refl
kind_tells (outcomes.BadFrame place why) = refl
kind_tells (outcomes.Full len) = refl

pub reply_tells : (p : ReplyParts) → tells (kind_at (reply_frame p)) ≡ is_telling p.outcome
reply_tells p = kind_tells p.outcome

-- THE OUTCOME

number_spelled : (kind len n : ℕ) (rest : List ℕ) → n < 2 ^ 32 → number_at (version ∷ kind ∷ u32.spell len ++ (u32.spell n ++ rest)) ≡ n
unfolding number_bytes
number_spelled kind len n rest lt =
    let bytes : List ℕ = version ∷ kind ∷ u32.spell len ++ (u32.spell n ++ rest) in
    let back : from_be_bytes w32 (take 4 (drop 6 bytes)) ≡ n = wide32.again n lt in
    let long : nat_lt (length bytes) 10 ≡ false = le-ltb _ _ (omega arith) in
    rw long back

byte_spelled : (kind len n : ℕ) (rest : List ℕ) → n < 2 ^ 8 → slice_index (version ∷ kind ∷ u32.spell len ++ (u8.spell n ++ rest)) 6 ≡ n
unfolding number_bytes
byte_spelled kind len n rest lt = wide8.again n lt

-- what stands behind the outcome in a reply
behind : ReplyParts → List ℕ
behind p = u32.spell p.from ++ (truth.spell p.more ++ (u32.spell (length p.news) ++ flat_map entry.spell p.news))

body_is : (p : ReplyParts) → reply_body p ≡ outcome_body p.outcome ++ behind p
unfolding reply_body behind
body_is p = refl

read_number : (p : ReplyParts) (n : ℕ) (o : ReplyOutcome) → outcome_body o ≡ u32.spell n → p.outcome ≡ o → n < 2 ^ 32 → number_at (reply_frame p) ≡ n
read_number p n o body is lt =
    let all : reply_body p ≡ u32.spell n ++ behind p = body_is p ∙ ap (λ b. b ++ behind p) (ap outcome_body is ∙ body) in
    ap (λ b. number_at (version ∷ outcome_kind p.outcome ∷ u32.spell (length (reply_body p)) ++ b)) all ∙ number_spelled (outcome_kind p.outcome) (length (reply_body p)) n (behind p) lt

read_byte : (p : ReplyParts) (n : ℕ) (o : ReplyOutcome) → outcome_body o ≡ u8.spell n → p.outcome ≡ o → n < 2 ^ 8 → slice_index (reply_frame p) 6 ≡ n
read_byte p n o body is lt =
    let all : reply_body p ≡ u8.spell n ++ behind p = body_is p ∙ ap (λ b. b ++ behind p) (ap outcome_body is ∙ body) in
    ap (λ b. slice_index (version ∷ outcome_kind p.outcome ∷ u32.spell (length (reply_body p)) ++ b) 6) all ∙ byte_spelled (outcome_kind p.outcome) (length (reply_body p)) n (behind p) lt

read_as : (p : ReplyParts) (o : ReplyOutcome) → p.outcome ≡ o → IsFitOutcome o → is_telling o ≡ true → outcome_by (outcome_kind o) (reply_frame p) ≡ o
read_as p outcomes.Done is fits h = refl
read_as p (outcomes.Security rule) is fits h =
    let same : fits.0 ≡ rule = cc in
    let lt : rule < 2 ^ 8 = subst (λ (n : ℕ). n < 2 ^ 8) same fits.1.0 in
    ap (λ n. outcomes.Security n) (read_byte p rule (outcomes.Security rule) refl is lt)
read_as p outcomes.Null is fits h = refl
read_as p (outcomes.Made nav) is fits h =
    let same : fits.0 ≡ nav = cc in
    ap (λ n. outcomes.Made n) (read_number p nav (outcomes.Made nav) refl is (subst (λ (n : ℕ). n < 2 ^ 32) same fits.1))
read_as p (outcomes.Task place) is fits h =
    let same : fits.0 ≡ place = cc in
    ap (λ n. outcomes.Task n) (read_number p place (outcomes.Task place) refl is (subst (λ (n : ℕ). n < 2 ^ 32) same fits.1))
read_as p outcomes.Nothing is fits h = refl
read_as p (outcomes.Unloaded place) is fits h =
    let same : fits.0 ≡ place = cc in
    ap (λ n. outcomes.Unloaded n) (read_number p place (outcomes.Unloaded place) refl is (subst (λ (n : ℕ). n < 2 ^ 32) same fits.1))
read_as p (outcomes.NotYours doc home) is fits h = absurd (false≢true h)
read_as p (outcomes.BadFrame place why) is fits h = absurd (false≢true h)
read_as p (outcomes.Full len) is fits h =
    let same : fits.0 ≡ len = cc in
    ap (λ n. outcomes.Full n) (read_number p len (outcomes.Full len) refl is (subst (λ (n : ℕ). n < 2 ^ 32) same fits.1))

-- the outcome of a reply that tells entries is read from its frame
pub outcome_read : (p : ReplyParts) → IsReply p → is_telling p.outcome ≡ true → outcome_at (reply_frame p) ≡ p.outcome
outcome_read p h telling = read_as p p.outcome refl h.0.0.0 telling
