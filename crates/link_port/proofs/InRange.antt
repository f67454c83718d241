-- The reply of a coordinator whose log is in range of frames is one that a frame spells.
use Rattle.std.proofs.Common.{◌≡◌, ℕ, ◌+◌, ◌-◌, ◌<◌, ◌≤◌, ◌^◌, List, ◌++◌, length, Bool, true, false, refl, subst, arith, if◌then◌else◌, Ok, Err}
use Rattle.std.specs.Prelude.{nat_lt, ◌==◌, ◌&&◌, not, slice_index, take, drop}
use Rattle.std.specs.Int.{w32, from_be_bytes}
use Rattle.std.proofs.lemmas.Bool.Decides.{nat_tests}
use Rattle.agent_terms.specs.declared.request.Request.{Request}
use Rattle.agent_terms.specs.declared.request.Why.{Why}
use Rattle.agent_terms.specs.declared.request.Why.TheVariants as whys
use Rattle.coordinator_rules.specs.Decision.{Rules, exchange}
use Rattle.desk.specs.History.{log_of, told_of}
use Rattle.desk.specs.Serving.{answered, Coordinator, decided, decided_on, full, needs_room}
use Rattle.exchange_laws.specs.Fit.{AreFit, IsFitLog, IsFitOutcome}
use Rattle.exchange_laws.proofs.Fit.Outcomes.{outcome_fits}
use Rattle.exchange_laws.proofs.Fit.Replies.{log_reply}
use Rattle.frame_grammar.specs.Cut.{most_body}
use Rattle.frame_grammar.specs.Outcomes.{why_field}
use Rattle.link_fields.specs.Field.{◌>>=◌, Field, Outcome}
use Rattle.link_fields.specs.Lawful.{IsBytes}
use Rattle.link_wire.specs.Bad.{Decoded, bad_at}
use Rattle.link_wire.specs.declared.bad.Bad.{Bad}
use Rattle.link_wire.specs.Frames.{body_at, ended, frame_at, head_at, split_at, version}
use Rattle.link_wire.specs.Replies.{IsReply}
use Rattle.link_wire.specs.Requests.{request_read, request_row}
use Rattle.link_wire.proofs.RequestFrames.{request_found}
use Rattle.single_agent.specs.Turns.{is_full}
use Rattle.tree_log.specs.declared.entry.Entry.{Entry}
use Rattle.tree_log.specs.Tree.{tree_of}
use Rattle.link_port.specs.Exchanging.{decision_on, reply_on}

-- WHERE BYTES ARE NO REQUEST

-- what is read has a property, or the place of the fault is no further than this
Holds : {A : Type 0} → ℕ → (A → Type 0) → Decoded A → Type 0
Holds n P (Ok a) = P a
Holds n P (Err bad) = bad.place ≤ n

unless_bad : {A : Type 0} (n : ℕ) (P : A → Type 0) (t : Bool) (bad : Bad) (x : Decoded A) → (t ≡ true → bad.place ≤ n) → (t ≡ false → Holds n P x) → Holds n P (if t then Err bad else x)
unfolding Holds
unless_bad n P true bad x h k = h refl
unless_bad n P false bad x h k = k refl

then_holds : {A B : Type 0} (n : ℕ) (P : A → Type 0) (Q : B → Type 0) (x : Decoded A) (f : A → Decoded B) → Holds n P x → ((a : A) → P a → Holds n Q (f a)) → Holds n Q (x >>= f)
unfolding Holds
then_holds n P Q (Ok a) f h k = k a h
then_holds n P Q (Err bad) f h k = h

lt_is : (a b : ℕ) → nat_lt a b ≡ true → a < b
lt_is a b h = grind (arith, nat_tests)

ge_is : (a b : ℕ) → nat_lt a b ≡ false → b ≤ a
ge_is a b h = grind (arith, nat_tests)

head_holds : (known : ℕ → Bool) (most : ℕ) (bytes : List ℕ) → Holds (6 + most) (λ (h : ℕ × ℕ). h.1 ≤ most) (head_at known most bytes)
unfolding head_at Holds
head_holds known most bytes =
    let P : ℕ × ℕ → Type 0 = λ h. h.1 ≤ most in
    let len : ℕ = from_be_bytes w32 (take 4 (drop 2 bytes)) in
    let last : Decoded (ℕ × ℕ) = if nat_lt most len then Err (bad_at 2 whys.Length) else Ok (slice_index bytes 1, len) in
    let third : Decoded (ℕ × ℕ) = if nat_lt (length bytes) 6 then Err (bad_at (length bytes) whys.Short) else last in
    let other : Bool = nat_lt 1 (length bytes) && not (known (slice_index bytes 1)) in
    let second : Decoded (ℕ × ℕ) = if other then Err (bad_at 1 whys.Kind) else third in
    unless_bad (6 + most) P (nat_lt 0 (length bytes) && not (slice_index bytes 0 == version)) (bad_at 0 whys.Version) second (λ t. omega arith) (λ t.
    unless_bad (6 + most) P other (bad_at 1 whys.Kind) third (λ t. omega arith) (λ t.
    unless_bad (6 + most) P (nat_lt (length bytes) 6) (bad_at (length bytes) whys.Short) last (λ short. let lt = lt_is (length bytes) 6 short in omega arith) (λ t.
    unless_bad (6 + most) P (nat_lt most len) (bad_at 2 whys.Length) (Ok (slice_index bytes 1, len)) (λ t. omega arith) (λ few. ge_is most len few))))

body_holds : (most len : ℕ) (bytes : List ℕ) → len ≤ most → Holds (6 + most) (λ (body : List ℕ). length bytes ≤ 6 + most) (body_at len bytes)
unfolding Holds
body_holds most len bytes le =
    let P : List ℕ → Type 0 = λ body. length bytes ≤ 6 + most in
    let rest : Decoded (List ℕ) = if nat_lt (6 + len) (length bytes) then Err (bad_at (6 + len) whys.Tail) else Ok (drop 6 bytes) in
    unless_bad (6 + most) P (nat_lt (length bytes) (6 + len)) (bad_at (length bytes) whys.Short) rest (λ short. let lt = lt_is (length bytes) (6 + len) short in omega arith) (λ t.
    unless_bad (6 + most) P (nat_lt (6 + len) (length bytes)) (bad_at (6 + len) whys.Tail) (Ok (drop 6 bytes)) (λ long. omega arith) (λ whole. let ge = ge_is (6 + len) (length bytes) whole in omega arith))

ended_holds : {A : Type 0} (n : ℕ) (bytes : List ℕ) (x : Outcome (A × List ℕ)) → length bytes ≤ n → Holds n (λ (a : A). Unit {0}) (ended bytes x)
unfolding Holds
ended_holds {A = A} n bytes (Ok x) le = by_rest (length x.1 == 0)
  where
    by_rest : (b : Bool) → Holds n (λ (a : A). Unit {0}) (if b then Ok x.0 else Err (bad_at (length bytes - length x.1) whys.Tail))
    by_rest true = tt
    by_rest false = omega arith
ended_holds n bytes (Err fault) le = omega arith

read_holds : {A : Type 0} (known : ℕ → Bool) (most : ℕ) (rows : ℕ → Field A) (bytes : List ℕ) → Holds (6 + most) (λ (a : A). Unit {0}) (frame_at known most rows bytes)
unfolding frame_at Holds
read_holds {A} known most rows bytes =
    then_holds (6 + most) (λ (b : ℕ × List ℕ). length bytes ≤ 6 + most) (λ (a : A). Unit {0}) (split_at known most bytes) _
    (then_holds (6 + most) (λ (h : ℕ × ℕ). h.1 ≤ most) (λ (b : ℕ × List ℕ). length bytes ≤ 6 + most) (head_at known most bytes) _ (head_holds known most bytes) (λ h le.
    then_holds (6 + most) (λ (body : List ℕ). length bytes ≤ 6 + most) (λ (b : ℕ × List ℕ). length bytes ≤ 6 + most) (body_at h.1 bytes) _ (body_holds most h.1 bytes le) (λ body whole. whole)))
    (λ b le. ended_holds (6 + most) bytes ((rows b.0).read b.1) le)

bad_is_small : (bytes : List ℕ) (x : Decoded Request) (bad : Bad) → Holds (6 + most_body) (λ (q : Request). Unit {0}) x → x ≡ Err bad → bad.place < 2 ^ 32
unfolding Holds
bad_is_small bytes (Ok q) bad h e = absurd cc
bad_is_small bytes (Err b) bad h e = let same : b ≡ bad = cc in subst (λ (c : Bad). c.place < 2 ^ 32) same (omega (arith, h))

-- OUTCOMES

why_fits : (w : Why) → why_field.Fits w
why_fits whys.Version = ((omega arith, refl), refl)
why_fits whys.Kind = ((omega arith, refl), refl)
why_fits whys.Length = ((omega arith, refl), refl)
why_fits whys.Short = ((omega arith, refl), refl)
why_fits whys.Text = ((omega arith, refl), refl)
why_fits whys.Range = ((omega arith, refl), refl)
why_fits whys.Url = ((omega arith, refl), refl)
why_fits whys.Tail = ((omega arith, refl), refl)

module _ (rules : Rules) (log : List Entry) (r : ℕ) (fit : IsFitLog rules log) where
  decided_fits : (q : Request) → IsFitOutcome (exchange rules log r q).outcome → IsFitOutcome (decided rules log r q).outcome
  unfolding decided
  decided_fits q h = by_room (is_full log && needs_room (tree_of log) r q)
    where
      by_room : (b : Bool) → IsFitOutcome (if b then full log else exchange rules log r q).outcome
      by_room true = (length log, (let short : length log < 2 ^ 30 = fit.short in omega arith), refl)
      by_room false = h

  answered_fits : (bytes : List ℕ) → IsBytes bytes → IsFitOutcome (answered rules log r bytes).outcome
  unfolding answered
  answered_fits bytes fits = by_request (request_read bytes) refl
    where
      by_request : (x : Decoded Request) → request_read bytes ≡ x → IsFitOutcome (decided_on rules log r x).outcome
      by_request (Ok q) e = decided_fits q (outcome_fits rules log r q fit (request_found bytes q fits e).0)
      by_request (Err bad) e =
          ((bad.place, bad.why), (bad_is_small bytes (request_read bytes) bad (read_holds _ most_body request_row bytes) e, why_fits bad.why), refl)

-- the reply is in range
pub reply_fits : (r : ℕ) (bytes : List ℕ) (desk : Coordinator) → IsBytes bytes → IsFitLog desk.rules (log_of desk.history) → AreFit ((decision_on r bytes desk).entries ++ log_of desk.history)
    → told_of desk.history r < 2 ^ 32 → length ((decision_on r bytes desk).entries ++ log_of desk.history) < 2 ^ 32 → IsReply (reply_on r bytes desk)
reply_fits r bytes desk fits fit after few short =
    log_reply (decision_on r bytes desk).outcome r (told_of desk.history r) ((decision_on r bytes desk).entries ++ log_of desk.history) (answered_fits desk.rules (log_of desk.history) r fit bytes fits) after few short
