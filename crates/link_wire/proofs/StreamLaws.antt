-- What feeding gives is what the stream as a whole gives.
use Rattle.std.proofs.Common.{◌≡◌, ℕ, zero, suc, ◌+◌, ◌-◌, ◌<◌, ◌≤◌, true, false, cond, nat_lt, nat_le, List, [], ◌∷◌, ◌++◌, length, take, drop, Option, Some, None, Ok, Err, refl, sym, ap, subst, ◌∙◌, append_assoc, arith}
use Rattle.std.proofs.Math.Seq.{take-append-add}
use Rattle.std.proofs.lemmas.Bool.Decides.{nat_tests}
use Rattle.std.proofs.lemmas.List.{length-append, length-take, take-append-drop, append-nil, take_at, drop_at}
use Rattle.link_wire.specs.declared.bad.Bad.{Bad}
use Rattle.link_wire.specs.declared.reader.Fed.{Fed}
use Rattle.link_wire.specs.declared.reader.Fed.TheVariants as feds
use Rattle.link_wire.specs.Bad.{Decoded, bad_at}
use Rattle.link_wire.specs.Feeding.{head, is_short, is_part, is_partial, Held, TurnBy}
use Rattle.link_wire.specs.Streams.{Feed, AreFeeds, taken, bytes_of, and_frame, frames_of, nothing_held, behind, split_by, split_up_to, split_stream}
use Rattle.link_wire.proofs.HeadLaws.{six_say_all, bad_stays, partial_nothing, bad_is_there}

abbrev Split : Type 0
Split = List (List ℕ) × Held

abbrev holding : List ℕ → Option Bad → Held
holding have bad = record { have = have; bad = bad }

held_is : (r : Held) (have : List ℕ) (bad : Option Bad) → r.have ≡ have → r.bad ≡ bad → r ≡ holding have bad
held_is r have bad e f = ap (λ (h : List ℕ). holding h r.bad) e ∙ ap (λ (b : Option Bad). holding have b) f

no_frame : (m n : ℕ) → nat_lt n m ≡ true → nat_le m n ≡ false
no_frame m n h = grind (arith, nat_tests)

a_frame : (m n : ℕ) → m ≤ n → nat_le m n ≡ true
a_frame m n h = grind (arith, nat_tests)

-- ---- a stream that ends within a frame

split_part : (rest : List ℕ → Split) (bytes : List ℕ) (r : Decoded (ℕ × ℕ)) → is_part bytes r ≡ true → split_by rest bytes r ≡ ([], holding bytes None)
split_part rest bytes (Ok h) p =
    ap (λ b. cond b (behind (take (6 + h.1) bytes) (rest (drop (6 + h.1) bytes))) ([], holding bytes None)) (no_frame (6 + h.1) (length bytes) p)
split_part rest bytes (Err bad) p = ap (λ b. cond b ([], holding bytes None) ([], holding [] (Some bad))) p

split_partial : (n : ℕ) (bytes : List ℕ) → is_partial bytes ≡ true → split_up_to n bytes ≡ ([], holding bytes None)
unfolding split_up_to
split_partial zero bytes p = refl
split_partial (suc n) bytes p = split_part (split_up_to n) bytes (head bytes) p

-- ---- a stream that begins with a frame, or with a bad head

split_frame : (n : ℕ) (front rest : List ℕ) (h : ℕ × ℕ) → head front ≡ Ok h → length front ≡ 6 + h.1 → split_up_to (suc n) (front ++ rest) ≡ behind front (split_up_to n rest)
unfolding split_up_to
split_frame n front rest h e len =
    let all = front ++ rest in
    let good : head all ≡ Ok h = six_say_all front rest (omega arith) ∙ e in
    let long : nat_le (6 + h.1) (length all) ≡ true = a_frame _ _ (omega (arith, length-append front rest)) in
    ap (split_by (split_up_to n) all) good
    ∙ ap (λ b. cond b (behind (take (6 + h.1) all) (split_up_to n (drop (6 + h.1) all))) ([], holding all None)) long
    ∙ ap (λ (f : List ℕ). behind f (split_up_to n (drop (6 + h.1) all))) (take_at front rest (6 + h.1) len)
    ∙ ap (λ (r : List ℕ). behind front (split_up_to n r)) (drop_at front rest (6 + h.1) len)

split_bad : (n : ℕ) (bytes : List ℕ) (bad : Bad) → head bytes ≡ Err bad → is_short bad.why ≡ false → split_up_to (suc n) bytes ≡ ([], holding [] (Some bad))
unfolding split_up_to
split_bad n bytes bad e s = ap (split_by (split_up_to n) bytes) e ∙ ap (λ b. cond b ([], holding bytes None) ([], holding [] (Some bad))) s

-- ---- feeds

-- behind a bad head nothing comes
silent : (fed : Fed) (bad : Bad) (into : List ℕ) (frames : List (List ℕ)) → fed ≡ feds.Bad bad.place bad.why → and_frame fed into frames ≡ frames
silent feds.More bad into frames e = refl
silent (feds.Whole used) bad into frames e = absurd cc
silent (feds.Bad place why) bad into frames e = refl

after_bad : (fs : List Feed) (old last : Held) (bad : Bad) → AreFeeds old fs last → old.bad ≡ Some bad → (frames_of fs ≡ []) × (last ≡ old)
after_bad [] old last bad fed e = (refl, sym fed)
after_bad (f ∷ fs) old last bad fed e =
    let turn = subst (λ (b : Option Bad). TurnBy b f.fed old f.piece f.after f.into) e fed.0 in
    let rest = after_bad fs f.after last bad fed.1 (ap (λ (r : Held). r.bad) turn.1 ∙ e) in
    (silent f.fed bad f.into (frames_of fs) turn.0 ∙ rest.0, rest.1 ∙ turn.1)

-- that the feeds give what their bytes give
abbrev Splits : List Feed → Type 0
Splits fs = (old last : Held) (n : ℕ) → AreFeeds old fs last → old.bad ≡ None → is_partial old.have ≡ true → length (old.have ++ bytes_of fs) ≤ n → (frames_of fs, last) ≡ split_up_to n (old.have ++ bytes_of fs)

first_feed : (fed : Fed) (piece into : List ℕ) (after old last : Held) (fs : List Feed) (n : ℕ) → Splits fs → TurnBy None fed old piece after into → AreFeeds after fs last
    → length (old.have ++ (taken fed piece ++ bytes_of fs)) ≤ n → (and_frame fed into (frames_of fs), last) ≡ split_up_to n (old.have ++ (taken fed piece ++ bytes_of fs))
first_feed feds.More piece into after old last fs n splits turn rest small =
    let is : after.have ++ bytes_of fs ≡ old.have ++ (piece ++ bytes_of fs) = ap (λ (h : List ℕ). h ++ bytes_of fs) turn.0.1 ∙ append_assoc old.have piece (bytes_of fs) in
    let partial : is_partial after.have ≡ true = ap is_partial turn.0.1 ∙ turn.0.0 in
    splits after last n rest turn.1 partial (omega (arith, ap length is)) ∙ ap (split_up_to n) is
first_feed (feds.Whole used) piece into after old last fs n splits turn rest small =
    let h : ℕ × ℕ = turn.0.0 in
    let all = old.have ++ piece in
    let front = old.have ++ take used piece in
    let taken_all : take (6 + h.1) all ≡ front = ap (λ k. take k all) (sym turn.0.3) ∙ take-append-add old.have piece used in
    let len : length front ≡ 6 + h.1 = omega (arith, ap length taken_all, length-take (6 + h.1) all, turn.0.2) in
    let parts : front ++ drop used piece ≡ all = append_assoc old.have (take used piece) (drop used piece) ∙ ap (λ (t : List ℕ). old.have ++ t) (take-append-drop used piece) in
    let good : head front ≡ Ok h = sym (six_say_all front (drop used piece) (omega arith)) ∙ ap head parts ∙ turn.0.1 in
    let is : old.have ++ (take used piece ++ bytes_of fs) ≡ front ++ bytes_of fs = sym (append_assoc old.have (take used piece) (bytes_of fs)) in
    let m : n ≡ suc (n - 1) = omega (arith, ap length is, length-append front (bytes_of fs)) in
    let short : length (bytes_of fs) ≤ n - 1 = omega (arith, ap length is, length-append front (bytes_of fs)) in
    let empty : after.have ++ bytes_of fs ≡ bytes_of fs = ap (λ (h : List ℕ). h ++ bytes_of fs) turn.0.5 in
    let partial : is_partial after.have ≡ true = ap is_partial turn.0.5 ∙ partial_nothing in
    let tail : (frames_of fs, last) ≡ split_up_to (n - 1) (bytes_of fs) = splits after last (n - 1) rest turn.1 partial (omega (arith, ap length empty)) ∙ ap (split_up_to (n - 1)) empty in
    ap (λ (f : List ℕ). (f ∷ frames_of fs, last)) (turn.0.4 ∙ taken_all)
    ∙ ap (behind front) tail
    ∙ sym (split_frame (n - 1) front (bytes_of fs) h good len)
    ∙ ap (λ k. split_up_to k (front ++ bytes_of fs)) (sym m)
    ∙ ap (split_up_to n) (sym is)
first_feed (feds.Bad place why) piece into after old last fs n splits turn rest small =
    let bad : Bad = bad_at place why in
    let all = old.have ++ piece in
    let quiet = after_bad fs after last bad rest turn.1 in
    let is : all ++ bytes_of fs ≡ old.have ++ (piece ++ bytes_of fs) = append_assoc old.have piece (bytes_of fs) in
    let there : 0 < length all = bad_is_there all bad turn.0.0 turn.0.1 in
    let m : n ≡ suc (n - 1) = omega (arith, ap length is, length-append all (bytes_of fs)) in
    ap (λ (fs' : List (List ℕ)). (fs', last)) quiet.0
    ∙ ap (λ (r : Held). ([], r)) (quiet.1 ∙ held_is after [] (Some bad) turn.0.2 turn.1)
    ∙ sym (split_bad (n - 1) (all ++ bytes_of fs) bad (bad_stays all (bytes_of fs) bad turn.0.0 turn.0.1) turn.0.1)
    ∙ ap (λ k. split_up_to k (all ++ bytes_of fs)) (sym m)
    ∙ ap (split_up_to n) is

pub feeds_split : (fs : List Feed) → Splits fs
feeds_split [] old last n fed e partial small =
    let none : old.have ++ [] ≡ old.have = append-nil old.have in
    ap (λ (r : Held). ([], r)) (sym fed ∙ held_is old old.have None refl e) ∙ sym (split_partial n old.have partial) ∙ ap (split_up_to n) (sym none)
feeds_split (f ∷ fs) old last n fed e partial small =
    first_feed f.fed f.piece f.into f.after old last fs n (feeds_split fs) (subst (λ (b : Option Bad). TurnBy b f.fed old f.piece f.after f.into) e fed.0) fed.1 small

pub stream_is_split : (fs : List Feed) (last : Held) → AreFeeds nothing_held fs last → (frames_of fs, last) ≡ split_stream (bytes_of fs)
stream_is_split fs last fed = feeds_split fs nothing_held last (length (bytes_of fs)) fed refl partial_nothing (omega arith)

pub cuts_agree : (fs gs : List Feed) (a b : Held) → AreFeeds nothing_held fs a → AreFeeds nothing_held gs b → bytes_of fs ≡ bytes_of gs → (frames_of fs ≡ frames_of gs) × (a ≡ b)
cuts_agree fs gs a b x y e =
    let same : (frames_of fs, a) ≡ (frames_of gs, b) = stream_is_split fs a x ∙ ap split_stream e ∙ sym (stream_is_split gs b y) in
    (ap (λ (p : Split). p.0) same, ap (λ (p : Split). p.1) same)
