-- The head at the front of a stream: what it says doesn't change as more bytes come.
use Rattle.std.proofs.Common.{◌≡◌, ℕ, ◌+◌, ◌<◌, ◌≤◌, Bool, true, false, cond, eqb, nat_lt, List, [], ◌∷◌, ◌++◌, length, take, drop, Ok, Err, refl, sym, ap, subst, ◌∙◌, arith, inl, inr, ◌⊎◌}
use Rattle.std.specs.Prelude.{not, ◌&&◌, slice_index}
use Rattle.std.specs.Int.{w32, from_be_bytes}
use Rattle.std.proofs.lemmas.Bool.{ltb-false, le-ltb}
use Rattle.std.proofs.lemmas.Bool.Decides.{nat_tests}
use Rattle.std.proofs.lemmas.List.{length-append, length-drop, get_or_append_left, drop-append-le, take-append-le}
use Rattle.agent_terms.specs.declared.request.Why.TheVariants.{Version, Kind, Length, Short}
use Rattle.link_wire.specs.declared.bad.Bad.{Bad}
use Rattle.link_wire.specs.declared.frame.Side.TheVariants as sides
use Rattle.link_wire.specs.Bad.{Decoded, bad_at}
use Rattle.frame_grammar.specs.Cut.{most_body}
use Rattle.link_wire.specs.Frames.{is_kind, version, head_at}
use Rattle.link_wire.specs.Feeding.{head, is_short, is_part, is_partial}

pub lt_test : (m n : ℕ) → m < n → nat_lt m n ≡ true
lt_test m n h = grind (arith, nat_tests)

pub below : (m n : ℕ) → nat_lt m n ≡ true → m < n
below m n h = grind (arith, nat_tests)

either : {A : Type 0} (b : Bool) (x y z : A) → cond b x y ≡ z → ((b ≡ true) × (x ≡ z)) ⊎ ((b ≡ false) × (y ≡ z))
either true x y z e = inl (refl, e)
either false x y z e = inr (refl, e)

abbrev bad_head : Bad → Decoded (ℕ × ℕ)
bad_head bad = Err bad

abbrev good_head : ℕ × ℕ → Decoded (ℕ × ℕ)
good_head h = Ok h

pub good_is : (k h : ℕ × ℕ) → good_head k ≡ good_head h → k ≡ h
good_is k h e = cc

bad_is : (a b : Bad) → bad_head a ≡ bad_head b → a ≡ b
bad_is a b e = cc

-- ---- the tests of a head

-- a byte that is there fails a test
abbrev fails : ℕ → (ℕ → Bool) → List ℕ → Bool
fails i good bytes = nat_lt i (length bytes) && not (good (slice_index bytes i))

abbrev is_version : ℕ → Bool
is_version n = eqb n version

abbrev len_of : List ℕ → ℕ
len_of bytes = from_be_bytes w32 (take 4 (drop 2 bytes))

-- what a head of six bytes says
abbrev sixth : List ℕ → Decoded (ℕ × ℕ)
sixth bytes = cond (nat_lt most_body (len_of bytes)) (Err (bad_at 2 Length)) (Ok (slice_index bytes 1, len_of bytes))

abbrev third : List ℕ → Decoded (ℕ × ℕ)
third bytes = cond (nat_lt (length bytes) 6) (Err (bad_at (length bytes) Short)) (sixth bytes)

abbrev second : List ℕ → Decoded (ℕ × ℕ)
second bytes = cond (fails 1 (is_kind sides.Request) bytes) (Err (bad_at 1 Kind)) (third bytes)

head_is : (bytes : List ℕ) → head bytes ≡ cond (fails 0 is_version bytes) (Err (bad_at 0 Version)) (second bytes)
unfolding head_at
head_is bytes = refl

and_first : (a b : Bool) → (a && b) ≡ true → a ≡ true
and_first true b e = refl
and_first false b e = absurd cc

fails_there : (i : ℕ) (good : ℕ → Bool) (bytes : List ℕ) → fails i good bytes ≡ true → i < length bytes
fails_there i good bytes e = below i (length bytes) (and_first (nat_lt i (length bytes)) _ e)

-- a test stays as it is once its byte is there
test_stays : (i : ℕ) (good : ℕ → Bool) (bytes more : List ℕ) → i < length bytes → fails i good (bytes ++ more) ≡ fails i good bytes
test_stays i good bytes more h =
    let long : i < length (bytes ++ more) = omega (arith, length-append bytes more) in
    ap (λ b. b && not (good (slice_index (bytes ++ more) i))) (lt_test i (length (bytes ++ more)) long ∙ sym (lt_test i (length bytes) h))
    ∙ ap (λ n. nat_lt i (length bytes) && not (good n)) (get_or_append_left bytes more 0 i h)

len_stays : (bytes more : List ℕ) → 6 ≤ length bytes → len_of (bytes ++ more) ≡ len_of bytes
len_stays bytes more h =
    let two : 2 ≤ length bytes = omega arith in
    let four : 4 ≤ length (drop 2 bytes) = omega (arith, length-drop 2 bytes) in
    ap (λ (t : List ℕ). from_be_bytes w32 (take 4 t)) (drop-append-le 2 bytes more two) ∙ ap (from_be_bytes w32) (take-append-le 4 (drop 2 bytes) more four)

sixth_stays : (bytes more : List ℕ) → 6 ≤ length bytes → sixth (bytes ++ more) ≡ sixth bytes
sixth_stays bytes more h =
    let byte : slice_index (bytes ++ more) 1 ≡ slice_index bytes 1 = get_or_append_left bytes more 0 1 (omega arith) in
    ap (λ n. cond (nat_lt most_body n) (Err (bad_at 2 Length)) (Ok (slice_index (bytes ++ more) 1, n))) (len_stays bytes more h)
    ∙ ap (λ n. cond (nat_lt most_body (len_of bytes)) (Err (bad_at 2 Length)) (Ok (n, len_of bytes))) byte

third_is : (bytes : List ℕ) → 6 ≤ length bytes → third bytes ≡ sixth bytes
third_is bytes h = ap (λ b. cond b (Err (bad_at (length bytes) Short)) (sixth bytes)) (le-ltb _ _ h)

third_stays : (bytes more : List ℕ) → 6 ≤ length bytes → third (bytes ++ more) ≡ third bytes
third_stays bytes more h = third_is (bytes ++ more) (omega (arith, length-append bytes more)) ∙ sixth_stays bytes more h ∙ sym (third_is bytes h)

-- by the first two tests
by_tests : (bytes : List ℕ) (a b : Bool) (r : Decoded (ℕ × ℕ)) → fails 0 is_version bytes ≡ a → fails 1 (is_kind sides.Request) bytes ≡ b → third bytes ≡ r → head bytes ≡ cond a (Err (bad_at 0 Version)) (cond b (Err (bad_at 1 Kind)) r)
by_tests bytes a b r e f g =
    head_is bytes ∙ ap (λ c. cond c (Err (bad_at 0 Version)) (second bytes)) e
    ∙ ap (λ c. cond a (Err (bad_at 0 Version)) (cond c (Err (bad_at 1 Kind)) (third bytes))) f
    ∙ ap (λ (t : Decoded (ℕ × ℕ)). cond a (Err (bad_at 0 Version)) (cond b (Err (bad_at 1 Kind)) t)) g

-- six bytes say it all
pub six_say_all : (bytes more : List ℕ) → 6 ≤ length bytes → head (bytes ++ more) ≡ head bytes
six_say_all bytes more h =
    by_tests (bytes ++ more) _ _ _ (test_stays 0 is_version bytes more (omega arith)) (test_stays 1 (is_kind sides.Request) bytes more (omega arith)) (third_stays bytes more h)
    ∙ sym (head_is bytes)

-- ---- by what a head says

no_bad : {A : Type 0} (bad : Bad) (h : ℕ × ℕ) → bad_head bad ≡ good_head h → A
no_bad bad h e = absurd cc

pub good_is_long : (bytes : List ℕ) (h : ℕ × ℕ) → head bytes ≡ Ok h → 6 ≤ length bytes
good_is_long bytes h e =
    elim (either (fails 0 is_version bytes) (Err (bad_at 0 Version)) (second bytes) (Ok h) (sym (head_is bytes) ∙ e)) [
      | inl a ↦ no_bad (bad_at 0 Version) h a.1
      | inr a ↦ elim (either (fails 1 (is_kind sides.Request) bytes) (Err (bad_at 1 Kind)) (third bytes) (Ok h) a.1) [
        | inl b ↦ no_bad (bad_at 1 Kind) h b.1
        | inr b ↦ elim (either (nat_lt (length bytes) 6) (Err (bad_at (length bytes) Short)) (sixth bytes) (Ok h) b.1) [
          | inl c ↦ no_bad (bad_at (length bytes) Short) h c.1
          | inr c ↦ ltb-false _ _ c.0
        ]
      ]
    ]

pub good_stays : (bytes more : List ℕ) (h : ℕ × ℕ) → head bytes ≡ Ok h → head (bytes ++ more) ≡ Ok h
good_stays bytes more h e = six_say_all bytes more (good_is_long bytes h e) ∙ e

clash : {A : Type 0} (a b : Bad) → bad_head a ≡ bad_head b → is_short a.why ≡ false → is_short b.why ≡ true → A
clash a b e isnt is_ = let same : is_short a.why ≡ is_short b.why = ap (λ (d : Bad). is_short d.why) (bad_is a b e) in absurd cc

no_good : {A : Type 0} (h : ℕ × ℕ) (bad : Bad) → good_head h ≡ bad_head bad → A
no_good h bad e = absurd cc

pub short_is_short : (bytes : List ℕ) (bad : Bad) → head bytes ≡ Err bad → is_short bad.why ≡ true → length bytes < 6
short_is_short bytes bad e short =
    elim (either (fails 0 is_version bytes) (Err (bad_at 0 Version)) (second bytes) (Err bad) (sym (head_is bytes) ∙ e)) [
      | inl a ↦ clash (bad_at 0 Version) bad a.1 refl short
      | inr a ↦ elim (either (fails 1 (is_kind sides.Request) bytes) (Err (bad_at 1 Kind)) (third bytes) (Err bad) a.1) [
        | inl b ↦ clash (bad_at 1 Kind) bad b.1 refl short
        | inr b ↦ elim (either (nat_lt (length bytes) 6) (Err (bad_at (length bytes) Short)) (sixth bytes) (Err bad) b.1) [
          | inl c ↦ below (length bytes) 6 c.0
          | inr c ↦ elim (either (nat_lt most_body (len_of bytes)) (Err (bad_at 2 Length)) (Ok (slice_index bytes 1, len_of bytes)) (Err bad) c.1) [
            | inl d ↦ clash (bad_at 2 Length) bad d.1 refl short
            | inr d ↦ no_good (slice_index bytes 1, len_of bytes) bad d.1
          ]
        ]
      ]
    ]

pub bad_stays : (bytes more : List ℕ) (bad : Bad) → head bytes ≡ Err bad → is_short bad.why ≡ false → head (bytes ++ more) ≡ Err bad
bad_stays bytes more bad e good =
    elim (either (fails 0 is_version bytes) (Err (bad_at 0 Version)) (second bytes) (Err bad) (sym (head_is bytes) ∙ e)) [
      | inl a ↦ (let stays = test_stays 0 is_version bytes more (fails_there 0 is_version bytes a.0) in
          head_is (bytes ++ more) ∙ ap (λ c. cond c (Err (bad_at 0 Version)) (second (bytes ++ more))) (stays ∙ a.0) ∙ a.1)
      | inr a ↦ elim (either (fails 1 (is_kind sides.Request) bytes) (Err (bad_at 1 Kind)) (third bytes) (Err bad) a.1) [
        | inl b ↦ (let lt = fails_there 1 (is_kind sides.Request) bytes b.0 in
            let one = test_stays 0 is_version bytes more (omega arith) in
            let two = test_stays 1 (is_kind sides.Request) bytes more lt in
            by_tests (bytes ++ more) false true (third (bytes ++ more)) (one ∙ a.0) (two ∙ b.0) refl ∙ b.1)
        | inr b ↦ elim (either (nat_lt (length bytes) 6) (Err (bad_at (length bytes) Short)) (sixth bytes) (Err bad) b.1) [
          | inl c ↦ clash bad (bad_at (length bytes) Short) (sym c.1) good refl
          | inr c ↦ six_say_all bytes more (ltb-false _ _ c.0) ∙ e
        ]
      ]
    ]

-- ---- less than a frame

part_ends_below : (bytes : List ℕ) (r : Decoded (ℕ × ℕ)) (more : List ℕ) (h : ℕ × ℕ) → head bytes ≡ r → is_part bytes r ≡ true → head (bytes ++ more) ≡ Ok h → length bytes < 6 + h.1
part_ends_below bytes (Ok k) more h e p f =
    let same : k ≡ h = good_is k h (sym (good_stays bytes more k e) ∙ f) in
    let lt : length bytes < 6 + k.1 = below _ _ p in
    subst (λ (j : ℕ × ℕ). length bytes < 6 + j.1) same lt
part_ends_below bytes (Err bad) more h e p f = let lt = short_is_short bytes bad e p in omega arith

-- however the bytes go on, no frame ends within them
pub partial_ends_below : (bytes more : List ℕ) (h : ℕ × ℕ) → is_partial bytes ≡ true → head (bytes ++ more) ≡ Ok h → length bytes < 6 + h.1
partial_ends_below bytes more h p f = part_ends_below bytes (head bytes) more h refl p f

pub partial_nothing : is_partial [] ≡ true
unfolding head_at
partial_nothing = refl

pub partial_by : (bytes : List ℕ) (r : Decoded (ℕ × ℕ)) → head bytes ≡ r → is_part bytes r ≡ true → is_partial bytes ≡ true
partial_by bytes r e p = ap (is_part bytes) e ∙ p

head_nothing : head [] ≡ Err (bad_at 0 Short)
unfolding head_at
head_nothing = refl

-- a head that is bad has a byte
pub bad_is_there : (bytes : List ℕ) (bad : Bad) → head bytes ≡ Err bad → is_short bad.why ≡ false → 0 < length bytes
bad_is_there [] bad e good = clash bad (bad_at 0 Short) (sym e ∙ head_nothing) good refl
bad_is_there (b ∷ bytes) bad e good = omega arith
