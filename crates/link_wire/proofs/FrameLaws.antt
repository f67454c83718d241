-- Frames of one of some kinds: what is read is spelled so, what is spelled so is read, and no frame begins another.
use Rattle.std.proofs.Common.{◌≡◌, ℕ, zero, suc, ◌+◌, ◌-◌, ◌^◌, ◌<◌, ◌≤◌, Bool, true, false, cond, eqb, nat_lt, List, [], ◌∷◌, ◌++◌, length, take, drop, Ok, Err, refl, sym, ap, subst, ◌∙◌, append_assoc, arith}
use Rattle.std.specs.Prelude.{not, ◌&&◌, slice_index}
use Rattle.std.specs.Int.{w32, to_be_bytes, from_be_bytes}
use Rattle.std.proofs.lemmas.Bool.{eqb-true, ltb-false, le-ltb}
use Rattle.std.proofs.lemmas.Bool.Decides.{nat_tests}
use Rattle.std.proofs.lemmas.List.{length-append, length-drop, get_or-drop, nil_from_length, append-nil}
use Rattle.agent_terms.specs.declared.request.Why.TheVariants.{Version, Kind, Length, Short, Tail}
use Rattle.link_fields.specs.Lawful.{IsBytes, IsLawful}
use Rattle.link_fields.specs.Field.{Outcome, Field}
use Rattle.link_fields.specs.Basic.{number_bytes, u32}
use Rattle.link_fields.proofs.FieldLaws.{wide32}
use Rattle.link_wire.specs.declared.bad.Bad.{Bad}
use Rattle.link_fields.specs.Field.{◌>>=◌}
use Rattle.link_wire.specs.Bad.{Decoded, bad_at}
use Rattle.link_wire.specs.Frames.{version, frame, head_at, body_at, split_at, ended, frame_at}

abbrev ok : {A : Type 0} → A → Decoded A
ok x = Ok x

-- the value of a step that did not fail
bind_ok : {A B : Type 0} (r : Decoded A) (f : A → Decoded B) (y : B) → (r >>= f) ≡ Ok y → (x : A) × (r ≡ Ok x) × (f x ≡ Ok y)
bind_ok (Ok x) f y e = (x, refl, e)
bind_ok (Err d) f y e = absurd cc

else_ok : {A : Type 0} (b : Bool) (f : Bad) (y : Decoded A) (z : A) → cond b (Err f) y ≡ Ok z → (b ≡ false) × (y ≡ Ok z)
else_ok true f y z e = absurd cc
else_ok false f y z e = (refl, e)

otherwise : {A : Type 0} (b : Bool) (x y : A) → b ≡ false → cond b x y ≡ y
otherwise true x y e = absurd cc
otherwise false x y e = refl

holds : (b c : Bool) → b ≡ true → (b && not c) ≡ false → c ≡ true
holds true true e h = refl
holds true false e h = absurd cc
holds false c e h = absurd cc

good : (b c : Bool) → c ≡ true → (b && not c) ≡ false
good true true e = refl
good true false e = absurd cc
good false c e = refl

lt_test : (m n : ℕ) → m < n → nat_lt m n ≡ true
lt_test m n h = grind (arith, nat_tests)

six : (bytes : List ℕ) → 6 ≤ length bytes → bytes ≡ slice_index bytes 0 ∷ slice_index bytes 1 ∷ take 4 (drop 2 bytes) ++ drop 6 bytes
six [] h = absurd (omega arith)
six (a ∷ []) h = absurd (omega arith)
six (a ∷ b ∷ []) h = absurd (omega arith)
six (a ∷ b ∷ c ∷ []) h = absurd (omega arith)
six (a ∷ b ∷ c ∷ d ∷ []) h = absurd (omega arith)
six (a ∷ b ∷ c ∷ d ∷ e ∷ []) h = absurd (omega arith)
six (a ∷ b ∷ c ∷ d ∷ e ∷ f ∷ rest) h = refl

four_fit : (c d e f : ℕ) → c < 256 → d < 256 → e < 256 → f < 256 → IsBytes (c ∷ d ∷ e ∷ f ∷ [])
four_fit c d e f hc hd he hf zero = hc
four_fit c d e f hc hd he hf (suc zero) = hd
four_fit c d e f hc hd he hf (suc (suc zero)) = he
four_fit c d e f hc hd he hf (suc (suc (suc zero))) = hf
four_fit c d e f hc hd he hf (suc (suc (suc (suc i)))) = omega arith

four : (bytes : List ℕ) → 6 ≤ length bytes → IsBytes bytes → to_be_bytes w32 (from_be_bytes w32 (take 4 (drop 2 bytes))) ≡ take 4 (drop 2 bytes)
four [] h fits = absurd (omega arith)
four (a ∷ []) h fits = absurd (omega arith)
four (a ∷ b ∷ []) h fits = absurd (omega arith)
four (a ∷ b ∷ c ∷ []) h fits = absurd (omega arith)
four (a ∷ b ∷ c ∷ d ∷ []) h fits = absurd (omega arith)
four (a ∷ b ∷ c ∷ d ∷ e ∷ []) h fits = absurd (omega arith)
four (a ∷ b ∷ c ∷ d ∷ e ∷ f ∷ rest) h fits = wide32.back (c ∷ d ∷ e ∷ f ∷ []) refl (four_fit c d e f (fits 2) (fits 3) (fits 4) (fits 5))

-- what a good head says
pub record Heads (is_kind : ℕ → Bool) (limit : ℕ) (bytes : List ℕ) (kind len : ℕ) : Type 0 where
  pub is : bytes ≡ version ∷ kind ∷ u32.spell len ++ drop 6 bytes
  pub known : is_kind kind ≡ true
  pub small : len ≤ limit
  pub long : 6 ≤ length bytes

pub head_takes : (is_kind : ℕ → Bool) (limit : ℕ) (bytes : List ℕ) (h : ℕ × ℕ) → IsBytes bytes → head_at is_kind limit bytes ≡ Ok h → Heads is_kind limit bytes h.0 h.1
unfolding head_at number_bytes
head_takes is_kind limit bytes h fits e =
    let len = from_be_bytes w32 (take 4 (drop 2 bytes)) in
    let a = else_ok (nat_lt 0 (length bytes) && not (eqb (slice_index bytes 0) version)) (bad_at 0 Version) _ h e in
    let b = else_ok (nat_lt 1 (length bytes) && not (is_kind (slice_index bytes 1))) (bad_at 1 Kind) _ h a.1 in
    let c = else_ok (nat_lt (length bytes) 6) (bad_at (length bytes) Short) _ h b.1 in
    let d = else_ok (nat_lt limit len) (bad_at 2 Length) (Ok (slice_index bytes 1, len)) h c.1 in
    let long : 6 ≤ length bytes = ltb-false _ _ c.0 in
    let one : slice_index bytes 0 ≡ version = eqb-true _ _ (holds _ _ (lt_test 0 (length bytes) (omega arith)) a.0) in
    let known : is_kind (slice_index bytes 1) ≡ true = holds _ _ (lt_test 1 (length bytes) (omega arith)) b.0 in
    let small : len ≤ limit = ltb-false _ _ d.0 in
    let is : bytes ≡ version ∷ slice_index bytes 1 ∷ u32.spell len ++ drop 6 bytes = six bytes long ∙ ap (λ n. n ∷ slice_index bytes 1 ∷ take 4 (drop 2 bytes) ++ drop 6 bytes) one ∙ ap (λ (t : List ℕ). version ∷ slice_index bytes 1 ∷ t ++ drop 6 bytes) (sym (four bytes long fits)) in
    let pair : (slice_index bytes 1, len) ≡ h = cc (d.1) in
    subst (λ (p : ℕ × ℕ). Heads is_kind limit bytes p.0 p.1) pair (record { is = is; known = known; small = small; long = long })

pub head_again : (is_kind : ℕ → Bool) (limit kind len : ℕ) (rest : List ℕ) → is_kind kind ≡ true → len ≤ limit → limit < 2 ^ 32 → head_at is_kind limit (version ∷ kind ∷ u32.spell len ++ rest) ≡ Ok (kind, len)
unfolding head_at number_bytes
head_again is_kind limit kind len rest known small lt =
    let bytes = version ∷ kind ∷ u32.spell len ++ rest in
    let back : from_be_bytes w32 (take 4 (drop 2 bytes)) ≡ len = wide32.again len (omega arith) in
    let long : 6 ≤ length bytes = omega arith in
    otherwise (nat_lt 0 (length bytes) && not (eqb (slice_index bytes 0) version)) _ _ (good (nat_lt 0 (length bytes)) _ refl)
    ∙ otherwise (nat_lt 1 (length bytes) && not (is_kind kind)) _ _ (good (nat_lt 1 (length bytes)) _ known)
    ∙ otherwise (nat_lt (length bytes) 6) _ _ (le-ltb _ _ long)
    ∙ otherwise (nat_lt limit (from_be_bytes w32 (take 4 (drop 2 bytes)))) _ _ (le-ltb _ _ (subst (λ n. n ≤ limit) (sym back) small))
    ∙ ap (λ n. Ok (kind, n)) back

body_takes : (len : ℕ) (bytes body : List ℕ) → body_at len bytes ≡ Ok body → (drop 6 bytes ≡ body) × (length bytes ≡ 6 + len)
body_takes len bytes body e =
    let a = else_ok (nat_lt (length bytes) (6 + len)) (bad_at (length bytes) Short) _ body e in
    let b = else_ok (nat_lt (6 + len) (length bytes)) (bad_at (6 + len) Tail) (Ok (drop 6 bytes)) body a.1 in
    let le : 6 + len ≤ length bytes = ltb-false _ _ a.0 in
    let ge : length bytes ≤ 6 + len = ltb-false _ _ b.0 in
    (cc (b.1), omega arith)

body_again : (len : ℕ) (bytes : List ℕ) → length bytes ≡ 6 + len → body_at len bytes ≡ Ok (drop 6 bytes)
body_again len bytes e =
    otherwise (nat_lt (length bytes) (6 + len)) _ _ (le-ltb _ _ (omega arith)) ∙ otherwise (nat_lt (6 + len) (length bytes)) _ _ (le-ltb _ _ (omega arith))

drop_fits : (n : ℕ) (bytes : List ℕ) → IsBytes bytes → IsBytes (drop n bytes)
drop_fits n bytes h i = rw get_or-drop (h (n + i))

both_ok : {A : Type 0} (x y : A) → ok x ≡ ok y → x ≡ y
both_ok x y e = cc

by_end : {A : Type 0} (bytes : List ℕ) (x : A × List ℕ) (a : A) (b : Bool) → eqb (length x.1) 0 ≡ b → cond b (Ok x.0) (Err (bad_at (length bytes - length x.1) Tail)) ≡ ok a → (x.0 ≡ a) × (x.1 ≡ [])
by_end bytes x a true t e = (both_ok x.0 a e, nil_from_length x.1 (eqb-true _ _ t))
by_end bytes x a false t e = absurd cc

abbrev read_ok : {A : Type 0} → A → Outcome A
read_ok x = Ok x

-- fields that were read to the end
ended_takes : {A : Type 0} (bytes : List ℕ) (read : Outcome (A × List ℕ)) (a : A) → ended bytes read ≡ Ok a → read ≡ Ok (a, [])
ended_takes {A} bytes (Ok x) a e =
    let n = by_end bytes x a (eqb (length x.1) 0) refl e in
    ap (λ (y : A). read_ok (y, x.1)) n.0 ∙ ap (λ (r : List ℕ). read_ok (a, r)) n.1
ended_takes bytes (Err f) a e = absurd cc

pub frame_takes : {A : Type 0} (is_kind : ℕ → Bool) (limit : ℕ) (rows : ℕ → Field A) → ((k : ℕ) → IsLawful (rows k)) → (bytes : List ℕ) (a : A) → IsBytes bytes → frame_at is_kind limit rows bytes ≡ Ok a
    → (k : ℕ) × (bytes ≡ frame k ((rows k).spell a)) × (rows k).Fits a × (length ((rows k).spell a) ≤ limit) × (is_kind k ≡ true)
unfolding frame_at
frame_takes {A} is_kind limit rows laws bytes a fits e =
    let p = bind_ok (split_at is_kind limit bytes) (λ b. ended bytes ((rows b.0).read b.1)) a e in
    let h = bind_ok (head_at is_kind limit bytes) (λ h. body_at h.1 bytes >>= λ body. Ok (h.0, body)) p.0 p.1 in
    let b = bind_ok (body_at h.0.1 bytes) (λ body. Ok (h.0.0, body)) p.0 h.2 in
    let pair : (h.0.0, b.0) ≡ p.0 = both_ok (h.0.0, b.0) p.0 b.2 in
    let done : ended bytes ((rows h.0.0).read b.0) ≡ Ok a = subst (λ (q : ℕ × List ℕ). ended bytes ((rows q.0).read q.1) ≡ Ok a) (sym pair) p.2 in
    let x = ended_takes bytes ((rows h.0.0).read b.0) a done in
    let head = head_takes is_kind limit bytes h.0 fits h.1 in
    let s = body_takes h.0.1 bytes b.0 b.1 in
    let body_fits : IsBytes b.0 = subst IsBytes s.0 (drop_fits 6 bytes fits) in
    let t = (laws h.0.0).takes b.0 (a, []) body_fits x in
    let spelled : b.0 ≡ (rows h.0.0).spell a = t.0.parts ∙ append-nil ((rows h.0.0).spell a) in
    let long : length ((rows h.0.0).spell a) ≡ h.0.1 = omega (arith, ap length spelled, ap length s.0, length-drop 6 bytes, s.1) in
    let is : bytes ≡ frame h.0.0 ((rows h.0.0).spell a) = head.is ∙ ap (λ (r : List ℕ). version ∷ h.0.0 ∷ u32.spell h.0.1 ++ r) (s.0 ∙ spelled) ∙ ap (λ n. version ∷ h.0.0 ∷ u32.spell n ++ (rows h.0.0).spell a) (sym long) in
    (h.0.0, is, t.1, omega (arith, head.small), head.known)

length_of_frame : (k : ℕ) (body : List ℕ) → length (frame k body) ≡ 6 + length body
unfolding number_bytes
length_of_frame k body = omega arith

body_of_frame : (k : ℕ) (body : List ℕ) → drop 6 (frame k body) ≡ body
unfolding number_bytes
body_of_frame k body = refl

abbrev kinded : ℕ → Decoded (List ℕ) → Decoded (ℕ × List ℕ)
kinded k body = body >>= λ b. Ok (k, b)

abbrev by_kind : {A : Type 0} → List ℕ → (ℕ → Field A) → Decoded (ℕ × List ℕ) → Decoded A
by_kind bytes rows split = split >>= λ b. ended bytes ((rows b.0).read b.1)

pub frame_again : {A : Type 0} (is_kind : ℕ → Bool) (limit : ℕ) (rows : ℕ → Field A) → ((k : ℕ) → IsLawful (rows k)) → limit < 2 ^ 32 → (k : ℕ) (a : A) → is_kind k ≡ true → (rows k).Fits a → length ((rows k).spell a) ≤ limit → frame_at is_kind limit rows (frame k ((rows k).spell a)) ≡ Ok a
unfolding frame_at
frame_again {A} is_kind limit rows laws lt k a known fits small =
    let body = (rows k).spell a in
    let bytes = frame k body in
    let read : (rows k).read body ≡ Ok (a, []) = ap (rows k).read (sym (append-nil body)) ∙ (laws k).again a [] fits in
    let whole : body_at (length body) bytes ≡ Ok body = body_again (length body) bytes (length_of_frame k body) ∙ ap (λ (b : List ℕ). ok b) (body_of_frame k body) in
    ap (λ (r : Decoded (ℕ × ℕ)). by_kind bytes rows (r >>= λ h. kinded h.0 (body_at h.1 bytes))) (head_again is_kind limit k (length body) body known small lt)
    ∙ ap (λ (r : Decoded (List ℕ)). by_kind bytes rows (kinded k r)) whole
    ∙ ap (ended bytes) read

-- no frame begins another
pub frame_whole : (is_kind : ℕ → Bool) (limit : ℕ) → limit < 2 ^ 32 → (k j : ℕ) (a b x : List ℕ) → is_kind k ≡ true → is_kind j ≡ true → length a ≤ limit → length b ≤ limit → frame k a ++ x ≡ frame j b → x ≡ []
frame_whole is_kind limit lt k j a b x kk kj sa sb e =
    let regrouped : frame k a ++ x ≡ version ∷ k ∷ u32.spell (length a) ++ (a ++ x) = ap (λ (t : List ℕ). version ∷ k ∷ t) (append_assoc (u32.spell (length a)) a x) in
    let ha = ap (head_at is_kind limit) regrouped ∙ head_again is_kind limit k (length a) (a ++ x) kk sa lt in
    let hb = head_again is_kind limit j (length b) b kj sb lt in
    let same : length a ≡ length b = ap (λ (p : ℕ × ℕ). p.1) (both_ok _ _ (sym ha ∙ ap (head_at is_kind limit) e ∙ hb)) in
    nil_from_length x (omega (arith, ap length e, length-append (frame k a) x, length_of_frame k a, length_of_frame j b))
