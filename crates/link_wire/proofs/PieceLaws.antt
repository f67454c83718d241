-- A piece of a stream behind the bytes since the last frame.
use Rattle.std.proofs.Common.{◌≡◌, ℕ, ◌+◌, ◌-◌, ◌<◌, ◌≤◌, true, false, List, [], ◌++◌, length, take, drop, Result, Ok, Err, refl, sym, ap, ◌∙◌, append_assoc, arith, inl, inr}
use Rattle.std.specs.Prelude.{OnOk, is_err}
use Rattle.std.proofs.lemmas.Bool.{cases_lt}
use Rattle.std.proofs.lemmas.List.{length-append, append-nil, take-append-drop, take_at}
use Rattle.std.proofs.Math.Seq.{take-append-add}
use Rattle.link_wire.specs.declared.bad.Bad.{Bad}
use Rattle.link_wire.specs.Feeding.{head, is_short, is_partial, Fills}
use Rattle.link_wire.proofs.HeadLaws.{lt_test, good_stays, bad_stays, short_is_short, partial_by, partial_ends_below}

pub filled : (old piece front rest have : List ℕ) → front ++ rest ≡ piece → have ≡ old ++ front → (length old + length front < 6 → rest ≡ []) → (6 < length old + length front → front ≡ []) → Fills old piece have rest
filled old piece front rest have parts is all no_more =
    let len : length have ≡ length old + length front = ap length is ∙ length-append old front in
    record {
      all = ap (λ (h : List ℕ). h ++ rest) is ∙ append_assoc old front rest ∙ ap (λ (t : List ℕ). old ++ t) parts;
      stays = ap (take (length old)) is ∙ take_at old front (length old) refl;
      most = omega (arith, length-append front rest, ap length parts);
      within = λ h. all (omega arith);
      beyond = λ h. is ∙ ap (λ (t : List ℕ). old ++ t) (no_more (omega arith)) ∙ append-nil old;
    }

-- a frame that begins so ends behind what was there and what the head lacked
pub ends_behind : {old piece have rest : List ℕ} (h : ℕ × ℕ) → Fills old piece have rest → is_partial old ≡ true → head have ≡ Ok h → length have ≤ 6 + h.1
ends_behind {old} {piece} {have} {rest} h f partial e =
    let front = drop (length old) have in
    let is : have ≡ old ++ front = sym (take-append-drop (length old) have) ∙ ap (λ (t : List ℕ). t ++ front) f.stays in
    let lt : length old < 6 + h.1 = partial_ends_below old front h partial (ap head (sym is) ∙ e) in
    elim (cases_lt 6 (length have)) [
      | inl more ↦ omega (arith, ap length (f.beyond more))
      | inr le ↦ omega arith
    ]

-- the piece ends within the body
pub within_body : {old piece have rest : List ℕ} (h : ℕ × ℕ) → Fills old piece have rest → head have ≡ Ok h → length rest < 6 + h.1 - length have → is_partial (old ++ piece) ≡ true
within_body {old} {piece} {have} {rest} h f e lt =
    let all = have ++ rest in
    let good : head all ≡ Ok h = good_stays have rest h e in
    let short : length all < 6 + h.1 = omega (arith, length-append have rest) in
    ap is_partial (sym f.all) ∙ partial_by all (Ok h) good (lt_test (length all) (6 + h.1) short)

-- the piece ends within the head
pub within_head : {old piece have rest : List ℕ} (bad : Bad) → Fills old piece have rest → head have ≡ Err bad → is_short bad.why ≡ true → (is_partial (old ++ piece) ≡ true) × (have ≡ old ++ piece)
within_head {old} {piece} {have} {rest} bad f e short =
    let none : rest ≡ [] = f.within (short_is_short have bad e short) in
    let is : have ≡ old ++ piece = sym (append-nil have) ∙ ap (λ (t : List ℕ). have ++ t) (sym none) ∙ f.all in
    (ap is_partial (sym is) ∙ partial_by have (Err bad) e short, is)

pub bad_head : {old piece have rest : List ℕ} (bad : Bad) → Fills old piece have rest → head have ≡ Err bad → is_short bad.why ≡ false → head (old ++ piece) ≡ Err bad
bad_head {old} {piece} {have} {rest} bad f e good = ap head (sym f.all) ∙ bad_stays have rest bad e good

-- what a call that didn't fail ensures
pub was_ok : {E : Type 0} (P : Type 0) (r : Result (Unit {0}) E) → OnOk r P → is_err r ≡ false → P
was_ok P (Ok u) h e = h
was_ok P (Err x) h e = absurd cc

-- what a whole frame is
pub record IsWhole (old piece : List ℕ) (used : ℕ) (h : ℕ × ℕ) (into : List ℕ) : Type 0 where
  pub reads : head (old ++ piece) ≡ Ok h
  pub long : 6 + h.1 ≤ length (old ++ piece)
  pub ends : length old + used ≡ 6 + h.1
  pub gives : into ≡ take (6 + h.1) (old ++ piece)

pub whole : {old piece have rest : List ℕ} (into : List ℕ) (h : ℕ × ℕ) (lacking : ℕ) → Fills old piece have rest → is_partial old ≡ true → head have ≡ Ok h → lacking ≡ 6 + h.1 - length have → lacking ≤ length rest → into ≡ have ++ take lacking rest
    → IsWhole old piece (length piece - length rest + lacking) h into
whole {old} {piece} {have} {rest} into h lacking f partial e l le i =
    let behind = ends_behind h f partial e in
    let end : length have + lacking ≡ 6 + h.1 = omega arith in
    record {
      reads = ap head (sym f.all) ∙ good_stays have rest h e;
      long = omega (arith, ap length f.all, length-append have rest);
      ends = omega (arith, f.most, ap length f.all, length-append have rest, length-append old piece);
      gives = i ∙ sym (take-append-add have rest lacking) ∙ ap (λ k. take k (have ++ rest)) end ∙ ap (take (6 + h.1)) f.all;
    }
