-- What stands at a place of a log, and the log as it stood.
use Rattle.std.proofs.Common.{◌≡◌, None, eq-eqb, take, drop, take_all, ℕ, zero, suc, ◌+◌, ◌≤◌, ◌<◌, List, [], ◌∷◌, ◌++◌, length, reverse, Some, Bool, true, false, refl, sym, ap, ◌∙◌, arith, inl, inr, if◌then◌else◌, length-append}
use Rattle.std.specs.Prelude.{slice_get, nat_le}
use Rattle.std.proofs.lemmas.List.{reverse-append, length-reverse, length-take-le, take-append-drop}
use Rattle.std.proofs.lemmas.Bool.{ne_eqb, cases_lt}
use Rattle.std.proofs.lemmas.Bool.Decides.{eqb_tells, nat_tests}
use Rattle.tree_log.specs.declared.entry.Entry.{Entry}
use Rattle.tree_log.specs.Log.{entry_at, prefix}

-- the first entry has the place 0
at_first : (ys : List Entry) (x : Entry) → entry_at (ys ++ x ∷ []) 0 ≡ Some x
unfolding entry_at
at_first [] x = refl
at_first (y ∷ ys) x =
    let more : length (ys ++ x ∷ []) ≡ length ys + 1 = length-append ys (x ∷ []) in
    rw (ne_eqb (length (ys ++ x ∷ [])) 0 (λ e. absurd (omega arith))) (at_first ys x)

-- and each later one a place more
at_next : (ys : List Entry) (x : Entry) (i : ℕ) → entry_at (ys ++ x ∷ []) (suc i) ≡ entry_at ys i
unfolding entry_at
at_next [] x i = rw (ne_eqb 0 (suc i) (λ e. absurd (omega arith))) refl
at_next (y ∷ ys) x i =
    let more : length (ys ++ x ∷ []) ≡ length ys + 1 = length-append ys (x ∷ []) in
    elim (eqb_tells (length ys) i) [
      | inl p ↦ elim (eqb_tells (length (ys ++ x ∷ [])) (suc i)) [ inl q ↦ rw (p.0, q.0) refl | inr q ↦ absurd (q.1 (omega (arith, p.1))) ]
      | inr p ↦ elim (eqb_tells (length (ys ++ x ∷ [])) (suc i)) [ inl q ↦ absurd (p.1 (omega (arith, q.1))) | inr q ↦ rw (p.0, q.0) (at_next ys x i) ]
    ]

-- read from the oldest on, an entry stands at its place
pub at_reversed : (xs : List Entry) (i : ℕ) → slice_get xs i ≡ entry_at (reverse xs) i
unfolding entry_at
at_reversed [] i = refl
at_reversed (x ∷ xs) zero = sym (ap (λ ys. entry_at ys 0) (reverse-append (x ∷ []) xs) ∙ at_first (reverse xs) x)
at_reversed (x ∷ xs) (suc i) = at_reversed xs i ∙ sym (ap (λ ys. entry_at ys (suc i)) (reverse-append (x ∷ []) xs) ∙ at_next (reverse xs) x i)

longer : (k n : ℕ) → n < k → nat_le k n ≡ false
longer k n h = grind (arith, nat_tests)

shorter : (k n : ℕ) → k ≤ n → nat_le k n ≡ true
shorter k n h = grind (arith, nat_tests)

-- a log as it stood at its own length
pub prefix_whole : (log : List Entry) (k : ℕ) → length log ≤ k → prefix k log ≡ log
unfolding prefix
prefix_whole [] k h = refl
prefix_whole (e ∷ older) k h = rw (longer k (length older) (omega arith)) refl

-- and at an earlier length it does not matter what came later
pub prefix_more : (more log : List Entry) (k : ℕ) → k ≤ length log → prefix k (more ++ log) ≡ prefix k log
unfolding prefix
prefix_more [] log k h = refl
prefix_more (e ∷ more) log k h =
    let le : length (more ++ log) ≡ length more + length log = length-append more log in
    rw (shorter k (length (more ++ log)) (omega arith)) (prefix_more more log k h)

prefix_fits : (k : ℕ) (e : Entry) (older : List Entry) (b : Bool) → nat_le k (length older) ≡ b → (k ≤ length older → length (prefix k older) ≡ k) → k ≤ suc (length older)
    → length (if b then prefix k older else e ∷ older) ≡ k
prefix_fits k e older true q below h = below (grind (arith, nat_tests))
prefix_fits k e older false q below h = let lt : length older < k = grind (arith, nat_tests) in omega arith

pub prefix_length : (log : List Entry) (k : ℕ) → k ≤ length log → length (prefix k log) ≡ k
unfolding prefix
prefix_length [] k h = omega arith
prefix_length (e ∷ older) k h = prefix_fits k e older (nat_le k (length older)) refl (λ le. prefix_length older k le) (omega arith)

pub prefix_none : (log : List Entry) → prefix 0 log ≡ []
unfolding prefix
prefix_none [] = refl
prefix_none (e ∷ older) = rw (shorter 0 (length older) (omega arith)) (prefix_none older)

-- one more entry than before
pub reverse_push : (xs : List Entry) (e : Entry) → reverse (xs ++ e ∷ []) ≡ e ∷ reverse xs
reverse_push xs e = reverse-append xs (e ∷ [])

pub length_reversed : (xs : List Entry) → length (reverse xs) ≡ length xs
length_reversed xs = length-reverse xs

pub ruleset newest = (reverse_push, length_reversed)

pub entry_below : (log : List Entry) (k : ℕ) (e : Entry) → entry_at log k ≡ Some e → k < length log
unfolding entry_at
entry_below [] k e h = absurd cc
entry_below (x ∷ older) k e h = elim (eqb_tells (length older) k) [
  | inl p ↦ omega (arith, p.1)
  | inr p ↦ let rest : entry_at older k ≡ Some e = rw p.0 at h in omega (arith, entry_below older k e rest)
]

-- where a place is below the length, an entry stands there
pub entry_there : (log : List Entry) (k : ℕ) → k < length log → entry_at log k ≡ None → ⊥
unfolding entry_at
entry_there [] k lt h = absurd (omega arith)
entry_there (x ∷ older) k lt h = elim (eqb_tells (length older) k) [
  | inl p ↦ let here : Some x ≡ None = rw p.0 at h in absurd cc
  | inr p ↦ let rest : entry_at older k ≡ None = rw p.0 at h in entry_there older k (omega (arith, p.1)) rest
]

-- the entry at a place stands in front of what was there before
pub prefix_next : (log : List Entry) (k : ℕ) (e : Entry) → entry_at log k ≡ Some e → prefix (k + 1) log ≡ e ∷ prefix k log
unfolding entry_at prefix
prefix_next [] k e h = absurd cc
prefix_next (x ∷ older) k e h = elim (eqb_tells (length older) k) [
  | inl p ↦
      let here : Some x ≡ Some e = rw p.0 at h in
      let same : x ≡ e = cc in
      rw (longer (k + 1) (length older) (omega (arith, p.1)), shorter k (length older) (omega (arith, p.1)), prefix_whole older k (omega (arith, p.1))) (ap (λ y. y ∷ older) same)
  | inr p ↦
      let rest : entry_at older k ≡ Some e = rw p.0 at h in
      let below = entry_below older k e rest in
      rw (shorter (k + 1) (length older) (omega arith), shorter k (length older) (omega arith)) (prefix_next older k e rest)
]

-- the newest entry stands at the place that the log's length was
pub entry_newest : (e : Entry) (log : List Entry) → entry_at (e ∷ log) (length log) ≡ Some e
unfolding entry_at
entry_newest e log = rw (eq-eqb (length log) (length log) refl) refl

-- a list read from its end, cut at a place
pub prefix_take : (entries : List Entry) (k : ℕ) → prefix k (reverse entries) ≡ reverse (take k entries)
prefix_take entries k = elim (cases_lt k (length entries)) [
  | inl lt ↦
      let front : length (reverse (take k entries)) ≡ k = length-reverse (take k entries) ∙ length-take-le k entries (omega arith) in
      ap (λ xs. prefix k (reverse xs)) (sym (take-append-drop k entries)) ∙ ap (prefix k) (reverse-append (take k entries) (drop k entries))
      ∙ prefix_more (reverse (drop k entries)) (reverse (take k entries)) k (omega arith) ∙ prefix_whole (reverse (take k entries)) k (omega arith)
  | inr le ↦ prefix_whole (reverse entries) k (omega (arith, length-reverse entries)) ∙ ap reverse (sym (take_all k entries (omega arith)))
]

-- a log is what was added to it in front of what was there
pub news_front : (entries news log : List Entry) (k : ℕ) → reverse entries ≡ log → news ≡ drop k entries → log ≡ reverse news ++ prefix k log
news_front entries news log k same is =
    sym same ∙ ap reverse (sym (take-append-drop k entries)) ∙ reverse-append (take k entries) (drop k entries) ∙ ap (λ xs. reverse xs ++ reverse (take k entries)) (sym is)
    ∙ ap (λ xs. reverse news ++ xs) (sym (prefix_take entries k)) ∙ ap (λ xs. reverse news ++ prefix k xs) same
