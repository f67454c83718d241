-- A list without one number or with one more, under a test.
use Rattle.std.proofs.Common.{◌≡◌, ℕ, ◌<◌, List, [], ◌∷◌, ◌++◌, Bool, true, false, cond, refl, ap, sym, subst, ◌∙◌, inl, inr, arith, eqb, ltb, ne_eqb, eq-eqb, filter, not, ◌&&◌, ◌||◌, ◌≢◌, ⊎_elim}
use Rattle.std.specs.List.{AllByRecursion}
use Rattle.std.proofs.lemmas.Bool.Decides.{eqb_tells}
use Rattle.std.proofs.lemmas.Bool.{cases_order, or_right, or_parts, lt-ltb, le-ltb, and_right, false_from_ne_true}
use Rattle.std.proofs.lemmas.List.Elements.{filter_agree}
use Rattle.indexed_view.specs.Lists.{IsAscending, is_in, without, with_one}
use Rattle.indexed_view.proofs.Members.{in_filter}

-- two tests that agree on what is in the list
pub agree_in : (p q : ℕ → Bool) (ns : List ℕ) → ((n : ℕ) → is_in n ns ≡ true → p n ≡ q n) → filter p ns ≡ filter q ns
agree_in p q [] h = refl
agree_in p q (n ∷ ns) h =
    ap (λ b. cond b (n ∷ filter p ns) (filter p ns)) (h n (rw (eq-eqb n n refl) refl))
    ∙ ap (λ ms. cond (q n) (n ∷ ms) ms) (agree_in p q ns (λ m it. h m (or_right _ _ it)))

both_tests : (p q : ℕ → Bool) (n : ℕ) (ns : List ℕ) (b : Bool) → q n ≡ b → filter p (cond b (n ∷ ns) ns) ≡ cond (b && p n) (n ∷ filter p ns) (filter p ns)
both_tests p q n ns true is = refl
both_tests p q n ns false is = refl

-- one test after another
pub fused : (p q : ℕ → Bool) (ns : List ℕ) → filter p (filter q ns) ≡ filter (λ n. q n && p n) ns
fused p q [] = refl
fused p q (n ∷ ns) = both_tests p q n (filter q ns) (q n) refl ∙ ap (λ ms. cond (q n && p n) (n ∷ ms) ms) (fused p q ns)

and_comm : (a b : Bool) → (a && b) ≡ (b && a)
and_comm true true = refl
and_comm true false = refl
and_comm false true = refl
and_comm false false = refl

pub swapped : (p q : ℕ → Bool) (ns : List ℕ) → filter p (filter q ns) ≡ filter q (filter p ns)
swapped p q ns = fused p q ns ∙ filter_agree (λ n. q n && p n) (λ n. p n && q n) (λ n. and_comm (q n) (p n)) ns ∙ sym (fused q p ns)

-- what is not there
pub absent : (n : ℕ) (ns : List ℕ) → is_in n ns ≡ false → without n ns ≡ ns
absent n [] h = refl
absent n (m ∷ ns) h = let parts = or_parts (eqb m n) (is_in n ns) h in rw parts.0 (ap (λ r. m ∷ r) (absent n ns parts.1))

eqb_comm : (a b : ℕ) → eqb a b ≡ eqb b a
eqb_comm a b = elim (eqb_tells a b) [
  | inl e ↦ e.0 ∙ sym (eq-eqb b a (sym e.1))
  | inr e ↦ e.0 ∙ sym (ne_eqb b a (λ s. e.1 (sym s)))
]

not_or : (a b : Bool) → not (a || b) ≡ (not b && not a)
not_or true true = refl
not_or true false = refl
not_or false true = refl
not_or false false = refl

-- with i dropped, too
pub dropped_too : (dropped : ℕ → Bool) (i : ℕ) (ns : List ℕ) → filter (λ n. not (eqb i n || dropped n)) ns ≡ without i (filter (λ n. not (dropped n)) ns)
dropped_too dropped i ns =
    filter_agree (λ n. not (eqb i n || dropped n)) (λ n. not (dropped n) && not (eqb n i)) (λ n. not_or (eqb i n) (dropped n) ∙ ap (λ b. not (dropped n) && not b) (eqb_comm i n)) ns
    ∙ sym (fused (λ m. not (eqb m i)) (λ n. not (dropped n)) ns)

-- ANOTHER NAME

-- a test that fails at i, and elsewhere is as before
pub test_without : (p q : ℕ → Bool) (i : ℕ) (ns : List ℕ) → ((n : ℕ) → n ≢ i → q n ≡ p n) → q i ≡ false → filter q ns ≡ without i (filter p ns)
test_without p q i ns others here =
    filter_agree q (λ n. p n && not (eqb n i)) (λ n. elim (eqb_tells n i) [
      | inl e ↦ ap q e.1 ∙ here ∙ sym (and_right (p n) (not (eqb n i)) (ap not e.0))
      | inr e ↦ others n e.1 ∙ sym (ap (λ b. p n && not b) e.0 ∙ and_true (p n))
    ]) ns
    ∙ sym (fused (λ m. not (eqb m i)) p ns)
  where
    and_true : (b : Bool) → (b && true) ≡ b
    and_true true = refl
    and_true false = refl

later_only : (n : ℕ) (ns : List ℕ) → AllByRecursion (λ m. n < m) ns → (m : ℕ) → is_in m ns ≡ true → n < m
later_only n [] h m it = absurd cc
later_only n (k ∷ ns) h m it = elim (eqb_tells k m) [
  | inl e ↦ let lt = h.0 in omega (arith, lt, e.1)
  | inr e ↦ later_only n ns h.1 m (sym (ap (λ b. b || is_in m ns) e.0) ∙ it)
]

-- where each is greater, none is before, and all are beyond
all_later : (p : ℕ → Bool) (n : ℕ) (ns : List ℕ) → AllByRecursion (λ m. n < m) ns → with_one n (without n (filter p ns)) ≡ n ∷ filter p ns
all_later p n ns h =
    let high : (m : ℕ) → is_in m ns ≡ true → n < m = later_only n ns h in
    ap (with_one n) (out high) ∙ ap (λ r. r ++ n ∷ filter (λ m. ltb n m) (filter p ns)) (front high) ∙ ap (λ r. n ∷ r) (back high)
  where
    gone : ((m : ℕ) → is_in m ns ≡ true → n < m) → is_in n ns ≡ false
    gone high = false_from_ne_true (is_in n ns) (λ e. let lt = high n e in absurd (omega (arith, lt)))

    out : ((m : ℕ) → is_in m ns ≡ true → n < m) → without n (filter p ns) ≡ filter p ns
    out high = absent n (filter p ns) (in_filter p n ns ∙ and_right (p n) (is_in n ns) (gone high))

    none : (ms : List ℕ) → filter (λ _. false) ms ≡ []
    none [] = refl
    none (_ ∷ ms) = none ms

    front : ((m : ℕ) → is_in m ns ≡ true → n < m) → filter (λ m. ltb m n) (filter p ns) ≡ []
    front high =
        fused (λ m. ltb m n) p ns
        ∙ agree_in (λ m. p m && ltb m n) (λ _. false) ns (λ m it. let lt = high m it in and_right (p m) (ltb m n) (le-ltb m n (omega (arith, lt))))
        ∙ none ns

    back : ((m : ℕ) → is_in m ns ≡ true → n < m) → filter (λ m. ltb n m) (filter p ns) ≡ filter p ns
    back high =
        swapped (λ m. ltb n m) p ns
        ∙ ap (filter p) (agree_in (λ m. ltb n m) (λ _. true) ns (λ m it. lt-ltb n m (high m it)) ∙ every ns)
      where
        every : (ms : List ℕ) → filter (λ _. true) ms ≡ ms
        every [] = refl
        every (m ∷ ms) = ap (λ r. m ∷ r) (every ms)

-- a smaller number stands before
smaller_first : (i m : ℕ) (ns : List ℕ) (b : Bool) → m < i → with_one i (without i (cond b (m ∷ ns) ns)) ≡ cond b (m ∷ with_one i (without i ns)) (with_one i (without i ns))
smaller_first i m ns true lt = rw (ne_eqb m i (λ e. absurd (omega arith)), lt-ltb m i lt, le-ltb i m (omega arith)) refl
smaller_first i m ns false lt = refl

-- a test that holds at i, which is there, and elsewhere is as before
pub test_with : (p q : ℕ → Bool) (i : ℕ) (ns : List ℕ) → IsAscending ns → is_in i ns ≡ true → ((n : ℕ) → n ≢ i → q n ≡ p n) → q i ≡ true → filter q ns ≡ with_one i (without i (filter p ns))
test_with p q i [] up it others here = absurd cc
test_with p q i (m ∷ ns) up it others here = ⊎_elim at_it (⊎_elim (λ lt. low lt (λ there. test_with p q i ns up.1 there others here)) high) (cases_order m i)
  where
    at_it : m ≡ i → filter q (m ∷ ns) ≡ with_one i (without i (filter p (m ∷ ns)))
    at_it e =
        let later : AllByRecursion (λ k. i < k) ns = subst (λ n. AllByRecursion (λ k. n < k) ns) e up.0 in
        let same : filter q ns ≡ filter p ns = agree_in q p ns (λ n there. let lt = later_only i ns later n there in others n (λ s. absurd (omega (arith, lt)))) in
        ap (λ b. cond b (m ∷ filter q ns) (filter q ns)) (ap q e ∙ here)
        ∙ ap (λ k. k ∷ filter q ns) e ∙ ap (λ r. i ∷ r) same
        ∙ sym (all_later p i ns later)
        ∙ sym (ap (λ k. with_one i (without i (cond (p k) (k ∷ filter p ns) (filter p ns)))) e ∙ drop_it (p i))
      where
        drop_it : (b : Bool) → with_one i (without i (cond b (i ∷ filter p ns) (filter p ns))) ≡ with_one i (without i (filter p ns))
        drop_it true = ap (λ b. with_one i (cond (not b) (i ∷ without i (filter p ns)) (without i (filter p ns)))) (eq-eqb i i refl)
        drop_it false = refl

    low : m < i → (is_in i ns ≡ true → filter q ns ≡ with_one i (without i (filter p ns))) → filter q (m ∷ ns) ≡ with_one i (without i (filter p (m ∷ ns)))
    low lt rest =
        let there : is_in i ns ≡ true = sym (ap (λ b. b || is_in i ns) (ne_eqb m i (λ e. absurd (omega arith)))) ∙ it in
        ap (λ b. cond b (m ∷ filter q ns) (filter q ns)) (others m (λ e. absurd (omega arith)))
        ∙ ap (λ r. cond (p m) (m ∷ r) r) (rest there)
        ∙ sym (smaller_first i m (filter p ns) (p m) lt)

    high : i < m → filter q (m ∷ ns) ≡ with_one i (without i (filter p (m ∷ ns)))
    high lt =
        let there : is_in i ns ≡ true = sym (ap (λ b. b || is_in i ns) (ne_eqb m i (λ e. absurd (omega arith)))) ∙ it in
        let more = later_only m ns up.0 i there in
        absurd (omega (arith, more))

-- a number greater than each stands last
pub at_end : (i : ℕ) (ns : List ℕ) → ((n : ℕ) → is_in n ns ≡ true → n < i) → with_one i ns ≡ ns ++ i ∷ []
at_end i ns low =
    ap (λ r. r ++ i ∷ filter (λ m. ltb i m) ns) (agree_in (λ m. ltb m i) (λ _. true) ns (λ m it. lt-ltb m i (low m it)) ∙ every ns)
    ∙ ap (λ r. ns ++ i ∷ r) (agree_in (λ m. ltb i m) (λ _. false) ns (λ m it. let lt = low m it in le-ltb i m (omega (arith, lt))) ∙ none ns)
  where
    every : (ms : List ℕ) → filter (λ _. true) ms ≡ ms
    every [] = refl
    every (m ∷ ms) = ap (λ r. m ∷ r) (every ms)

    none : (ms : List ℕ) → filter (λ _. false) ms ≡ []
    none [] = refl
    none (_ ∷ ms) = none ms
