-- Ascending lists: what comes before and after a number, where a search stops.
use Rattle.std.proofs.Common.{◌≡◌, ℕ, zero, suc, ◌+◌, ◌<◌, ◌≤◌, List, [], ◌∷◌, ◌++◌, true, false, refl, ap, sym, ◌∙◌, length, get_or, arith, eqb, ltb, filter, None, take, drop, ⊎_elim, Ok, Err, ◌≢◌}
use Rattle.std.specs.Prelude.{slice_get}
use Rattle.std.proofs.lemmas.Bool.{lt-ltb, le-ltb, eq-eqb, ne_eqb, cases_order, cases_lt}
use Rattle.std.proofs.lemmas.List.{take-append-drop, drop_more}
use Rattle.std.proofs.lemmas.List.Folds.{list_any_at}
use Rattle.std.proofs.lemmas.List.Sorted.{searched}
use Rattle.std.specs.List.Sorted.{IsBinarySearchResult}
use Rattle.std.specs.Ordering.{nat_cmp}
use Rattle.std.specs.List.{AllByRecursion}
use Rattle.tree_log.specs.Siblings.{behind, first_if_any}
use Rattle.indexed_view.specs.Lists.{IsAscending, is_in, without, with_one}

abbrev pub before : ℕ → List ℕ → List ℕ
before n ns = filter (λ m. ltb m n) ns

abbrev pub beyond : ℕ → List ℕ → List ℕ
beyond n ns = filter (λ m. ltb n m) ns

above_at : (n : ℕ) (ns : List ℕ) → AllByRecursion (λ m. n < m) ns → (k : ℕ) → k < length ns → n < get_or ns k 0
above_at n [] h k lt = absurd (omega arith)
above_at n (m ∷ ns) h zero lt = h.0
above_at n (m ∷ ns) h (suc k) lt = above_at n ns h.1 k (omega arith)

pub rises : (ns : List ℕ) → IsAscending ns → (i j : ℕ) → i ≤ j → j < length ns → get_or ns i 0 ≤ get_or ns j 0
rises [] h i j le lt = absurd (omega arith)
rises (n ∷ ns) h zero zero le lt = omega arith
rises (n ∷ ns) h zero (suc j) le lt = let more = above_at n ns h.0 j (omega arith) in omega (arith, more)
rises (n ∷ ns) h (suc i) zero le lt = absurd (omega arith)
rises (n ∷ ns) h (suc i) (suc j) le lt = rises ns h.1 i j (omega arith) (omega arith)

-- where each number is greater
none_before : (n : ℕ) (ns : List ℕ) → ((k : ℕ) → k < length ns → n < get_or ns k 0) → before n ns ≡ []
none_before n [] h = refl
none_before n (m ∷ ns) h = let lt : n < m = h 0 (omega arith) in rw (le-ltb m n (omega arith)) (none_before n ns (λ k below. h (suc k) (omega arith)))

all_beyond : (n : ℕ) (ns : List ℕ) → ((k : ℕ) → k < length ns → n < get_or ns k 0) → beyond n ns ≡ ns
all_beyond n [] h = refl
all_beyond n (m ∷ ns) h = let lt : n < m = h 0 (omega arith) in rw (lt-ltb n m lt) (ap (λ r. m ∷ r) (all_beyond n ns (λ k below. h (suc k) (omega arith))))

none_out : (n : ℕ) (ns : List ℕ) → ((k : ℕ) → k < length ns → n < get_or ns k 0) → without n ns ≡ ns
none_out n [] h = refl
none_out n (m ∷ ns) h =
    let lt : n < m = h 0 (omega arith) in
    rw (ne_eqb m n (λ e. absurd (omega arith))) (ap (λ r. m ∷ r) (none_out n ns (λ k below. h (suc k) (omega arith))))

pub record IsSplitAt (n : ℕ) (ns : List ℕ) (i j : ℕ) : Type 0 where
  pub front : take i ns ≡ before n ns
  pub back : drop j ns ≡ beyond n ns

-- the place of a number that isn't there
pub missing : (ns : List ℕ) (n i : ℕ) → i ≤ length ns → ((k : ℕ) → k < i → get_or ns k 0 < n) → ((k : ℕ) → i ≤ k → k < length ns → n < get_or ns k 0) → IsSplitAt n ns i i
missing [] n zero le low high = record { front = refl; back = refl }
missing [] n (suc i) le low high = absurd (omega arith)
missing (m ∷ ns) n zero le low high =
    record { front = sym (none_before n (m ∷ ns) (λ k below. high k (omega arith) below)); back = sym (all_beyond n (m ∷ ns) (λ k below. high k (omega arith) below)) }
missing (m ∷ ns) n (suc i) le low high =
    let lt : m < n = low 0 (omega arith) in
    let rest = missing ns n i (omega arith) (λ k below. low (suc k) (omega arith)) (λ k from below. high (suc k) (omega arith) (omega arith)) in
    record { front = rw (lt-ltb m n lt) (ap (λ r. m ∷ r) rest.front); back = rw (le-ltb n m (omega arith)) rest.back }

-- the place of a number that is there
pub found : (ns : List ℕ) (n i : ℕ) → IsAscending ns → i < length ns → get_or ns i 0 ≡ n → IsSplitAt n ns i (suc i)
found [] n i up lt is = absurd (omega arith)
found (m ∷ ns) n zero up lt is =
    let high : (k : ℕ) → k < length ns → n < get_or ns k 0 = λ k below. let more = above_at m ns up.0 k below in omega (arith, more, is) in
    record {
      front = sym (rw (le-ltb m n (omega (arith, is))) (none_before n ns high));
      back = sym (rw (le-ltb n m (omega (arith, is))) (all_beyond n ns high));
    }
found (m ∷ ns) n (suc i) up lt is =
    let more : m < get_or ns i 0 = above_at m ns up.0 i (omega arith) in
    let low : m < n = omega (arith, more, is) in
    let rest = found ns n i up.1 (omega arith) is in
    record { front = rw (lt-ltb m n low) (ap (λ r. m ∷ r) rest.front); back = rw (le-ltb n m (omega (arith, low))) rest.back }

pub split_without : (ns : List ℕ) (n : ℕ) → IsAscending ns → without n ns ≡ before n ns ++ beyond n ns
split_without [] n up = refl
split_without (m ∷ ns) n up = ⊎_elim at_it (⊎_elim (low (split_without ns n up.1)) high) (cases_order m n)
  where
    at_it : m ≡ n → without n (m ∷ ns) ≡ before n (m ∷ ns) ++ beyond n (m ∷ ns)
    at_it e =
        let more : (k : ℕ) → k < length ns → n < get_or ns k 0 = λ k below. let up_to = above_at m ns up.0 k below in omega (arith, up_to, e) in
        rw (eq-eqb m n e, le-ltb m n (omega (arith, e)), le-ltb n m (omega (arith, e))) (none_out n ns more ∙ sym (ap (λ r. r ++ beyond n ns) (none_before n ns more) ∙ all_beyond n ns more))

    low : without n ns ≡ before n ns ++ beyond n ns → m < n → without n (m ∷ ns) ≡ before n (m ∷ ns) ++ beyond n (m ∷ ns)
    low rest lt = rw (ne_eqb m n (λ e. absurd (omega arith)), lt-ltb m n lt, le-ltb n m (omega arith)) (ap (λ r. m ∷ r) rest)

    high : n < m → without n (m ∷ ns) ≡ before n (m ∷ ns) ++ beyond n (m ∷ ns)
    high lt =
        let more : (k : ℕ) → k < length ns → n < get_or ns k 0 = λ k below. let up_to = above_at m ns up.0 k below in omega (arith, up_to) in
        rw (ne_eqb m n (λ e. absurd (omega arith)), le-ltb m n (omega arith), lt-ltb n m lt) (ap (λ r. m ∷ r) (none_out n ns more) ∙ sym (ap (λ r. r ++ m ∷ beyond n ns) (none_before n ns more) ∙ ap (λ r. m ∷ r) (all_beyond n ns more)))

-- where a search found it, and where it did not
pub at_found : (ns : List ℕ) (n i : ℕ) → IsAscending ns → IsBinarySearchResult (λ m. nat_cmp m n) ns (Ok i) → (i < length ns) × (get_or ns i 0 ≡ n) × IsSplitAt n ns i (suc i)
at_found ns n i up h =
    let there : (i < length ns) × (get_or ns i 0 ≡ n) = searched ns n (Ok i) h (rises ns up) in
    (there.0, there.1, found ns n i up there.0 there.1)

pub at_missing : (ns : List ℕ) (n i : ℕ) → IsAscending ns → IsBinarySearchResult (λ m. nat_cmp m n) ns (Err i) → ((k : ℕ) → k < length ns → get_or ns k 0 ≢ n) × IsSplitAt n ns i i
at_missing ns n i up h =
    let there : (i ≤ length ns) × ((k : ℕ) → k < i → get_or ns k 0 < n) × ((k : ℕ) → i ≤ k → k < length ns → n < get_or ns k 0) = searched ns n (Err i) h (rises ns up) in (
      λ k below. ⊎_elim (λ lt. let less = there.1 k lt in λ e. absurd (omega (arith, less))) (λ le. let more = there.2 k le below in λ e. absurd (omega (arith, more))) (cases_lt k i),
      missing ns n i there.0 there.1 there.2,
    )

-- a number that is there stands between the others
pub stays : (ns : List ℕ) (n i : ℕ) → IsAscending ns → IsBinarySearchResult (λ m. nat_cmp m n) ns (Ok i) → ns ≡ with_one n ns
stays ns n i up h =
    let at = at_found ns n i up h in
    let next : i + 1 ≡ suc i = omega arith in
    sym (take-append-drop i ns) ∙ ap (λ r. take i ns ++ r) (drop_more ns i 0 at.0) ∙ ap (λ m. take i ns ++ m ∷ drop (i + 1) ns) at.1
    ∙ ap (λ k. take i ns ++ n ∷ drop k ns) next
    ∙ ap (λ r. r ++ n ∷ drop (suc i) ns) at.2.front ∙ ap (λ r. before n ns ++ n ∷ r) at.2.back

pub put_in : (ns : List ℕ) (n i : ℕ) → IsAscending ns → IsBinarySearchResult (λ m. nat_cmp m n) ns (Err i) → take i ns ++ n ∷ drop i ns ≡ with_one n ns
put_in ns n i up h =
    let at = at_missing ns n i up h in
    ap (λ r. r ++ n ∷ drop i ns) at.1.front ∙ ap (λ r. before n ns ++ n ∷ r) at.1.back

pub taken_out : (ns : List ℕ) (n i : ℕ) → IsAscending ns → IsBinarySearchResult (λ m. nat_cmp m n) ns (Ok i) → take i ns ++ drop (suc i) ns ≡ without n ns
taken_out ns n i up h =
    let at = at_found ns n i up h in
    ap (λ r. r ++ drop (suc i) ns) at.2.front ∙ ap (λ r. before n ns ++ r) at.2.back ∙ sym (split_without ns n up)

pub none_to_take : (ns : List ℕ) (n i : ℕ) → IsAscending ns → IsBinarySearchResult (λ m. nat_cmp m n) ns (Err i) → ns ≡ without n ns
none_to_take ns n i up h =
    let at = at_missing ns n i up h in
    sym (take-append-drop i ns) ∙ ap (λ r. r ++ drop i ns) at.1.front ∙ ap (λ r. before n ns ++ r) at.1.back ∙ sym (split_without ns n up)

-- WHAT COMES AFTER ONE

behind_at : (ns : List ℕ) (n i : ℕ) → IsAscending ns → i < length ns → get_or ns i 0 ≡ n → behind n ns ≡ drop (suc i) ns
behind_at [] n i up lt is = absurd (omega arith)
behind_at (m ∷ ns) n zero up lt is = rw (eq-eqb m n is) refl
behind_at (m ∷ ns) n (suc i) up lt is =
    let more : m < get_or ns i 0 = above_at m ns up.0 i (omega arith) in
    rw (ne_eqb m n (λ e. absurd (omega (arith, more, is)))) (behind_at ns n i up.1 (omega arith) is)

behind_missing : (ns : List ℕ) (n : ℕ) → ((k : ℕ) → k < length ns → get_or ns k 0 ≢ n) → behind n ns ≡ []
behind_missing [] n h = refl
behind_missing (m ∷ ns) n h = rw (ne_eqb m n (h 0 (omega arith))) (behind_missing ns n (λ k below. h (suc k) (omega arith)))

first_of_drop : (ns : List ℕ) (i : ℕ) → first_if_any (drop i ns) ≡ slice_get ns i
first_of_drop [] zero = refl
first_of_drop [] (suc i) = refl
first_of_drop (n ∷ ns) zero = refl
first_of_drop (n ∷ ns) (suc i) = first_of_drop ns i

pub next_found : (ns : List ℕ) (n i : ℕ) → IsAscending ns → IsBinarySearchResult (λ m. nat_cmp m n) ns (Ok i) → slice_get ns (i + 1) ≡ first_if_any (behind n ns)
next_found ns n i up h =
    let at = at_found ns n i up h in
    let next : suc i ≡ i + 1 = omega arith in
    sym (ap first_if_any (behind_at ns n i up at.0 at.1) ∙ ap (λ k. first_if_any (drop k ns)) next ∙ first_of_drop ns (i + 1))

pub next_missing : (ns : List ℕ) (n i : ℕ) → IsAscending ns → IsBinarySearchResult (λ m. nat_cmp m n) ns (Err i) → None ≡ first_if_any (behind n ns)
next_missing ns n i up h = sym (ap first_if_any (behind_missing ns n (at_missing ns n i up h).0))

-- WHETHER IT IS THERE

pub there : (ns : List ℕ) (n i : ℕ) → IsAscending ns → IsBinarySearchResult (λ m. nat_cmp m n) ns (Ok i) → true ≡ is_in n ns
there ns n i up h = let at = at_found ns n i up h in sym (list_any_at (λ m. eqb m n) ns i 0 at.0 (eq-eqb (get_or ns i 0) n at.1))

not_in : (ns : List ℕ) (n : ℕ) → ((k : ℕ) → k < length ns → get_or ns k 0 ≢ n) → is_in n ns ≡ false
not_in [] n h = refl
not_in (m ∷ ns) n h = rw (ne_eqb m n (h 0 (omega arith))) (not_in ns n (λ k below. h (suc k) (omega arith)))

pub missed : (ns : List ℕ) (n i : ℕ) → IsAscending ns → IsBinarySearchResult (λ m. nat_cmp m n) ns (Err i) → false ≡ is_in n ns
missed ns n i up h = sym (not_in ns n (at_missing ns n i up h).0)
