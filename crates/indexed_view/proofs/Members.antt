-- What is in a list that passes a test, and in the lists of children.
use Rattle.std.proofs.Common.{◌≡◌, ℕ, zero, suc, ◌+◌, ◌<◌, ◌≤◌, List, [], ◌∷◌, Bool, true, false, cond, refl, ap, sym, subst, ◌∙◌, length, inl, inr, arith, eqb, eq-eqb, filter, not, Option, Some, None, ◌&&◌, ◌||◌}
use Rattle.std.specs.List.{range_with_len, AllByRecursion, All}
use Rattle.std.proofs.lemmas.Bool.Decides.{eqb_tells}
use Rattle.std.specs.Option.{IfSome}
use Rattle.std.proofs.lemmas.List.FromFn.{length-range_with_len}
use Rattle.std.proofs.lemmas.Bool.{and_right, and_parts, and_from, eqb-true, not-true}
use Rattle.std.proofs.lemmas.List.Elements.{All-filter, All-same, All-from_recursion}
use Rattle.tree_log.specs.Tree.{Tree, embedder, is}
use Rattle.tree_view.specs.Grown.{IsGrown}
use Rattle.indexed_view.specs.Lists.{IsAscending, is_in}
use Rattle.indexed_view.specs.Live.{live}

kept : (n m : ℕ) (ns : List ℕ) (b : Bool) → eqb m n ≡ false → is_in n (cond b (m ∷ ns) ns) ≡ is_in n ns
kept n m ns true other = rw other refl
kept n m ns false other = refl

at_it : (n : ℕ) (ns rest : List ℕ) (b : Bool) → is_in n ns ≡ (b && is_in n rest) → is_in n (cond b (n ∷ ns) ns) ≡ b
at_it n ns rest true same = rw (eq-eqb n n refl) refl
at_it n ns rest false same = same

and_true : (b : Bool) → (b && true) ≡ b
and_true true = refl
and_true false = refl

pub in_filter : (p : ℕ → Bool) (n : ℕ) (ns : List ℕ) → is_in n (filter p ns) ≡ (p n && is_in n ns)
in_filter p n [] = sym (and_right (p n) false refl)
in_filter p n (m ∷ ns) = elim (eqb_tells m n) [
  | inl e ↦
      ap (λ k. is_in n (cond (p k) (k ∷ filter p ns) (filter p ns))) e.1
      ∙ at_it n (filter p ns) ns (p n) (in_filter p n ns)
      ∙ sym (ap (λ b. p n && (b || is_in n ns)) e.0 ∙ and_true (p n))
  | inr e ↦ kept n m (filter p ns) (p m) e.0 ∙ in_filter p n ns ∙ sym (ap (λ b. p n && (b || is_in n ns)) e.0)
]

pub in_range : (n a k : ℕ) → a ≤ n → n < a + k → is_in n (range_with_len a k) ≡ true
in_range n a zero le lt = absurd (omega arith)
in_range n a (suc k) le lt = elim (eqb_tells a n) [
  | inl e ↦ rw e.0 refl
  | inr e ↦ rw e.0 (in_range n (a + 1) k (omega (arith, e.1)) (omega arith))
]

pub of_range : (n a k : ℕ) → is_in n (range_with_len a k) ≡ true → n < a + k
of_range n a zero h = absurd cc
of_range n a (suc k) h = elim (eqb_tells a n) [
  | inl e ↦ omega (arith, e.1)
  | inr e ↦ let below : n < (a + 1) + k = of_range n (a + 1) k (sym (ap (λ b. b || is_in n (range_with_len (a + 1) k)) e.0) ∙ h) in omega (arith, below)
]

-- ASCENDING

above_filter : (P : ℕ → Type 0) (p : ℕ → Bool) (ns : List ℕ) → AllByRecursion P ns → AllByRecursion P (filter p ns)
above_filter P p [] h = tt
above_filter P p (n ∷ ns) h = pick (p n) (above_filter P p ns h.1)
  where
    pick : (b : Bool) → AllByRecursion P (filter p ns) → AllByRecursion P (cond b (n ∷ filter p ns) (filter p ns))
    pick true rest = (h.0, rest)
    pick false rest = rest

pub ascending_filter : (p : ℕ → Bool) (ns : List ℕ) → IsAscending ns → IsAscending (filter p ns)
ascending_filter p [] h = tt
ascending_filter p (n ∷ ns) h = pick (p n) (ascending_filter p ns h.1)
  where
    pick : (b : Bool) → IsAscending (filter p ns) → IsAscending (cond b (n ∷ filter p ns) (filter p ns))
    pick true rest = (above_filter (λ m. n < m) p ns h.0, rest)
    pick false rest = rest

range_above : (n a k : ℕ) → n < a → AllByRecursion (λ m. n < m) (range_with_len a k)
range_above n a zero lt = tt
range_above n a (suc k) lt = (lt, range_above n (a + 1) k (omega arith))

pub ascending_range : (a k : ℕ) → IsAscending (range_with_len a k)
ascending_range a zero = tt
ascending_range a (suc k) = (range_above a (a + 1) k (omega arith), ascending_range (a + 1) k)

range_below : (a k n : ℕ) → a + k ≤ n → AllByRecursion (λ m. m < n) (range_with_len a k)
range_below a zero n le = tt
range_below a (suc k) n le = (omega (arith, le), range_below (a + 1) k n (omega (arith, le)))

-- THE CHILDREN OF A DOCUMENT

pub live_ascends : (t : Tree) → IsGrown t → (d : ℕ) → IsAscending (live t d)
live_ascends t grown d =
    ascending_filter (λ n. not (t.nav n).dropped) (t.frames d)
    (subst IsAscending (sym (grown.frames d)) (ascending_filter (λ n. is (embedder t n) d) (range_with_len 0 t.navs) (ascending_range 0 t.navs)))

pub live_below : (t : Tree) → IsGrown t → (d : ℕ) → All (λ n. n < t.navs) (live t d)
live_below t grown d =
    All-filter (λ n. not (t.nav n).dropped) (λ n. n < t.navs) (t.frames d)
    (All-same (λ n. n < t.navs) (t.frames d) (filter (λ n. is (embedder t n) d) (range_with_len 0 t.navs)) (grown.frames d)
    (All-filter (λ n. is (embedder t n) d) (λ n. n < t.navs) (range_with_len 0 t.navs) (All-from_recursion (λ n. n < t.navs) (range_with_len 0 t.navs) (range_below 0 t.navs t.navs (omega arith)))))

pub is_it : (o : Option ℕ) (d : ℕ) → is o d ≡ true → o ≡ Some d
is_it None d h = absurd cc
is_it (Some e) d h = ap Some (eqb-true e d h)

pub it_is : (o : Option ℕ) (d : ℕ) → o ≡ Some d → is o d ≡ true
it_is o d e = rw e (eq-eqb d d refl)

pub in_frames : (t : Tree) → IsGrown t → (n d : ℕ) → n < t.navs → embedder t n ≡ Some d → is_in n (t.frames d) ≡ true
in_frames t grown n d lt by =
    ap (is_in n) (grown.frames d) ∙ in_filter (λ m. is (embedder t m) d) n (range_with_len 0 t.navs)
    ∙ and_from _ _ (it_is (embedder t n) d by) (in_range n 0 t.navs (omega arith) (omega arith))

pub in_live : (t : Tree) → IsGrown t → (n d : ℕ) → n < t.navs → embedder t n ≡ Some d → (t.nav n).dropped ≡ false → is_in n (live t d) ≡ true
in_live t grown n d lt by stays = in_filter (λ m. not (t.nav m).dropped) n (t.frames d) ∙ and_from _ _ (rw stays refl) (in_frames t grown n d lt by)

pub record IsLive (t : Tree) (n d : ℕ) : Type 0 where
  pub there : n < t.navs
  pub by : embedder t n ≡ Some d
  pub stays : (t.nav n).dropped ≡ false

pub of_live : (t : Tree) → IsGrown t → (n d : ℕ) → is_in n (live t d) ≡ true → IsLive t n d
of_live t grown n d h =
    let both = and_parts (not (t.nav n).dropped) (is_in n (t.frames d)) (sym (in_filter (λ m. not (t.nav m).dropped) n (t.frames d)) ∙ h) in
    let made = and_parts (is (embedder t n) d) (is_in n (range_with_len 0 t.navs)) (sym (ap (is_in n) (grown.frames d) ∙ in_filter (λ m. is (embedder t m) d) n (range_with_len 0 t.navs)) ∙ both.1) in
    let low : n < 0 + t.navs = of_range n 0 t.navs made.1 in
    record { there = omega (arith, low); by = is_it (embedder t n) d made.0; stays = not-true (t.nav n).dropped both.0 }

filter_short : (p : ℕ → Bool) (ns : List ℕ) → length (filter p ns) ≤ length ns
filter_short p [] = omega arith
filter_short p (n ∷ ns) = pick (p n) (filter_short p ns)
  where
    pick : (b : Bool) → length (filter p ns) ≤ length ns → length (cond b (n ∷ filter p ns) (filter p ns)) ≤ length (n ∷ ns)
    pick true le = omega (arith, le)
    pick false le = omega (arith, le)

pub live_few : (t : Tree) → IsGrown t → (d : ℕ) → length (live t d) ≤ t.navs
live_few t grown d =
    let some = filter_short (λ n. not (t.nav n).dropped) (t.frames d) in
    let all = filter_short (λ n. is (embedder t n) d) (range_with_len 0 t.navs) in
    let frames = ap length (grown.frames d) in
    let count = length-range_with_len 0 t.navs in
    omega (arith, some, all, frames, count)

pub if_some : (o e : Option ℕ) (P : ℕ → Type 0) → o ≡ e → ((d : ℕ) → e ≡ Some d → P d) → IfSome o P
if_some None e P same h = tt
if_some (Some d) e P same h = h d (sym same)
