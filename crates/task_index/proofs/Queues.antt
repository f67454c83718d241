-- Queues of places that ascend, and the places of a row.
use Rattle.std.proofs.Common.{◌≡◌, ℕ, zero, suc, ◌+◌, ◌<◌, List, [], ◌∷◌, ◌++◌, length, drop, Option, Some, None, Bool, true, false, refl, subst, arith, inl, inr, eq-eqb, slice_index_or}
use Rattle.std.specs.Prelude.{◌||◌, ◌&&◌, ◌==◌, nat_lt, if◌then◌else◌}
use Rattle.std.proofs.lemmas.Bool.{eqb-true, lt-ltb, ltb-true, ltb-false}
use Rattle.std.proofs.lemmas.Bool.Decides.{eqb_tells}
use Rattle.std.specs.BTreeSet as set
use Rattle.std.specs.Ordering.{nat_cmp}
use Rattle.tree_log.proofs.Admitted.{both}
use Rattle.task_index.specs.declared.row.Row.{Row}
use Rattle.task_index.specs.Fed.{ascends, first_queued, in_row, is_before, is_last_below, is_led_by, lesser, queued, IsFirstOf}

-- TESTS

pub all_of : (a b : Bool) → a ≡ true → b ≡ true → (a && b) ≡ true
all_of true b h k = k
all_of false b h k = absurd cc

pub or_left : (a b : Bool) → a ≡ true → (a || b) ≡ true
or_left true b h = refl
or_left false b h = absurd cc

pub or_right : (a b : Bool) → b ≡ true → (a || b) ≡ true
or_right true b h = refl
or_right false b h = h

pub or_later : (a b c d : Bool) → (a ≡ true → c ≡ true) → (b ≡ true → d ≡ true) → (a || b) ≡ true → (c || d) ≡ true
or_later true b c d f g h = or_left c d (f refl)
or_later false b c d f g h = or_right c d (g h)

or_none : (a b : Bool) → a ≡ false → b ≡ false → (a || b) ≡ false
or_none true b h k = absurd cc
or_none false b h k = k

pub or_second : (a b : Bool) → (a ≡ true → ⊥) → (a || b) ≡ true → b ≡ true
or_second true b out h = absurd (out refl)
or_second false b out h = h

is_false : (b : Bool) → (b ≡ true → ⊥) → b ≡ false
is_false true out = absurd (out refl)
is_false false out = refl

-- THE FRONT

-- the first place of a queue that ascends is the least
least_first : (first : ℕ) (places : List ℕ) (q : ℕ) → ascends (first ∷ places) ≡ true → queued places q ≡ true → first < q
least_first first [] q h there = absurd cc
least_first first (next ∷ places) q h there =
    let parts = both (nat_lt first next) (ascends (next ∷ places)) h in
    let lt = ltb-true first next parts.0 in
    elim (eqb_tells next q) as (λ _. first < q) [
      | inl same ↦ let it = same.1 in omega arith
      | inr other ↦ let later = least_first next places q parts.1 (subst (λ (b : Bool). (b || queued places q) ≡ true) other.0 there) in omega arith
    ]

pub queue_first : (places : List ℕ) → ascends places ≡ true → IsFirstOf (queued places) (first_queued places)
queue_first [] h = λ p. refl
queue_first (first ∷ places) h = (
  or_left (first == first) (queued places first) (eq-eqb first first refl),
  λ p lt. or_none (first == p) (queued places p) (is_false (first == p) (λ e. let it = eqb-true first p e in absurd (omega arith)))
      (is_false (queued places p) (λ there. let later = least_first first places p h there in absurd (omega arith))),
)

-- the lesser of two least places
pub lesser_first : (a b : Option ℕ) (places others : ℕ → Bool) → IsFirstOf places a → IsFirstOf others b → IsFirstOf (λ p. places p || others p) (lesser a b)
lesser_first None None places others fa fb = λ p. or_none (places p) (others p) (fa p) (fb p)
lesser_first None (Some y) places others fa fb = (or_right (places y) (others y) fb.0, λ p lt. or_none (places p) (others p) (fa p) (fb.1 p lt))
lesser_first (Some x) None places others fa fb = (or_left (places x) (others x) fa.0, λ p lt. or_none (places p) (others p) (fa.1 p lt) (fb p))
lesser_first (Some x) (Some y) places others fa fb = by_test (nat_lt x y) refl where
  by_test : (b : Bool) → nat_lt x y ≡ b → IsFirstOf (λ p. places p || others p) (Some (if b then x else y))
  by_test true is = let lt = ltb-true x y is in (or_left (places x) (others x) fa.0, λ p below. or_none (places p) (others p) (fa.1 p below) (fb.1 p (omega arith)))
  by_test false is = let le = ltb-false x y is in (or_right (places y) (others y) fb.0, λ p below. or_none (places p) (others p) (fa.1 p (omega arith)) (fb.1 p below))

-- LEAVING

pub rest_ascends : (places : List ℕ) → ascends places ≡ true → ascends (drop 1 places) ≡ true
rest_ascends [] h = h
rest_ascends (first ∷ places) h = (both (is_before first places) (ascends places) h).1

pub rest_kept : (places : List ℕ) (p q : ℕ) → is_led_by places p ≡ true → (q ≡ p → ⊥) → queued places q ≡ true → queued (drop 1 places) q ≡ true
rest_kept [] p q led other h = h
rest_kept (first ∷ places) p q led other h = or_second (first == q) (queued places q) (λ e. let same = eqb-true first q e in let it = eqb-true first p led in other (omega arith)) h

pub rest_fewer : (places : List ℕ) (p : ℕ) → is_led_by places p ≡ true → length (drop 1 places) < length places
rest_fewer [] p led = absurd cc
rest_fewer (first ∷ places) p led = omega arith

-- the least place of a row that does not lead its queue is one of those that moved
pub is_moved : (row : Row) (p : ℕ) → ascends row.queue.items ≡ true → IsFirstOf (in_row row) (Some p) → is_led_by row.queue.items p ≡ false → set.contains nat_cmp row.moved p ≡ true
is_moved row p h least led = or_second (queued row.queue.items p) (set.contains nat_cmp row.moved p) (by_items row.queue.items h led (λ q there. least.1 q there)) least.0 where
  by_items : (places : List ℕ) → ascends places ≡ true → is_led_by places p ≡ false → ((q : ℕ) → q < p → (queued places q || set.contains nat_cmp row.moved q) ≡ false) → queued places p ≡ true → ⊥
  by_items [] order led out there = absurd cc
  by_items (first ∷ places) order led out there =
      let behind = or_second (first == p) (queued places p) (λ e. absurd cc) there in
      let below = out first (least_first first places p order behind) in
      let leads = or_left (queued (first ∷ places) first) (set.contains nat_cmp row.moved first) (or_left (first == first) (queued places first) (eq-eqb first first refl)) in
      absurd cc

-- JOINING

pub joined_ascends : (places : List ℕ) (p : ℕ) → is_last_below places p ≡ true → ascends places ≡ true → ascends (places ++ p ∷ []) ≡ true
joined_ascends [] p below h = refl
joined_ascends (last ∷ []) p below h = all_of (nat_lt last p) true below refl
joined_ascends (first ∷ second ∷ places) p below h =
    let parts = both (nat_lt first second) (ascends (second ∷ places)) h in
    all_of (nat_lt first second) (ascends ((second ∷ places) ++ p ∷ [])) parts.0 (joined_ascends (second ∷ places) p below parts.1)

pub joined_kept : (places : List ℕ) (p q : ℕ) → queued places q ≡ true → queued (places ++ p ∷ []) q ≡ true
joined_kept [] p q h = absurd cc
joined_kept (first ∷ places) p q h = or_later (first == q) (queued places q) (first == q) (queued (places ++ p ∷ []) q) (λ e. e) (joined_kept places p q) h

pub joined_there : (places : List ℕ) (p : ℕ) → queued (places ++ p ∷ []) p ≡ true
joined_there [] p = or_left (p == p) false (eq-eqb p p refl)
joined_there (first ∷ places) p = or_right (first == p) (queued (places ++ p ∷ []) p) (joined_there places p)

pub last_at : (places : List ℕ) (n x p : ℕ) → n + 1 ≡ length places → x ≡ slice_index_or places n x → x < p → is_last_below places p ≡ true
last_at [] n x p e is lt = refl
last_at (last ∷ []) zero x p e is lt = lt-ltb last p (subst (λ y. y < p) is lt)
last_at (last ∷ []) (suc n) x p e is lt = absurd (omega arith)
last_at (first ∷ second ∷ places) zero x p e is lt = absurd (omega arith)
last_at (first ∷ second ∷ places) (suc n) x p e is lt = last_at (second ∷ places) n x p (omega arith) is lt
