-- The list of the documents homed at a renderer has each of them, and no other.
use Rattle.std.proofs.Common.{◌≡◌, ℕ, zero, suc, ◌+◌, ◌<◌, ◌≤◌, List, [], ◌∷◌, Bool, true, false, cond, refl, sym, ap, ◌∙◌, inl, inr, arith}
use Rattle.std.specs.Prelude.{◌==◌}
use Rattle.std.specs.List.{filter, range_with_len}
use Rattle.std.proofs.lemmas.Bool.Decides.{eqb_tells}
use Rattle.tree_log.specs.Tree.{Tree}
use Rattle.tree_log.specs.Blanking.{is_homed, is_kept, homed_at}

-- a number in front that isn't the one that is looked for
passed_over : (d a : ℕ) (b : Bool) (rest : List ℕ) → (a == d) ≡ false → is_kept (cond b (a ∷ rest) rest) d ≡ is_kept rest d
passed_over d a true rest e = rw e refl
passed_over d a false rest e = refl

every : (p : ℕ → Bool) (a n d : ℕ) → a ≤ d → d < a + n → p d ≡ true → is_kept (filter p (range_with_len a n)) d ≡ true
every p a zero d le lt it = absurd (omega arith)
every p a (suc n) d le lt it = elim (eqb_tells a d) as (λ _. is_kept (cond (p a) (a ∷ filter p (range_with_len (a + 1) n)) (filter p (range_with_len (a + 1) n))) d ≡ true) [
  | inl q ↦ rw (ap p q.1 ∙ it, q.0) refl
  | inr q ↦ passed_over d a (p a) (filter p (range_with_len (a + 1) n)) q.0 ∙ every p (a + 1) n d (omega (arith, q.1)) (omega arith) it
]

only_in : (p : ℕ → Bool) (d x : ℕ) (rest : List ℕ) (b : Bool) → p x ≡ b → (is_kept rest d ≡ true → p d ≡ true) → is_kept (cond b (x ∷ rest) rest) d ≡ true → p d ≡ true
only_in p d x rest true e later h = elim (eqb_tells x d) [
  | inl q ↦ ap p (sym q.1) ∙ e
  | inr q ↦ later (sym (passed_over d x true rest q.0) ∙ h)
]
only_in p d x rest false e later h = later h

only : (p : ℕ → Bool) (d : ℕ) (xs : List ℕ) → is_kept (filter p xs) d ≡ true → p d ≡ true
only p d [] h = absurd cc
only p d (x ∷ xs) h = only_in p d x (filter p xs) (p x) refl (λ later. only p d xs later) h

pub kept_every : (t : Tree) (r d : ℕ) → d < t.docs → is_homed t r d ≡ true → is_kept (homed_at t r) d ≡ true
kept_every t r d lt it = every (is_homed t r) 0 t.docs d (omega arith) (omega arith) it

pub kept_only : (t : Tree) (r d : ℕ) → is_kept (homed_at t r) d ≡ true → is_homed t r d ≡ true
kept_only t r d h = only (is_homed t r) d (range_with_len 0 t.docs) h

pub ruleset kept_laws = (kept_every, kept_only)
