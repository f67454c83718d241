-- Marks of the renderers that are lost: how many there are.
use Rattle.std.proofs.Common.{◌≡◌, ℕ, zero, suc, ◌≤◌, ◌<◌, List, [], ◌∷◌, length, Bool, true, false, refl, ap, arith}
use Rattle.std.specs.Prelude.{get_or, slice_set}
use Rattle.desk.specs.Books.{count_true}

-- no more than there are renderers
pub count_within : (bs : List Bool) → count_true bs ≤ length bs
count_within [] = omega arith
count_within (true ∷ bs) = let le = count_within bs in omega arith
count_within (false ∷ bs) = let le = count_within bs in omega arith

-- one more once one is marked that wasn't
pub count_marked : (bs : List Bool) (r : ℕ) → r < length bs → get_or bs r false ≡ false → count_true (slice_set bs r true) ≡ suc (count_true bs)
count_marked [] r lt h = absurd (omega arith)
count_marked (true ∷ bs) zero lt h = absurd cc
count_marked (false ∷ bs) zero lt h = omega arith
count_marked (b ∷ bs) (suc r) lt h = let more = count_marked bs r (omega arith) h in omega (arith, more)

pub length_marked : (bs : List Bool) (r : ℕ) (b : Bool) → length (slice_set bs r b) ≡ length bs
length_marked [] r b = refl
length_marked (x ∷ bs) zero b = refl
length_marked (x ∷ bs) (suc r) b = ap (λ n. suc n) (length_marked bs r b)

-- the mark that was written, and each other
pub marked : (bs : List Bool) (r : ℕ) (b : Bool) → r < length bs → get_or (slice_set bs r b) r false ≡ b
marked [] r b lt = absurd (omega arith)
marked (x ∷ bs) zero b lt = refl
marked (x ∷ bs) (suc r) b lt = marked bs r b (omega arith)

pub unmarked : (bs : List Bool) (r k : ℕ) (b : Bool) → (r ≡ k → ⊥) → get_or (slice_set bs r b) k false ≡ get_or bs k false
unmarked [] r k b ne = refl
unmarked (x ∷ bs) zero zero b ne = absurd (ne refl)
unmarked (x ∷ bs) zero (suc k) b ne = refl
unmarked (x ∷ bs) (suc r) zero b ne = refl
unmarked (x ∷ bs) (suc r) (suc k) b ne = unmarked bs r k b (λ e. ne (ap (λ n. suc n) e))
