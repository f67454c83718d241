-- The numbers of rows that pass a test, after a write and after a push.
use Rattle.std.proofs.Common.{◌≡◌, ◌≢◌, ℕ, zero, suc, ◌+◌, ◌<◌, List, [], ◌∷◌, ◌++◌, length, set, get_or, Bool, true, false, cond, refl, ap, sym, ◌∙◌, subst, inl, inr, arith, eqb, eqb-true, append_assoc, append-nil, get_or-set_same, get_or-set_other}
use Rattle.std.proofs.Math.ListN.{get_or-eq_default}
use Rattle.std.proofs.Math.Seq.{get_or-append_seam}
use Rattle.std.proofs.lemmas.Bool.Decides.{eqb_tells}
use Rattle.tree_view.specs.Rows.{if_so, numbers_of}

-- a list at a place, after a write and after a push
pub set_at : {A : Type 0} (xs : List A) (i n : ℕ) (x d : A) → i < length xs → get_or (set xs i x) n d ≡ cond (eqb i n) x (get_or xs n d)
set_at xs i n x d h = elim (eqb_tells i n) [
  | inl p ↦ rw p.0 (subst (λ m. get_or (set xs i x) m d ≡ x) p.1 (get_or-set_same xs i x d h))
  | inr p ↦ rw p.0 (get_or-set_other xs i n x d (λ e. p.1 (sym e)))
]

other_place : {A : Type 0} (xs : List A) (n : ℕ) (x d : A) → length xs ≢ n → get_or (xs ++ x ∷ []) n d ≡ get_or xs n d
other_place [] zero x d h = absurd (h refl)
other_place [] (suc n) x d h = refl
other_place (y ∷ xs) zero x d h = refl
other_place (y ∷ xs) (suc n) x d h = other_place xs n x d (λ e. h (ap suc e))

pub add_at : {A : Type 0} (xs : List A) (n : ℕ) (x d : A) → get_or (xs ++ x ∷ []) n d ≡ cond (eqb (length xs) n) x (get_or xs n d)
add_at xs n x d = elim (eqb_tells (length xs) n) [
  | inl p ↦ rw p.0 (subst (λ m. get_or (xs ++ x ∷ []) m d ≡ x) p.1 (get_or-append_seam xs x [] d))
  | inr p ↦ rw p.0 (other_place xs n x d p.1)
]

-- a row that is written, and a row that is pushed, seen as what it says
picks : {A B : Type 0} (view : A → B) (g : B → B) (b : Bool) (row r : A) → (b ≡ true → view row ≡ g (view r)) → view (cond b row r) ≡ cond b (g (view r)) (view r)
picks view g true row r is = is refl
picks view g false row r is = refl

pub write_row : {A B : Type 0} (view : A → B) (g : B → B) (rows : List A) (i n : ℕ) (d row : A) → i < length rows → view row ≡ g (view (get_or rows i d))
    → view (get_or (set rows i row) n d) ≡ cond (eqb i n) (g (view (get_or rows n d))) (view (get_or rows n d))
write_row view g rows i n d row h is =
    ap view (set_at rows i n row d h) ∙ picks view g (eqb i n) row (get_or rows n d) (λ e. is ∙ ap (λ m. g (view (get_or rows m d))) (eqb-true i n e))

pub push_row : {A B : Type 0} (view : A → B) (g : B → B) (rows : List A) (i n : ℕ) (d row : A) → length rows ≡ i → view row ≡ g (view d)
    → view (get_or (rows ++ row ∷ []) n d) ≡ cond (eqb i n) (g (view (get_or rows n d))) (view (get_or rows n d))
push_row view g rows i n d row h is =
    let fresh : d ≡ get_or rows (length rows) d = sym (get_or-eq_default rows d (omega arith)) in
    ap view (add_at rows n row d)
    ∙ picks view g (eqb (length rows) n) row (get_or rows n d) (λ e. is ∙ ap (λ r. g (view r)) fresh ∙ ap (λ m. g (view (get_or rows m d))) (eqb-true (length rows) n e))
    ∙ ap (λ m. cond (eqb m n) (g (view (get_or rows n d))) (view (get_or rows n d))) h

-- numbers of the rows: a write that passes as the row before, and a push
pub numbers_set : {A : Type 0} (test : A → Bool) (k i : ℕ) (rows : List A) (row d : A) → test row ≡ test (get_or rows i d) → numbers_of test k (set rows i row) ≡ numbers_of test k rows
numbers_set test k i [] row d h = refl
numbers_set test k zero (r ∷ rs) row d h = ap (λ b. if_so b k ++ numbers_of test (suc k) rs) h
numbers_set test k (suc i) (r ∷ rs) row d h = ap (λ ys. if_so (test r) k ++ ys) (numbers_set test (suc k) i rs row d h)

pub numbers_push : {A : Type 0} (test : A → Bool) (k : ℕ) (rows : List A) (row : A) → numbers_of test k (rows ++ row ∷ []) ≡ numbers_of test k rows ++ if_so (test row) (k + length rows)
numbers_push test k [] row = append-nil (if_so (test row) k) ∙ ap (if_so (test row)) (omega arith)
numbers_push test k (r ∷ rs) row =
    ap (λ ys. if_so (test r) k ++ ys) (numbers_push test (suc k) rs row)
    ∙ sym (append_assoc (if_so (test r) k) (numbers_of test (suc k) rs) (if_so (test row) (suc k + length rs)))
    ∙ ap (λ m. (if_so (test r) k ++ numbers_of test (suc k) rs) ++ if_so (test row) m) (omega arith)
