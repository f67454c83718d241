-- Lists by number.
use Rattle.std.proofs.Common.{◌≡◌, ◌≢◌, ℕ, zero, suc, ◌<◌, List, [], ◌∷◌, length, get_or, Some, refl, ap, arith}
use Rattle.std.specs.Prelude.{slice_get, slice_set, map}

pub get_default : (xs : List ℕ) (i x : ℕ) → i < length xs → get_or xs i x ≡ get_or xs i 0
get_default [] i x h = absurd (omega arith)
get_default (y ∷ xs) zero x h = refl
get_default (y ∷ xs) (suc i) x h = get_default xs i x (omega arith)

pub at_read : (xs : List ℕ) (i : ℕ) → i < length xs → slice_get xs i ≡ Some (get_or xs i 0)
at_read [] i h = absurd (omega arith)
at_read (x ∷ xs) zero h = refl
at_read (x ∷ xs) (suc i) h = at_read xs i (omega arith)

pub set_same : {A : Type 0} (xs : List A) (i : ℕ) (x : A) → i < length xs → slice_get (slice_set xs i x) i ≡ Some x
set_same [] i x h = absurd (omega arith)
set_same (y ∷ xs) zero x h = refl
set_same (y ∷ xs) (suc i) x h = set_same xs i x (omega arith)

pub set_other : {A : Type 0} (xs : List A) (i j : ℕ) (x : A) → i ≢ j → slice_get (slice_set xs i x) j ≡ slice_get xs j
set_other [] i j x h = refl
set_other (y ∷ xs) zero zero x h = absurd (h refl)
set_other (y ∷ xs) zero (suc j) x h = refl
set_other (y ∷ xs) (suc i) zero x h = refl
set_other (y ∷ xs) (suc i) (suc j) x h = set_other xs i j x (λ e. h (ap suc e))

pub set_length : {A : Type 0} (xs : List A) (i : ℕ) (x : A) → length (slice_set xs i x) ≡ length xs
set_length [] i x = refl
set_length (y ∷ xs) zero x = refl
set_length (y ∷ xs) (suc i) x = ap suc (set_length xs i x)

pub set_here : {A : Type 0} (xs : List A) (i : ℕ) (x : A) → slice_get xs i ≡ Some x → slice_set xs i x ≡ xs
set_here [] i x h = refl
set_here (y ∷ xs) zero x h = ap (λ z. z ∷ xs) (let e = h in cc)
set_here (y ∷ xs) (suc i) x h = ap (λ zs. y ∷ zs) (set_here xs i x h)

pub get_map : {A B : Type 0} (f : A → B) (xs : List A) (i : ℕ) (x : A) → slice_get xs i ≡ Some x → slice_get (map f xs) i ≡ Some (f x)
get_map f [] i x h = absurd cc
get_map f (y ∷ xs) zero x h = let e : y ≡ x = cc in ap (λ z. Some (f z)) e
get_map f (y ∷ xs) (suc i) x h = get_map f xs i x h

pub set_map : {A B : Type 0} (f : A → B) (xs : List A) (i : ℕ) (x : A) → map f (slice_set xs i x) ≡ slice_set (map f xs) i (f x)
set_map f [] i x = refl
set_map f (y ∷ xs) zero x = refl
set_map f (y ∷ xs) (suc i) x = ap (λ zs. f y ∷ zs) (set_map f xs i x)

pub map_length : {A B : Type 0} (f : A → B) (xs : List A) → length (map f xs) ≡ length xs
map_length f [] = refl
map_length f (x ∷ xs) = ap suc (map_length f xs)

pub read_same : (xs : List ℕ) (i x : ℕ) → i < length xs → get_or (slice_set xs i x) i 0 ≡ x
read_same [] i x h = absurd (omega arith)
read_same (y ∷ xs) zero x h = refl
read_same (y ∷ xs) (suc i) x h = read_same xs i x (omega arith)

pub read_other : (xs : List ℕ) (i j x : ℕ) → i ≢ j → get_or (slice_set xs i x) j 0 ≡ get_or xs j 0
read_other [] i j x h = refl
read_other (y ∷ xs) zero zero x h = absurd (h refl)
read_other (y ∷ xs) zero (suc j) x h = refl
read_other (y ∷ xs) (suc i) zero x h = refl
read_other (y ∷ xs) (suc i) (suc j) x h = read_other xs i j x (λ e. h (ap suc e))
