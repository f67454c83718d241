-- The homes of documents, by their numbers, are those of the tree.
use Rattle.std.proofs.Common.{◌≡◌, ℕ, zero, suc, ◌+◌, ◌<◌, List, [], ◌∷◌, ◌++◌, length, Option, Some, None, Bool, true, false, cond, refl, sym, ap, ◌∙◌, arith, eqb, get_or, reverse, take, add-one, append-nil}
use Rattle.std.specs.Prelude.{unwrap_or}
use Rattle.std.specs.Option.{option_eq}
use Rattle.std.specs.List.{range_with_len, filter}
use Rattle.std.proofs.lemmas.List.{take_more}
use Rattle.std.proofs.lemmas.List.Elements.{filter-append}
use Rattle.std.proofs.lemmas.Bool.{ne_eqb}
use Rattle.tree_log.specs.declared.entry.Entry.{Entry}
use Rattle.tree_log.specs.Facts.{bears, newest, no_birth, gathered}
use Rattle.tree_log.specs.Tree.{tree_of, home_of}
use Rattle.tree_log.specs.Blanking.{is_homed}
use Rattle.tree_log.proofs.Places.{reverse_push}

-- what entries make, oldest first, with one more
pub gathered_more : {A : Type 0} (step : Entry → A → A) (first : A) (xs : List Entry) (i : ℕ) (e : Entry) → i < length xs
    → gathered step first (reverse (take (i + 1) xs)) ≡ step (get_or xs i e) (gathered step first (reverse (take i xs)))
gathered_more step first xs i e lt =
    ap (λ ys. gathered step first (reverse ys)) (take_more xs i e lt) ∙ ap (gathered step first) (reverse_push (take i xs) (get_or xs i e))

-- the home of a document after entries, oldest first, with one more
pub home_more : (xs : List Entry) (i d : ℕ) (e : Entry) → i < length xs
    → home_of (tree_of (reverse (take (i + 1) xs))) d ≡ (unwrap_or (bears d (get_or xs i e).what) ((tree_of (reverse (take i xs))).doc d).born).home
unfolding tree_of
home_more xs i d e lt =
    ap (λ ys. (newest (λ (x : Entry). bears d x.what) no_birth (reverse ys)).home) (take_more xs i e lt)
    ∙ ap (λ ys. (newest (λ (x : Entry). bears d x.what) no_birth ys).home) (reverse_push (take i xs) (get_or xs i e))

range_more : (a n : ℕ) → range_with_len a (suc n) ≡ range_with_len a n ++ (a + n) ∷ []
range_more a zero = ap (λ m. m ∷ []) (omega arith)
range_more a (suc n) = ap (λ ms. a ∷ ms) (range_more (a + 1) n ∙ ap (λ m. range_with_len (a + 1) n ++ m ∷ []) (omega arith))

numbers_more : (n : ℕ) → range_with_len 0 (n + 1) ≡ range_with_len 0 n ++ n ∷ []
numbers_more n = ap (range_with_len 0) (add-one n) ∙ range_more 0 n ∙ ap (λ m. range_with_len 0 n ++ m ∷ []) (omega arith)

-- the numbers that pass, with one more number
pub passing_more : (p : ℕ → Bool) (n : ℕ) → filter p (range_with_len 0 (n + 1)) ≡ filter p (range_with_len 0 n) ++ cond (p n) (n ∷ []) []
passing_more p n = ap (filter p) (numbers_more n) ∙ filter-append p (range_with_len 0 n) (n ∷ [])

is_in_row : (r : ℕ) (home : Option ℕ) → r < 65536 → eqb (unwrap_or home 65536) r ≡ option_eq eqb home (Some r)
is_in_row r None lt = ne_eqb 65536 r (λ e. omega (arith, e))
is_in_row r (Some home) lt = refl

-- whether a document is homed at a renderer, by its row
pub homed_by_row : (log : List Entry) (rows : List (Option ℕ)) (r d : ℕ) → home_of (tree_of log) d ≡ unwrap_or (get_or rows d None) 65536 → r < 65536
    → is_homed (tree_of log) r d ≡ option_eq eqb (get_or rows d None) (Some r)
homed_by_row log rows r d told fits = ap (λ h. eqb h r) told ∙ is_in_row r (get_or rows d None) fits

-- a document that passes, and one that does not
pub passes : (p : ℕ → Bool) (n : ℕ) (kept : List ℕ) → kept ≡ filter p (range_with_len 0 n) → p n ≡ true → kept ++ n ∷ [] ≡ filter p (range_with_len 0 (n + 1))
passes p n kept e it = rw e (sym (passing_more p n ∙ rw it refl))

pub fails : (p : ℕ → Bool) (n : ℕ) (kept : List ℕ) → kept ≡ filter p (range_with_len 0 n) → p n ≡ false → kept ≡ filter p (range_with_len 0 (n + 1))
fails p n kept e it = e ∙ sym (passing_more p n ∙ rw it (append-nil (filter p (range_with_len 0 n))))
