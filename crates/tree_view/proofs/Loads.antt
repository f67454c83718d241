-- The list of loaded documents, after a push, and what it names.
use Rattle.std.proofs.Common.{◌≡◌, ℕ, zero, suc, ◌+◌, ◌<◌, ◌≤◌, List, [], ◌∷◌, ◌++◌, length, get_or, Option, Some, None, Bool, true, false, refl, sym, ap, ◌∙◌, arith, append-nil, append_assoc, length-append}
use Rattle.std.specs.Prelude.{All}
use Rattle.std.specs.Option.{ForSome}
use Rattle.std.proofs.lemmas.List.Elements.{All-append}
use Rattle.tree_view.specs.declared.plain.rows.DocRow.{DocRow}
use Rattle.tree_view.specs.Rows.{if_so, numbers_of, is_loaded, new_docs, new_loads}
use Rattle.tree_view.proofs.Numbers.{numbers_push}

pub loads_push : (docs : List DocRow) (row : DocRow) → row.loaded ≡ true → numbers_of is_loaded 0 (docs ++ row ∷ []) ≡ numbers_of is_loaded 0 docs ++ length docs ∷ []
loads_push docs row h = numbers_push is_loaded 0 docs row ∙ ap (λ (b : Bool). numbers_of is_loaded 0 docs ++ if_so b (0 + length docs)) h ∙ ap (λ (n : ℕ). numbers_of is_loaded 0 docs ++ n ∷ []) (omega arith)

loads_pass : (docs : List DocRow) (row : DocRow) → row.loaded ≡ false → numbers_of is_loaded 0 (docs ++ row ∷ []) ≡ numbers_of is_loaded 0 docs
loads_pass docs row h = numbers_push is_loaded 0 docs row ∙ ap (λ (b : Bool). numbers_of is_loaded 0 docs ++ if_so b (0 + length docs)) h ∙ append-nil (numbers_of is_loaded 0 docs)

pub loads_new : (docs : List DocRow) (initial : DocRow) (loaded : Option DocRow) → initial.loaded ≡ false → ForSome loaded (λ d. d.loaded ≡ true)
    → numbers_of is_loaded 0 (docs ++ new_docs initial loaded) ≡ numbers_of is_loaded 0 docs ++ new_loads (length docs) loaded
loads_new docs initial None h marked = loads_pass docs initial h ∙ sym (append-nil (numbers_of is_loaded 0 docs))
loads_new docs initial (Some row) h marked =
    ap (numbers_of is_loaded 0) (sym (append_assoc docs (initial ∷ []) (row ∷ [])))
    ∙ loads_push (docs ++ initial ∷ []) row (marked row refl)
    ∙ ap (λ (n : ℕ). numbers_of is_loaded 0 (docs ++ initial ∷ []) ++ n ∷ []) (length-append docs (initial ∷ []))
    ∙ ap (λ (ns : List ℕ). ns ++ (length docs + 1) ∷ []) (loads_pass docs initial h)

one_below : (b : Bool) (k n : ℕ) → k < n → All (λ m. m < n) (if_so b k)
one_below true k n lt = λ i d le. single i d le
  where
    single : (i d : ℕ) → i < 1 → get_or (k ∷ []) i d < n
    single zero d le = lt
    single (suc i) d le = absurd (omega arith)
one_below false k n lt = λ i d le. absurd (omega arith)

below : (k n : ℕ) (docs : List DocRow) → k + length docs ≤ n → All (λ m. m < n) (numbers_of is_loaded k docs)
below k n [] le = λ i d lt. absurd (omega arith)
below k n (row ∷ rows) le = All-append (λ m. m < n) (if_so (is_loaded row) k) (numbers_of is_loaded (suc k) rows) (one_below (is_loaded row) k n (omega arith)) (below (suc k) n rows (omega arith))

-- each loaded document is there
pub loads_there : (docs : List DocRow) → All (λ m. m < length docs) (numbers_of is_loaded 0 docs)
loads_there docs = below 0 (length docs) docs (omega arith)
