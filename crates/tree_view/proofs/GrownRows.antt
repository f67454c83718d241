-- The tree that the rows say grew an entry at a time.
use Rattle.std.proofs.Common.{◌≡◌, ℕ, suc, ◌+◌, ◌<◌, List, [], ◌∷◌, ◌++◌, length, get_or, Option, Some, None, Bool, true, false, cond, refl, ap, sym, ◌∙◌, arith, filter, not, ◌&&◌, nat_lt}
use Rattle.std.specs.List.{range_with_len}
use Rattle.std.specs.Prelude.{is_some, is_none}
use Rattle.std.proofs.lemmas.Bool.Decides.{nat_tests}
use Rattle.tree_log.specs.Tree.{is, is_top_level, embedder}
use Rattle.tree_view.specs.declared.plain.rows.PlainView.{PlainView}
use Rattle.tree_view.specs.Grown.{IsGrown}
use Rattle.tree_view.specs.Rows.{no_nav, if_so, numbers_of, is_embedded_by, is_top}
use Rattle.tree_view.specs.Shown.{tree_shown}

passed : (b : Bool) (k : ℕ) (rest : List ℕ) → if_so b k ++ rest ≡ cond b (k ∷ rest) rest
passed true k rest = refl
passed false k rest = refl

-- the numbers of the rows that pass are the numbers that pass
numbers_are : {A : Type 0} (test : A → Bool) (z : A) (p : ℕ → Bool) (k : ℕ) (rows : List A) → ((i : ℕ) → i < length rows → p (k + i) ≡ test (get_or rows i z)) → numbers_of test k rows ≡ filter p (range_with_len k (length rows))
numbers_are test z p k [] same = refl
numbers_are test z p k (row ∷ rows) same =
    passed (test row) k (numbers_of test (suc k) rows)
    ∙ ap (λ ns. cond (test row) (k ∷ ns) ns) (numbers_are test z p (suc k) rows (λ i lt. ap p (omega arith) ∙ same (suc i) (omega arith)))
    ∙ ap (λ (b : Bool). cond b (k ∷ filter p (range_with_len (suc k) (length rows))) (filter p (range_with_len (suc k) (length rows)))) (sym (same 0 (omega arith)) ∙ ap p (omega arith))
    ∙ ap (λ j. cond (p k) (k ∷ filter p (range_with_len j (length rows))) (filter p (range_with_len j (length rows)))) (omega arith)

top_by_row : (there g e : Bool) → there ≡ true → g ≡ not e → (there && not e) ≡ g
top_by_row there g e a b = rw (a, b) refl

below : (a b : ℕ) → a < b → nat_lt a b ≡ true
below a b h = grind (arith, nat_tests)

none_or_not : (e : Option ℕ) → is_none e ≡ not (is_some e)
none_or_not None = refl
none_or_not (Some n) = refl

pub rows_grown : (v : PlainView) → IsGrown (tree_shown v)
rows_grown v = record {
  ordered = v.parents_first;
  shows_its_own = v.show_their_own;
  frames = λ d. numbers_are (is_embedded_by d) no_nav (λ n. is (embedder (tree_shown v) n) d) 0 v.navs.items (λ i lt. ap (λ n. is (embedder (tree_shown v) n) d) (omega arith));
  tops = numbers_are is_top no_nav (is_top_level (tree_shown v)) 0 v.navs.items (λ i lt.
      ap (is_top_level (tree_shown v)) (omega arith)
      ∙ ap (λ b. nat_lt i (length v.navs.items) && b) (none_or_not (get_or v.navs.items i no_nav).made.embedder)
      ∙ top_by_row (nat_lt i (length v.navs.items)) (is_top (get_or v.navs.items i no_nav)) (is_some (get_or v.navs.items i no_nav).made.embedder) (below i (length v.navs.items) lt) ((v.navs_closed i no_nav lt).group));
}
