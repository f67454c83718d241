-- The children of a document behind one of them, row by row.
use Rattle.std.proofs.Common.{◌≡◌, ℕ, zero, suc, ◌+◌, ◌<◌, List, [], ◌∷◌, Bool, true, false, cond, refl, ap, ◌∙◌, length, get_or, inl, inr, arith, eqb, eq-eqb, filter, ◌&&◌, Some, None}
use Rattle.std.proofs.lemmas.List.{drop_all}
use Rattle.std.proofs.lemmas.Bool.Decides.{eqb_tells}
use Rattle.tree_log.specs.Siblings.{behind, children_behind, later_siblings, first_if_any, next_sibling}
use Rattle.tree_log.specs.Tree.{Tree, embedder, is_active, children_of}
use Rattle.tree_log.proofs.Admitted.{both}
use Rattle.tree_view.specs.declared.plain.rows.NavRow.{NavRow}
use Rattle.tree_view.specs.Rows.{no_nav, is_kid, numbers_of, is_embedded_by, stays, kids_from}
use Rattle.tree_view.specs.declared.plain.rows.PlainView.{PlainView}
use Rattle.tree_view.specs.Shown.{tree_shown}
use Rattle.tree_view.proofs.Kids.{kids_step}

-- behind n, a first one that is n, and one that is another
at_it : (n i : ℕ) (rest : List ℕ) → i ≡ n → (b : Bool) → b ≡ true → behind n (cond b (i ∷ rest) rest) ≡ rest
at_it n i rest same true is = rw (eq-eqb i n same) refl
at_it n i rest same false is = absurd cc

past : (n i : ℕ) (rest : List ℕ) → eqb i n ≡ false → (b : Bool) → behind n (cond b (i ∷ rest) rest) ≡ behind n rest
past n i rest other true = rw other refl
past n i rest other false = refl

-- behind a child stand those of greater numbers
pub behind_kid : (navs : List NavRow) (d n i j : ℕ) → i + j ≡ n → n < length navs → is_kid d (get_or navs n no_nav) ≡ true → behind n (kids_from navs d i) ≡ kids_from navs d (n + 1)
behind_kid navs d n i zero sum lt kid =
    let same : i ≡ n = omega (arith, sum) in
    ap (behind n) (kids_step navs d i (omega (arith, sum, lt)))
    ∙ at_it n i (kids_from navs d (i + 1)) same (is_kid d (get_or navs i no_nav)) (ap (λ m. is_kid d (get_or navs m no_nav)) same ∙ kid)
    ∙ ap (λ m. kids_from navs d (m + 1)) same
behind_kid navs d n i (suc j) sum lt kid = elim (eqb_tells i n) [
  | inl p ↦ absurd (omega (arith, sum, p.1))
  | inr p ↦
      ap (behind n) (kids_step navs d i (omega (arith, sum, lt)))
      ∙ past n i (kids_from navs d (i + 1)) p.0 (is_kid d (get_or navs i no_nav))
      ∙ behind_kid navs d n (i + 1) j (omega (arith, sum)) lt kid
]

-- behind what is no child stands nothing
pub behind_none : (navs : List NavRow) (d n i j : ℕ) → i + j ≡ length navs → is_kid d (get_or navs n no_nav) ≡ false → behind n (kids_from navs d i) ≡ []
behind_none navs d n i zero sum kid = ap (λ rows. behind n (filter (stays navs) (numbers_of (is_embedded_by d) i rows))) (drop_all i navs (omega (arith, sum)))
behind_none navs d n i (suc j) sum kid = elim (eqb_tells i n) [
  | inl p ↦
      ap (behind n) (kids_step navs d i (omega (arith, sum)))
      ∙ ap (λ b. behind n (cond b (i ∷ kids_from navs d (i + 1)) (kids_from navs d (i + 1)))) (ap (λ m. is_kid d (get_or navs m no_nav)) p.1 ∙ kid)
      ∙ behind_none navs d n (i + 1) j (omega (arith, sum)) kid
  | inr p ↦
      ap (behind n) (kids_step navs d i (omega (arith, sum)))
      ∙ past n i (kids_from navs d (i + 1)) p.0 (is_kid d (get_or navs i no_nav))
      ∙ behind_none navs d n (i + 1) j (omega (arith, sum)) kid
]

-- the next sibling of what nothing embeds, and of what a document embeds
pub next_of_top : (t : Tree) (n : ℕ) → embedder t n ≡ None → next_sibling t n ≡ None
unfolding next_sibling later_siblings
next_of_top t n is = ap (λ e. first_if_any (children_behind t n e)) is

next_of : (t : Tree) (n d : ℕ) → embedder t n ≡ Some d → next_sibling t n ≡ first_if_any (behind n (children_of t d))
unfolding next_sibling later_siblings
next_of t n d is = ap (λ e. first_if_any (children_behind t n e)) is

kids_are : (v : PlainView) (d : ℕ) → is_active (tree_shown v) d ≡ true → children_of (tree_shown v) d ≡ kids_from v.navs.items d 0
unfolding children_of
kids_are v d a = ap (λ b. cond b (kids_from v.navs.items d 0) []) a

no_kids : (v : PlainView) (d : ℕ) → is_active (tree_shown v) d ≡ false → children_of (tree_shown v) d ≡ []
unfolding children_of
no_kids v d a = ap (λ b. cond b (kids_from v.navs.items d 0) []) a

pub next_of_child : (v : PlainView) (n d : ℕ) → n < length v.navs.items → embedder (tree_shown v) n ≡ Some d → (is_kid d (get_or v.navs.items n no_nav) && is_active (tree_shown v) d) ≡ true
    → next_sibling (tree_shown v) n ≡ first_if_any (kids_from v.navs.items d (n + 1))
next_of_child v n d lt is child =
    let a = both (is_kid d (get_or v.navs.items n no_nav)) (is_active (tree_shown v) d) child in
    next_of (tree_shown v) n d is ∙ ap (λ ns. first_if_any (behind n ns)) (kids_are v d a.1) ∙ ap first_if_any (behind_kid v.navs.items d n 0 n (omega arith) lt a.0)

pub next_of_other : (v : PlainView) (n d : ℕ) → embedder (tree_shown v) n ≡ Some d → (is_kid d (get_or v.navs.items n no_nav) && is_active (tree_shown v) d) ≡ false → next_sibling (tree_shown v) n ≡ None
next_of_other v n d is other = next_of (tree_shown v) n d is ∙ go (is_kid d (get_or v.navs.items n no_nav)) (is_active (tree_shown v) d) refl refl other
  where
    go : (kid active : Bool) → is_kid d (get_or v.navs.items n no_nav) ≡ kid → is_active (tree_shown v) d ≡ active → (kid && active) ≡ false → first_if_any (behind n (children_of (tree_shown v) d)) ≡ None
    go true true k a h = absurd cc
    go kid false k a h = ap (λ ns. first_if_any (behind n ns)) (no_kids v d a)
    go false true k a h = ap (λ ns. first_if_any (behind n ns)) (kids_are v d a) ∙ ap first_if_any (behind_none v.navs.items d n 0 (length v.navs.items) (omega arith) k)
