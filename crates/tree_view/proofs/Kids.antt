-- The children of a document, row by row.
use Rattle.std.proofs.Common.{◌≡◌, ℕ, suc, ◌+◌, ◌<◌, List, ◌∷◌, ◌++◌, Some, Bool, true, false, cond, not, refl, ap, sym, ◌∙◌, bytes_eq, ◌&&◌, length, drop, get_or, find, filter, add-one}
use Rattle.std.proofs.Math.Seq.{drop-cons}
use Rattle.tree_view.specs.declared.plain.rows.NavRow.{NavRow}
use Rattle.tree_view.specs.Rows.{no_nav, numbers_of, is_embedded_by, is_kid, if_so, stays, kids_from}

one : (p : ℕ → Bool) (i : ℕ) (a b : Bool) (rest : List ℕ) → p i ≡ not b → filter p (if_so a i ++ rest) ≡ cond (a && not b) (i ∷ filter p rest) (filter p rest)
one p i false b rest h = refl
one p i true b rest h = ap (λ v. cond v (i ∷ filter p rest) (filter p rest)) h

pub kids_step : (navs : List NavRow) (d i : ℕ) → i < length navs → kids_from navs d i ≡ cond (is_kid d (get_or navs i no_nav)) (i ∷ kids_from navs d (i + 1)) (kids_from navs d (i + 1))
kids_step navs d i h =
    ap (λ rows. filter (stays navs) (numbers_of (is_embedded_by d) i rows)) (drop-cons navs i no_nav h)
    ∙ one (stays navs) i (is_embedded_by d (get_or navs i no_nav)) (get_or navs i no_nav).dropped (numbers_of (is_embedded_by d) (suc i) (drop (suc i) navs)) refl
    ∙ ap (λ k. cond (is_kid d (get_or navs i no_nav)) (i ∷ kids_from navs d k) (kids_from navs d k)) (sym (add-one i))

-- whether row n has the name
abbrev pub has_name : List NavRow → List ℕ → ℕ → Bool
has_name navs name n = bytes_eq (get_or navs n no_nav).name name

first : (q : ℕ → Bool) (b : Bool) (i : ℕ) (rest : List ℕ) → find q (cond b (i ∷ rest) rest) ≡ cond (b && q i) (Some i) (find q rest)
first q true i rest = refl
first q false i rest = refl

pub named_step : (navs : List NavRow) (name : List ℕ) (d i : ℕ) → i < length navs
    → find (has_name navs name) (kids_from navs d i) ≡ cond (is_kid d (get_or navs i no_nav) && has_name navs name i) (Some i) (find (has_name navs name) (kids_from navs d (i + 1)))
named_step navs name d i h = ap (find (has_name navs name)) (kids_step navs d i h) ∙ first (has_name navs name) (is_kid d (get_or navs i no_nav)) i (kids_from navs d (i + 1))
