-- What a write to one row keeps: to that of a document, where it stays that of its navigable and loaded as it was, and to
-- that of a navigable.
use Rattle.std.proofs.Common.{◌≡◌, ℕ, ◌<◌, List, length, set, get_or, Bool, true, false, cond, refl, sym, ap, subst, ◌∙◌, arith, eqb, length-set}
use Rattle.std.specs.Prelude.{All}
use Rattle.std.proofs.lemmas.List.{get_or_read_under}
use Rattle.tree_view.specs.declared.plain.rows.MadeRow.{MadeRow}
use Rattle.tree_view.specs.declared.plain.rows.NavRow.{NavRow}
use Rattle.tree_view.specs.declared.plain.rows.DocRow.{DocRow}
use Rattle.tree_view.specs.Rows.{no_nav, no_doc, numbers_of, is_loaded}
use Rattle.tree_view.specs.Closed.{NavClosed, DocClosed, ParentsFirst, ShowTheirOwn}
use Rattle.tree_view.proofs.Numbers.{numbers_set, set_at, write_row}
use Rattle.tree_view.proofs.Closing.{AreClosed}

either : (b : Bool) (n : ℕ) → cond b n n ≡ n
either true n = refl
either false n = refl

-- the rows after the write
pub record IsRewritten (navs : List NavRow) (docs later : List DocRow) : Type 0 where
  pub few_docs : length later < 4294967296
  pub closed : AreClosed navs later
  pub loads : numbers_of is_loaded 0 docs ≡ numbers_of is_loaded 0 later

pub rewritten : (navs : List NavRow) (docs : List DocRow) (i : ℕ) (row old : DocRow) → length docs < 4294967296
    → All (NavClosed (length navs) (length docs)) navs → All (DocClosed (length navs)) docs → ParentsFirst navs docs
    → ShowTheirOwn navs docs → i < length docs → old ≡ get_or docs i old → row.nav ≡ old.nav → row.loaded ≡ old.loaded → IsRewritten navs docs (set docs i row)
rewritten navs docs i row old few closed docs_closed first own lt read nav loaded =
    let count : length (set docs i row) ≡ length docs = length-set docs i row in
    record {
      few_docs = omega (arith, count);
      closed = record {
        navs_closed = subst (λ (n : ℕ). All (NavClosed (length navs) n) navs) (sym count) closed;
        docs_closed = λ k d below. subst (λ (n : ℕ). n < length navs) (sym (nav_at k d)) (docs_closed k d (omega (arith, count)));
        parents_first = λ n d below by. subst (λ (m : ℕ). m < n) (sym (nav_at d no_doc)) (first n d below by);
        show_their_own = λ n below. nav_at (get_or navs n no_nav).active no_doc ∙ own n below;
      };
      loads = sym (numbers_set is_loaded 0 i docs row old (loaded ∙ ap (λ (r : DocRow). r.loaded) read));
    }
  where
    nav_at : (k : ℕ) (d : DocRow) → (get_or (set docs i row) k d).nav ≡ (get_or docs k d).nav
    nav_at k d =
        let same : old ≡ get_or docs i d = get_or_read_under docs i (length docs) old d read lt refl in
        write_row (λ (r : DocRow). r.nav) (λ (n : ℕ). n) docs i k d row lt (nav ∙ ap (λ (r : DocRow). r.nav) same) ∙ either (eqb i k) (get_or docs k d).nav

-- A NAVIGABLE'S ROW, where it was made as before and shows the document as before

of_either : (P : NavRow → Type 0) (b : Bool) (row other : NavRow) → P row → P other → P (cond b row other)
of_either P true row other h k = h
of_either P false row other h k = k

pub record IsNavRewritten (navs later : List NavRow) (docs : List DocRow) : Type 0 where
  pub few_navs : length later < 4294967296
  pub closed : AreClosed later docs

pub nav_rewritten : (navs : List NavRow) (docs : List DocRow) (i : ℕ) (row old : NavRow) → length navs < 4294967296
    → All (NavClosed (length navs) (length docs)) navs → All (DocClosed (length navs)) docs → ParentsFirst navs docs → ShowTheirOwn navs docs
    → i < length navs → old ≡ get_or navs i old → row.active ≡ old.active → row.made ≡ old.made → (NavClosed (length navs) (length docs) old → NavClosed (length navs) (length docs) row)
    → IsNavRewritten navs (set navs i row) docs
nav_rewritten navs docs i row old few closed docs_closed first own lt read active made keeps =
    let count : length (set navs i row) ≡ length navs = length-set navs i row in
    record {
      few_navs = omega (arith, count);
      closed = record {
        navs_closed = subst (λ (n : ℕ). All (NavClosed n (length docs)) (set navs i row)) (sym count) (λ k d below.
            subst (NavClosed (length navs) (length docs)) (sym (set_at navs i k row d lt))
            (of_either (NavClosed (length navs) (length docs)) (eqb i k) row (get_or navs k d) (keeps (subst (NavClosed (length navs) (length docs)) (sym read) (closed i old lt))) (closed k d (omega (arith, below, count)))));
        docs_closed = subst (λ (n : ℕ). All (DocClosed n) docs) (sym count) docs_closed;
        parents_first = λ n d below by. first n d (omega (arith, below, count)) (ap (λ (m : MadeRow). m.embedder) (sym (made_at n)) ∙ by);
        show_their_own = λ n below. ap (λ d. (get_or docs d no_doc).nav) (active_at n) ∙ own n (omega (arith, below, count));
      };
    }
  where
    same : old ≡ get_or navs i no_nav
    same = get_or_read_under navs i (length navs) old no_nav read lt refl

    made_either : (b : Bool) (m : MadeRow) → cond b m m ≡ m
    made_either true m = refl
    made_either false m = refl

    made_at : (n : ℕ) → (get_or (set navs i row) n no_nav).made ≡ (get_or navs n no_nav).made
    made_at n = write_row (λ (r : NavRow). r.made) (λ (m : MadeRow). m) navs i n no_nav row lt (made ∙ ap (λ (r : NavRow). r.made) same) ∙ made_either (eqb i n) (get_or navs n no_nav).made

    active_at : (n : ℕ) → (get_or (set navs i row) n no_nav).active ≡ (get_or navs n no_nav).active
    active_at n = write_row (λ (r : NavRow). r.active) (λ (d : ℕ). d) navs i n no_nav row lt (active ∙ ap (λ (r : NavRow). r.active) same) ∙ either (eqb i n) (get_or navs n no_nav).active
