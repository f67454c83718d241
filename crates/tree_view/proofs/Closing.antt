-- What rows name stays there when rows are added.
use Rattle.std.proofs.Common.{◌≡◌, ℕ, ◌+◌, ◌<◌, ◌≤◌, List, [], ◌∷◌, ◌++◌, length, get_or, Option, Some, None, refl, sym, ap, ◌∙◌, arith, inl, inr, subst, length-append}
use Rattle.std.proofs.Math.ListN.{get_or-append}
use Rattle.std.proofs.Math.Seq.{get_or-append_seam}
use Rattle.std.proofs.lemmas.List.Elements.{All-push, All-append}
use Rattle.std.proofs.lemmas.Bool.Decides.{eqb_tells}
use Rattle.std.specs.Prelude.{All}
use Rattle.std.specs.Option.{ForSome}
use Rattle.tree_view.specs.declared.plain.rows.NavRow.{NavRow}
use Rattle.tree_view.specs.declared.plain.rows.DocRow.{DocRow}
use Rattle.tree_view.specs.Rows.{no_nav, no_doc, new_docs}
use Rattle.tree_view.specs.Closed.{NavClosed, DocClosed, ParentsFirst, ShowTheirOwn}

wider : (n m k l : ℕ) → n ≤ k → m ≤ l → (row : NavRow) → NavClosed n m row → NavClosed k l row
wider n m k l a b row c = record {
  active = omega (arith, c.active);
  embedder = λ x e. omega (arith, c.embedder x e);
  navigator = λ x e. omega (arith, c.navigator x e);
  opener = λ x e. omega (arith, c.opener x e);
  last_load = λ x e. omega (arith, c.last_load x e);
  group = c.group;
}

docs_wider : (n k : ℕ) → n ≤ k → (docs : List DocRow) → All (DocClosed n) docs → All (DocClosed k) docs
docs_wider n k a docs all = λ i d lt. omega (arith, all i d lt)

new_docs_closed : (n : ℕ) (initial : DocRow) (loaded : Option DocRow) → initial.nav ≡ n → ForSome loaded (λ d. d.nav ≡ n) → All (DocClosed (n + 1)) (new_docs initial loaded)
new_docs_closed n initial None a b = All-push (DocClosed (n + 1)) [] initial (λ i d lt. absurd (omega arith)) (omega arith)
new_docs_closed n initial (Some loaded) a b =
    All-push (DocClosed (n + 1)) (initial ∷ []) loaded (All-push (DocClosed (n + 1)) [] initial (λ i d lt. absurd (omega arith)) (omega arith)) (omega (arith, b loaded refl))

-- the rows of a view, with those of a new navigable
pub record AreClosed (navs : List NavRow) (docs : List DocRow) : Type 0 where
  pub navs_closed : All (NavClosed (length navs) (length docs)) navs
  pub docs_closed : All (DocClosed (length navs)) docs
  pub parents_first : ParentsFirst navs docs
  pub show_their_own : ShowTheirOwn navs docs

parents_kept : (navs : List NavRow) (docs more : List DocRow) (row : NavRow) → All (NavClosed (length navs) (length docs)) navs → All (DocClosed (length navs)) docs → ParentsFirst navs docs
    → ForSome row.made.embedder (λ d. d < length docs) → ParentsFirst (navs ++ row ∷ []) (docs ++ more)
parents_kept navs docs more row closed docs_closed first embedder n d lt e =
    let count : length (navs ++ row ∷ []) ≡ length navs + 1 = length-append navs (row ∷ []) in
    elim (eqb_tells n (length navs)) [
      | inl p ↦
          let last : get_or (navs ++ row ∷ []) n no_nav ≡ row = ap (λ k. get_or (navs ++ row ∷ []) k no_nav) p.1 ∙ get_or-append_seam navs row [] no_nav in
          let by : row.made.embedder ≡ Some d = ap (λ (r : NavRow). r.made.embedder) (sym last) ∙ e in
          let there : d < length docs = embedder d by in
          let same : (get_or (docs ++ more) d no_doc).nav ≡ (get_or docs d no_doc).nav = ap (λ (r : DocRow). r.nav) (get_or-append docs more no_doc d there) in
          let low : (get_or docs d no_doc).nav < length navs = docs_closed d no_doc there in
          omega (arith, p.1)
      | inr p ↦
          let before : n < length navs = omega (arith, p.1) in
          let old : get_or (navs ++ row ∷ []) n no_nav ≡ get_or navs n no_nav = get_or-append navs (row ∷ []) no_nav n before in
          let by : (get_or navs n no_nav).made.embedder ≡ Some d = ap (λ (r : NavRow). r.made.embedder) (sym old) ∙ e in
          let there : d < length docs = (closed n no_nav before).embedder d by in
          let same : (get_or (docs ++ more) d no_doc).nav ≡ (get_or docs d no_doc).nav = ap (λ (r : DocRow). r.nav) (get_or-append docs more no_doc d there) in
          let low : (get_or docs d no_doc).nav < n = first n d before by in
          omega arith
    ]

own_kept : (navs : List NavRow) (docs more : List DocRow) (row : NavRow) (initial : DocRow) → All (NavClosed (length navs) (length docs)) navs → ShowTheirOwn navs docs
    → row.active ≡ length docs → initial.nav ≡ length navs → ShowTheirOwn (navs ++ row ∷ []) (docs ++ initial ∷ more)
own_kept navs docs more row initial closed own active nav n lt =
    let count : length (navs ++ row ∷ []) ≡ length navs + 1 = length-append navs (row ∷ []) in
    elim (eqb_tells n (length navs)) [
      | inl p ↦
          let last : get_or (navs ++ row ∷ []) n no_nav ≡ row = ap (λ k. get_or (navs ++ row ∷ []) k no_nav) p.1 ∙ get_or-append_seam navs row [] no_nav in
          ap (λ (r : NavRow). (get_or (docs ++ initial ∷ more) r.active no_doc).nav) last
          ∙ ap (λ k. (get_or (docs ++ initial ∷ more) k no_doc).nav) active
          ∙ ap (λ (r : DocRow). r.nav) (get_or-append_seam docs initial more no_doc)
          ∙ nav ∙ sym p.1
      | inr p ↦
          let before : n < length navs = omega (arith, p.1) in
          let old : get_or (navs ++ row ∷ []) n no_nav ≡ get_or navs n no_nav = get_or-append navs (row ∷ []) no_nav n before in
          ap (λ (r : NavRow). (get_or (docs ++ initial ∷ more) r.active no_doc).nav) old
          ∙ ap (λ (r : DocRow). r.nav) (get_or-append docs (initial ∷ more) no_doc (get_or navs n no_nav).active (closed n no_nav before).active)
          ∙ own n before
    ]

-- the same, for the documents that come with it
own_kept_new : (navs : List NavRow) (docs : List DocRow) (row : NavRow) (initial : DocRow) (loaded : Option DocRow) → All (NavClosed (length navs) (length docs)) navs → ShowTheirOwn navs docs
    → row.active ≡ length docs → initial.nav ≡ length navs → ShowTheirOwn (navs ++ row ∷ []) (docs ++ new_docs initial loaded)
own_kept_new navs docs row initial None closed own active nav = own_kept navs docs [] row initial closed own active nav
own_kept_new navs docs row initial (Some loaded) closed own active nav = own_kept navs docs (loaded ∷ []) row initial closed own active nav

pub closed_more : (navs : List NavRow) (docs : List DocRow) (row : NavRow) (initial : DocRow) (loaded : Option DocRow)
    → All (NavClosed (length navs) (length docs)) navs → All (DocClosed (length navs)) docs → ParentsFirst navs docs
    → NavClosed (length navs + 1) (length docs + length (new_docs initial loaded)) row
    → ForSome row.made.embedder (λ d. d < length docs) → initial.nav ≡ length navs → ForSome loaded (λ d. d.nav ≡ length navs)
    → ShowTheirOwn navs docs → row.active ≡ length docs
    → AreClosed (navs ++ row ∷ []) (docs ++ new_docs initial loaded)
closed_more navs docs row initial loaded closed docs_closed first row_closed embedder initial_nav loaded_nav own active =
    let more = new_docs initial loaded in
    let count : length (navs ++ row ∷ []) ≡ length navs + 1 = length-append navs (row ∷ []) in
    let docs_count : length (docs ++ more) ≡ length docs + length more = length-append docs more in
    record {
      navs_closed = subst (λ (n : ℕ). All (NavClosed n (length (docs ++ more))) (navs ++ row ∷ [])) (sym count)
          (subst (λ (m : ℕ). All (NavClosed (length navs + 1) m) (navs ++ row ∷ [])) (sym docs_count)
          (All-push (NavClosed (length navs + 1) (length docs + length more)) navs row
          (λ i d lt. wider (length navs) (length docs) (length navs + 1) (length docs + length more) (omega arith) (omega arith) (get_or navs i d) (closed i d lt)) row_closed));
      docs_closed = subst (λ (n : ℕ). All (DocClosed n) (docs ++ more)) (sym count)
          (All-append (DocClosed (length navs + 1)) docs more (docs_wider (length navs) (length navs + 1) (omega arith) docs docs_closed) (new_docs_closed (length navs) initial loaded initial_nav loaded_nav));
      parents_first = parents_kept navs docs more row closed docs_closed first embedder;
      show_their_own = own_kept_new navs docs row initial loaded closed own active initial_nav;
    }
