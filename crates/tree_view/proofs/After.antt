-- What the rows say after one more entry is what the tree says after it.
use Rattle.std.proofs.Common.{◌≡◌, ℕ, ◌+◌, ◌<◌, List, [], ◌∷◌, ◌++◌, Option, Some, None, Bool, true, false, cond, refl, ap, sym, ◌∙◌, inl, inr, arith, eqb, ne_eqb, add-one, length, set, get_or, append_assoc, append-nil, length-append, length-set}
use Rattle.std.specs.Prelude.{is_some}
use Rattle.std.specs.Option.{ForSome}
use Rattle.std.proofs.Math.ListN.{get_or-eq_default}
use Rattle.std.proofs.lemmas.Bool.Decides.{eqb_tells}
use Rattle.origin_core.specs.declared.origin.Origin.{Origin}
use Rattle.plain_data.specs.declared.data.Data.{Data}
use Rattle.tree_log.specs.declared.entry.Load.{Load}
use Rattle.tree_log.specs.declared.entry.Target.{Target}
use Rattle.tree_log.specs.declared.entry.Cause.{Cause}
use Rattle.tree_log.specs.declared.entry.What.TheVariants.{Open, Frame, Drop, Name, Begin, Commit, Fragment, Opener, Closing, Gone, Post, Fire, Lapse, Lost, Sync, Hidden, Domain}
use Rattle.tree_log.specs.Facts.{Birth, doc_of_load, loads_of, with_frame, with_load}
use Rattle.tree_log.specs.Tree.{Tree, Nav, Doc, tree_after, is}
use Rattle.tree_log.specs.Urls.{urls_after}
use Rattle.tree_view.specs.declared.plain.rows.NavRow.{NavRow}
use Rattle.tree_view.specs.declared.plain.rows.DocRow.{DocRow}
use Rattle.tree_view.specs.Rows.{no_nav, no_doc, nav_facts, doc_facts, numbers_of, if_so, is_embedded_by, is_top, is_loaded, Known, known_of, after_known, initial_row, load_row, load_row_if_any, new_docs, grown}
use Rattle.tree_view.specs.NewRows.{entry, opened_row, framed_row}
use Rattle.tree_view.proofs.Numbers.{write_row, push_row, numbers_set, numbers_push}

-- what is known is the same where each part of it is
same_known : (a b : Known) → a.tree.len ≡ b.tree.len → a.tree.navs ≡ b.tree.navs → a.tree.docs ≡ b.tree.docs → a.tree.groups ≡ b.tree.groups
    → ((n : ℕ) → a.tree.nav n ≡ b.tree.nav n) → ((d : ℕ) → a.tree.doc d ≡ b.tree.doc d) → ((d : ℕ) → a.tree.frames d ≡ b.tree.frames d)
    → a.tree.tops ≡ b.tree.tops → a.tree.loads ≡ b.tree.loads → ((d : ℕ) → a.urls d ≡ b.urls d) → a ≡ b
same_known a b len navs docs groups nav doc frames tops loads urls = λ i. record {
  tree = record { len = len i; navs = navs i; docs = docs i; groups = groups i; nav = λ n. nav n i; doc = λ d. doc d i; frames = λ d. frames d i; tops = tops i; loads = loads i };
  urls = λ d. urls d i;
}

-- A FIELD OF A NAVIGABLE

drop_nav : (t : Tree) (by actor : Option ℕ) (i n : ℕ) → (tree_after t (entry by actor (Drop i))).nav n ≡ cond (eqb i n) (record (t.nav n) { dropped = true }) (t.nav n)
unfolding tree_after
drop_nav t by actor i n = elim (eqb_tells i n) [ inl p ↦ rw p.0 refl | inr p ↦ rw p.0 refl ]

gone_nav : (t : Tree) (by actor : Option ℕ) (i n : ℕ) → (tree_after t (entry by actor (Gone i))).nav n ≡ cond (eqb i n) (record (t.nav n) { gone = true }) (t.nav n)
unfolding tree_after
gone_nav t by actor i n = elim (eqb_tells i n) [ inl p ↦ rw p.0 refl | inr p ↦ rw p.0 refl ]

closing_nav : (t : Tree) (by actor : Option ℕ) (i n : ℕ) → (tree_after t (entry by actor (Closing i))).nav n ≡ cond (eqb i n) (record (t.nav n) { closing = true }) (t.nav n)
unfolding tree_after
closing_nav t by actor i n = elim (eqb_tells i n) [ inl p ↦ rw p.0 refl | inr p ↦ rw p.0 refl ]

name_nav : (t : Tree) (by actor : Option ℕ) (i n : ℕ) (name : List ℕ) → (tree_after t (entry by actor (Name i name))).nav n ≡ cond (eqb i n) (record (t.nav n) { name = name }) (t.nav n)
unfolding tree_after
name_nav t by actor i n name = elim (eqb_tells i n) [ inl p ↦ rw p.0 refl | inr p ↦ rw p.0 refl ]

opener_nav : (t : Tree) (by actor : Option ℕ) (i n : ℕ) (to : Option ℕ) → (tree_after t (entry by actor (Opener i to))).nav n ≡ cond (eqb i n) (record (t.nav n) { opener = to }) (t.nav n)
unfolding tree_after
opener_nav t by actor i n to = elim (eqb_tells i n) [ inl p ↦ rw p.0 refl | inr p ↦ rw p.0 refl ]

commit_nav : (t : Tree) (by actor : Option ℕ) (i d b n : ℕ) → (tree_after t (entry by actor (Commit i d b))).nav n ≡ cond (eqb i n) (record (t.nav n) { active = d }) (t.nav n)
unfolding tree_after
commit_nav t by actor i d b n = elim (eqb_tells i n) [ inl p ↦ rw p.0 refl | inr p ↦ rw p.0 refl ]

begin_nav : (t : Tree) (by actor : Option ℕ) (i n : ℕ) (load : Load) → (tree_after t (entry by actor (Begin i load))).nav n ≡ cond (eqb i n) (record (t.nav n) { last_load = Some load.doc }) (t.nav n)
unfolding tree_after
begin_nav t by actor i n load = elim (eqb_tells i n) [ inl p ↦ rw p.0 refl | inr p ↦ rw p.0 refl ]

-- A FIELD OF A DOCUMENT

commit_doc : (t : Tree) (by actor : Option ℕ) (i d b k : ℕ) → (tree_after t (entry by actor (Commit i d b))).doc k ≡ cond (eqb d k) (record (t.doc k) { been_active = true }) (t.doc k)
unfolding tree_after
commit_doc t by actor i d b k = elim (eqb_tells d k) [ inl p ↦ rw p.0 refl | inr p ↦ rw p.0 refl ]

domain_doc : (t : Tree) (by actor : Option ℕ) (d k : ℕ) (domain : List ℕ) → (tree_after t (entry by actor (Domain d domain))).doc k ≡ cond (eqb d k) (record (t.doc k) { domain = Some domain }) (t.doc k)
unfolding tree_after
domain_doc t by actor d k domain = elim (eqb_tells d k) [ inl p ↦ rw p.0 refl | inr p ↦ rw p.0 refl ]

abbrev birth_of : ℕ → Load → Birth
birth_of nav load = record { nav = nav; origin = load.origin; home = load.home; loaded = true }

begin_doc : (t : Tree) (by actor : Option ℕ) (i k : ℕ) (load : Load) → (tree_after t (entry by actor (Begin i load))).doc k ≡ cond (eqb load.doc k) (record (t.doc k) { born = birth_of i load }) (t.doc k)
unfolding tree_after
begin_doc t by actor i k load = elim (eqb_tells load.doc k) [ inl p ↦ rw p.0 refl | inr p ↦ rw p.0 refl ]

begin_url : (urls : ℕ → List ℕ) (by actor : Option ℕ) (i k : ℕ) (load : Load) → urls_after urls (entry by actor (Begin i load)) k ≡ cond (eqb load.doc k) load.url (urls k)
unfolding urls_after
begin_url urls by actor i k load = elim (eqb_tells load.doc k) [ inl p ↦ rw p.0 refl | inr p ↦ rw p.0 refl ]

fragment_url : (urls : ℕ → List ℕ) (by actor : Option ℕ) (i d k : ℕ) (url : List ℕ) → urls_after urls (entry by actor (Fragment i d url)) k ≡ cond (eqb d k) url (urls k)
unfolding urls_after
fragment_url urls by actor i d k url = elim (eqb_tells d k) [ inl p ↦ rw p.0 refl | inr p ↦ rw p.0 refl ]

-- A NEW NAVIGABLE

open_nav : (t : Tree) (by actor : Option ℕ) (i d g h n : ℕ) (o : Origin) (name : List ℕ) (opener : Option ℕ) (flags : ℕ) (navigator : Option ℕ) (load : Option Load)
    → (tree_after t (entry by actor (Open i d g h o name opener flags navigator load))).nav n
    ≡ cond (eqb i n) (record (t.nav n) { made = record { embedder = None; group = Some g; flags = flags; navigator = navigator; scripted = is_some actor }; active = d; name = name; opener = opener; last_load = doc_of_load load }) (t.nav n)
unfolding tree_after
open_nav t by actor i d g h n o name opener flags navigator load = elim (eqb_tells i n) [ inl p ↦ rw p.0 refl | inr p ↦ rw p.0 refl ]

frame_nav : (t : Tree) (by actor : Option ℕ) (i d h n : ℕ) (o : Origin) (name : List ℕ) (flags : ℕ) (load : Option Load)
    → (tree_after t (entry by actor (Frame i d h o name flags load))).nav n
    ≡ cond (eqb i n) (record (t.nav n) { made = record { embedder = actor; group = None; flags = flags; navigator = None; scripted = false }; active = d; name = name; last_load = doc_of_load load }) (t.nav n)
unfolding tree_after
frame_nav t by actor i d h n o name flags load = elim (eqb_tells i n) [ inl p ↦ rw p.0 refl | inr p ↦ rw p.0 refl ]

-- the documents that come with a new navigable
abbrev first_birth : ℕ → Origin → ℕ → Birth
first_birth nav origin home = record { nav = nav; origin = origin; home = home; loaded = false }

abbrev with_docs : ℕ → ℕ → Origin → ℕ → Option Load → ℕ → Doc → Doc
with_docs i d o h None k old = cond (eqb d k) (record old { born = first_birth i o h; been_active = true }) old
with_docs i d o h (Some l) k old = cond (eqb d k) (record old { born = first_birth i o h; been_active = true }) (cond (eqb l.doc k) (record old { born = birth_of i l }) old)

open_doc : (t : Tree) (by actor : Option ℕ) (i d g h k : ℕ) (o : Origin) (name : List ℕ) (opener : Option ℕ) (flags : ℕ) (navigator : Option ℕ) (load : Option Load)
    → (tree_after t (entry by actor (Open i d g h o name opener flags navigator load))).doc k ≡ with_docs i d o h load k (t.doc k)
unfolding tree_after
open_doc t by actor i d g h k o name opener flags navigator None = elim (eqb_tells d k) [ inl p ↦ rw p.0 refl | inr p ↦ rw p.0 refl ]
open_doc t by actor i d g h k o name opener flags navigator (Some l) =
    elim (eqb_tells d k) [ inl p ↦ rw p.0 refl | inr p ↦ rw p.0 (elim (eqb_tells l.doc k) [ inl q ↦ rw q.0 refl | inr q ↦ rw q.0 refl ]) ]

frame_doc : (t : Tree) (by actor : Option ℕ) (i d h k : ℕ) (o : Origin) (name : List ℕ) (flags : ℕ) (load : Option Load)
    → (tree_after t (entry by actor (Frame i d h o name flags load))).doc k ≡ with_docs i d o h load k (t.doc k)
unfolding tree_after
frame_doc t by actor i d h k o name flags None = elim (eqb_tells d k) [ inl p ↦ rw p.0 refl | inr p ↦ rw p.0 refl ]
frame_doc t by actor i d h k o name flags (Some l) =
    elim (eqb_tells d k) [ inl p ↦ rw p.0 refl | inr p ↦ rw p.0 (elim (eqb_tells l.doc k) [ inl q ↦ rw q.0 refl | inr q ↦ rw q.0 refl ]) ]

abbrev with_url : Option Load → ℕ → List ℕ → List ℕ
with_url None k old = old
with_url (Some l) k old = cond (eqb l.doc k) l.url old

open_url : (urls : ℕ → List ℕ) (by actor : Option ℕ) (i d g h k : ℕ) (o : Origin) (name : List ℕ) (opener : Option ℕ) (flags : ℕ) (navigator : Option ℕ) (load : Option Load)
    → urls_after urls (entry by actor (Open i d g h o name opener flags navigator load)) k ≡ with_url load k (urls k)
unfolding urls_after
open_url urls by actor i d g h k o name opener flags navigator None = refl
open_url urls by actor i d g h k o name opener flags navigator (Some l) = elim (eqb_tells l.doc k) [ inl p ↦ rw p.0 refl | inr p ↦ rw p.0 refl ]

frame_url : (urls : ℕ → List ℕ) (by actor : Option ℕ) (i d h k : ℕ) (o : Origin) (name : List ℕ) (flags : ℕ) (load : Option Load)
    → urls_after urls (entry by actor (Frame i d h o name flags load)) k ≡ with_url load k (urls k)
unfolding urls_after
frame_url urls by actor i d h k o name flags None = refl
frame_url urls by actor i d h k o name flags (Some l) = elim (eqb_tells l.doc k) [ inl p ↦ rw p.0 refl | inr p ↦ rw p.0 refl ]

apart : {A : Type 0} (d e k : ℕ) (initial old : A) (load : A → A) → e ≡ d + 1
    → cond (eqb e k) (load (cond (eqb d k) initial old)) (cond (eqb d k) initial old) ≡ cond (eqb d k) initial (cond (eqb e k) (load old) old)
apart d e k initial old load h = elim (eqb_tells d k) [
  | inl p ↦ let away : eqb e k ≡ false = ne_eqb e k (λ q. omega (arith, p.1, h, q)) in rw (p.0, away) refl
  | inr p ↦ rw p.0 refl
]

-- two rows pushed, seen as what they say
push_two : {B : Type 0} (view : DocRow → B) (docs : List DocRow) (a b : DocRow) (d e k : ℕ) (initial load : B → B) → length docs ≡ d → e ≡ d + 1
    → view a ≡ initial (view no_doc) → view b ≡ load (view no_doc)
    → view (get_or (docs ++ a ∷ b ∷ []) k no_doc) ≡ cond (eqb d k) (initial (view (get_or docs k no_doc))) (cond (eqb e k) (load (view (get_or docs k no_doc))) (view (get_or docs k no_doc)))
push_two view docs a b d e k initial load h next is_a is_b =
    let both : (docs ++ a ∷ []) ++ b ∷ [] ≡ docs ++ a ∷ b ∷ [] = append_assoc docs (a ∷ []) (b ∷ []) in
    let at : length (docs ++ a ∷ []) ≡ e = length-append docs (a ∷ []) ∙ ap (λ n. n + 1) h ∙ sym next in
    let first : view (get_or (docs ++ a ∷ []) k no_doc) ≡ cond (eqb d k) (initial (view (get_or docs k no_doc))) (view (get_or docs k no_doc)) = push_row view initial docs d k no_doc a h is_a in
    ap (λ rows. view (get_or rows k no_doc)) (sym both)
    ∙ push_row view load (docs ++ a ∷ []) e k no_doc b at is_b
    ∙ ap (λ x. cond (eqb e k) (load x) x) first
    ∙ apart d e k (initial (view (get_or docs k no_doc))) (view (get_or docs k no_doc)) load next

push_docs : (docs : List DocRow) (i d h : ℕ) (o : Origin) (load : Option Load) (k : ℕ) → length docs ≡ d → ForSome load (λ l. l.doc ≡ d + 1)
    → doc_facts (get_or (docs ++ new_docs (initial_row i o h) (load_row_if_any i load)) k no_doc) ≡ with_docs i d o h load k (doc_facts (get_or docs k no_doc))
push_docs docs i d h o None k e next = push_row doc_facts (λ (x : Doc). record x { born = first_birth i o h; been_active = true }) docs d k no_doc (initial_row i o h) e refl
push_docs docs i d h o (Some l) k e next =
    push_two doc_facts docs (initial_row i o h) (load_row i l) d l.doc k (λ (x : Doc). record x { born = first_birth i o h; been_active = true }) (λ (x : Doc). record x { born = birth_of i l }) e (next l refl) refl refl

same_either : {A : Type 0} (b : Bool) (x : A) → cond b x x ≡ x
same_either true x = refl
same_either false x = refl

abbrev url_in : DocRow → List ℕ
url_in row = row.url

-- a new document has the URL that a number without a row has
blank_there : (docs : List DocRow) (d k : ℕ) → length docs ≡ d → cond (eqb d k) no_doc.url (get_or docs k no_doc).url ≡ (get_or docs k no_doc).url
blank_there docs d k h = elim (eqb_tells d k) [
  | inl p ↦ let fresh : no_doc ≡ get_or docs (length docs) no_doc = sym (get_or-eq_default docs no_doc (omega arith)) in rw p.0 (ap url_in (fresh ∙ ap (λ m. get_or docs m no_doc) (h ∙ p.1)))
  | inr p ↦ rw p.0 refl
]

push_urls : (docs : List DocRow) (i d h : ℕ) (o : Origin) (load : Option Load) (k : ℕ) → length docs ≡ d → ForSome load (λ l. l.doc ≡ d + 1)
    → (get_or (docs ++ new_docs (initial_row i o h) (load_row_if_any i load)) k no_doc).url ≡ with_url load k (get_or docs k no_doc).url
push_urls docs i d h o None k e next = push_row url_in (λ x. no_doc.url) docs d k no_doc (initial_row i o h) e refl ∙ blank_there docs d k e
push_urls docs i d h o (Some l) k e next =
    push_two url_in docs (initial_row i o h) (load_row i l) d l.doc k (λ x. no_doc.url) (λ x. l.url) e (next l refl) refl refl
    ∙ elim (eqb_tells l.doc k) as (λ _. cond (eqb d k) no_doc.url (cond (eqb l.doc k) l.url (get_or docs k no_doc).url) ≡ cond (eqb l.doc k) l.url (get_or docs k no_doc).url) [
      | inl p ↦ let away : eqb d k ≡ false = ne_eqb d k (λ q. omega (arith, p.1, q, next l refl)) in rw (p.0, away) refl
      | inr p ↦ rw p.0 (blank_there docs d k e)
    ]

docs_counted : (docs : List DocRow) (i h : ℕ) (o : Origin) (load : Option Load) → length (docs ++ new_docs (initial_row i o h) (load_row_if_any i load)) ≡ length docs + (1 + loads_of load)
docs_counted docs i h o None = length-append docs _
docs_counted docs i h o (Some l) = length-append docs _

loads_counted : (docs : List DocRow) (i d h : ℕ) (o : Origin) (load : Option Load) → length docs ≡ d → ForSome load (λ l. l.doc ≡ d + 1)
    → numbers_of is_loaded 0 (docs ++ new_docs (initial_row i o h) (load_row_if_any i load)) ≡ with_load load (numbers_of is_loaded 0 docs)
loads_counted docs i d h o None e next = numbers_push is_loaded 0 docs (initial_row i o h) ∙ append-nil (numbers_of is_loaded 0 docs)
loads_counted docs i d h o (Some l) e next =
    let a = initial_row i o h in
    let b = load_row i l in
    let both : (docs ++ a ∷ []) ++ b ∷ [] ≡ docs ++ a ∷ b ∷ [] = append_assoc docs (a ∷ []) (b ∷ []) in
    let first : numbers_of is_loaded 0 (docs ++ a ∷ []) ≡ numbers_of is_loaded 0 docs = numbers_push is_loaded 0 docs a ∙ append-nil (numbers_of is_loaded 0 docs) in
    let count : length (docs ++ a ∷ []) ≡ length docs + 1 = length-append docs (a ∷ []) in
    let at : 0 + length (docs ++ a ∷ []) ≡ l.doc = omega (arith, next l refl) in
    ap (numbers_of is_loaded 0) (sym both) ∙ numbers_push is_loaded 0 (docs ++ a ∷ []) b ∙ ap (λ m. numbers_of is_loaded 0 (docs ++ a ∷ []) ++ m ∷ []) at ∙ ap (λ ns. ns ++ l.doc ∷ []) first

-- ONE MORE ENTRY

abbrev K : List NavRow → List DocRow → ℕ → ℕ → Known
K navs docs groups len = known_of navs docs groups len

abbrev nav_row : List NavRow → ℕ → NavRow
nav_row navs i = get_or navs i no_nav

pub after_drop : (navs : List NavRow) (docs : List DocRow) (groups len : ℕ) (by actor : Option ℕ) (i : ℕ) → i < length navs
    → K (set navs i (record (nav_row navs i) { dropped = true })) docs groups (len + 1) ≡ after_known (K navs docs groups len) (entry by actor (Drop i))
unfolding tree_after urls_after
after_drop navs docs groups len by actor i h =
    let row : NavRow = record (nav_row navs i) { dropped = true } in
    same_known _ _ (add-one len) (length-set navs i row) refl refl
    (λ n. write_row nav_facts (λ (x : Nav). record x { dropped = true }) navs i n no_nav row h refl ∙ sym (drop_nav (K navs docs groups len).tree by actor i n))
    (λ d. refl)
    (λ d. numbers_set (is_embedded_by d) 0 i navs row no_nav refl)
    (numbers_set is_top 0 i navs row no_nav refl) refl (λ d. refl)

pub after_gone : (navs : List NavRow) (docs : List DocRow) (groups len : ℕ) (by actor : Option ℕ) (i : ℕ) → i < length navs
    → K (set navs i (record (nav_row navs i) { gone = true })) docs groups (len + 1) ≡ after_known (K navs docs groups len) (entry by actor (Gone i))
unfolding tree_after urls_after
after_gone navs docs groups len by actor i h =
    let row : NavRow = record (nav_row navs i) { gone = true } in
    same_known _ _ (add-one len) (length-set navs i row) refl refl
    (λ n. write_row nav_facts (λ (x : Nav). record x { gone = true }) navs i n no_nav row h refl ∙ sym (gone_nav (K navs docs groups len).tree by actor i n))
    (λ d. refl)
    (λ d. numbers_set (is_embedded_by d) 0 i navs row no_nav refl)
    (numbers_set is_top 0 i navs row no_nav refl) refl (λ d. refl)

pub after_closing : (navs : List NavRow) (docs : List DocRow) (groups len : ℕ) (by actor : Option ℕ) (i : ℕ) → i < length navs
    → K (set navs i (record (nav_row navs i) { closing = true })) docs groups (len + 1) ≡ after_known (K navs docs groups len) (entry by actor (Closing i))
unfolding tree_after urls_after
after_closing navs docs groups len by actor i h =
    let row : NavRow = record (nav_row navs i) { closing = true } in
    same_known _ _ (add-one len) (length-set navs i row) refl refl
    (λ n. write_row nav_facts (λ (x : Nav). record x { closing = true }) navs i n no_nav row h refl ∙ sym (closing_nav (K navs docs groups len).tree by actor i n))
    (λ d. refl)
    (λ d. numbers_set (is_embedded_by d) 0 i navs row no_nav refl)
    (numbers_set is_top 0 i navs row no_nav refl) refl (λ d. refl)

pub after_name : (navs : List NavRow) (docs : List DocRow) (groups len : ℕ) (by actor : Option ℕ) (i : ℕ) (name : List ℕ) → i < length navs
    → K (set navs i (record (nav_row navs i) { name = name })) docs groups (len + 1) ≡ after_known (K navs docs groups len) (entry by actor (Name i name))
unfolding tree_after urls_after
after_name navs docs groups len by actor i name h =
    let row : NavRow = record (nav_row navs i) { name = name } in
    same_known _ _ (add-one len) (length-set navs i row) refl refl
    (λ n. write_row nav_facts (λ (x : Nav). record x { name = name }) navs i n no_nav row h refl ∙ sym (name_nav (K navs docs groups len).tree by actor i n name))
    (λ d. refl)
    (λ d. numbers_set (is_embedded_by d) 0 i navs row no_nav refl)
    (numbers_set is_top 0 i navs row no_nav refl) refl (λ d. refl)

pub after_opener : (navs : List NavRow) (docs : List DocRow) (groups len : ℕ) (by actor : Option ℕ) (i : ℕ) (to : Option ℕ) → i < length navs
    → K (set navs i (record (nav_row navs i) { opener = to })) docs groups (len + 1) ≡ after_known (K navs docs groups len) (entry by actor (Opener i to))
unfolding tree_after urls_after
after_opener navs docs groups len by actor i to h =
    let row : NavRow = record (nav_row navs i) { opener = to } in
    same_known _ _ (add-one len) (length-set navs i row) refl refl
    (λ n. write_row nav_facts (λ (x : Nav). record x { opener = to }) navs i n no_nav row h refl ∙ sym (opener_nav (K navs docs groups len).tree by actor i n to))
    (λ d. refl)
    (λ d. numbers_set (is_embedded_by d) 0 i navs row no_nav refl)
    (numbers_set is_top 0 i navs row no_nav refl) refl (λ d. refl)

pub after_commit : (navs : List NavRow) (docs : List DocRow) (groups len : ℕ) (by actor : Option ℕ) (i d b : ℕ) → i < length navs → d < length docs
    → K (set navs i (record (nav_row navs i) { active = d })) (set docs d (record (get_or docs d no_doc) { been_active = true })) groups (len + 1)
    ≡ after_known (K navs docs groups len) (entry by actor (Commit i d b))
unfolding tree_after urls_after
after_commit navs docs groups len by actor i d b h hd =
    let row : NavRow = record (nav_row navs i) { active = d } in
    let doc : DocRow = record (get_or docs d no_doc) { been_active = true } in
    same_known _ _ (add-one len) (length-set navs i row) (length-set docs d doc) refl
    (λ n. write_row nav_facts (λ (x : Nav). record x { active = d }) navs i n no_nav row h refl ∙ sym (commit_nav (K navs docs groups len).tree by actor i d b n))
    (λ k. write_row doc_facts (λ (x : Doc). record x { been_active = true }) docs d k no_doc doc hd refl ∙ sym (commit_doc (K navs docs groups len).tree by actor i d b k))
    (λ k. numbers_set (is_embedded_by k) 0 i navs row no_nav refl)
    (numbers_set is_top 0 i navs row no_nav refl) (numbers_set is_loaded 0 d docs doc no_doc refl)
    (λ k. write_row url_in (λ x. x) docs d k no_doc doc hd refl ∙ same_either (eqb d k) (get_or docs k no_doc).url)

pub after_fragment : (navs : List NavRow) (docs : List DocRow) (groups len : ℕ) (by actor : Option ℕ) (i d : ℕ) (url : List ℕ) → d < length docs
    → K navs (set docs d (record (get_or docs d no_doc) { url = url })) groups (len + 1) ≡ after_known (K navs docs groups len) (entry by actor (Fragment i d url))
unfolding tree_after
after_fragment navs docs groups len by actor i d url hd =
    let doc : DocRow = record (get_or docs d no_doc) { url = url } in
    same_known _ _ (add-one len) refl (length-set docs d doc) refl (λ n. refl)
    (λ k. write_row doc_facts (λ (x : Doc). x) docs d k no_doc doc hd refl ∙ same_either (eqb d k) (doc_facts (get_or docs k no_doc)))
    (λ k. refl) refl (numbers_set is_loaded 0 d docs doc no_doc refl)
    (λ k. write_row url_in (λ x. url) docs d k no_doc doc hd refl ∙ sym (fragment_url (K navs docs groups len).urls by actor i d k url))

pub after_domain : (navs : List NavRow) (docs : List DocRow) (groups len : ℕ) (by actor : Option ℕ) (d : ℕ) (domain : List ℕ) → d < length docs
    → K navs (set docs d (record (get_or docs d no_doc) { domain = Some domain })) groups (len + 1) ≡ after_known (K navs docs groups len) (entry by actor (Domain d domain))
unfolding tree_after urls_after
after_domain navs docs groups len by actor d domain hd =
    let doc : DocRow = record (get_or docs d no_doc) { domain = Some domain } in
    same_known _ _ (add-one len) refl (length-set docs d doc) refl (λ n. refl)
    (λ k. write_row doc_facts (λ (x : Doc). record x { domain = Some domain }) docs d k no_doc doc hd refl ∙ sym (domain_doc (K navs docs groups len).tree by actor d k domain))
    (λ k. refl) refl (numbers_set is_loaded 0 d docs doc no_doc refl)
    (λ k. write_row url_in (λ x. x) docs d k no_doc doc hd refl ∙ same_either (eqb d k) (get_or docs k no_doc).url)

pub after_begin : (navs : List NavRow) (docs : List DocRow) (groups len : ℕ) (by actor : Option ℕ) (i : ℕ) (load : Load) → i < length navs → length docs ≡ load.doc
    → K (set navs i (record (nav_row navs i) { last_load = Some load.doc })) (docs ++ load_row i load ∷ []) groups (len + 1)
    ≡ after_known (K navs docs groups len) (entry by actor (Begin i load))
unfolding tree_after
after_begin navs docs groups len by actor i load h e =
    let row : NavRow = record (nav_row navs i) { last_load = Some load.doc } in
    let doc : DocRow = load_row i load in
    same_known _ _ (add-one len) (length-set navs i row) (length-append docs (doc ∷ [])) refl
    (λ n. write_row nav_facts (λ (x : Nav). record x { last_load = Some load.doc }) navs i n no_nav row h refl ∙ sym (begin_nav (K navs docs groups len).tree by actor i n load))
    (λ k. push_row doc_facts (λ (x : Doc). record x { born = birth_of i load }) docs load.doc k no_doc doc e refl ∙ sym (begin_doc (K navs docs groups len).tree by actor i k load))
    (λ k. numbers_set (is_embedded_by k) 0 i navs row no_nav refl)
    (numbers_set is_top 0 i navs row no_nav refl)
    (numbers_push is_loaded 0 docs doc ∙ ap (λ m. numbers_of is_loaded 0 docs ++ m ∷ []) (omega (arith, e)))
    (λ k. push_row url_in (λ x. load.url) docs load.doc k no_doc doc e refl ∙ sym (begin_url (K navs docs groups len).urls by actor i k load))

-- entries that say nothing of the tree
pub after_post : (navs : List NavRow) (docs : List DocRow) (groups len : ℕ) (by actor : Option ℕ) (to from : ℕ) (o : Origin) (target : Target) (body : Data) → K navs docs groups (len + 1) ≡ after_known (K navs docs groups len) (entry by actor (Post to from o target body))
unfolding tree_after urls_after
after_post navs docs groups len by actor to from o target body = same_known _ _ (add-one len) refl refl refl (λ n. refl) (λ d. refl) (λ d. refl) refl refl (λ d. refl)

pub after_fire : (navs : List NavRow) (docs : List DocRow) (groups len : ℕ) (by actor : Option ℕ) (doc post : ℕ) → K navs docs groups (len + 1) ≡ after_known (K navs docs groups len) (entry by actor (Fire doc post))
unfolding tree_after urls_after
after_fire navs docs groups len by actor doc post = same_known _ _ (add-one len) refl refl refl (λ n. refl) (λ d. refl) (λ d. refl) refl refl (λ d. refl)

pub after_lapse : (navs : List NavRow) (docs : List DocRow) (groups len : ℕ) (by actor : Option ℕ) (doc post : ℕ) (cause : Cause) → K navs docs groups (len + 1) ≡ after_known (K navs docs groups len) (entry by actor (Lapse doc post cause))
unfolding tree_after urls_after
after_lapse navs docs groups len by actor doc post cause = same_known _ _ (add-one len) refl refl refl (λ n. refl) (λ d. refl) (λ d. refl) refl refl (λ d. refl)

pub after_lost : (navs : List NavRow) (docs : List DocRow) (groups len : ℕ) (by actor : Option ℕ) (renderer : ℕ) → K navs docs groups (len + 1) ≡ after_known (K navs docs groups len) (entry by actor (Lost renderer))
unfolding tree_after urls_after
after_lost navs docs groups len by actor renderer = same_known _ _ (add-one len) refl refl refl (λ n. refl) (λ d. refl) (λ d. refl) refl refl (λ d. refl)

pub after_sync : (navs : List NavRow) (docs : List DocRow) (groups len : ℕ) (by actor : Option ℕ) → K navs docs groups (len + 1) ≡ after_known (K navs docs groups len) (entry by actor (Sync))
unfolding tree_after urls_after
after_sync navs docs groups len by actor = same_known _ _ (add-one len) refl refl refl (λ n. refl) (λ d. refl) (λ d. refl) refl refl (λ d. refl)

pub after_hidden : (navs : List NavRow) (docs : List DocRow) (groups len : ℕ) (by actor : Option ℕ) → K navs docs groups (len + 1) ≡ after_known (K navs docs groups len) (entry by actor (Hidden))
unfolding tree_after urls_after
after_hidden navs docs groups len by actor = same_known _ _ (add-one len) refl refl refl (λ n. refl) (λ d. refl) (λ d. refl) refl refl (λ d. refl)

framed_last : (d m : ℕ) (actor : Option ℕ) (before : List ℕ) → before ++ if_so (is actor d) m ≡ with_frame d actor m before
framed_last d m None before = append-nil before
framed_last d m (Some by) before = elim (eqb_tells by d) [ inl p ↦ rw p.0 refl | inr p ↦ rw p.0 (append-nil before) ]

pub after_open : (navs : List NavRow) (docs : List DocRow) (groups len : ℕ) (by actor : Option ℕ) (i d g h : ℕ) (o : Origin) (name : List ℕ) (opener : Option ℕ) (flags : ℕ) (navigator : Option ℕ) (load : Option Load)
    → length navs ≡ i → length docs ≡ d → ForSome load (λ l. l.doc ≡ d + 1)
    → K (navs ++ opened_row actor d g name opener flags navigator load ∷ []) (docs ++ new_docs (initial_row i o h) (load_row_if_any i load)) (grown groups (Some g)) (len + 1)
    ≡ after_known (K navs docs groups len) (entry by actor (Open i d g h o name opener flags navigator load))
unfolding tree_after
after_open navs docs groups len by actor i d g h o name opener flags navigator load e ed next =
    let row : NavRow = opened_row actor d g name opener flags navigator load in
    same_known _ _ (add-one len) (length-append navs (row ∷ [])) (docs_counted docs i h o load) refl
    (λ n. push_row nav_facts (λ (x : Nav). record x { made = record { embedder = None; group = Some g; flags = flags; navigator = navigator; scripted = is_some actor }; active = d; name = name; opener = opener; last_load = doc_of_load load }) navs i n no_nav row e refl
    ∙ sym (open_nav (K navs docs groups len).tree by actor i d g h n o name opener flags navigator load))
    (λ k. push_docs docs i d h o load k ed next ∙ sym (open_doc (K navs docs groups len).tree by actor i d g h k o name opener flags navigator load))
    (λ k. numbers_push (is_embedded_by k) 0 navs row ∙ append-nil (numbers_of (is_embedded_by k) 0 navs))
    (numbers_push is_top 0 navs row ∙ ap (λ m. numbers_of is_top 0 navs ++ m ∷ []) (omega (arith, e)))
    (loads_counted docs i d h o load ed next)
    (λ k. push_urls docs i d h o load k ed next ∙ sym (open_url (K navs docs groups len).urls by actor i d g h k o name opener flags navigator load))

pub after_frame : (navs : List NavRow) (docs : List DocRow) (groups len : ℕ) (by actor : Option ℕ) (i d h : ℕ) (o : Origin) (name : List ℕ) (flags : ℕ) (load : Option Load)
    → length navs ≡ i → length docs ≡ d → ForSome load (λ l. l.doc ≡ d + 1)
    → K (navs ++ framed_row actor d name flags load ∷ []) (docs ++ new_docs (initial_row i o h) (load_row_if_any i load)) groups (len + 1)
    ≡ after_known (K navs docs groups len) (entry by actor (Frame i d h o name flags load))
unfolding tree_after
after_frame navs docs groups len by actor i d h o name flags load e ed next =
    let row : NavRow = framed_row actor d name flags load in
    same_known _ _ (add-one len) (length-append navs (row ∷ [])) (docs_counted docs i h o load) refl
    (λ n. push_row nav_facts (λ (x : Nav). record x { made = record { embedder = actor; group = None; flags = flags; navigator = None; scripted = false }; active = d; name = name; last_load = doc_of_load load }) navs i n no_nav row e refl
    ∙ sym (frame_nav (K navs docs groups len).tree by actor i d h n o name flags load))
    (λ k. push_docs docs i d h o load k ed next ∙ sym (frame_doc (K navs docs groups len).tree by actor i d h k o name flags load))
    (λ k. numbers_push (is_embedded_by k) 0 navs row ∙ framed_last k (0 + length navs) actor (numbers_of (is_embedded_by k) 0 navs) ∙ ap (λ m. with_frame k actor m (numbers_of (is_embedded_by k) 0 navs)) (omega (arith, e)))
    (numbers_push is_top 0 navs row ∙ append-nil (numbers_of is_top 0 navs))
    (loads_counted docs i d h o load ed next)
    (λ k. push_urls docs i d h o load k ed next ∙ sym (frame_url (K navs docs groups len).urls by actor i d h k o name flags load))
