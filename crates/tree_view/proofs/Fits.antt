-- What an entry that is admitted names is there, and what it makes has the next numbers.
use Rattle.std.proofs.Common.{◌≡◌, ℕ, ◌+◌, ◌<◌, List, length, Option, Some, None, Bool, true, false, refl, sym, ap, subst, ◌∙◌, arith}
use Rattle.std.specs.Prelude.{◌&&◌, ◌||◌, ◌==◌, nat_lt, is_some}
use Rattle.tree_view.specs.declared.plain.rows.DocRow.{DocRow}
use Rattle.std.specs.Option.{ForSome}
use Rattle.std.proofs.lemmas.Bool.Decides.{nat_tests}
use Rattle.origin_core.specs.declared.origin.Origin.{Origin}
use Rattle.tree_log.specs.declared.entry.Entry.{Entry}
use Rattle.tree_log.specs.declared.entry.Load.{Load}
use Rattle.tree_log.specs.declared.entry.What.{What}
use Rattle.tree_log.specs.declared.entry.What.TheVariants.{Open, Frame, Drop, Name, Begin, Commit, Fragment, Opener, Closing, Gone, Domain}
use Rattle.tree_log.specs.Facts.{doc_of_load}
use Rattle.tree_log.specs.Tree.{Tree, nav_of}
use Rattle.tree_log.specs.Admits.{has, has_if_any, is_next, is_next_load, is_documents, admits, admits_what}
use Rattle.tree_log.proofs.Admitted.{both}
use Rattle.tree_view.specs.declared.plain.rows.NewRows.{NewRows}
use Rattle.tree_view.specs.Closed.{FitsNew}
use Rattle.tree_view.specs.Rows.{initial_row, load_row_if_any, new_docs}
use Rattle.tree_view.specs.NewRows.{new_rows_of, new_rows}

below : (a b : ℕ) → nat_lt a b ≡ true → a < b
below a b h = grind (arith, nat_tests)

same : (a b : ℕ) → (a == b) ≡ true → a ≡ b
same a b h = grind (arith, nat_tests)

pub room : (t : Tree) (e : Entry) → admits t e ≡ true → t.len < 4294967295
unfolding admits
room t e h = below t.len 4294967295 (both _ _ h).0

-- what is said of an entry of a kind
pub of_kind : (t : Tree) (e : Entry) (w : What) → e.what ≡ w → admits t e ≡ true → admits_what t e.by e.actor w ≡ true
unfolding admits
of_kind t e w is h = subst (λ x. admits_what t e.by e.actor x ≡ true) is (both _ _ h).1

-- the navigable of an entry whose last test is that it is there
last_there : (a : Bool) (count n : ℕ) → (a && has count n) ≡ true → n < count
last_there a count n h = below n count (both a (has count n) h).1

pub drop_fits : (t : Tree) (e : Entry) (i : ℕ) → e.what ≡ Drop i → admits t e ≡ true → i < t.navs
drop_fits t e i is h = last_there (is_documents t e.by e.actor) t.navs i (of_kind t e (Drop i) is h)

pub name_fits : (t : Tree) (e : Entry) (i : ℕ) (name : List ℕ) → e.what ≡ Name i name → admits t e ≡ true → i < t.navs
name_fits t e i name is h = last_there (is_documents t e.by e.actor) t.navs i (of_kind t e (Name i name) is h)

pub closing_fits : (t : Tree) (e : Entry) (i : ℕ) → e.what ≡ Closing i → admits t e ≡ true → i < t.navs
closing_fits t e i is h = last_there (is_documents t e.by e.actor) t.navs i (of_kind t e (Closing i) is h)

pub gone_fits : (t : Tree) (e : Entry) (i : ℕ) → e.what ≡ Gone i → admits t e ≡ true → i < t.navs
gone_fits t e i is h = last_there _ t.navs i (of_kind t e (Gone i) is h)

there_if_any : (count : ℕ) (n : Option ℕ) → has_if_any count n ≡ true → ForSome n (λ m. m < count)
there_if_any count None h m e = absurd cc
there_if_any count (Some n) h m e = let is : n ≡ m = cc in subst (λ x. x < count) is (below n count h)

pub opener_fits : (t : Tree) (e : Entry) (i : ℕ) (to : Option ℕ) → e.what ≡ Opener i to → admits t e ≡ true → (i < t.navs) × ForSome to (λ m. m < t.navs)
opener_fits t e i to is h =
    let a = both _ (has_if_any t.navs to) (of_kind t e (Opener i to) is h) in
    (last_there (is_documents t e.by e.actor) t.navs i a.0, there_if_any t.navs to a.1)

pub fragment_fits : (t : Tree) (e : Entry) (i d : ℕ) (url : List ℕ) → e.what ≡ Fragment i d url → admits t e ≡ true → d < t.docs
fragment_fits t e i d url is h = last_there _ t.docs d (of_kind t e (Fragment i d url) is h)

pub domain_fits : (t : Tree) (e : Entry) (d : ℕ) (domain : List ℕ) → e.what ≡ Domain d domain → admits t e ≡ true → d < t.docs
domain_fits t e d domain is h = last_there _ t.docs d (of_kind t e (Domain d domain) is h)

pub commit_fits : (t : Tree) (e : Entry) (i d b : ℕ) → e.what ≡ Commit i d b → admits t e ≡ true → (i < t.navs) × (d < t.docs) × (nav_of t d ≡ i)
commit_fits t e i d b is h =
    let four = both _ _ (of_kind t e (Commit i d b) is h) in
    let three = both _ _ four.0 in
    let two = both _ (has t.docs d) three.0 in
    (last_there _ t.navs i two.0, below d t.docs two.1, same (nav_of t d) i three.1)

next : (count n : ℕ) → is_next count n ≡ true → (count ≡ n) × (n < 4294967295)
next count n h = let a = both _ _ h in (sym (same n count a.0), below n 4294967295 a.1)

pub begin_fits : (t : Tree) (e : Entry) (i : ℕ) (load : Load) → e.what ≡ Begin i load → admits t e ≡ true → (i < t.navs) × (t.docs ≡ load.doc) × (load.doc < 4294967295)
begin_fits t e i load is h =
    let a = both _ (is_next t.docs load.doc) (of_kind t e (Begin i load) is h) in
    let b = next t.docs load.doc a.1 in
    (last_there (is_documents t e.by e.actor) t.navs i a.0, b.0, b.1)

-- A NEW NAVIGABLE

loads_next : (count : ℕ) (load : Option Load) → is_next_load count load ≡ true → ForSome load (λ l. (l.doc ≡ count) × (l.doc < 4294967295))
loads_next count None h l e = absurd cc
loads_next count (Some m) h l e = let a = next count m.doc h in let is : m ≡ l = cc in subst (λ (x : Load). (x.doc ≡ count) × (x.doc < 4294967295)) is (sym a.0, a.1)

acts : (t : Tree) (by actor : Option ℕ) → is_documents t by actor ≡ true → (is_some actor ≡ true) × ForSome actor (λ d. d < t.docs)
acts t (Some r) (Some d) h = (refl, λ x e. let is : d ≡ x = cc in subst (λ y. y < t.docs) is (below d t.docs (both _ _ h).0))
acts t None actor h = absurd cc
acts t (Some r) None h = absurd cc

-- the numbers of a new navigable
pub record MakesNext (navs docs i d : ℕ) (loaded : Option Load) : Type 0 where
  pub nav : navs ≡ i
  pub few_navs : i < 4294967295
  pub doc : docs ≡ d
  pub few_docs : d < 4294967295
  pub load : ForSome loaded (λ l. l.doc ≡ d + 1)
  pub few_loads : ForSome loaded (λ l. l.doc < 4294967295)

made : (t : Tree) (i d : ℕ) (load : Option Load) → is_next t.navs i ≡ true → is_next t.docs d ≡ true → is_next_load (t.docs + 1) load ≡ true → MakesNext t.navs t.docs i d load
made t i d load a b c =
    let n = next t.navs i a in
    let m = next t.docs d b in
    let l = loads_next (t.docs + 1) load c in
    record { nav = n.0; few_navs = n.1; doc = m.0; few_docs = m.1; load = λ x e. omega (arith, (l x e).0, m.0); few_loads = λ x e. (l x e).1 }

few_docs : (navs docs i d h : ℕ) (o : Origin) (load : Option Load) → MakesNext navs docs i d load → docs + length (new_docs (initial_row i o h) (load_row_if_any i load)) < 4294967296
few_docs navs docs i d h o None m = omega (arith, m.doc, m.few_docs)
few_docs navs docs i d h o (Some l) m = omega (arith, m.doc, m.load l refl, m.few_loads l refl)

loaded_there : (navs docs i d h : ℕ) (o : Origin) (load : Option Load) → MakesNext navs docs i d load → ForSome (doc_of_load load) (λ x. x < docs + length (new_docs (initial_row i o h) (load_row_if_any i load)))
loaded_there navs docs i d h o None m x e = absurd cc
loaded_there navs docs i d h o (Some l) m x e = let is : l.doc ≡ x = cc in omega (arith, m.doc, m.load l refl)

loaded_nav : (navs i : ℕ) (load : Option Load) → navs ≡ i → ForSome (load_row_if_any i load) (λ r. r.nav ≡ navs)
loaded_nav navs i None e r q = absurd cc
loaded_nav navs i (Some l) e r q = let is : i ≡ r.nav = ap nav_if_any q in sym is ∙ sym e
  where
    nav_if_any : Option DocRow → ℕ
    nav_if_any None = 0
    nav_if_any (Some row) = row.nav

loaded_marked : (i : ℕ) (load : Option Load) → ForSome (load_row_if_any i load) (λ r. r.loaded ≡ true)
loaded_marked i None r q = absurd cc
loaded_marked i (Some l) r q = sym (ap mark_if_any q)
  where
    mark_if_any : Option DocRow → Bool
    mark_if_any None = true
    mark_if_any (Some row) = row.loaded

some_docs : (i d h : ℕ) (o : Origin) (load : Option Load) → 0 < length (new_docs (initial_row i o h) (load_row_if_any i load))
some_docs i d h o None = omega arith
some_docs i d h o (Some l) = omega arith

second : (a b : Bool) → (a || b) ≡ true → a ≡ false → b ≡ true
second true b h e = absurd cc
second false b h e = h

group_small : (count g : ℕ) → (has count g || is_next count g) ≡ true → g ≡ count → g < 4294967295
group_small count g h e = let not_there : has count g ≡ false = grind (arith, nat_tests) in (next count g (second (has count g) (is_next count g) h not_there)).1

some_same : {A : Type 0} (x y : A) → Some x ≡ Some y → x ≡ y
some_same x y e = cc

pub open_makes : (t : Tree) (by actor : Option ℕ) (i d g h : ℕ) (o : Origin) (name : List ℕ) (opener : Option ℕ) (flags : ℕ) (navigator : Option ℕ) (load : Option Load)
    → admits_what t by actor (Open i d g h o name opener flags navigator load) ≡ true → MakesNext t.navs t.docs i d load
open_makes t by actor i d g h o name opener flags navigator load a =
    let six = both _ (is_next_load (t.docs + 1) load) a in
    let five = both _ _ six.0 in
    let four = both _ _ five.0 in
    let three = both _ _ four.0 in
    let two = both _ (is_next t.docs d) three.0 in
    let one = both _ (is_next t.navs i) two.0 in
    made t i d load one.1 two.1 six.1

pub frame_makes : (t : Tree) (by actor : Option ℕ) (i d h : ℕ) (o : Origin) (name : List ℕ) (flags : ℕ) (load : Option Load)
    → admits_what t by actor (Frame i d h o name flags load) ≡ true → MakesNext t.navs t.docs i d load
frame_makes t by actor i d h o name flags load a =
    let three = both _ (is_next_load (t.docs + 1) load) a in
    let two = both _ (is_next t.docs d) three.0 in
    let one = both _ (is_next t.navs i) two.0 in
    made t i d load one.1 two.1 three.1

fits_what : (t : Tree) (by actor : Option ℕ) (w : What) (new : NewRows) → new_rows_of actor w ≡ Some new → admits_what t by actor w ≡ true → FitsNew t.navs t.docs t.groups new
fits_what t by actor (Open i d g h o name opener flags navigator load) new is a =
    let m = open_makes t by actor i d g h o name opener flags navigator load a in
    let six = both _ (is_next_load (t.docs + 1) load) a in
    let five = both _ (has_if_any t.navs navigator) six.0 in
    let four = both _ (has_if_any t.navs opener) five.0 in
    let three = both _ (has t.groups g || is_next t.groups g) four.0 in
    let there = loaded_there t.navs t.docs i d h o load m in
    subst (λ (x : NewRows). FitsNew t.navs t.docs t.groups x) (some_same _ new is) (record {
      few_navs = omega (arith, m.nav, m.few_navs);
      few_docs = few_docs t.navs t.docs i d h o load m;
      few_groups = λ x e q. let same_group : g ≡ x = cc in subst (λ y. y < 4294967295) same_group (group_small t.groups g three.1 (same_group ∙ q));
      closed = record {
        active = omega (arith, m.doc, some_docs i d h o load);
        embedder = λ x e. absurd cc;
        navigator = λ x e. omega (arith, there_if_any t.navs navigator five.1 x e);
        opener = λ x e. omega (arith, there_if_any t.navs opener four.1 x e);
        last_load = there;
        group = refl;
      };
      embedder = λ x e. absurd cc;
      active = sym m.doc;
      initial = sym m.nav;
      loaded = loaded_nav t.navs i load m.nav;
      not_loaded = refl;
      marked = loaded_marked i load;
    })
fits_what t by actor (Frame i d h o name flags load) new is a =
    let m = frame_makes t by actor i d h o name flags load a in
    let three = both _ (is_next_load (t.docs + 1) load) a in
    let two = both _ (is_next t.docs d) three.0 in
    let one = both (is_documents t by actor) (is_next t.navs i) two.0 in
    let acting = acts t by actor one.0 in
    subst (λ (x : NewRows). FitsNew t.navs t.docs t.groups x) (some_same _ new is) (record {
      few_navs = omega (arith, m.nav, m.few_navs);
      few_docs = few_docs t.navs t.docs i d h o load m;
      few_groups = λ x e q. absurd cc;
      closed = record {
        active = omega (arith, m.doc, some_docs i d h o load);
        embedder = λ x e. omega (arith, acting.1 x e);
        navigator = λ x e. absurd cc;
        opener = λ x e. absurd cc;
        last_load = loaded_there t.navs t.docs i d h o load m;
        group = rw (acting.0) refl;
      };
      embedder = acting.1;
      active = sym m.doc;
      initial = sym m.nav;
      loaded = loaded_nav t.navs i load m.nav;
      not_loaded = refl;
      marked = loaded_marked i load;
    })
fits_what t by actor _ new is a = absurd cc

-- the new rows that an entry makes fit
pub new_fits : (t : Tree) (e : Entry) (new : NewRows) → new_rows e ≡ Some new → admits t e ≡ true → FitsNew t.navs t.docs t.groups new
new_fits t e new is h = fits_what t e.by e.actor e.what new is (of_kind t e e.what refl h)
