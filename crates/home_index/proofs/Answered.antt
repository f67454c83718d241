-- The home by the rows of documents is the home that their definition gives.
use Rattle.std.proofs.Common.{◌≡◌, ℕ, List, [], ◌∷◌, ◌++◌, length, Option, Some, None, Bool, true, false, cond, refl, sym, ap, ◌∙◌, arith}
use Rattle.std.specs.Prelude.{option_map, find, ◌%◌, ◌&&◌, ◌||◌, if◌then◌else◌}
use Rattle.std.specs.Option.{option_or}
use Rattle.std.specs.List.{list_any}
use Rattle.std.proofs.lemmas.Bool.{false≢true}
use Rattle.std.proofs.lemmas.List.{length-append}
use Rattle.std.proofs.lemmas.List.Folds.{find-append, list_any-append}
use Rattle.origin_core.specs.declared.site.Site.{Site}
use Rattle.origin_core.specs.Site.{site_of}
use Rattle.tree_log.specs.Tree.{Tree, nav_of, origin_of, home_of, group_of}
use Rattle.tree_log.specs.Tree.{is as is_group}
use Rattle.tree_log.specs.Homes.{is_same_site, is_of, is_alike, pairs}
use Rattle.home_index.specs.Rows.{Row, row, is_row_of, with_row, with_row_if_any, row_of, rows_from}
use Rattle.home_index.proofs.Found.{row_parts}

-- the home by the first row of a group and a site
abbrev pub found : ℕ → Site → List Row → Option ℕ
found group site rows = option_map (λ (r : Row). r.home) (find (is_row_of group site) rows)

or_none : (o : Option ℕ) → o ≡ option_or o None
or_none None = refl
or_none (Some n) = refl

or_again : (o p q : Option ℕ) → option_or (option_or o p) q ≡ option_or o (option_or p q)
or_again None p q = refl
or_again (Some n) p q = refl

-- ONE ROW MORE

home_or : (o p : Option Row) → option_map (λ (r : Row). r.home) (option_or o p) ≡ option_or (option_map (λ (r : Row). r.home) o) (option_map (λ (r : Row). r.home) p)
home_or None p = refl
home_or (Some r) p = refl

one_home : (b : Bool) (r : Row) → option_map (λ (x : Row). x.home) (cond b (Some r) None) ≡ cond b (Some r.home) None
one_home true r = refl
one_home false r = refl

-- where a row passes, one is found
some_found : (group : ℕ) (site : Site) (rows : List Row) (q : Option ℕ) → list_any (is_row_of group site) rows ≡ true → found group site rows ≡ option_or (found group site rows) q
some_found group site [] q any = absurd (false≢true any)
some_found group site (r ∷ rows) q any = some_here (is_row_of group site r) any (some_found group site rows q)
  where
    some_here : (b : Bool) → (b || list_any (is_row_of group site) rows) ≡ true → (list_any (is_row_of group site) rows ≡ true → found group site rows ≡ option_or (found group site rows) q)
        → option_map (λ (x : Row). x.home) (cond b (Some r) (find (is_row_of group site) rows)) ≡ option_or (option_map (λ (x : Row). x.home) (cond b (Some r) (find (is_row_of group site) rows))) q
    some_here true any later = refl
    some_here false any later = later any

found_with : (group : ℕ) (site : Site) (rows : List Row) (r : Row) → found group site (with_row rows r) ≡ option_or (found group site rows) (cond (is_row_of group site r) (Some r.home) None)
found_with group site rows r = with_here (list_any (is_row_of r.group r.site) rows) refl
  where
    old_here : list_any (is_row_of r.group r.site) rows ≡ true → (b : Bool) → is_row_of group site r ≡ b → found group site rows ≡ option_or (found group site rows) (cond b (Some r.home) None)
    old_here any true is =
        let parts = row_parts group site r is in
        some_found group site rows (Some r.home) (ap (λ (g : ℕ). list_any (is_row_of g site) rows) (sym parts.0) ∙ ap (λ (s : Site). list_any (is_row_of r.group s) rows) (sym parts.1) ∙ any)
    old_here any false is = or_none (found group site rows)

    with_here : (b : Bool) → list_any (is_row_of r.group r.site) rows ≡ b → found group site (if b then rows else rows ++ r ∷ []) ≡ option_or (found group site rows) (cond (is_row_of group site r) (Some r.home) None)
    with_here true any = old_here any (is_row_of group site r) refl
    with_here false any =
        ap (option_map (λ (x : Row). x.home)) (find-append (is_row_of group site) rows (r ∷ []))
        ∙ home_or (find (is_row_of group site) rows) (cond (is_row_of group site r) (Some r) None)
        ∙ ap (option_or (found group site rows)) (one_home (is_row_of group site r) r)

-- ONE DOCUMENT MORE

-- the row that a document of this group has
abbrev row_in_group : List (List ℕ) → Tree → ℕ → Option ℕ → Option Row
row_in_group suffixes t d o = elim o as (λ _. Option Row) [ None ↦ None | Some group ↦ Some (row group (site_of (origin_of t d) suffixes) (home_of t d)) ]

module _ (suffixes : List (List ℕ)) (t : Tree) where
  found_with_doc : (group : ℕ) (site : Site) (rows : List Row) (d : ℕ)
      → found group site (with_row_if_any rows (row_of suffixes t d)) ≡ option_or (found group site rows) (cond (is_of suffixes t group site d) (Some (home_of t d)) None)
  found_with_doc group site rows d = doc_here (group_of t (nav_of t d))
    where
      doc_here : (o : Option ℕ) → found group site (with_row_if_any rows (row_in_group suffixes t d o))
          ≡ option_or (found group site rows) (cond (is_group o group && is_same_site (site_of (origin_of t d) suffixes) site) (Some (home_of t d)) None)
      doc_here None = or_none (found group site rows)
      doc_here (Some g) = found_with group site rows (row g (site_of (origin_of t d) suffixes) (home_of t d))

  first_or : (b : Bool) (d : ℕ) (o : Option ℕ) → option_or (cond b (Some (home_of t d)) None) (option_map (home_of t) o) ≡ option_map (home_of t) (cond b (Some d) o)
  first_or true d o = refl
  first_or false d o = refl

  -- the home that the rows of documents say of a group and a site
  pub found_from : (group : ℕ) (site : Site) (rows : List Row) (ds : List ℕ)
      → found group site (rows_from suffixes t rows ds) ≡ option_or (found group site rows) (option_map (home_of t) (find (is_of suffixes t group site) ds))
  found_from group site rows [] = or_none (found group site rows)
  found_from group site rows (d ∷ ds) =
      found_from group site (with_row_if_any rows (row_of suffixes t d)) ds
      ∙ ap (λ (o : Option ℕ). option_or o (option_map (home_of t) (find (is_of suffixes t group site) ds))) (found_with_doc group site rows d)
      ∙ or_again (found group site rows) (cond (is_of suffixes t group site d) (Some (home_of t d)) None) (option_map (home_of t) (find (is_of suffixes t group site) ds))
      ∙ ap (option_or (found group site rows)) (first_or (is_of suffixes t group site d) d (find (is_of suffixes t group site) ds))

  -- HOW MANY

  -- each of the documents has a group
  abbrev pub HaveGroups : List ℕ → Type 0
  HaveGroups [] = Unit {0}
  HaveGroups (d ∷ ds) = ((g : ℕ) × (group_of t (nav_of t d) ≡ Some g)) × HaveGroups ds

  -- the rows are those of the documents
  pub record AreRowsOf (seen : List ℕ) (rows : List Row) : Type 0 where
    pub any : (group : ℕ) (site : Site) → list_any (is_row_of group site) rows ≡ list_any (is_of suffixes t group site) seen
    pub as_many : length seen ≡ length rows

  or_last : (a b : Bool) → (a || (b || false)) ≡ (b || a)
  or_last true true = refl
  or_last true false = refl
  or_last false true = refl
  or_last false false = refl

  abbrev pub alike_in : Option ℕ → ℕ → ℕ → Bool
  alike_in o d c = elim o as (λ _. Bool) [ None ↦ false | Some group ↦ is_of suffixes t group (site_of (origin_of t d) suffixes) c ]

  abbrev row_here : ℕ → ℕ → Row
  row_here g d = row g (site_of (origin_of t d) suffixes) (home_of t d)

  rows_with : (seen : List ℕ) (rows : List Row) (d g : ℕ) → group_of t (nav_of t d) ≡ Some g → AreRowsOf seen rows → AreRowsOf (d ∷ seen) (rows ++ row_here g d ∷ [])
  rows_with seen rows d g in_group are = record {
    any = λ group site.
        list_any-append (is_row_of group site) rows (row_here g d ∷ [])
        ∙ or_last (list_any (is_row_of group site) rows) (is_row_of group site (row_here g d))
        ∙ ap (λ (b : Bool). is_row_of group site (row_here g d) || b) (are.any group site)
        ∙ ap (λ (o : Option ℕ). (is_group o group && is_same_site (site_of (origin_of t d) suffixes) site) || list_any (is_of suffixes t group site) seen) (sym in_group);
    as_many = let same : length seen ≡ length rows = are.as_many in let more = length-append rows (row_here g d ∷ []) in omega (arith, more);
  }

  pub counted_from : (seen : List ℕ) (rows : List Row) (ds : List ℕ) → HaveGroups ds → AreRowsOf seen rows → pairs suffixes t seen ds ≡ length (rows_from suffixes t rows ds)
  counted_from seen rows [] have are = are.as_many
  counted_from seen rows (d ∷ ds) have are =
      let g = have.0.0 in
      let in_group : group_of t (nav_of t d) ≡ Some g = have.0.1 in
      let tests : list_any (is_alike suffixes t d) seen ≡ list_any (is_row_of g (site_of (origin_of t d) suffixes)) rows =
      ap (λ (o : Option ℕ). list_any (alike_in o d) seen) in_group ∙ sym (are.any g (site_of (origin_of t d) suffixes)) in
      ap (λ (b : Bool). if b then pairs suffixes t seen ds else pairs suffixes t (d ∷ seen) ds) tests
      ∙ counted_here (list_any (is_row_of g (site_of (origin_of t d) suffixes)) rows) g (counted_from seen rows ds have.1 are)
      (counted_from (d ∷ seen) (rows ++ row_here g d ∷ []) ds have.1 (rows_with seen rows d g in_group are))
      ∙ ap (λ (o : Option ℕ). length (rows_from suffixes t (with_row_if_any rows (row_in_group suffixes t d o)) ds)) (sym in_group)
    where
      counted_here : (b : Bool) (g : ℕ) → pairs suffixes t seen ds ≡ length (rows_from suffixes t rows ds) → pairs suffixes t (d ∷ seen) ds ≡ length (rows_from suffixes t (rows ++ row_here g d ∷ []) ds)
          → (if b then pairs suffixes t seen ds else pairs suffixes t (d ∷ seen) ds) ≡ length (rows_from suffixes t (if b then rows else rows ++ row_here g d ∷ []) ds)
      counted_here true g stay grow = stay
      counted_here false g stay grow = grow

  pub no_rows : AreRowsOf [] []
  no_rows = record { any = λ group site. refl; as_many = refl }

-- THE HOME

pub same_answer : (t : Tree) (renderers n m : ℕ) (o : Option Row) (q : Option ℕ) → option_map (λ (r : Row). r.home) o ≡ option_map (home_of t) q → n ≡ m
    → elim o as (λ _. ℕ) [ Some r ↦ r.home | None ↦ n % renderers ] ≡ elim q as (λ _. ℕ) [ Some d ↦ home_of t d | None ↦ m % renderers ]
same_answer t renderers n m None None e same = ap (λ k. k % renderers) same
same_answer t renderers n m None (Some d) e same = absurd cc
same_answer t renderers n m (Some r) None e same = absurd cc
same_answer t renderers n m (Some r) (Some d) e same = cc

pub answer_some : (n home : ℕ) (o : Option Row) → option_map (λ (r : Row). r.home) o ≡ Some home → elim o as (λ _. ℕ) [ Some r ↦ r.home | None ↦ n ] ≡ home
answer_some n home None e = absurd cc
answer_some n home (Some r) e = cc

pub answer_none : (n : ℕ) (o : Option Row) → option_map (λ (r : Row). r.home) o ≡ None → elim o as (λ _. ℕ) [ Some r ↦ r.home | None ↦ n ] ≡ n
answer_none n None e = refl
answer_none n (Some r) e = absurd cc
