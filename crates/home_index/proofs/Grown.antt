-- An entry that can follow a log leaves its rows, and adds the row of its load.
use Rattle.std.proofs.Common.{◌≡◌, ℕ, ◌+◌, ◌<◌, List, [], ◌∷◌, ◌++◌, Option, Some, None, true, false, refl, sym, ap, subst, ◌∙◌}
use Rattle.std.specs.Prelude.{unwrap_or}
use Rattle.std.specs.Option.{option_or}
use Rattle.origin_core.specs.declared.site.Site.{Site}
use Rattle.origin_core.specs.Site.{site_of}
use Rattle.tree_log.specs.declared.entry.Entry.{Entry}
use Rattle.tree_log.specs.declared.entry.Load.{Load}
use Rattle.tree_log.specs.declared.entry.What.{What}
use Rattle.tree_log.specs.declared.entry.What.TheVariants.{Open, Frame, Begin}
use Rattle.tree_log.specs.Facts.{at, Birth, bears, bears_load, load_in, with_load}
use Rattle.tree_log.specs.Tree.{Tree, tree_of, tree_after, tree_of_step, nav_of, origin_of, home_of, group_of}
use Rattle.tree_log.specs.Homes.{home_for}
use Rattle.tree_log.specs.Admits.{admits, AreAdmitted}
use Rattle.tree_log.proofs.Admitted.{born_stays, what_admitted, tasks_stand, StandsIfAny, TaskStands}
use Rattle.agent_laws.specs.Wellness.{AllBelow, IsWell}
use Rattle.agent_laws.proofs.Logs.Lists.{more_below, last_below}
use Rattle.agent_laws.proofs.Logs.Entries.{entry, at_self, at_next, open_next, frame_next}
use Rattle.agent_laws.proofs.Logs.Older.{group_of_doc_stays}
use Rattle.agent_laws.proofs.Groups.Well.{more_docs, admitted_well}
use Rattle.agent_laws.proofs.Groups.Choices.{has_group}
use Rattle.home_index.specs.Rows.{Row, row, with_row, with_row_if_any, row_of, rows_from, rows_of, home_in, IsFed}
use Rattle.home_index.proofs.Answered.{found_from, HaveGroups, counted_from, no_rows, same_answer}

-- LOADED DOCUMENTS ARE THERE

load_there_if_any : (t : Tree) (nav : ℕ) (o : Option Load) (load : Load) → StandsIfAny t nav o → o ≡ Some load → load.doc < t.docs
load_there_if_any t nav None load stands e = absurd cc
load_there_if_any t nav (Some other) load stands e = let same : other ≡ load = cc in subst (λ (l : Load). l.doc < t.docs) same stands.doc

load_there : (t : Tree) (w : What) (load : Load) → TaskStands t w → load_in w ≡ Some load → load.doc < t.docs
load_there t (Open nav doc group home origin name opener flags navigator o) load stands e = load_there_if_any t nav o load stands e
load_there t (Frame nav doc home origin name flags o) load stands e = load_there_if_any t nav o load stands e
load_there t (Begin nav other) load stands e = load_there_if_any t nav (Some other) load stands e
load_there t _ load stands e = absurd cc

with_load_below : (n : ℕ) (o : Option Load) (ds : List ℕ) → ((load : Load) → o ≡ Some load → load.doc < n) → AllBelow n ds → AllBelow n (with_load o ds)
with_load_below n None ds there below = below
with_load_below n (Some load) ds there below = last_below n load.doc (there load refl) ds below

below_after : (t : Tree) (e : Entry) → TaskStands (tree_after t e) e.what → AllBelow t.docs t.loads → AllBelow (tree_after t e).docs (tree_after t e).loads
unfolding tree_after
below_after t e stands below = with_load_below (tree_after t e).docs (load_in e.what) t.loads (λ load is. load_there (tree_after t e) e.what load stands is) (more_below t.docs (tree_after t e).docs (more_docs t e) t.loads below)

loads_below : (log : List Entry) → AreAdmitted log → AllBelow (tree_of log).docs (tree_of log).loads
unfolding tree_of
loads_below [] all = tt
loads_below (e ∷ older) all =
    subst (λ (t : Tree). AllBelow t.docs t.loads) (sym (tree_of_step e older))
    (below_after (tree_of older) e (subst (λ (t : Tree). TaskStands t e.what) (tree_of_step e older) (tasks_stand (e ∷ older) all).0) (loads_below older all.1))

have_groups : (suffixes : List (List ℕ)) (t : Tree) → IsWell t → (ds : List ℕ) → AllBelow t.docs ds → HaveGroups suffixes t ds
have_groups suffixes t well [] below = tt
have_groups suffixes t well (d ∷ ds) below = let has = has_group t well (nav_of t d) (well.below d below.0) in ((has.0, has.1), have_groups suffixes t well ds below.1)

-- THE HOME

pub home_is : (renderers : ℕ) (suffixes : List (List ℕ)) (log : List Entry) (group : ℕ) (site : Site) → AreAdmitted log → home_in renderers (rows_of suffixes log) group site ≡ home_for renderers suffixes (tree_of log) group site
unfolding home_for rows_of
home_is renderers suffixes log group site all =
    let t = tree_of log in
    same_answer t renderers _ _ _ _ (found_from suffixes t group site [] t.loads)
    (sym (counted_from suffixes t [] [] t.loads (have_groups suffixes t (admitted_well log all) t.loads (loads_below log all)) (no_rows suffixes t)))

-- ONE ENTRY MORE

-- the row of a document that was there
row_stays : (suffixes : List (List ℕ)) (t : Tree) (e : Entry) (d : ℕ) → admits t e ≡ true → IsWell t → d < t.docs → row_of suffixes (tree_after t e) d ≡ row_of suffixes t d
row_stays suffixes t e d h well lt =
    ap (λ (o : Option ℕ). elim o as (λ _. Option Row) [ None ↦ None | Some group ↦ Some (row group (site_of (origin_of (tree_after t e) d) suffixes) (home_of (tree_after t e) d)) ]) (group_of_doc_stays t e h well d lt)
    ∙ ap (λ (b : Birth). elim (group_of t (nav_of t d)) as (λ _. Option Row) [ None ↦ None | Some group ↦ Some (row group (site_of b.origin suffixes) b.home) ]) (born_stays t e d h lt)

rows_stay : (suffixes : List (List ℕ)) (t : Tree) (e : Entry) (rows : List Row) (ds : List ℕ) → admits t e ≡ true → IsWell t → AllBelow t.docs ds → rows_from suffixes (tree_after t e) rows ds ≡ rows_from suffixes t rows ds
rows_stay suffixes t e rows [] h well below = refl
rows_stay suffixes t e rows (d ∷ ds) h well below =
    ap (λ (o : Option Row). rows_from suffixes (tree_after t e) (with_row_if_any rows o) ds) (row_stays suffixes t e d h well below.0)
    ∙ rows_stay suffixes t e (with_row_if_any rows (row_of suffixes t d)) ds h well below.1

rows_last : (suffixes : List (List ℕ)) (t : Tree) (rows : List Row) (ds : List ℕ) (d : ℕ) → rows_from suffixes t rows (ds ++ d ∷ []) ≡ with_row_if_any (rows_from suffixes t rows ds) (row_of suffixes t d)
rows_last suffixes t rows [] d = refl
rows_last suffixes t rows (x ∷ ds) d = rows_last suffixes t (with_row_if_any rows (row_of suffixes t x)) ds d

-- the rows with that of the load, if there is one
abbrev with_load_row : List (List ℕ) → Tree → List Row → Option Load → List Row
with_load_row suffixes t rows None = rows
with_load_row suffixes t rows (Some load) = with_row_if_any rows (row_of suffixes t load.doc)

rows_with_load : (suffixes : List (List ℕ)) (t : Tree) (e : Entry) (o : Option Load) → admits t e ≡ true → IsWell t → AllBelow t.docs t.loads
    → rows_from suffixes (tree_after t e) [] (with_load o t.loads) ≡ with_load_row suffixes (tree_after t e) (rows_from suffixes t [] t.loads) o
rows_with_load suffixes t e None h well below = rows_stay suffixes t e [] t.loads h well below
rows_with_load suffixes t e (Some load) h well below =
    rows_last suffixes (tree_after t e) [] t.loads load.doc ∙ ap (λ (rows : List Row). with_row_if_any rows (row_of suffixes (tree_after t e) load.doc)) (rows_stay suffixes t e [] t.loads h well below)

loads_after_step : (t : Tree) (e : Entry) → (tree_after t e).loads ≡ with_load (load_in e.what) t.loads
unfolding tree_after
loads_after_step t e = refl

rows_step : (suffixes : List (List ℕ)) (e : Entry) (log : List Entry) → AreAdmitted (e ∷ log) → rows_of suffixes (e ∷ log) ≡ with_load_row suffixes (tree_of (e ∷ log)) (rows_of suffixes log) (load_in e.what)
unfolding rows_of
rows_step suffixes e log all =
    let t = tree_of log in
    ap (λ (s : Tree). rows_from suffixes s [] s.loads) (tree_of_step e log)
    ∙ ap (rows_from suffixes (tree_after t e) []) (loads_after_step t e)
    ∙ rows_with_load suffixes t e (load_in e.what) all.0 (admitted_well log all.1) (loads_below log all.1)
    ∙ ap (λ (s : Tree). with_load_row suffixes s (rows_from suffixes t [] t.loads) (load_in e.what)) (sym (tree_of_step e log))

-- an entry without a load leaves the rows
pub others_fed : (suffixes : List (List ℕ)) (rows : List Row) (e : Entry) (log : List Entry) → AreAdmitted (e ∷ log) → load_in e.what ≡ None → IsFed suffixes rows log → IsFed suffixes rows (e ∷ log)
others_fed suffixes rows e log all none fed = fed ∙ sym (rows_step suffixes e log all ∙ ap (with_load_row suffixes (tree_of (e ∷ log)) (rows_of suffixes log)) none)

-- THE DOCUMENT OF THE LOAD

abbrev Bears : Tree → What → Load → Type 0
Bears t w load = (n : ℕ) × (unwrap_or (bears load.doc w) (t.doc load.doc).born ≡ record { nav = n; origin = load.origin; home = load.home; loaded = true })

bears_after : (t : Tree) (nav doc : ℕ) (initial : Birth) (load : Load) → doc ≡ t.docs → load.doc ≡ t.docs + 1
    → unwrap_or (option_or (at load.doc doc initial) (bears_load load.doc nav (Some load))) (t.doc load.doc).born ≡ record { nav = nav; origin = load.origin; home = load.home; loaded = true }
bears_after t nav doc initial load doc_is load_is =
    ap (λ (n : ℕ). unwrap_or (option_or (at n doc initial) (at n n (record { nav = nav; origin = load.origin; home = load.home; loaded = true }))) (t.doc load.doc).born) (load_is ∙ ap (λ n. n + 1) (sym doc_is))
    ∙ at_next doc initial (record { nav = nav; origin = load.origin; home = load.home; loaded = true }) (t.doc load.doc).born

load_born : (t : Tree) (by actor : Option ℕ) (w : What) (load : Load) → admits t (entry by actor w) ≡ true → load_in w ≡ Some load → Bears t w load
load_born t by actor (Open nav doc group home origin name opener flags navigator None) load h is = absurd cc
load_born t by actor (Open nav doc group home origin name opener flags navigator (Some other)) load h is =
    let same : other ≡ load = cc in
    let next = open_next t by actor nav doc group home origin name opener flags navigator (Some other) (what_admitted t (entry by actor (Open nav doc group home origin name opener flags navigator (Some other))) h) in
    subst (λ (l : Load). Bears t (Open nav doc group home origin name opener flags navigator (Some other)) l) same
    (nav, bears_after t nav doc (record { nav = nav; origin = origin; home = home; loaded = false }) other next.new_doc next.new_load)
load_born t by actor (Frame nav doc home origin name flags None) load h is = absurd cc
load_born t by actor (Frame nav doc home origin name flags (Some other)) load h is =
    let same : other ≡ load = cc in
    let next = frame_next t by actor nav doc home origin name flags (Some other) (what_admitted t (entry by actor (Frame nav doc home origin name flags (Some other))) h) in
    subst (λ (l : Load). Bears t (Frame nav doc home origin name flags (Some other)) l) same
    (nav, bears_after t nav doc (record { nav = nav; origin = origin; home = home; loaded = false }) other next.new_doc next.new_load)
load_born t by actor (Begin nav other) load h is =
    let same : other ≡ load = cc in
    subst (λ (l : Load). Bears t (Begin nav other) l) same (nav, at_self other.doc _ _)
load_born t by actor _ load h is = absurd cc

-- the row of the load's document
row_is : (suffixes : List (List ℕ)) (t : Tree) (e : Entry) (load : Load) (group : ℕ) (site : Site) (home : ℕ) → admits t e ≡ true → load_in e.what ≡ Some load
    → group_of (tree_after t e) (nav_of (tree_after t e) load.doc) ≡ Some group → site_of load.origin suffixes ≡ site → load.home ≡ home → row_of suffixes (tree_after t e) load.doc ≡ Some (row group site home)
unfolding tree_after
row_is suffixes t e load group site home h is in_group of_site of_home =
    let born = load_born t e.by e.actor e.what load h is in
    ap (λ (o : Option ℕ). elim o as (λ _. Option Row) [ None ↦ None | Some g ↦ Some (row g (site_of (origin_of (tree_after t e) load.doc) suffixes) (home_of (tree_after t e) load.doc)) ]) in_group
    ∙ ap (λ (b : Birth). Some (row group (site_of b.origin suffixes) b.home)) born.1
    ∙ ap (λ (s : Site). Some (row group s load.home)) of_site
    ∙ ap (λ (n : ℕ). Some (row group site n)) of_home

-- an entry with a load adds the row of its document
pub load_fed : (suffixes : List (List ℕ)) (rows : List Row) (e : Entry) (log : List Entry) (load : Load) (group : ℕ) (site : Site) (home : ℕ) → AreAdmitted (e ∷ log) → load_in e.what ≡ Some load
    → group_of (tree_of (e ∷ log)) (nav_of (tree_of (e ∷ log)) load.doc) ≡ Some group → site_of load.origin suffixes ≡ site → load.home ≡ home → IsFed suffixes rows log
    → IsFed suffixes (with_row rows (row group site home)) (e ∷ log)
load_fed suffixes rows e log load group site home all is in_group of_site of_home fed =
    let here : row_of suffixes (tree_of (e ∷ log)) load.doc ≡ Some (row group site home) =
    ap (λ (t : Tree). row_of suffixes t load.doc) (tree_of_step e log)
    ∙ row_is suffixes (tree_of log) e load group site home all.0 is (subst (λ (t : Tree). group_of t (nav_of t load.doc) ≡ Some group) (tree_of_step e log) in_group) of_site of_home in
    ap (λ (x : List Row). with_row x (row group site home)) fed
    ∙ sym (rows_step suffixes e log all ∙ ap (with_load_row suffixes (tree_of (e ∷ log)) (rows_of suffixes log)) is ∙ ap (with_row_if_any (rows_of suffixes log)) here)

pub none_fed : (suffixes : List (List ℕ)) → IsFed suffixes [] []
unfolding rows_of tree_of
none_fed suffixes = refl
