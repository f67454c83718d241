-- Each entry of an exchange keeps documents homed, where no initial document acts.
use Rattle.std.proofs.Common.{◌≡◌, ℕ, ◌+◌, ◌<◌, List, [], ◌∷◌, ◌++◌, Option, Some, None, Bool, true, false, refl, ap, ◌∙◌, sym, subst, if◌then◌else◌, arith, inl, inr, eq-eqb}
use Rattle.std.specs.Prelude.{◌⊎◌, ◌||◌, ◌==◌, not, is_none, option_map, unwrap_or}
use Rattle.std.proofs.lemmas.Bool.{false≢true, cases_lt, ne_eqb}
use Rattle.std.proofs.lemmas.Bool.Decides.{eqb_tells}
use Rattle.std.specs.Option.{option_or}
use Rattle.origin_core.specs.declared.origin.Origin.{Origin}
use Rattle.origin_core.specs.declared.origin.Origin.TheVariants.{Tuple, Opaque}
use Rattle.origin_core.specs.Tuple.{TupleParts}
use Rattle.origin_core.specs.Flags.{has_origin, has_navigation}
use Rattle.origin_core.specs.Origin.{page_tuple, page_origin, loaded_origin, start_origin, frame_origin, window_origin}
use Rattle.origin_core.specs.Site.{site_of, fits}
use Rattle.origin_core.proofs.PageHost.{HasWebHost, page_host}
use Rattle.tree_log.specs.declared.entry.Entry.{Entry}
use Rattle.tree_log.specs.declared.entry.Load.{Load}
use Rattle.tree_log.specs.declared.entry.What.{What}
use Rattle.tree_log.specs.declared.entry.What.TheVariants.{Open, Frame, Begin, Domain}
use Rattle.tree_log.specs.Facts.{at, Birth, Making, loads_of, with_load, bears_load}
use Rattle.tree_log.specs.Tree.{Tree, tree_after, nav_of, home_of, origin_of, domain_of, group_of}
use Rattle.tree_log.specs.Admits.{admits}
use Rattle.tree_log.specs.Homes.{home_for}
use Rattle.tree_log.proofs.Admitted.{born_stays}
use Rattle.single_agent.specs.Session.{start_load, start_entry}
use Rattle.coordinator_rules.specs.Navigation.{flags_in}
use Rattle.coordinator_rules.specs.Decision.{Rules, by, group_in, load_for, frame_load, frame_entry, navigation, new_window, window_load, window_flags, window_name, unless, effective_domain, is_address}
use Rattle.agent_laws.specs.Wellness.{IsWell}
use Rattle.log_laws.specs.Homes.{is_loaded}
use Rattle.agent_laws.proofs.Logs.Entries.{entry, at_self, at_first, at_next}
use Rattle.agent_laws.proofs.Groups.Well.{as_top, as_frame, well_at_step, more_docs}
use Rattle.agent_laws.proofs.Groups.Choices.{has_group}
use Rattle.agent_laws.proofs.Logs.Steps.{is_maker, IsStep, Quietly, Begins, Frames, Windows, Starts, Relaxes}
use Rattle.agent_laws.proofs.Logs.Older.{group_of_doc, group_stays, group_of_doc_stays, group_of_child, group_of_top}
use Rattle.log_laws.proofs.Homes.Homed.{IsLike, IsOriginFit, IsHostFit, MayHave, IsNewDoc, Initial_own, Initial_like, Loaded_new, IsGrown}

abbrev birth_of : ℕ → Origin → ℕ → Bool → Birth
birth_of nav origin home loaded = record { nav = nav; origin = origin; home = home; loaded = loaded }

-- LOADS

-- the load of a new document d
record IsLoadFit (rules : Rules) (t : Tree) (g d : ℕ) (load : Load) : Type 0 where
  pub document : load.doc ≡ d
  pub homed : load.home ≡ home_for rules.renderers rules.suffixes t g (site_of load.origin rules.suffixes)
  pub fit : IsOriginFit t d load.origin
  pub host : IsHostFit t load.origin

-- the origin of what a loaded document loads
origin_fit : (t : Tree) (sandboxed : Bool) (d asker : ℕ) (url : List ℕ) → asker < t.docs → is_loaded t asker ≡ true → IsOriginFit t d (loaded_origin sandboxed d (origin_of t asker) url)
origin_fit t true d asker url lt was k e = inl cc
origin_fit t false d asker url lt was k e = by_page (page_tuple url) e
  where
    by_page : (o : Option TupleParts) → unwrap_or (option_map Tuple o) (origin_of t asker) ≡ Opaque k → (k ≡ d) ⊎ ((a : ℕ) × (a < t.docs) × (is_loaded t a ≡ true) × (origin_of t a ≡ Opaque k))
    by_page None h = inr (asker, lt, was, h)
    by_page (Some tuple) h = absurd cc

-- the host of what a document loads
host_fit : (t : Tree) (sandboxed : Bool) (d asker : ℕ) (url : List ℕ) → asker < t.docs → IsHostFit t (loaded_origin sandboxed d (origin_of t asker) url)
host_fit t true d asker url lt tuple e = absurd cc
host_fit t false d asker url lt tuple e = by_page (page_tuple url) refl e
  where
    by_page : (o : Option TupleParts) → page_tuple url ≡ o → unwrap_or (option_map Tuple o) (origin_of t asker) ≡ Tuple tuple → HasWebHost tuple.host tuple.ip ⊎ ((a : ℕ) × (a < t.docs) × (origin_of t a ≡ Tuple tuple))
    by_page None is h = inr (asker, lt, h)
    by_page (Some page) is h = let same : page ≡ tuple = cc in inl (page_host url tuple (is ∙ ap Some same))

load_fit : (rules : Rules) (t : Tree) (group flags d asker : ℕ) (url : List ℕ) → asker < t.docs → is_loaded t asker ≡ true → IsLoadFit rules t group d (load_for rules t group flags d asker url)
load_fit rules t group flags d asker url lt was = record { document = refl; homed = refl; fit = origin_fit t (has_origin flags) d asker url lt was; host = host_fit t (has_origin flags) d asker url lt }

start_fit : (rules : Rules) (t : Tree) (url : List ℕ) → IsLoadFit rules t t.groups (t.docs + 1) (start_load rules t url)
start_fit rules t url = record { document = refl; homed = refl; fit = λ k e. by_page k (page_tuple url) e; host = λ tuple e. host_by_page tuple (page_tuple url) refl e }
  where
    host_by_page : (tuple : TupleParts) (o : Option TupleParts) → page_tuple url ≡ o → unwrap_or (option_map Tuple o) (Opaque (t.docs + 1)) ≡ Tuple tuple → HasWebHost tuple.host tuple.ip ⊎ ((a : ℕ) × (a < t.docs) × (origin_of t a ≡ Tuple tuple))
    host_by_page tuple None is h = absurd cc
    host_by_page tuple (Some page) is h = let same : page ≡ tuple = cc in inl (page_host url tuple (is ∙ ap Some same))

    by_page : (k : ℕ) (o : Option TupleParts) → unwrap_or (option_map Tuple o) (Opaque (t.docs + 1)) ≡ Opaque k → (k ≡ t.docs + 1) ⊎ ((a : ℕ) × (a < t.docs) × (is_loaded t a ≡ true) × (origin_of t a ≡ Opaque k))
    by_page k None h = inl cc
    by_page k (Some tuple) h = absurd cc

abbrev IsLoadFitIfAny : Rules → Tree → ℕ → ℕ → Option Load → Type 0
IsLoadFitIfAny rules t g d None = Unit {0}
IsLoadFitIfAny rules t g d (Some load) = IsLoadFit rules t g d load

frame_load_fit : (rules : Rules) (t : Tree) (asker flags : ℕ) (url : Option (List ℕ)) → asker < t.docs → is_loaded t asker ≡ true → IsLoadFitIfAny rules t (group_in t (nav_of t asker)) (t.docs + 1) (frame_load rules t asker flags url)
frame_load_fit rules t asker flags None lt was = tt
frame_load_fit rules t asker flags (Some url) lt was = if_loads (is_none (page_origin url)) (load_for rules t (group_in t (nav_of t asker)) flags (t.docs + 1) asker url) (load_fit rules t (group_in t (nav_of t asker)) flags (t.docs + 1) asker url lt was)
  where
    if_loads : (b : Bool) (load : Load) → IsLoadFit rules t (group_in t (nav_of t asker)) (t.docs + 1) load → IsLoadFitIfAny rules t (group_in t (nav_of t asker)) (t.docs + 1) (if b then None else Some load)
    if_loads true load fit = tt
    if_loads false load fit = fit

window_load_fit : (rules : Rules) (t : Tree) (asker group flags : ℕ) (url : Option (List ℕ)) → asker < t.docs → is_loaded t asker ≡ true → IsLoadFitIfAny rules t group (t.docs + 1) (window_load rules t asker group flags url)
window_load_fit rules t asker group flags None lt was = tt
window_load_fit rules t asker group flags (Some url) lt was = load_fit rules t group flags (t.docs + 1) asker url lt was

-- DOMAINS

abbrev KeepsDomains : Tree → Tree → Type 0
KeepsDomains t s = (d : ℕ) → domain_of s d ≡ domain_of t d

open_domains : (t : Tree) (b a : Option ℕ) (nav doc group home : ℕ) (origin : Origin) (name : List ℕ) (opener : Option ℕ) (flags : ℕ) (navigator : Option ℕ) (load : Option Load)
    → KeepsDomains t (tree_after t (entry b a (Open nav doc group home origin name opener flags navigator load)))
unfolding tree_after
open_domains t b a nav doc group home origin name opener flags navigator load d = refl

frame_domains : (t : Tree) (b a : Option ℕ) (nav doc home : ℕ) (origin : Origin) (name : List ℕ) (flags : ℕ) (load : Option Load) → KeepsDomains t (tree_after t (entry b a (Frame nav doc home origin name flags load)))
unfolding tree_after
frame_domains t b a nav doc home origin name flags load d = refl

begin_domains : (t : Tree) (b a : Option ℕ) (nav : ℕ) (load : Load) → KeepsDomains t (tree_after t (entry b a (Begin nav load)))
unfolding tree_after
begin_domains t b a nav load d = refl

-- A NEW NAVIGABLE

abbrev IsWho : Tree → Origin → ℕ → ℕ → Type 0
IsWho t origin home g = (origin ≡ Opaque t.docs) ⊎ ((a : ℕ) × IsLike t origin home (Some g) a)

-- the tree s has a new navigable of group g with an initial document, and perhaps a load
record HasNewNav (t s : Tree) (home : ℕ) (origin : Origin) (g : ℕ) (load : Option Load) : Type 0 where
  pub initial : (s.doc t.docs).born ≡ birth_of t.navs origin home false
  pub docs : s.docs ≡ t.docs + (1 + loads_of load)
  pub loads : s.loads ≡ with_load load t.loads
  pub loading : (l : Load) → load ≡ Some l → l.doc ≡ t.docs + 1 → (s.doc (t.docs + 1)).born ≡ birth_of t.navs l.origin l.home true
  pub here : group_of s t.navs ≡ Some g

initial_doc : (rules : Rules) (t s : Tree) (home : ℕ) (origin : Origin) (g : ℕ) (load : Option Load) → HasNewNav t s home origin g load → IsWho t origin home g → IsNewDoc rules t s t.docs
initial_doc rules t s home origin g load n who =
    let not_loaded : is_loaded s t.docs ≡ false = ap (λ (b : Birth). b.loaded) n.initial in
    let same_origin : origin_of s t.docs ≡ origin = ap (λ (b : Birth). b.origin) n.initial in
    let same_home : home_of s t.docs ≡ home = ap (λ (b : Birth). b.home) n.initial in
    let same_group : group_of_doc s t.docs ≡ Some g = ap (group_of s) (ap (λ (b : Birth). b.nav) n.initial) ∙ n.here in
    elim who as (λ _. IsNewDoc rules t s t.docs) [
      | inl o ↦ Initial_own not_loaded (same_origin ∙ o)
      | inr l ↦ Initial_like l.0 not_loaded
          (record { there = l.1.there; was_loaded = l.1.was_loaded; same_origin = same_origin ∙ l.1.same_origin; same_home = same_home ∙ l.1.same_home; same_group = same_group ∙ l.1.same_group })
    ]

-- a loaded document d of navigable n, which is of group g
loaded_doc : (rules : Rules) (t s : Tree) (n d g : ℕ) (load : Load) → group_of s n ≡ Some g → (s.doc d).born ≡ birth_of n load.origin load.home true → s.loads ≡ t.loads ++ d ∷ [] → IsLoadFit rules t g d load → IsNewDoc rules t s d
loaded_doc rules t s n d g load here born loads fit =
    let same_origin : origin_of s d ≡ load.origin = ap (λ (b : Birth). b.origin) born in
    Loaded_new g (ap (λ (b : Birth). b.loaded) born) (ap (group_of s) (ap (λ (b : Birth). b.nav) born) ∙ here)
    (ap (λ (b : Birth). b.home) born ∙ fit.homed ∙ ap (λ (o : Origin). home_for rules.renderers rules.suffixes t g (site_of o rules.suffixes)) (sym same_origin)) (λ k h. fit.fit k (sym same_origin ∙ h)) (λ tuple h. fit.host tuple (sym same_origin ∙ h)) loads

nav_grown : (rules : Rules) (t : Tree) (e : Entry) (home : ℕ) (origin : Origin) (g : ℕ) (load : Option Load) → admits t e ≡ true → IsWell t → HasNewNav t (tree_after t e) home origin g load → IsWho t origin home g
    → IsLoadFitIfAny rules t g (t.docs + 1) load → KeepsDomains t (tree_after t e) → IsGrown rules t (tree_after t e)
nav_grown rules t e home origin g None h well n who fit kept =
    let more : (tree_after t e).docs ≡ t.docs + 1 = n.docs ∙ (omega arith) in
    record {
      docs = more_docs t e;
      born = λ d lt. born_stays t e d h lt;
      group = λ d lt. group_of_doc_stays t e h well d lt;
      new = λ d ge lt. let is : t.docs ≡ d = omega arith in subst (IsNewDoc rules t (tree_after t e)) is (initial_doc rules t (tree_after t e) home origin g None n who);
      loads = inl n.loads;
      unset = λ d ge. kept d;
      set = λ d lt. inl (kept d);
    }
nav_grown rules t e home origin g (Some load) h well n who fit kept =
    let more : (tree_after t e).docs ≡ t.docs + 2 = n.docs ∙ (omega arith) in
    let doc_is : load.doc ≡ t.docs + 1 = fit.document in
    let loads : (tree_after t e).loads ≡ t.loads ++ (t.docs + 1) ∷ [] = n.loads ∙ ap (λ (d : ℕ). t.loads ++ d ∷ []) doc_is in
    record {
      docs = more_docs t e;
      born = λ d lt. born_stays t e d h lt;
      group = λ d lt. group_of_doc_stays t e h well d lt;
      new = λ d ge lt. elim (cases_lt t.docs d) as (λ _. IsNewDoc rules t (tree_after t e) d) [
        | inl above ↦ let is : t.docs + 1 ≡ d = omega arith in subst (IsNewDoc rules t (tree_after t e)) is (loaded_doc rules t (tree_after t e) t.navs (t.docs + 1) g load n.here (n.loading load refl doc_is) loads fit)
        | inr same ↦ let is : t.docs ≡ d = omega arith in subst (IsNewDoc rules t (tree_after t e)) is (initial_doc rules t (tree_after t e) home origin g (Some load) n who)
      ];
      loads = inr (t.docs + 1, omega arith, omega arith, loads);
      unset = λ d ge. kept d;
      set = λ d lt. inl (kept d);
    }

loading_born : (t : Tree) (nav home : ℕ) (origin : Origin) (load l : Load) → load ≡ l → l.doc ≡ t.docs + 1
    → unwrap_or (option_or (at (t.docs + 1) t.docs (birth_of nav origin home false)) (bears_load (t.docs + 1) nav (Some load))) (t.doc (t.docs + 1)).born ≡ birth_of nav l.origin l.home true
loading_born t nav home origin load l same doc_is =
    subst (λ (z : Load). unwrap_or (option_or (at (t.docs + 1) t.docs (birth_of nav origin home false)) (bears_load (t.docs + 1) nav (Some z))) (t.doc (t.docs + 1)).born ≡ birth_of nav l.origin l.home true) (sym same)
    (rw doc_is (at_next t.docs (birth_of nav origin home false) (birth_of nav l.origin l.home true) (t.doc (t.docs + 1)).born))

some_is : (load : Option Load) (l : Load) → load ≡ Some l → (P : Option Load → Type 0) → P (Some l) → P load
some_is load l e P p = subst P (sym e) p

open_new : (t : Tree) (b a : Option ℕ) (group home : ℕ) (origin : Origin) (name : List ℕ) (opener : Option ℕ) (flags : ℕ) (navigator : Option ℕ) (load : Option Load)
    → HasNewNav t (tree_after t (entry b a (Open t.navs t.docs group home origin name opener flags navigator load))) home origin group load
unfolding tree_after
open_new t b a group home origin name opener flags navigator load =
    let s : Tree = tree_after t (entry b a (Open t.navs t.docs group home origin name opener flags navigator load)) in
    let made : (s.nav t.navs).made ≡ as_top a group flags navigator = at_self t.navs (as_top a group flags navigator) (t.nav t.navs).made in
    record {
      initial = at_first t.docs (birth_of t.navs origin home false) (t.doc t.docs).born (bears_load t.docs t.navs load);
      docs = refl;
      loads = refl;
      loading = λ l is doc_is. some_is load l is
          (λ z. unwrap_or (option_or (at (t.docs + 1) t.docs (birth_of t.navs origin home false)) (bears_load (t.docs + 1) t.navs z)) (t.doc (t.docs + 1)).born ≡ birth_of t.navs l.origin l.home true)
          (loading_born t t.navs home origin l l refl doc_is);
      here = group_of_top s t.navs (ap (λ (m : Making). m.embedder) made) ∙ ap (λ (m : Making). m.group) made;
    }

frame_new : (t : Tree) (r asker home : ℕ) (origin : Origin) (name : List ℕ) (flags : ℕ) (load : Option Load) (g : ℕ) → IsWell t → asker < t.docs
    → admits t (by r asker (Frame t.navs t.docs home origin name flags load)) ≡ true → group_of_doc t asker ≡ Some g
    → HasNewNav t (tree_after t (by r asker (Frame t.navs t.docs home origin name flags load))) home origin g load
unfolding tree_after
frame_new t r asker home origin name flags load g well lt h group =
    let e : Entry = by r asker (Frame t.navs t.docs home origin name flags load) in
    let s : Tree = tree_after t e in
    let made : (s.nav t.navs).made ≡ as_frame (Some asker) flags = at_self t.navs (as_frame (Some asker) flags) (t.nav t.navs).made in
    record {
      initial = at_first t.docs (birth_of t.navs origin home false) (t.doc t.docs).born (bears_load t.docs t.navs load);
      docs = refl;
      loads = refl;
      loading = λ l is doc_is. some_is load l is
          (λ z. unwrap_or (option_or (at (t.docs + 1) t.docs (birth_of t.navs origin home false)) (bears_load (t.docs + 1) t.navs z)) (t.doc (t.docs + 1)).born ≡ birth_of t.navs l.origin l.home true)
          (loading_born t t.navs home origin l l refl doc_is);
      here = group_of_child s (well_at_step t e h well) t.navs asker (ap (λ (m : Making). m.embedder) made) ∙ group_of_doc_stays t e h well asker lt ∙ group;
    }

-- THE KINDS OF ENTRIES

-- what any other entry leaves
quiet_counts : (t : Tree) (b a : Option ℕ) (w : What) → is_maker w ≡ false → ((tree_after t (entry b a w)).docs ≡ t.docs) × ((tree_after t (entry b a w)).loads ≡ t.loads)
unfolding is_maker tree_after
quiet_counts t b a (Open _ _ _ _ _ _ _ _ _ _) q = absurd (false≢true (sym q))
quiet_counts t b a (Frame _ _ _ _ _ _ _) q = absurd (false≢true (sym q))
quiet_counts t b a (Begin _ _) q = absurd (false≢true (sym q))
quiet_counts t b a (Domain _ _) q = absurd (false≢true (sym q))
quiet_counts t b a w q = (refl, refl)

quiet_domains : (t : Tree) (b a : Option ℕ) (w : What) → is_maker w ≡ false → KeepsDomains t (tree_after t (entry b a w))
unfolding is_maker tree_after
quiet_domains t b a (Domain _ _) q d = absurd (false≢true (sym q))
quiet_domains t b a w q d = refl

quiet_grown : (rules : Rules) (t : Tree) (b a : Option ℕ) (w : What) → is_maker w ≡ false → admits t (entry b a w) ≡ true → IsWell t → IsGrown rules t (tree_after t (entry b a w))
quiet_grown rules t b a w q h well =
    let same = quiet_counts t b a w q in
    let docs : (tree_after t (entry b a w)).docs ≡ t.docs = same.0 in
    record {
      docs = more_docs t (entry b a w);
      born = λ d lt. born_stays t (entry b a w) d h lt;
      group = λ d lt. group_of_doc_stays t (entry b a w) h well d lt;
      new = λ d ge lt. absurd (omega arith);
      loads = inl same.1;
      unset = λ d ge. quiet_domains t b a w q d;
      set = λ d lt. inl (quiet_domains t b a w q d);
    }

begin_counts : (t : Tree) (b a : Option ℕ) (n : ℕ) (load : Load) → ((tree_after t (entry b a (Begin n load))).docs ≡ t.docs + 1) × ((tree_after t (entry b a (Begin n load))).loads ≡ t.loads ++ load.doc ∷ [])
unfolding tree_after
begin_counts t b a n load = (refl, refl)

begin_born : (t : Tree) (b a : Option ℕ) (n : ℕ) (load : Load) → load.doc ≡ t.docs → ((tree_after t (entry b a (Begin n load))).doc t.docs).born ≡ birth_of n load.origin load.home true
unfolding tree_after
begin_born t b a n load is = rw is (at_self t.docs (birth_of n load.origin load.home true) (t.doc t.docs).born)

begin_grown : (rules : Rules) (t : Tree) (r asker n : ℕ) (url : List ℕ) → n < t.navs → asker < t.docs → is_loaded t asker ≡ true → admits t (by r asker (navigation rules t false asker n url)) ≡ true → IsWell t
    → IsGrown rules t (tree_after t (by r asker (navigation rules t false asker n url)))
begin_grown rules t r asker n url lt there was h well =
    let load : Load = load_for rules t (group_in t n) (flags_in t n) t.docs asker url in
    let e : Entry = by r asker (Begin n load) in
    let counts = begin_counts t (Some r) (Some asker) n load in
    let docs : (tree_after t e).docs ≡ t.docs + 1 = counts.0 in
    let group = has_group t well n lt in
    let in_group : group_in t n ≡ group.0 = ap (λ (o : Option ℕ). unwrap_or o 0) group.1 in
    let fit : IsLoadFit rules t group.0 t.docs load = subst (λ (g : ℕ). IsLoadFit rules t g t.docs load) in_group (load_fit rules t (group_in t n) (flags_in t n) t.docs asker url there was) in
    record {
      docs = more_docs t e;
      born = λ d lt. born_stays t e d h lt;
      group = λ d lt. group_of_doc_stays t e h well d lt;
      new = λ d ge lt_d. let is : t.docs ≡ d = omega arith in
          subst (IsNewDoc rules t (tree_after t e)) is (loaded_doc rules t (tree_after t e) n t.docs group.0 load (group_stays t e h well n lt ∙ group.1) (begin_born t (Some r) (Some asker) n load refl) counts.1 fit);
      loads = inr (t.docs, omega arith, omega arith, counts.1);
      unset = λ d ge. begin_domains t (Some r) (Some asker) n load d;
      set = λ d lt. inl (begin_domains t (Some r) (Some asker) n load d);
    }

frame_who : (t : Tree) (asker g : ℕ) (b : Bool) → asker < t.docs → is_loaded t asker ≡ true → group_of_doc t asker ≡ Some g → IsWho t (frame_origin b t.docs (origin_of t asker)) (home_of t asker) g
frame_who t asker g true lt was group = inl refl
frame_who t asker g false lt was group = inr (asker, record { there = lt; was_loaded = was; same_origin = refl; same_home = refl; same_group = sym group })

window_who : (t : Tree) (asker g : ℕ) (b : Bool) → asker < t.docs → is_loaded t asker ≡ true → group_of_doc t asker ≡ Some g
    → IsWho t (window_origin b t.docs (origin_of t asker)) (home_of t asker) (if b then t.groups else group_in t (nav_of t asker))
window_who t asker g true lt was group = inl refl
window_who t asker g false lt was group =
    inr (asker, record { there = lt; was_loaded = was; same_origin = refl; same_home = refl; same_group = ap Some (ap (λ (o : Option ℕ). unwrap_or o 0) group) ∙ sym group })

-- a domain that is set
relaxed_counts : (t : Tree) (b a : Option ℕ) (doc : ℕ) (value : List ℕ) → ((tree_after t (entry b a (Domain doc value))).docs ≡ t.docs) × ((tree_after t (entry b a (Domain doc value))).loads ≡ t.loads)
unfolding tree_after
relaxed_counts t b a doc value = (refl, refl)

domain_at : (t : Tree) (b a : Option ℕ) (doc : ℕ) (value : List ℕ) (d : ℕ) → domain_of (tree_after t (entry b a (Domain doc value))) d ≡ unwrap_or (at d doc (Some value)) (domain_of t d)
unfolding tree_after
domain_at t b a doc value d = refl

domain_elsewhere : (t : Tree) (b a : Option ℕ) (doc : ℕ) (value : List ℕ) (d : ℕ) → (doc == d) ≡ false → domain_of (tree_after t (entry b a (Domain doc value))) d ≡ domain_of t d
domain_elsewhere t b a doc value d other = domain_at t b a doc value d ∙ rw other refl

domain_here : (t : Tree) (b a : Option ℕ) (doc : ℕ) (value : List ℕ) → domain_of (tree_after t (entry b a (Domain doc value))) doc ≡ Some value
domain_here t b a doc value = domain_at t b a doc value doc ∙ rw (eq-eqb doc doc refl) refl

relaxed_grown : (rules : Rules) (t : Tree) (r asker : ℕ) (value effective : List ℕ) → asker < t.docs → effective_domain (origin_of t asker) (domain_of t asker) ≡ Some effective
    → fits value effective (is_address (origin_of t asker)) rules.suffixes ≡ true → admits t (by r asker (Domain asker value)) ≡ true → IsWell t → IsGrown rules t (tree_after t (by r asker (Domain asker value)))
relaxed_grown rules t r asker value effective there is fit h well =
    let e : Entry = by r asker (Domain asker value) in
    let counts = relaxed_counts t (Some r) (Some asker) asker value in
    let docs : (tree_after t e).docs ≡ t.docs = counts.0 in
    record {
      docs = more_docs t e;
      born = λ d lt. born_stays t e d h lt;
      group = λ d lt. group_of_doc_stays t e h well d lt;
      new = λ d ge lt. absurd (omega arith);
      loads = inl counts.1;
      unset = λ d ge. domain_elsewhere t (Some r) (Some asker) asker value d (ne_eqb asker d (λ same. omega (arith, same, there, ge)));
      set = λ d lt. elim (eqb_tells asker d) as (λ _. MayHave rules t d (domain_of (tree_after t e) d)) [
        | inl p ↦ subst (λ x. MayHave rules t x (domain_of (tree_after t e) x)) p.1 (inr (value, effective, domain_here t (Some r) (Some asker) asker value, is, fit))
        | inr p ↦ inl (domain_elsewhere t (Some r) (Some asker) asker value d p.0)
      ];
    }

-- an entry of an exchange that no initial document acts
pub step_grown : (rules : Rules) (t : Tree) (e : Entry) → IsWell t → IsStep rules t e → admits t e ≡ true → ((a : ℕ) → e.actor ≡ Some a → is_loaded t a ≡ true) → IsGrown rules t (tree_after t e)
step_grown rules t e well (Quietly b a w q) h actors = quiet_grown rules t b a w q h well
step_grown rules t e well (Begins r asker n url lt there) h actors = begin_grown rules t r asker n url lt there (actors asker refl) h well
step_grown rules t e well (Frames r asker name flags url there) h actors =
    let group = has_group t well (nav_of t asker) (well.below asker there) in
    let load : Option Load = frame_load rules t asker flags url in
    let in_group : group_in t (nav_of t asker) ≡ group.0 = ap (λ (o : Option ℕ). unwrap_or o 0) group.1 in
    nav_grown rules t (by r asker (frame_entry rules t asker name flags url)) (home_of t asker) (frame_origin (has_origin flags) t.docs (origin_of t asker)) group.0 load h well
    (frame_new t r asker (home_of t asker) (frame_origin (has_origin flags) t.docs (origin_of t asker)) name flags load group.0 well there h group.1)
    (frame_who t asker group.0 (has_origin flags) there (actors asker refl) group.1)
    (subst (λ (g : ℕ). IsLoadFitIfAny rules t g (t.docs + 1) load) in_group (frame_load_fit rules t asker flags url there (actors asker refl)))
    (frame_domains t (Some r) (Some asker) t.navs t.docs (home_of t asker) (frame_origin (has_origin flags) t.docs (origin_of t asker)) name flags load)
step_grown rules t e well (Windows r asker name noopener url there) h actors =
    let n : ℕ = nav_of t asker in
    let found = has_group t well n (well.below asker there) in
    let group : ℕ = if noopener then t.groups else group_in t n in
    let origin : Origin = window_origin noopener t.docs (origin_of t asker) in
    let navigator : Option ℕ = unless (noopener || not (has_navigation (flags_in t n))) n in
    nav_grown rules t (by r asker (new_window rules t asker name noopener url)) (home_of t asker) origin group (window_load rules t asker group (window_flags t n) url) h well
    (open_new t (Some r) (Some asker) group (home_of t asker) origin (window_name name) (unless noopener n) (window_flags t n) navigator (window_load rules t asker group (window_flags t n) url))
    (window_who t asker found.0 noopener there (actors asker refl) found.1) (window_load_fit rules t asker group (window_flags t n) url there (actors asker refl))
    (open_domains t (Some r) (Some asker) t.navs t.docs group (home_of t asker) origin (window_name name) (unless noopener n) (window_flags t n) navigator (window_load rules t asker group (window_flags t n) url))
step_grown rules t e well (Starts url) h actors =
    let load : Load = start_load rules t url in
    nav_grown rules t (start_entry rules t url) load.home (start_origin t.docs) t.groups (Some load) h well
    (open_new t None None t.groups load.home (start_origin t.docs) [] None 0 None (Some load)) (inl refl) (start_fit rules t url)
    (open_domains t None None t.navs t.docs t.groups load.home (start_origin t.docs) [] None 0 None (Some load))
step_grown rules t e well (Relaxes r asker value effective there is fit) h actors = relaxed_grown rules t r asker value effective there is fit h well
