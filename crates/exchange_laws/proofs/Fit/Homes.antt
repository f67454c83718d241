-- The home of a new document is in range.
use Rattle.std.proofs.Common.{◌≡◌, ℕ, ◌<◌, ◌≤◌, ◌^◌, List, [], ◌∷◌, length, Option, Some, None, refl, subst, arith}
use Rattle.std.specs.Prelude.{◌%◌, find}
use Rattle.std.proofs.Math.Nat.{mod-lt}
use Rattle.origin_core.specs.declared.site.Site.{Site}
use Rattle.tree_log.specs.declared.entry.Entry.{Entry}
use Rattle.tree_log.specs.declared.entry.Load.{Load}
use Rattle.tree_log.specs.declared.entry.What.{What}
use Rattle.tree_log.specs.declared.entry.What.TheVariants.{Open, Frame, Begin}
use Rattle.tree_log.specs.Facts.{load_in, with_load}
use Rattle.tree_log.specs.Tree.{Tree, tree_of, home_of}
use Rattle.tree_log.specs.Homes.{is_of, pairs, home_for}
use Rattle.tree_log.specs.Admits.{AreAdmitted}
use Rattle.tree_log.proofs.Admitted.{docs_grow, TaskStands, tasks_stand}
use Rattle.agent_laws.specs.Wellness.{AllBelow}
use Rattle.agent_laws.proofs.Logs.Lists.{more_below, last_below, found_below}
use Rattle.exchange_laws.specs.Fit.{AreFit}
use Rattle.exchange_laws.proofs.Fit.Births.{born_fit}

-- the document of the load that an entry begins is there
load_there : (t : Tree) (w : What) (load : Load) → TaskStands t w → load_in w ≡ Some load → load.doc < t.docs
load_there t (Open nav _ _ _ _ _ _ _ _ None) load h e = absurd cc
load_there t (Open nav _ _ _ _ _ _ _ _ (Some l)) load h e = let same : l ≡ load = cc in subst (λ (x : Load). x.doc < t.docs) same h.doc
load_there t (Frame nav _ _ _ _ _ None) load h e = absurd cc
load_there t (Frame nav _ _ _ _ _ (Some l)) load h e = let same : l ≡ load = cc in subst (λ (x : Load). x.doc < t.docs) same h.doc
load_there t (Begin nav l) load h e = let same : l ≡ load = cc in subst (λ (x : Load). x.doc < t.docs) same h.doc
load_there t _ load h e = absurd cc

with_load_below : (n : ℕ) (o : Option Load) (ds : List ℕ) → ((load : Load) → o ≡ Some load → load.doc < n) → AllBelow n ds → AllBelow n (with_load o ds)
with_load_below n None ds h below = below
with_load_below n (Some load) ds h below = last_below n load.doc (h load refl) ds below

pub loads_below : (log : List Entry) → AreAdmitted log → AllBelow (tree_of log).docs (tree_of log).loads
unfolding tree_of
loads_below [] h = tt
loads_below (e ∷ older) h =
    let t : Tree = tree_of (e ∷ older) in
    let grown : (tree_of older).docs ≤ t.docs = docs_grow e.what (tree_of older).docs in
    with_load_below t.docs (load_in e.what) (tree_of older).loads (λ load is. load_there t e.what load (tasks_stand (e ∷ older) h).0 is)
    (more_below (tree_of older).docs t.docs grown (tree_of older).loads (loads_below older h.1))

of_found : (renderers : ℕ) (suffixes : List (List ℕ)) (t : Tree) (o : Option ℕ) → 0 < renderers → renderers ≤ 2 ^ 16 → ((d : ℕ) → o ≡ Some d → home_of t d < 2 ^ 16)
    → elim o [ Some d ↦ home_of t d | None ↦ pairs suffixes t [] t.loads % renderers ] < 2 ^ 16
of_found renderers suffixes t None some few h = let lt = mod-lt (pairs suffixes t [] t.loads) {m = renderers} some in omega arith
of_found renderers suffixes t (Some d) some few h = h d refl

pub home_fits : (log : List Entry) (renderers : ℕ) (suffixes : List (List ℕ)) (group : ℕ) (s : Site) → AreAdmitted log → AreFit log → length log < 2 ^ 30 → 0 < renderers → renderers ≤ 2 ^ 16
    → home_for renderers suffixes (tree_of log) group s < 2 ^ 16
unfolding home_for
home_fits log renderers suffixes group s all fit short some few =
    of_found renderers suffixes (tree_of log) (find (is_of suffixes (tree_of log) group s) (tree_of log).loads) some few
    (λ d e. (born_fit log d all fit short (found_below (tree_of log).docs (is_of suffixes (tree_of log) group s) d (tree_of log).loads (loads_below log all) e)).home)
