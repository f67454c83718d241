-- Two origins, and the log that most rows are about: a window of a.test frames b.test.
use Prim.{tt}
use Rattle.std.specs.Prelude.{refl, ℕ, List, [], ◌∷◌, Some, None, false, codes}
use Rattle.origin_core.specs.declared.origin.Origin.{Origin}
use Rattle.origin_core.specs.declared.origin.Origin.TheVariants.{Tuple, Opaque}
use Rattle.origin_core.specs.declared.origin.Scheme.TheVariants.{Https}
use Rattle.tree_log.specs.declared.entry.Entry.{Entry}
use Rattle.tree_log.specs.declared.entry.Load.{Load}
use Rattle.tree_log.specs.declared.entry.What.TheVariants.{Open, Frame, Commit}
use Rattle.tree_log.specs.Admits.{admits, AreAdmitted}
use Rattle.tree_log.specs.Tree.{tree_of, is_active, is_discarded, chain}
use Rattle.coordinator_rules.specs.NextTask.{task_entry}
use Rattle.coordinator_rules.specs.Decision.{Rules, by}

abbrev pub site : List ℕ → Origin
site host = Tuple (record { scheme = Https; host = host; ip = false; port = None })

abbrev pub a_test : Origin
a_test = site (codes "a.test")

abbrev pub b_test : Origin
b_test = site (codes "b.test")

abbrev pub load : ℕ → ℕ → Origin → List ℕ → Load
load doc home origin url = record { doc = doc; home = home; origin = origin; url = url }

-- a start window of a group of its own
abbrev pub start : ℕ → ℕ → ℕ → Load → Entry
start nav doc group given = record { by = None; actor = None; what = Open nav doc group given.home (Opaque doc) [] None 0 None (Some given) }

-- the newest entry first: the window n0, and its document d1
abbrev pub started : List Entry
started = task_entry 0 (Commit 0 1 0) ∷ start 0 0 0 (load 1 0 a_test (codes "https://a.test/")) ∷ []

pub started_admitted : AreAdmitted started
unfolding admits tree_of is_active is_discarded chain
started_admitted = (refl, (refl, tt))

-- d1 makes the frame n1 of this name and with these flags, whose initial document is d2
abbrev pub frame : List ℕ → ℕ → Entry
frame name flags = by 0 1 (Frame 1 2 0 a_test name flags (Some (load 3 1 b_test (codes "https://b.test/x"))))

-- and the document d3 that the frame loads becomes its active one
abbrev pub framed : List Entry
framed = task_entry 1 (Commit 1 3 2) ∷ frame (codes "f") 0 ∷ started

-- each entry could follow those before it, as in the other logs of these rows
pub framed_admitted : AreAdmitted framed
unfolding admits tree_of is_active is_discarded chain
framed_admitted = (refl, (refl, started_admitted))

-- three renderers, and no public suffixes
abbrev pub rules : Rules
rules = record { renderers = 3; suffixes = [] }
