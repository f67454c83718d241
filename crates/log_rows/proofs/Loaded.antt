-- The document of a load is there once its entry is.
use Rattle.std.proofs.Common.{◌≡◌, ℕ, ◌<◌, List, ◌∷◌, Option, Some, None, subst}
use Rattle.tree_log.specs.Admits.{AreAdmitted}
use Rattle.tree_log.specs.Facts.{load_in}
use Rattle.tree_log.specs.declared.entry.Entry.{Entry}
use Rattle.tree_log.specs.declared.entry.Load.{Load}
use Rattle.tree_log.specs.declared.entry.What.{What}
use Rattle.tree_log.specs.declared.entry.What.TheVariants.{Open, Frame, Begin}
use Rattle.tree_log.specs.Tree.{Tree, tree_of}
use Rattle.tree_log.proofs.Admitted.{StandsIfAny, TaskStands, tasks_stand}

there_if_any : (t : Tree) (nav : ℕ) (o : Option Load) (load : Load) → StandsIfAny t nav o → o ≡ Some load → load.doc < t.docs
there_if_any t nav None load stands is = absurd cc
there_if_any t nav (Some other) load stands is = let same : other ≡ load = cc in subst (λ (l : Load). l.doc < t.docs) same stands.doc

there_in : (t : Tree) (w : What) (load : Load) → TaskStands t w → load_in w ≡ Some load → load.doc < t.docs
there_in t (Open nav doc group home origin name opener flags navigator o) load stands is = there_if_any t nav o load stands is
there_in t (Frame nav doc home origin name flags o) load stands is = there_if_any t nav o load stands is
there_in t (Begin nav other) load stands is = there_if_any t nav (Some other) load stands is
there_in t _ load stands is = absurd cc

pub load_there : (e : Entry) (log : List Entry) (load : Load) → AreAdmitted (e ∷ log) → load_in e.what ≡ Some load → load.doc < (tree_of (e ∷ log)).docs
load_there e log load all is = there_in (tree_of (e ∷ log)) e.what load (tasks_stand (e ∷ log) all).0 is
