-- What registers hold stays there.
use Rattle.std.proofs.Common.{ℕ, ◌≤◌, List, Option, Some, None, Bool, true, false, arith}
use Rattle.std.specs.Prelude.{◌==◌, ◌&&◌, bytes_eq, if◌then◌else◌}
use Rattle.window_props.specs.declared.value.Value.{Value}
use Rattle.window_props.specs.declared.value.Value.TheVariants as value
use Rattle.tree_log.specs.Tree.{Tree}
use Rattle.object_access.specs.Registers.{written, written_to}
use Rattle.script_steps.specs.Reached.{IsValueThere}
use Rattle.session_player.specs.There.{AllThere}

pub written_there : (t : Tree) (registers : ℕ → List ℕ → Value) (d : ℕ) (name : List ℕ) (v : Value) → AllThere t registers → IsValueThere t v → AllThere t (written d name v registers)
unfolding written
written_there t registers d name v all here e other = by ((e == d) && bytes_eq other name) where
  by : (b : Bool) → IsValueThere t (if b then v else registers e other)
  by true = here
  by false = all e other

pub there_to : (t : Tree) (registers : ℕ → List ℕ → Value) (d : ℕ) (to : Option (List ℕ)) (v : Value) → AllThere t registers → IsValueThere t v → AllThere t (written_to d to v registers)
there_to t registers d None v all here = all
there_to t registers d (Some name) v all here = written_there t registers d name v all here

-- a larger tree has them too
pub there_later : (t u : Tree) → t.navs ≤ u.navs → t.docs ≤ u.docs → (v : Value) → IsValueThere t v → IsValueThere u v
there_later t u navs docs (value.Window n) h = omega arith
there_later t u navs docs (value.Location d) h = omega arith
there_later t u navs docs _ h = tt

pub all_later : (t u : Tree) (registers : ℕ → List ℕ → Value) → t.navs ≤ u.navs → t.docs ≤ u.docs → AllThere t registers → AllThere u registers
all_later t u registers navs docs all d name = there_later t u navs docs (registers d name) (all d name)
