-- That a value's object is there has one proof at most.
use Rattle.std.specs.Prelude.{ℕ, ◌<◌, List}
use native.Mathlib.Bridge.{le_prop}
use Rattle.std.specs.Coded.{Unit-prop}
use Rattle.window_props.specs.declared.value.Value.{Value}
use Rattle.window_props.specs.declared.value.Value.TheVariants as value
use Rattle.tree_log.specs.Tree.{Tree}
use Rattle.script_steps.specs.Reached.{IsValueThere}
use Rattle.session_player.specs.There.{AllThere}

below-prop : (n m : ℕ) → IsProp (n < m)
below-prop n m = le_prop

there-prop : (t : Tree) (v : Value) → IsProp (IsValueThere t v)
there-prop t (value.Window n) = below-prop n t.navs
there-prop t (value.Location d) = below-prop d t.docs
there-prop t _ = Unit-prop

pub all_there-prop : (t : Tree) (registers : ℕ → List ℕ → Value) → IsProp (AllThere t registers)
all_there-prop t registers = hlevel (there-prop)
