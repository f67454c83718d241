-- Values whose objects are there.
use Rattle.std.specs.Prelude.{ℕ, List}
use Rattle.window_props.specs.declared.value.Value.{Value}
use Rattle.tree_log.specs.Tree.{Tree}
use Rattle.script_steps.specs.Reached.{IsValueThere}

abbrev pub AllThere : Tree → (ℕ → List ℕ → Value) → Type 0
AllThere t registers = (d : ℕ) (name : List ℕ) → IsValueThere t (registers d name)
