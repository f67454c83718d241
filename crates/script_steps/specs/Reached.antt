-- What a document's script reaches by its registers.
use Rattle.std.specs.Prelude.{ℕ, ◌<◌, List}
use Rattle.window_props.specs.declared.value.Value.{Value}
use Rattle.window_props.specs.declared.value.Value.TheVariants as value
use Rattle.window_props.specs.declared.platform.Object.{Object}
use Rattle.window_props.specs.History.{Store}
use Rattle.tree_log.specs.Tree.{Tree}
use Rattle.object_access.specs.StepAnswer.{Sight}

abbrev pub sight : Tree → (ℕ → List ℕ) → (ℕ → List ℕ → Value) → (Object → Store) → Sight
sight t urls registers stores = record { tree = t; urls = urls; registers = registers; stores = stores }

-- the tree has the navigable or the document of a value
abbrev pub IsValueThere : Tree → Value → Type 0
IsValueThere t (value.Window n) = n < t.navs
IsValueThere t (value.Location d) = d < t.docs
IsValueThere t _ = Unit {0}

-- the tree has the document, and what the document's registers hold
pub record Fits (t : Tree) (registers : ℕ → List ℕ → Value) (doc : ℕ) : Type 0 where
  pub there : doc < t.docs
  pub values : (name : List ℕ) → IsValueThere t (registers doc name)
