-- What a document goes by on a log.
use Rattle.std.specs.Prelude.{◌≡◌, ◌<◌, ◌⊎◌, ℕ, List, Bool, true, false}
use Rattle.window_props.specs.declared.value.Value.{Value}
use Rattle.window_props.specs.declared.value.Value.TheVariants as value
use Rattle.window_props.specs.declared.platform.Object.{Object}
use Rattle.window_props.specs.History.{Store}
use Rattle.tree_log.specs.declared.entry.Entry.{Entry}
use Rattle.tree_log.specs.Tree.{Tree, tree_of, nav_of, origin_of, same_group, same_domain}
use Rattle.tree_log.specs.Urls.{url_of}
use Rattle.object_access.specs.StepAnswer.{Sight, held}
use Rattle.single_agent.specs.Shown.{document_of}

-- on all of a log, with these registers and these properties of objects
abbrev pub sight_of : List Entry → (ℕ → List ℕ → Value) → (Object → Store) → Sight
sight_of log registers stores = record { tree = tree_of log; urls = url_of log; registers = registers; stores = stores }

-- KEPT DOCUMENTS

-- the same properties of the objects of kept documents
abbrev pub AgreeOn : (ℕ → Bool) → (Object → Store) → (Object → Store) → Type 0
AgreeOn kept stores others = (o : Object) → kept (document_of o) ≡ true → stores o ≡ others o

-- document e is kept, or foreign to document d
abbrev pub IsKeptOrForeign : (ℕ → Bool) → Tree → ℕ → ℕ → Type 0
IsKeptOrForeign kept t d e = (kept e ≡ true) ⊎ (same_domain t d e ≡ false)

-- the registers of document d hold Windows and Locations of kept or foreign documents alone
pub record HoldsKept (kept : ℕ → Bool) (s : Sight) (d : ℕ) : Type 0 where
  pub windows : (name : List ℕ) (n : ℕ) → held s d name ≡ value.Window n → IsKeptOrForeign kept s.tree d (s.tree.nav n).active
  pub locations : (name : List ℕ) (e : ℕ) → held s d name ≡ value.Location e → IsKeptOrForeign kept s.tree d e

-- they hold Windows and Locations of its group alone
pub record HoldsGroup (s : Sight) (d : ℕ) : Type 0 where
  pub there : (name : List ℕ) (n : ℕ) → held s d name ≡ value.Window n → n < s.tree.navs
  pub windows : (name : List ℕ) (n : ℕ) → held s d name ≡ value.Window n → same_group s.tree (nav_of s.tree d) n ≡ true
  pub locations : (name : List ℕ) (e : ℕ) → held s d name ≡ value.Location e → same_group s.tree (nav_of s.tree d) (nav_of s.tree e) ≡ true
