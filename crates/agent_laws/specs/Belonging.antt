-- Objects that belong to a document's group: what its steps may reach.
use Rattle.std.specs.Prelude.{◌≡◌, ◌<◌, ℕ, List, Option, Some, None, true}
use Rattle.window_props.specs.declared.key.Key.{Key}
use Rattle.window_props.specs.declared.value.Value.{Value}
use Rattle.window_props.specs.declared.value.Value.TheVariants as value
use Rattle.window_props.specs.declared.descriptor.Body.{Body}
use Rattle.window_props.specs.declared.descriptor.Body.TheVariants as body
use Rattle.window_props.specs.declared.descriptor.Descriptor.{Descriptor}
use Rattle.window_props.specs.declared.platform.Object.{Object}
use Rattle.window_props.specs.History.{Store}
use Rattle.tree_log.specs.Tree.{Tree, embedder, nav_of, same_group}
use Rattle.coordinator_rules.specs.Navigation.{is_in}
use Rattle.single_agent.specs.Shown.{document_of}
use Rattle.agent_laws.specs.Wellness.{IsWell}

-- the window or the document that the value names is there, in the group of document d
abbrev pub Belongs : Tree → ℕ → Value → Type 0
Belongs t d (value.Window n) = (d < t.docs) × (n < t.navs) × (same_group t (nav_of t d) n ≡ true)
Belongs t d (value.Location e) = (d < t.docs) × (e < t.docs) × (same_group t (nav_of t d) (nav_of t e) ≡ true)
Belongs t d _ = Unit {0}

-- the registers of each document hold objects of its group alone
abbrev pub RegistersBelong : Tree → (ℕ → List ℕ → Value) → Type 0
RegistersBelong t registers = (d : ℕ) (name : List ℕ) → Belongs t d (registers d name)

abbrev pub BodyBelongs : Tree → ℕ → Body → Type 0
BodyBelongs t d (body.Value v writable) = Belongs t d v
BodyBelongs t d (body.Accessor get set) = Unit {0}

abbrev pub PropertyBelongs : Tree → ℕ → Option Descriptor → Type 0
PropertyBelongs t d None = Unit {0}
PropertyBelongs t d (Some p) = BodyBelongs t d p.body

-- and so do the properties of each document's objects
abbrev pub StoresBelong : Tree → (Object → Store) → Type 0
StoresBelong t stores = (o : Object) (key : Key) → PropertyBelongs t (document_of o) ((stores o).at key)

-- a tree whose windows lead to windows of their group alone
pub record IsClosed (t : Tree) : Type 0 where
  pub well : IsWell t
  -- an opener is there, and of the same group
  pub openers : (n m : ℕ) → (t.nav n).opener ≡ Some m → (n < t.navs) × (m < t.navs) × (same_group t n m ≡ true)
  -- the frames of a document are embedded in it
  pub frames : (d n : ℕ) → is_in n (t.frames d) ≡ true → embedder t n ≡ Some d
