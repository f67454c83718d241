-- A Window as a document meets it (HTML Standard, 7.2.3, the WindowProxy exotic object), and its attributes (7.2.2, the Window object).
use Rattle.std.specs.Prelude.{ℕ, List, [], length, slice_get, Option, Some, None, false, ◌||◌, if◌then◌else◌, is_some, unwrap_or}
use Rattle.origin_core.specs.Origin.{origin_text}
use Rattle.object_access.specs.Names.{Key, Value, Kind, Object, Platform, Outcome, Ask}
use Rattle.window_props.specs.Keys.{array_index}
use Rattle.window_props.specs.Platform.{named}
use Rattle.tree_log.specs.Tree.{Tree, is_discarded, parent_of, top_level_of, children_of, origin_of, same_domain}
use Rattle.tree_log.specs.NamedChildren.{child_named}
use Rattle.object_access.specs.Values.{undefined, null, truth, text, whole, window_or}
use Rattle.object_access.specs.Access.{Seen}
use Rattle.object_access.specs.Going.{with_text, set_href}

-- The attributes: the parent of a top-level is itself; a discarded navigable has none
abbrev pub parent_value : Tree → ℕ → Value
parent_value t n = if is_discarded t n then null else Value.Window (unwrap_or (parent_of t n) n)

abbrev pub opener_value : Tree → ℕ → Value
opener_value t n = if is_discarded t n then null else window_or null (t.nav n).opener

abbrev pub name_text : Tree → ℕ → List ℕ
name_text t n = if is_discarded t n then [] else (t.nav n).name

-- what the getter of an attribute gives for the window of navigable n
unfoldable pub window_value : Tree → ℕ → Platform → Value
window_value t n Platform.Window = Value.Window n
window_value t n Platform.Itself = Value.Window n
window_value t n Platform.Frames = Value.Window n
window_value t n Platform.Location = Value.Location (t.nav n).active
window_value t n Platform.Length = whole (length (children_of t (t.nav n).active))
window_value t n Platform.Top = window_or null (top_level_of t n)
window_value t n Platform.Parent = parent_value t n
window_value t n Platform.Closed = truth (is_discarded t n || (t.nav n).closing)
window_value t n Platform.Opener = opener_value t n
window_value t n Platform.Name = text (name_text t n)
window_value t n Platform.Origin = text (origin_text (origin_of t (t.nav n).active))
window_value t n _ = undefined

-- what the setter of an attribute comes to: `opener` is set to null here
unfoldable pub window_set : Tree → (ℕ → List ℕ) → ℕ → ℕ → Platform → Value → Outcome
window_set t urls asker doc Platform.Location v = set_href t urls asker doc v
window_set t urls asker doc Platform.Name v = with_text v (λ name. Outcome.Ask (Ask.Name doc name))
window_set t urls asker doc Platform.Opener v = Outcome.Ask (Ask.Disown doc)
window_set t urls asker doc _ v = Outcome.Truth false

-- The object: what the platform's getter under this key gives
abbrev pub got_by : Option Platform → (Platform → Value) → Value
got_by None f = undefined
got_by (Some name) f = f name

-- what the platform's setter under this key comes to
abbrev pub set_by : Option Platform → (Platform → Outcome) → Outcome
set_by None f = Outcome.Truth false
set_by (Some name) f = f name

-- an array index reaches no child by its name
abbrev pub child_by : (List ℕ → Option ℕ) → Key → Option ℕ
child_by f (Key.Text name) = if is_some (array_index (Key.Text name)) then None else f name
child_by f _ = None

-- the Window of document d, as document asker meets it
unfoldable pub window_of : Tree → (ℕ → List ℕ) → ℕ → ℕ → ℕ → Seen
window_of t urls asker n d = record {
  own = same_domain t asker d;
  object = Object.Window d;
  kind = Kind.Window;
  count = length (children_of t d);
  index = array_index;
  child = slice_get (children_of t d);
  child_named = child_by (child_named t d);
  getter = λ key. got_by (named (Object.Window d) key) (window_value t n);
  setter = λ key v. set_by (named (Object.Window d) key) (λ name. window_set t urls asker d name v);
}

-- the Window of the active document of navigable n
abbrev pub window : Tree → (ℕ → List ℕ) → ℕ → ℕ → Seen
window t urls asker n = window_of t urls asker n (t.nav n).active
