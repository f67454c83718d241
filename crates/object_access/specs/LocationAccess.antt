-- A Location as a document meets it (HTML Standard, 7.2.4, the Location interface).
use Rattle.std.specs.Prelude.{ℕ, List, false, Option, Some, None, codes, if◌then◌else◌}
use Rattle.object_access.specs.Names.{Origin, Value, Kind, Object, Platform, Outcome}
use Rattle.origin_core.specs.Origin.{origin_text, page_origin}
use Rattle.window_props.specs.Platform.{named}
use Rattle.tree_log.specs.Tree.{Tree, is_active, origin_of, same_domain}
use Rattle.object_access.specs.Values.{undefined, text}
use Rattle.object_access.specs.Access.{Seen}
use Rattle.object_access.specs.Going.{set_href}
use Rattle.object_access.specs.WindowAccess.{got_by, set_by}

-- the URL of a Location whose document isn't active is `about:blank`
abbrev pub location_url : Tree → (ℕ → List ℕ) → ℕ → List ℕ
location_url t urls d = if is_active t d then urls d else codes "about:blank"

abbrev pub text_of_origin : Option Origin → List ℕ
text_of_origin None = codes "null"
text_of_origin (Some origin) = origin_text origin

-- what the getter of an attribute gives for the Location of document d
unfoldable pub location_value : Tree → (ℕ → List ℕ) → ℕ → Platform → Value
location_value t urls d Platform.Href = text (location_url t urls d)
location_value t urls d Platform.Origin = text (text_of_origin (page_origin (location_url t urls d)))
location_value t urls d _ = undefined

unfoldable pub location_set : Tree → (ℕ → List ℕ) → ℕ → ℕ → Platform → Value → Outcome
location_set t urls asker d Platform.Href v = set_href t urls asker d v
location_set t urls asker d _ v = Outcome.Truth false

-- the Location of document d, as document asker meets it: it has neither children nor a rule of indices
unfoldable pub location : Tree → (ℕ → List ℕ) → ℕ → ℕ → Seen
location t urls asker d = record {
  own = same_domain t asker d;
  object = Object.Location d;
  kind = Kind.Location;
  count = 0;
  index = λ key. None;
  child = λ i. None;
  child_named = λ key. None;
  getter = λ key. got_by (named (Object.Location d) key) (location_value t urls d);
  setter = λ key v. set_by (named (Object.Location d) key) (λ name. location_set t urls asker d name v);
}
