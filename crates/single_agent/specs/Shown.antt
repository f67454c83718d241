-- What a document sees of the log and of properties: itself, and those of its group that are same origin-domain with it (HTML
-- Standard, 7.2.1.3.3, IsPlatformObjectSameOrigin).
use Rattle.std.specs.Prelude.{ℕ, List, Bool, ◌==◌, ◌||◌, if◌then◌else◌}
use Rattle.single_agent.specs.Names.{Object, Entry}
use Rattle.window_props.specs.declared.platform.Object.TheVariants as object
use Rattle.window_props.specs.History.{Store}
use Rattle.tree_log.specs.Tree.{Tree, tree_of}
use Rattle.tree_log.specs.Blanking.{blanked, is_open_to}
use Rattle.object_access.specs.StepAnswer.{first_stores}

-- What a document sees: it may see itself, and those of its group that are same origin-domain with it
abbrev pub is_seen_by : Tree → ℕ → ℕ → Bool
is_seen_by t asker d = (d == asker) || is_open_to t asker d

-- the log as a document may see it
abbrev pub shown_to : ℕ → List Entry → List Entry
shown_to asker log = blanked (is_seen_by (tree_of log) asker) log

abbrev pub document_of : Object → ℕ
document_of (object.Window d) = d
document_of (object.Location d) = d

-- the properties as a document may see them: of all other documents' objects what the platform made
abbrev pub shown_stores : Tree → ℕ → (Object → Store) → Object → Store
shown_stores t asker stores o = if is_seen_by t asker (document_of o) then stores o else first_stores o
