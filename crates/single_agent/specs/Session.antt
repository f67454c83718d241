-- A session: the scripts and handlers of documents, the losses of renderers, and its log before the first turn. Sessions are this project's own.
use Rattle.std.specs.Prelude.{ℕ, ◌+◌, List, [], ◌∷◌, find, Option, Some, None, false, ◌==◌, bytes_eq, if◌then◌else◌}
use Rattle.origin_core.specs.Page.{without_fragment}
use Rattle.origin_core.specs.Flags.{has_scripts}
use Rattle.origin_core.specs.Origin.{loaded_origin, start_origin}
use Rattle.single_agent.specs.Names.{Session, Lose, Point, Script, Handler, Step, Entry, Load, Open}
use Rattle.tree_log.specs.Tree.{Tree, tree_of, nav_of}
use Rattle.agent_terms.specs.declared.session.Page.{Page}
use Rattle.coordinator_rules.specs.Decision.{Rules, rules_of, load_of}

-- the steps of a page that a point is in: its script, or its handler of messages
abbrev pub steps_in : Point → Option Page → List Step
steps_in point None = []
steps_in (Script made) (Some page) = page.script
steps_in (Handler place made) (Some page) = page.handler

-- those of the page that a document's URL names, whatever its fragment; a URL that no page has gives none
unfoldable pub steps_at : Session → List ℕ → Point → List Step
steps_at s url point = steps_in point (find (λ (page : Page). bytes_eq page.url (without_fragment url)) s.pages)

-- a document whose sandbox forbids scripts runs none (HTML Standard, 7.1.5, the sandboxed scripts browsing context flag)
unfoldable pub steps_of : Session → Tree → (ℕ → List ℕ) → ℕ → Point → List Step
steps_of s t urls d point = if has_scripts (t.nav (nav_of t d)).made.flags then [] else steps_at s (urls d) point

-- the loss of a renderer that a session wants
abbrev pub lose_of : Session → ℕ → Option Lose
lose_of s r = find (λ (l : Lose). l.renderer == r) s.lose

-- The start windows: what the next one loads, on the tree so far
abbrev pub start_load : Rules → Tree → List ℕ → Load
start_load rules t url = load_of rules t t.groups (t.docs + 1) (loaded_origin false (t.docs + 1) (start_origin (t.docs + 1)) url) url

-- the next start window: a top-level in a group of its own, with an initial document that has an origin of its own and
-- stands at the home of what the window loads
abbrev pub start_entry : Rules → Tree → List ℕ → Entry
start_entry rules t url = record {
  by = None;
  actor = None;
  what = Open t.navs t.docs t.groups (start_load rules t url).home (start_origin t.docs) [] None 0 None (Some (start_load rules t url));
}

-- the log once the windows of these URLs were opened, in order
abbrev pub started : Rules → List Entry → List (List ℕ) → List Entry
started rules log [] = log
started rules log (url ∷ urls) = started rules (start_entry rules (tree_of log) url ∷ log) urls

-- the log of a session before its first turn
unfoldable pub starts_of : Session → List Entry
starts_of s = started (rules_of s) [] s.start
