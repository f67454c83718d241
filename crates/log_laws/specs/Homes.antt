-- Who acts in a log whose documents are homed by group and origin.
use Rattle.std.specs.Prelude.{◌≡◌, ℕ, List, [], ◌∷◌, Some, Bool, true, All}
use Rattle.origin_core.specs.Page.{is_web_text}
use Rattle.tree_log.specs.declared.entry.Entry.{Entry}
use Rattle.tree_log.specs.Tree.{Tree, tree_of}
use Rattle.agent_terms.specs.declared.session.Page.{Page}
use Rattle.agent_terms.specs.declared.session.Session.{Session}

-- whether the document came of a load; an initial document didn't
abbrev pub is_loaded : Tree → ℕ → Bool
is_loaded t d = (t.doc d).born.loaded

-- every acting document was loaded
abbrev pub ActorsLoaded : List Entry → Type 0
ActorsLoaded [] = Unit {0}
ActorsLoaded (e ∷ older) = ((a : ℕ) → e.actor ≡ Some a → is_loaded (tree_of older) a ≡ true) × ActorsLoaded older

-- each page has an http or https URL: so none is that of an initial document, whose URL is `about:blank`
abbrev pub HasWebPages : Session → Type 0
HasWebPages s = All (λ (page : Page). is_web_text page.url ≡ true) s.pages
