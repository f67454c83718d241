-- The steps that sessions may have so far. None of them navigates, names, closes or posts.
use Rattle.std.specs.Prelude.{◌≡◌, [], Bool, true, false, not, ◌||◌, All, IsTrue}
use Rattle.window_props.specs.declared.key.Key.{Key}
use Rattle.window_props.specs.declared.platform.Platform.TheVariants.{Location, Name, Opener, Href, Close, PostMessage, Assign, Replace}
use Rattle.window_props.specs.Keys.{same_key}
use Rattle.window_props.specs.Platform.{key_of}
use Rattle.agent_terms.specs.declared.step.Step.{Step}
use Rattle.agent_terms.specs.declared.step.Step.TheVariants as step
use Rattle.agent_terms.specs.declared.request.Request.{Request}
use Rattle.agent_terms.specs.declared.request.Request.TheVariants as request
use Rattle.agent_terms.specs.declared.session.Page.{Page}
use Rattle.agent_terms.specs.declared.session.Session.{Session}

-- the keys under which a set may ask the coordinator
abbrev pub asks_where_set : Key → Bool
asks_where_set key = same_key (key_of Location) key || same_key (key_of Name) key || same_key (key_of Opener) key || same_key (key_of Href) key

-- the keys of the methods that may ask the coordinator
abbrev pub asks_where_called : Key → Bool
asks_where_called key = same_key (key_of Close) key || same_key (key_of PostMessage) key || same_key (key_of Assign) key || same_key (key_of Replace) key

unfoldable pub is_built : Step → Bool
is_built (step.Set of key value user) = not (asks_where_set key)
is_built (step.Call of key args to user) = not (asks_where_called key)
is_built (step.Open url target noopener user to) = false
is_built (step.Link url target rel user) = false
is_built (step.Domain value) = false
is_built _ = true

abbrev pub IsBuilt : Step → Type 0
IsBuilt s = IsTrue (is_built s)

-- the requests that these steps make
unfoldable pub is_made : Request → Bool
is_made (request.Sync asker) = true
is_made (request.Frame asker name flags url) = true
is_made (request.Drop asker nav) = true
is_made _ = false

-- every step of the page is one of these
pub record HasBuilt (page : Page) : Type 0 where
  pub script : All IsBuilt page.script
  pub handler : All IsBuilt page.handler

-- and no renderer is to be lost yet
abbrev pub AreBuilt : Session → Type 0
AreBuilt s = All HasBuilt s.pages × (s.lose ≡ [])
