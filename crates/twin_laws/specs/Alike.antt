-- Requests that a renderer can't tell apart.
use Rattle.std.specs.Prelude.{◌≡◌, ℕ, List, [], ◌∷◌, Option, Some, None, Bool, true, false, ◌==◌, ◌||◌, ◌⊎◌, is_none}
use Rattle.std.specs.Option.{option_or}
use Rattle.plain_data.specs.declared.data.Data.{Data}
use Rattle.origin_core.specs.Origin.{page_origin, loaded_origin}
use Rattle.tree_log.specs.declared.entry.Entry.{Entry}
use Rattle.tree_log.specs.declared.entry.Load.{Load}
use Rattle.tree_log.specs.declared.entry.Target.{Target}
use Rattle.tree_log.specs.declared.entry.What.{What}
use Rattle.tree_log.specs.declared.entry.What.TheVariants.{Fragment}
use Rattle.tree_log.specs.Facts.{load_in}
use Rattle.tree_log.specs.Tree.{Tree, tree_of, home_of, origin_of}
use Rattle.agent_terms.specs.declared.request.Request.{Request}
use Rattle.agent_terms.specs.declared.request.Request.TheVariants as ask
use Rattle.single_agent.specs.Session.{start_load, start_entry}
use Rattle.coordinator_rules.specs.Decision.{Rules, exchange, asker_of}

abbrev pub load_home : Option Load → Option ℕ
load_home None = None
load_home (Some load) = Some load.home

-- the home of the document that the URL of an entry is for
abbrev pub url_home : Tree → What → Option ℕ
url_home t (Fragment _ doc _) = Some (home_of t doc)
url_home t what = load_home (load_in what)

abbrev pub url_home_in : Tree → List Entry → Option ℕ
url_home_in t [] = None
url_home_in t (e ∷ es) = option_or (url_home t e.what) (url_home_in t es)

-- there is a home, and it isn't r
abbrev pub IsElsewhere : ℕ → Option ℕ → Type 0
IsElsewhere r None = ⊥
IsElsewhere r (Some home) = (home == r) ≡ false

-- the entries that a request of renderer x makes
abbrev pub made : Rules → List Entry → ℕ → Request → List Entry
made rules log x request = (exchange rules log x request).entries

-- the URL of the request is for a document that isn't homed at r
abbrev pub HasUrlElsewhere : Rules → List Entry → ℕ → ℕ → Request → Type 0
HasUrlElsewhere rules log r x request = IsElsewhere r (url_home_in (tree_of log) (made rules log x request))

-- URLs of one origin; `about:blank` has that of the asker
abbrev pub HasSameOrigin : Tree → ℕ → List ℕ → List ℕ → Type 0
HasSameOrigin t asker url other = loaded_origin false 0 (origin_of t asker) url ≡ loaded_origin false 0 (origin_of t asker) other

-- the URL in a request of renderer x is for a document that isn't homed at r, and another one is of its origin
abbrev pub HidesUrl : Rules → List Entry → ℕ → ℕ → Request → List ℕ → List ℕ → Type 0
HidesUrl rules log r x request url other = HasSameOrigin (tree_of log) (asker_of request) url other × HasUrlElsewhere rules log r x request

-- requests of renderer x that differ only in a message for a document that isn't homed at r, or in a URL, but for its
-- origin, that is for such a document
pub data Differs (rules : Rules) (log : List Entry) (r x : ℕ) : Request → Request → Type 0 where
  Message : (asker doc : ℕ) (target other_target : Target) (body other_body : Data) → (home_of (tree_of log) doc == r) ≡ false
      → Differs rules log r x (ask.Post asker doc target body) (ask.Post asker doc other_target other_body)
  Gone_to : (asker doc : ℕ) (url other : List ℕ) (user : Bool) → HidesUrl rules log r x (ask.Go asker doc url user) url other
      → Differs rules log r x (ask.Go asker doc url user) (ask.Go asker doc other user)
  Linked : (asker : ℕ) (url other name : List ℕ) (noopener user : Bool) → HidesUrl rules log r x (ask.Link asker url name noopener user) url other
      → Differs rules log r x (ask.Link asker url name noopener user) (ask.Link asker other name noopener user)
  Opened : (asker : ℕ) (url other name : List ℕ) (noopener user : Bool) → HidesUrl rules log r x (ask.Open asker (Some url) name noopener user) url other
      → Differs rules log r x (ask.Open asker (Some url) name noopener user) (ask.Open asker (Some other) name noopener user)
  Framed : (asker : ℕ) (url other name : List ℕ) (flags : ℕ) → is_none (page_origin url) ≡ is_none (page_origin other)
      → HidesUrl rules log r x (ask.Frame asker name flags (Some url)) url other
      → Differs rules log r x (ask.Frame asker name flags (Some url)) (ask.Frame asker name flags (Some other))

abbrev pub is_fragment : What → Bool
is_fragment (Fragment _ _ _) = true
is_fragment _ = false

-- whether a fragment navigation is among the entries
abbrev pub has_fragment : List Entry → Bool
has_fragment [] = false
has_fragment (e ∷ es) = is_fragment e.what || has_fragment es

-- alike requests of renderer x, each on its own log: both or none make a fragment navigation; they are equal, or differ so on
-- both logs, whose asker isn't homed at r on either
pub record IsAlike (rules : Rules) (left right : List Entry) (r x : ℕ) (request other : Request) : Type 0 where
  pub same_kind : has_fragment (made rules left x request) ≡ has_fragment (made rules right x other)
  pub alike : (request ≡ other)
      ⊎ (((home_of (tree_of left) (asker_of request) == r) ≡ false)
      × ((home_of (tree_of right) (asker_of other) == r) ≡ false)
      × Differs rules left r x request other
      × Differs rules right r x other request)

-- URLs of start windows that renderer r can't tell apart, on the log before them: the same URL, or URLs of one origin for a
-- document that isn't homed at r
abbrev pub AreAlikeStarts : Rules → ℕ → List Entry → List (List ℕ) → List (List ℕ) → Type 0
AreAlikeStarts rules r log [] [] = Unit {0}
AreAlikeStarts rules r log (url ∷ urls) (other ∷ others) =
    ((url ≡ other)
    ⊎ (((start_load rules (tree_of log) url).origin ≡ (start_load rules (tree_of log) other).origin) × (((start_load rules (tree_of log) url).home == r) ≡ false)))
    × AreAlikeStarts rules r (start_entry rules (tree_of log) url ∷ log) urls others
AreAlikeStarts rules r log [] (other ∷ others) = ⊥
AreAlikeStarts rules r log (url ∷ urls) [] = ⊥
