-- What holds of every session that a text is.
use Rattle.std.specs.Prelude.{◌≡◌, ◌≤◌, ◌<◌, ⊤, ℕ, Bool, true, false, List, length, All, IfSome, bytes_eq, None}
use Rattle.std.specs.List.{IsDistinct}
use Rattle.origin_core.specs.Page.{IsPageText, is_web_text, fragment_of}
use Rattle.window_props.specs.declared.key.Key.{Key}
use Rattle.window_props.specs.Keys.{key_text}
use Rattle.agent_terms.specs.declared.session.Session.{Session}
use Rattle.agent_terms.specs.declared.session.Page.{Page}
use Rattle.agent_terms.specs.declared.step.Operand.{Operand}
use Rattle.agent_terms.specs.declared.step.Operand.TheVariants as operand
use Rattle.agent_terms.specs.declared.step.Step.{Step}
use Rattle.agent_terms.specs.declared.step.Step.TheVariants as step
use Rattle.agent_terms.specs.Built.{IsBuilt, AreBuilt}
use Rattle.agent_terms.specs.Limits.{most_renderers, most_starts, most_turns, most_pages, most_steps, most_args, most_index}
use Rattle.plain_data.specs.DataLimits.{most_text, within_limits}
use Rattle.session_text.specs.Steps.{is_register, is_kept}
use Rattle.session_text.specs.Session.{is_suffix}

-- STEPS

abbrev pub IsRegister : List ℕ → Type 0
IsRegister name = is_register name ≡ true

-- a register that takes an answer
pub record IsReceiver (name : List ℕ) : Type 0 where
  pub register : is_register name ≡ true
  pub free : is_kept name ≡ false

abbrev pub IsText : List ℕ → Type 0
IsText s = length s ≤ most_text

-- a key is the text that names it
abbrev pub IsKey : Key → Type 0
IsKey key = length (key_text key) ≤ most_text

abbrev pub IsIndex : ℕ → Type 0
IsIndex index = index ≤ most_index

abbrev pub IsOperand : Operand → Type 0
IsOperand (operand.Register name) = IsRegister name
IsOperand (operand.Plain value) = within_limits value ≡ true

pub record AreArgs (args : List Operand) : Type 0 where
  pub few : length args ≤ most_args
  pub all : All IsOperand args

-- what the step's fields hold is in range
abbrev pub IsStep : Step → Type 0
IsStep (step.Let to value) = IfSome to IsReceiver × IsOperand value
IsStep (step.Get of key to) = IsRegister of × IsKey key × IfSome to IsReceiver
IsStep (step.Has of key) = IsRegister of × IsKey key
IsStep (step.Describe of key) = IsRegister of × IsKey key
IsStep (step.Keys of) = IsRegister of
IsStep (step.Proto of) = IsRegister of
IsStep (step.SetProto of) = IsRegister of
IsStep (step.Extensible of) = IsRegister of
IsStep (step.Prevent of) = IsRegister of
IsStep (step.Set of key value user) = IsRegister of × IsKey key × IsOperand value
IsStep (step.Define of key value writable enumerable configurable) = IsRegister of × IsKey key × IfSome value IsOperand
IsStep (step.Delete of key) = IsRegister of × IsKey key
IsStep (step.Call of key args to user) = IsRegister of × IsKey key × AreArgs args × IfSome to IsReceiver
IsStep step.Sync = ⊤
IsStep (step.Frame url name sandbox to) = IfSome url IsText × IfSome name IsText × IfSome sandbox IsText × IfSome to IsReceiver
IsStep (step.Drop index) = IsIndex index
IsStep (step.Open url target noopener user to) = IfSome url IsText × IsText target × IfSome to IsReceiver
IsStep (step.Link url target rel user) = IsText url × IsText target × IsText rel
IsStep (step.Domain value) = IsText value

-- PAGES

-- the serialization of an http or https URL: reading it gives itself
pub record IsWebUrl (url : List ℕ) : Type 0 where
  pub page : IsPageText url
  pub web : is_web_text url ≡ true

-- a script or a handler: not too many steps, each one that sessions may have
pub record AreSteps (steps : List Step) : Type 0 where
  pub few : length steps ≤ most_steps
  pub all : All IsStep steps
  pub built : All IsBuilt steps

-- a page has no fragment in its URL, not even an empty one
pub record IsPage (page : Page) : Type 0 where
  pub url : IsWebUrl page.url
  pub fragment : fragment_of page.url ≡ None
  pub script : AreSteps page.script
  pub handler : AreSteps page.handler

-- the URLs are equal as they are serialized
abbrev pub has_same_url : Page → Page → Bool
has_same_url a b = bytes_eq a.url b.url

-- SESSIONS

abbrev pub IsSuffix : List ℕ → Type 0
IsSuffix s = is_suffix s ≡ true

-- a renderer and a start window at least, and pages, no two with the same URL; all lists within their limits
pub record IsInRange (s : Session) : Type 0 where
  pub some_renderer : 1 ≤ s.renderers
  pub renderers : s.renderers ≤ most_renderers
  pub suffixes : All IsSuffix s.suffixes
  pub some_start : 1 ≤ length s.start
  pub starts : length s.start ≤ most_starts
  pub start : All IsWebUrl s.start
  pub turns : length s.order ≤ most_turns
  pub order : All (λ r. r < s.renderers) s.order
  pub most : length s.pages ≤ most_pages
  pub pages : All IsPage s.pages
  pub apart : IsDistinct has_same_url s.pages
  pub built : AreBuilt s
