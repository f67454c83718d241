-- Values whose objects are there and whose data is within the limits of data, and what holds such values or asks with them. The
-- limits are this project's own.
use Rattle.std.specs.Prelude.{◌≡◌, ℕ, nat_lt, nat_le, length, ◌&&◌, List, Bool, true, Option, Some, None}
use Rattle.std.specs.List.{list_all}
use Rattle.std.specs.Option.{option_map_or}
use Rattle.plain_data.specs.DataLimits.{within_limits, is_short}
use Rattle.window_props.specs.declared.key.Key.{Key}
use Rattle.window_props.specs.declared.value.Value.{Value}
use Rattle.window_props.specs.declared.value.Value.TheVariants as value
use Rattle.window_props.specs.declared.descriptor.Body.{Body}
use Rattle.window_props.specs.declared.descriptor.Body.TheVariants as body
use Rattle.window_props.specs.declared.descriptor.Descriptor.{Descriptor}
use Rattle.window_props.specs.declared.platform.Object.{Object}
use Rattle.window_props.specs.History.{Store}
use Rattle.tree_log.specs.Tree.{Tree}
use Rattle.agent_terms.specs.declared.request.Request.{Request}
use Rattle.agent_terms.specs.declared.request.Request.TheVariants as request
use Rattle.agent_terms.specs.declared.session.Page.{Page}
use Rattle.agent_terms.specs.declared.step.Operand.{Operand}
use Rattle.agent_terms.specs.declared.step.Operand.TheVariants as operand
use Rattle.agent_terms.specs.declared.step.Step.{Step}
use Rattle.agent_terms.specs.declared.step.Step.TheVariants as step
use Rattle.agent_terms.specs.Limits.{most_steps}

-- VALUES

-- the window or the document that the value names is there, and data is within its limits
abbrev pub is_at_hand : Tree → Value → Bool
is_at_hand t (value.Window n) = nat_lt n t.navs
is_at_hand t (value.Location d) = nat_lt d t.docs
is_at_hand t (value.Plain given) = within_limits given
is_at_hand t _ = true

-- the registers of documents hold such values alone
abbrev pub AreAtHand : Tree → (ℕ → List ℕ → Value) → Type 0
AreAtHand t registers = (d : ℕ) (name : List ℕ) → is_at_hand t (registers d name) ≡ true

abbrev pub is_body_at_hand : Tree → Body → Bool
is_body_at_hand t (body.Value v writable) = is_at_hand t v
is_body_at_hand t (body.Accessor get set) = true

abbrev pub is_property_at_hand : Tree → Option Descriptor → Bool
is_property_at_hand t None = true
is_property_at_hand t (Some p) = is_body_at_hand t p.body

-- and so do the properties of documents' objects
abbrev pub StoresAtHand : Tree → (Object → Store) → Type 0
StoresAtHand t stores = (o : Object) (key : Key) → is_property_at_hand t ((stores o).at key) ≡ true

-- STEPS

abbrev pub is_operand_short : Operand → Bool
is_operand_short (operand.Register name) = true
is_operand_short (operand.Plain given) = within_limits given

abbrev pub is_short_if_any : Option (List ℕ) → Bool
is_short_if_any None = true
is_short_if_any (Some text) = is_short text

-- the texts of the step that a request carries are short, and its data is within the limits
unfoldable pub is_step_short : Step → Bool
is_step_short (step.Let to given) = is_operand_short given
is_step_short (step.Set of key given user) = is_operand_short given
is_step_short (step.Define of key given writable enumerable configurable) = option_map_or is_operand_short given true
is_step_short (step.Call of key args to user) = list_all is_operand_short args
is_step_short (step.Frame text name sandbox to) = is_short_if_any name
is_step_short (step.Open text target noopener user to) = is_short target
is_step_short (step.Link text target rel user) = is_short target
is_step_short (step.Domain value) = is_short value
is_step_short _ = true

-- PAGES

-- each step is short, and they aren't too many
abbrev pub are_steps_short : List Step → Bool
are_steps_short steps = nat_le (length steps) most_steps && list_all is_step_short steps

abbrev pub is_page_short : Page → Bool
is_page_short page = are_steps_short page.script && are_steps_short page.handler

abbrev pub are_pages_short : List Page → Bool
are_pages_short pages = list_all is_page_short pages

-- REQUESTS

-- the texts of the request are short, and its data is within the limits
unfoldable pub is_request_short : Request → Bool
is_request_short (request.Frame asker name flags url) = is_short name
is_request_short (request.Open asker url target noopener user) = is_short target
is_request_short (request.Link asker url target noopener user) = is_short target
is_request_short (request.Name asker doc name) = is_short name
is_request_short (request.Post asker doc target body) = within_limits body
is_request_short (request.Domain asker value) = is_short value
is_request_short _ = true
