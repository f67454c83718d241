-- The session that a JSON text is, or the first refusal: fields in their order, list items in order.
use Rattle.std.specs.Prelude.{ℕ, ◌-◌, ◌&&◌, ◌||◌, ◌==◌, not, List, [], ◌∷◌, length, Bool, true, false, is_some, nat_le, bytes_eq, if◌then◌else◌, Option, None, Result, Ok, Err}
use Rattle.std.specs.List.{list_any}
use Rattle.std.specs.Str.{is_utf8}
use Rattle.serde_json.specs.Read as serde
use Rattle.origin_core.specs.declared.page.UrlError.{UrlError}
use Rattle.origin_core.specs.Page.{read_page, is_web_text, fragment_of}
use Rattle.agent_terms.specs.declared.session.Session.{Session}
use Rattle.agent_terms.specs.declared.session.Page.{Page}
use Rattle.agent_terms.specs.declared.step.Step.{Step}
use Rattle.agent_terms.specs.Limits.{most_renderers, most_starts, most_turns, most_pages, most_steps, most_suffix}
use Rattle.session_reading.specs.declared.error.SessionError.TheVariants.{NotJson}
use Rattle.session_reading.specs.declared.name.Name.{Name}
use Rattle.session_reading.specs.declared.name.Name.TheVariants as its
use Rattle.session_reading.specs.Refusing.{Outcome, ◌>>=◌, out_of_range}
use Rattle.session_reading.specs.Reading.{Json, or_refuse, whole, text, any_list, list_of}
use Rattle.session_reading.specs.Forms.{Fields, fields_of, read_field, read_field_or, ends}
use Rattle.session_text.specs.Steps.{step_read, is_letter}

-- URLS (URL Standard, section 4.4, without a base)

abbrev pub url_from : Result (List ℕ) UrlError → Outcome (List ℕ)
url_from (Ok url) = Ok url
url_from (Err e) = out_of_range

-- an http or https URL, as it is serialized
unfoldable pub web_url : Json → Outcome (List ℕ)
web_url j = do
  s ← text j
  url ← url_from (read_page None s)
  if is_web_text url then Ok url else out_of_range

unfoldable pub has_url : List Page → List ℕ → Bool
has_url pages url = list_any (λ (page : Page). bytes_eq url page.url) pages

-- an http or https URL without fragment, that no earlier page has
unfoldable pub page_url : List Page → Json → Outcome (List ℕ)
page_url before j = do
  url ← web_url j
  if is_some (fragment_of url) then out_of_range
      else if has_url before url then out_of_range else Ok url

-- PUBLIC SUFFIXES

-- a to z, 0 to 9 and `-`
abbrev pub is_label_byte : ℕ → Bool
is_label_byte b = is_letter b || (nat_le 48 b && nat_le b 57) || b == 45

-- labels of such bytes, none empty, with single dots between them; in front of the first, and behind each dot, a label
-- begins
unfoldable pub has_labels : Bool → List ℕ → Bool
has_labels begins [] = not begins
has_labels begins (b ∷ bytes) = if b == 46 then not begins && has_labels true bytes else is_label_byte b && has_labels false bytes

unfoldable pub is_suffix : List ℕ → Bool
is_suffix s = nat_le (length s) most_suffix && has_labels true s

unfoldable pub suffix : Json → Outcome (List ℕ)
suffix j = do
  s ← text j
  if is_suffix s then Ok s else out_of_range

-- PAGES

abbrev pub steps : Json → Outcome (List Step)
steps = list_of 0 most_steps (λ _. step_read)

-- the script, or the handler
unfoldable pub steps_at : Name → Fields → Outcome (List Step × Fields)
steps_at name = read_field_or name [] steps

unfoldable pub page_read : List Page → Json → Outcome Page
page_read before j = do
  f ← fields_of j
  (url, f) ← read_field its.Url (page_url before) f
  (script, f) ← steps_at its.Script f
  (handler, f) ← steps_at its.Handler f
  others ← ends f
  Ok (record { url = url; script = script; handler = handler })

-- SESSIONS

-- the number of a renderer
abbrev pub renderer_of : ℕ → Json → Outcome ℕ
renderer_of renderers = whole 0 (renderers - 1)

unfoldable pub suffixes_read : Fields → Outcome (List (List ℕ) × Fields)
suffixes_read = read_field_or its.Suffixes [] (any_list (λ _. suffix))

-- whose turns come first, told how many renderers there are
unfoldable pub order_read : ℕ → Fields → Outcome (List ℕ × Fields)
order_read renderers = read_field_or its.Order [] (list_of 0 most_turns (λ _. renderer_of renderers))

unfoldable pub session_read : Json → Outcome Session
session_read j = do
  f ← fields_of j
  (renderers, f) ← read_field its.Renderers (whole 1 most_renderers) f
  (suffixes, f) ← suffixes_read f
  (start, f) ← read_field its.Start (list_of 1 most_starts (λ _. web_url)) f
  (order, f) ← order_read renderers f
  (pages, f) ← read_field its.Pages (list_of 0 most_pages page_read) f
  others ← ends f
  Ok (record { renderers = renderers; suffixes = suffixes; start = start; order = order; lose = []; pages = pages })

-- TEXTS

-- the value that the bytes write; `serde.read` reads UTF-8
abbrev pub json_of : List ℕ → Option Json
json_of bytes = if is_utf8 bytes then serde.read bytes else None

-- the session that the bytes are, or the refusal
abbrev pub session_of : List ℕ → Outcome Session
session_of bytes = or_refuse (json_of bytes) (Err NotJson) >>= session_read
