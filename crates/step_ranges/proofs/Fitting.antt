-- When the parts of a request are in range; and that a frame spells a request whose parts are.
use Rattle.std.proofs.Common.{◌≡◌, ◌∙◌, ◌&&◌, ℕ, ◌≤◌, List, length, map, Some, None, Bool, true, false, refl, ap, subst, arith, rules}
use Rattle.std.specs.List.{list_all}
use Rattle.std.specs.Str.{IsAscii, is_utf8}
use Rattle.std.proofs.lemmas.List.Folds.{list_all-map}
use Rattle.std.proofs.lemmas.Slice.Eq.{bytes_eq-Decides}
use Rattle.std.proofs.lemmas.Str.{IsUtf8-from_ascii, IsUtf8-from_is_utf8}
use Rattle.url.specs.Parts.{Parts, serialize}
use Rattle.plain_data.specs.DataLimits.{is_short}
use Rattle.plain_data.specs.declared.data.Data.{Data, the_lemmas}
use Rattle.plain_data.specs.declared.data.Data as D
use Rattle.origin_core.specs.declared.origin.Origin.{Origin}
use Rattle.origin_core.specs.declared.origin.Origin.TheVariants.{Tuple, Opaque}
use Rattle.origin_core.specs.Tuple.{TupleParts, IsTuple}
use Rattle.origin_core.specs.Page as page
use Rattle.origin_core.specs.Page.{IsPageRecord, IsPageText}
use Rattle.link_fields.specs.Basic.{u32, small, truth, text, url, flags, optional}
use Rattle.link_fields.specs.Limits.{texts_are_utf8}
use Rattle.link_fields.specs.Origins.{origin}
use Rattle.link_fields.specs.Skipping.{data_field}
use Rattle.link_fields.proofs.FieldLaws.{at_most}
use Rattle.frame_grammar.specs.Cut.{most_body}
use Rattle.frame_grammar.specs.Parts.{target}
use Rattle.tree_log.specs.declared.entry.Target.TheVariants as targets
use Rattle.agent_terms.specs.declared.request.Request.{Request}
use Rattle.agent_terms.specs.declared.request.Request.TheVariants as ask
use Rattle.link_wire.specs.Requests.{next_kind, sync_kind, frame_kind, drop_kind, open_kind, link_kind, go_kind, name_kind, disown_kind, close_kind, post_kind, domain_kind, more_kind, request_spelled, kind_of, request_body, request_row, IsRequest}
use Rattle.exchange_laws.proofs.Fit.Parts.{some_fits, none_fits}
use Rattle.exchange_laws.proofs.Fit.Origins.{text_fits, origin_fits, opaque_fits}
use Rattle.exchange_laws.proofs.Fit.Sizes.{IsUpTo, u32_size, nothing_size, pair_size, mapped_size, small_size, optional_size, text_size, url_size, flags_size, target_size, data_size, kind_most}
use Rattle.step_ranges.specs.Parts.{HasFitParts, are_utf8, members_are_utf8}

-- PARTS

pub short_text_fits : (s : List ℕ) → is_utf8 s ≡ true → is_short s ≡ true → text.Fits s
short_text_fits s utf8 short = text_fits s (IsUtf8-from_is_utf8 s utf8) (at_most (length s) 1024 short)

pub page_fits : (s : List ℕ) → IsPageText s → IsAscii s → (u : Parts) × IsPageRecord u × (serialize u ≡ s) → url.Fits s
page_fits s read ascii spelled =
    let short : length s ≤ 1024 = subst (λ (x : List ℕ). length x ≤ 1024) spelled.2 spelled.1.small in
    (text_fits s (IsUtf8-from_ascii s ascii) short, ap (page.is_text s) read ∙ (bytes_eq-Decides s s).1 refl)

pub some_page_fits : (s : List ℕ) → url.Fits s → (optional url).Fits (Some s)
some_page_fits s h = some_fits url s h

pub no_page_fits : (optional url).Fits None
no_page_fits = none_fits url

pub ruleset pages = (some_page_fits, no_page_fits)

pub tuple_origin_fits : (t : TupleParts) → IsTuple t → origin.Fits (Tuple t)
tuple_origin_fits t valid = origin_fits (Tuple t) valid tt

pub opaque_origin_fits : (n : ℕ) → u32.Fits n → origin.Fits (Opaque n)
opaque_origin_fits n few = opaque_fits n few

pub ruleset origins = (tuple_origin_fits, opaque_origin_fits)

pub any_fits : target.Fits targets.Any
any_fits = ((omega arith, refl), refl)

pub never_fits : target.Fits targets.Never
never_fits = ((omega arith, refl), refl)

pub one_origin_fits : (o : Origin) → origin.Fits o → target.Fits (targets.Origin o)
one_origin_fits o h = ((omega arith, refl), (o, h, refl))

pub ruleset targets_fit = (any_fits, never_fits, one_origin_fits)

truth_fits : (b : Bool) → truth.Fits b
truth_fits true = ((omega arith, refl), refl)
truth_fits false = ((omega arith, refl), refl)

truth_size : IsUpTo truth 1
truth_size = mapped_size _ _ (small 1) 1 (small_size 1)

-- DATA, A LEVEL AT A TIME

opened-List : (items : List Data) → texts_are_utf8 (D.List items) ≡ list_all (λ b. b) (map texts_are_utf8 items)
opened-List items = search (rules, the_lemmas)

pub utf8-List : (items : List Data) → texts_are_utf8 (D.List items) ≡ are_utf8 items
utf8-List items = opened-List items ∙ list_all-map (λ b. b) texts_are_utf8 items

abbrev with_tests : List (List ℕ × Data) → List (List ℕ × Bool)
with_tests members = map (λ m. (m.0, texts_are_utf8 m.1)) members

opened-Record : (members : List (List ℕ × Data)) → texts_are_utf8 (D.Record members) ≡ list_all (λ (m : List ℕ × Bool). is_utf8 m.0 && m.1) (with_tests members)
opened-Record members = search (rules, the_lemmas)

pub utf8-Record : (members : List (List ℕ × Data)) → texts_are_utf8 (D.Record members) ≡ members_are_utf8 members
utf8-Record members = opened-Record members ∙ list_all-map (λ (m : List ℕ × Bool). is_utf8 m.0 && m.1) (λ m. (m.0, texts_are_utf8 m.1)) members

pub ruleset levels = (utf8-List, utf8-Record)

-- REQUESTS

-- a request whose parts are in range is in the row of its kind
row_fits : (r : Request) → HasFitParts r → (request_row (kind_of r)).Fits r
row_fits ask.Next h = (tt, refl, refl)
row_fits (ask.Sync asker) h = (asker, h, refl)
row_fits (ask.Frame asker name set page) h = ((asker, (name, (set, page))), (h.0, (h.1, (h.2, h.3))), refl)
row_fits (ask.Drop asker nav) h = ((asker, nav), h, refl)
row_fits (ask.Open asker page name noopener user) h = ((asker, (page, (name, (noopener, user)))), (h.0, (h.1, (h.2, (truth_fits noopener, truth_fits user)))), refl)
row_fits (ask.Link asker page name noopener user) h = ((asker, (page, (name, (noopener, user)))), (h.0, (h.1, (h.2, (truth_fits noopener, truth_fits user)))), refl)
row_fits (ask.Go asker doc page user) h = ((asker, (doc, (page, user))), (h.0, (h.1, (h.2, truth_fits user))), refl)
row_fits (ask.Name asker doc name) h = ((asker, (doc, name)), (h.0, (h.1, h.2)), refl)
row_fits (ask.Disown asker doc) h = ((asker, doc), h, refl)
row_fits (ask.Close asker doc user) h = ((asker, (doc, user)), (h.0, (h.1, truth_fits user)), refl)
row_fits (ask.Post asker doc to body) h = ((asker, (doc, (to, body))), (h.0, (h.1, (h.2, h.3))), refl)
row_fits (ask.Domain asker value) h = ((asker, value), h, refl)
row_fits ask.More h = (tt, refl, refl)

-- the most that the fields of each kind take
body_most : (r : Request) → (request_row (kind_of r)).Fits r → length (request_body r) ≤ most_body
body_most ask.Next h = kind_most request_spelled next_kind 0 most_body (omega arith) (nothing_size tt) (λ a. refl) ask.Next h
body_most (ask.Sync asker) h = kind_most request_spelled sync_kind 4 most_body (omega arith) u32_size (λ a. refl) (ask.Sync asker) h
body_most (ask.Frame asker name set page) h =
    kind_most request_spelled frame_kind 2059 most_body (omega arith)
    (pair_size u32 _ 4 2055 u32_size (pair_size text _ 1026 1029 text_size (pair_size flags (optional url) 2 1027 flags_size (optional_size url 1026 url_size))))
    (λ a. refl) (ask.Frame asker name set page) h
body_most (ask.Drop asker nav) h = kind_most request_spelled drop_kind 8 most_body (omega arith) (pair_size u32 u32 4 4 u32_size u32_size) (λ a. refl) (ask.Drop asker nav) h
body_most (ask.Open asker page name noopener user) h =
    kind_most request_spelled open_kind 2059 most_body (omega arith)
    (pair_size u32 _ 4 2055 u32_size (pair_size (optional url) _ 1027 1028 (optional_size url 1026 url_size) (pair_size text _ 1026 2 text_size (pair_size truth truth 1 1 truth_size truth_size))))
    (λ a. refl) (ask.Open asker page name noopener user) h
body_most (ask.Link asker page name noopener user) h =
    kind_most request_spelled link_kind 2058 most_body (omega arith)
    (pair_size u32 _ 4 2054 u32_size (pair_size url _ 1026 1028 url_size (pair_size text _ 1026 2 text_size (pair_size truth truth 1 1 truth_size truth_size))))
    (λ a. refl) (ask.Link asker page name noopener user) h
body_most (ask.Go asker doc page user) h =
    kind_most request_spelled go_kind 1035 most_body (omega arith)
    (pair_size u32 _ 4 1031 u32_size (pair_size u32 _ 4 1027 u32_size (pair_size url truth 1026 1 url_size truth_size)))
    (λ a. refl) (ask.Go asker doc page user) h
body_most (ask.Name asker doc name) h =
    kind_most request_spelled name_kind 1034 most_body (omega arith) (pair_size u32 _ 4 1030 u32_size (pair_size u32 text 4 1026 u32_size text_size)) (λ a. refl) (ask.Name asker doc name) h
body_most (ask.Disown asker doc) h = kind_most request_spelled disown_kind 8 most_body (omega arith) (pair_size u32 u32 4 4 u32_size u32_size) (λ a. refl) (ask.Disown asker doc) h
body_most (ask.Close asker doc user) h =
    kind_most request_spelled close_kind 9 most_body (omega arith) (pair_size u32 _ 4 5 u32_size (pair_size u32 truth 4 1 u32_size truth_size)) (λ a. refl) (ask.Close asker doc user) h
body_most (ask.Post asker doc to body) h =
    kind_most request_spelled post_kind 5137 most_body (omega arith)
    (pair_size u32 _ 4 5133 u32_size (pair_size u32 _ 4 5129 u32_size (pair_size target data_field 1033 4096 target_size data_size)))
    (λ a. refl) (ask.Post asker doc to body) h
body_most (ask.Domain asker value) h = kind_most request_spelled domain_kind 1030 most_body (omega arith) (pair_size u32 text 4 1026 u32_size text_size) (λ a. refl) (ask.Domain asker value) h
body_most ask.More h = kind_most request_spelled more_kind 0 most_body (omega arith) (nothing_size tt) (λ a. refl) ask.More h

pub is_request : (r : Request) → HasFitParts r → IsRequest r
is_request r h = let row = row_fits r h in (row, body_most r row)
