-- A session that a text is, is in range.
use Rattle.std.proofs.Common.{◌≡◌, ◌⊎◌, inl, inr, ◌≤◌, ◌<◌, ◌-◌, ℕ, List, [], ◌∷◌, ◌++◌, length, All, true, false, Some, None, Ok, Err, refl, ap, arith}
use Rattle.std.specs.Prelude.{Option, IfOk, is_some}
use Rattle.std.specs.List.{IsDistinct}
use Rattle.std.specs.Cmp.{IsEquivalence}
use Rattle.std.specs.Cmp.Lexicographic.{nat_list_eq_equiv}
use Rattle.std.proofs.lemmas.List.Elements.{All-nil, All-push}
use Rattle.std.proofs.lemmas.Map.Keys.{IsDistinct-push}
use Rattle.origin_core.specs.Page.{read_page, IsPageText, is_web_text, fragment_of}
use Rattle.agent_terms.specs.declared.session.Session.{Session}
use Rattle.agent_terms.specs.declared.session.Page.{Page}
use Rattle.agent_terms.specs.declared.step.Step.{Step}
use Rattle.agent_terms.specs.Limits.{most_renderers, most_starts, most_turns, most_pages}
use Rattle.session_reading.specs.declared.name.Name.TheVariants as its
use Rattle.session_reading.specs.Refusing.{Outcome, Gives}
use Rattle.session_reading.specs.Reading.{Json, whole, text, any_list, list_of}
use Rattle.session_reading.specs.Forms.{fields_of, read_field, ends}
use Rattle.session_reading.proofs.Read.{bind_ok, then_ok, else_ok, read_field_ok, read_field_or_ok, whole_ok, each_keeps, list_ok, any_list_ok, IsRead}
use Rattle.session_text.specs.Session.{url_from, web_url, has_url, page_url, is_suffix, suffix, steps, steps_at, page_read, renderer_of, suffixes_read, order_read, session_read}
use Rattle.session_text.specs.Range.{AreSteps, IsSuffix, has_same_url, IsInRange}
use Rattle.session_text.proofs.StepRange.{steps_ok, no_steps, read_or}

-- URLS

web_url_ok : (j : Json) (url : List ℕ) → web_url j ≡ Ok url → is_web_text url ≡ true
unfolding web_url
web_url_ok j url e =
    let s = bind_ok (text j) _ url e in
    let u = bind_ok (url_from (read_page None s.0)) _ url s.2 in
    let web = then_ok (is_web_text u.0) (Ok u.0) _ url u.2 in
    let same : u.0 ≡ url = let kept = web.1 in cc in
    rw (← same) web.0

none_there : (o : Option (List ℕ)) → is_some o ≡ false → o ≡ None
none_there None e = refl
none_there (Some x) e = absurd (let bad : ⊥ = cc in bad)

record IsNew (before : List Page) (url : List ℕ) : Type 0 where
  web : is_web_text url ≡ true
  fragment : fragment_of url ≡ None
  absent : has_url before url ≡ false

page_url_ok : (before : List Page) (j : Json) (url : List ℕ) → page_url before j ≡ Ok url → IsNew before url
unfolding page_url
page_url_ok before j url e =
    let u = bind_ok (web_url j) _ url e in
    let bare = else_ok (is_some (fragment_of u.0)) _ _ url u.2 in
    let new = else_ok (has_url before u.0) (Ok u.0) _ url bare.1 in
    let same : u.0 ≡ url = let kept = new.1 in cc in
    rw (← same) (record { web = web_url_ok j u.0 u.1; fragment = none_there (fragment_of u.0) bare.0; absent = new.0 })

-- PAGES

-- what the readers tell of a page
record IsReadPage (page : Page) : Type 0 where
  web : is_web_text page.url ≡ true
  fragment : fragment_of page.url ≡ None
  script : AreSteps page.script
  handler : AreSteps page.handler

steps_held : (found : List Step) → ([] ≡ found) ⊎ ((held : Json) × (steps held ≡ Ok found)) → AreSteps found
steps_held found (inl same) = rw (← same) no_steps
steps_held found (inr held) = steps_ok held.0 found held.1

page_ok : (before : List Page) (j : Json) (page : Page) → page_read before j ≡ Ok page → IsReadPage page × (has_url before page.url ≡ false)
unfolding page_read steps_at
page_ok before j page e =
    let object = bind_ok (fields_of j) _ page e in
    let url = bind_ok (read_field its.Url (page_url before) object.0) _ page object.2 in
    let script = bind_ok (steps_at its.Script url.0.1) _ page url.2 in
    let handler = bind_ok (steps_at its.Handler script.0.1) _ page script.2 in
    let others = bind_ok (ends handler.0.1) _ page handler.2 in
    let held = read_field_ok its.Url (page_url before) object.0 url.0 url.1 in
    let new = page_url_ok before held.0 url.0.0 held.1 in
    let same : record { url = url.0.0; script = script.0.0; handler = handler.0.0 } ≡ page = let kept = others.2 in cc in
    rw (← same) (
      record {
        web = new.web;
        fragment = new.fragment;
        script = steps_held script.0.0 (read_field_or_ok its.Script [] steps url.0.1 script.0 script.1);
        handler = steps_held handler.0.0 (read_field_or_ok its.Handler [] steps script.0.1 handler.0 handler.1);
      },
      new.absent,
    )

same_url_laws : IsEquivalence has_same_url
same_url_laws = record {
  refl = λ a. nat_list_eq_equiv.refl a.url;
  symm = λ a b. nat_list_eq_equiv.symm a.url b.url;
  congr = λ a b c. nat_list_eq_equiv.congr a.url b.url c.url;
}

abbrev AreFine : List Page → Type 0
AreFine pages = All IsReadPage pages × IsDistinct has_same_url pages

one_more : (before : List Page) (j : Json) (page : Page) → AreFine before → page_read before j ≡ Ok page → AreFine (before ++ page ∷ [])
unfolding has_url
one_more before j page fine e =
    let read = page_ok before j page e in
    (All-push IsReadPage before page fine.0 read.0, IsDistinct-push same_url_laws before page fine.1 read.1)

no_pages : AreFine []
unfolding IsDistinct
no_pages = (All-nil IsReadPage, tt)

pages_ok : (pages : List Page) → IsRead 0 most_pages page_read pages → AreFine pages
pages_ok pages read = each_keeps AreFine page_read one_more [] read.items.0 pages no_pages read.items.1

-- LISTS OF A SESSION

abbrev IsWeb : List ℕ → Type 0
IsWeb url = is_web_text url ≡ true

start_ok : (start : List (List ℕ)) → IsRead 1 most_starts (λ _. web_url) start → All IsWeb start
start_ok start read =
    each_keeps (All IsWeb) (λ _. web_url) (λ before j url fine e. All-push IsWeb before url fine (web_url_ok j url e))
    [] read.items.0 start (All-nil IsWeb) read.items.1

suffix_ok : (j : Json) (s : List ℕ) → suffix j ≡ Ok s → IsSuffix s
unfolding suffix
suffix_ok j s e =
    let held = bind_ok (text j) _ s e in
    let fits = then_ok (is_suffix held.0) (Ok held.0) _ s held.2 in
    let same : held.0 ≡ s = let kept = fits.1 in cc in
    rw (← same) fits.0

suffixes_ok : (found : List (List ℕ)) → ([] ≡ found) ⊎ ((held : Json) × (any_list (λ _. suffix) held ≡ Ok found)) → All IsSuffix found
suffixes_ok found (inl same) = rw (← same) (All-nil IsSuffix)
suffixes_ok found (inr held) =
    let read = any_list_ok (λ _. suffix) held.0 found held.1 in
    each_keeps (All IsSuffix) (λ _. suffix) (λ before j s fine e. All-push IsSuffix before s fine (suffix_ok j s e))
    [] read.0 found (All-nil IsSuffix) read.1

abbrev IsBelow : ℕ → ℕ → Type 0
IsBelow renderers r = r < renderers

-- the turns that come first
record IsOrder (renderers : ℕ) (found : List ℕ) : Type 0 where
  few : length found ≤ most_turns
  all : All (IsBelow renderers) found

below_ok : (renderers : ℕ) (j : Json) (r : ℕ) → 1 ≤ renderers → renderer_of renderers j ≡ Ok r → r < renderers
below_ok renderers j r some e = let within = whole_ok 0 (renderers - 1) j r e in omega (arith, within.1)

order_ok : (renderers : ℕ) (found : List ℕ) → 1 ≤ renderers → ([] ≡ found) ⊎ ((held : Json) × (list_of 0 most_turns (λ _. renderer_of renderers) held ≡ Ok found)) → IsOrder renderers found
order_ok renderers found some (inl same) = rw (← same) (record { few = omega arith; all = All-nil (IsBelow renderers) })
order_ok renderers found some (inr held) =
    let read = list_ok 0 most_turns (λ _. renderer_of renderers) held.0 found held.1 in
    record {
      few = read.at_most;
      all = each_keeps (All (IsBelow renderers)) (λ _. renderer_of renderers) (λ before j r fine e. All-push (IsBelow renderers) before r fine (below_ok renderers j r some e)) [] read.items.0 found (All-nil (IsBelow renderers)) read.items.1;
    }

-- SESSIONS

-- what the readers tell of a session
record IsReadSession (s : Session) : Type 0 where
  some_renderer : 1 ≤ s.renderers
  renderers : s.renderers ≤ most_renderers
  suffixes : All IsSuffix s.suffixes
  some_start : 1 ≤ length s.start
  starts : length s.start ≤ most_starts
  start : All IsWeb s.start
  order : IsOrder s.renderers s.order
  lose : s.lose ≡ []
  most : length s.pages ≤ most_pages
  pages : All IsReadPage s.pages
  apart : IsDistinct has_same_url s.pages

session_ok : (j : Json) (s : Session) → session_read j ≡ Ok s → IsReadSession s
unfolding session_read suffixes_read order_read
session_ok j s e =
    let object = bind_ok (fields_of j) _ s e in
    let renderers = bind_ok (read_field its.Renderers (whole 1 most_renderers) object.0) _ s object.2 in
    let suffixes = bind_ok (suffixes_read renderers.0.1) _ s renderers.2 in
    let start = bind_ok (read_field its.Start (list_of 1 most_starts (λ _. web_url)) suffixes.0.1) _ s suffixes.2 in
    let order = bind_ok (order_read renderers.0.0 start.0.1) _ s start.2 in
    let pages = bind_ok (read_field its.Pages (list_of 0 most_pages page_read) order.0.1) _ s order.2 in
    let others = bind_ok (ends pages.0.1) _ s pages.2 in
    let the_number = read_field_ok its.Renderers (whole 1 most_renderers) object.0 renderers.0 renderers.1 in
    let within = whole_ok 1 most_renderers the_number.0 renderers.0.0 the_number.1 in
    let the_start = read_field_ok its.Start (list_of 1 most_starts (λ _. web_url)) suffixes.0.1 start.0 start.1 in
    let starts = list_ok 1 most_starts (λ _. web_url) the_start.0 start.0.0 the_start.1 in
    let the_pages = read_field_ok its.Pages (list_of 0 most_pages page_read) order.0.1 pages.0 pages.1 in
    let found = list_ok 0 most_pages page_read the_pages.0 pages.0.0 the_pages.1 in
    let fine = pages_ok pages.0.0 found in
    let same : record { renderers = renderers.0.0; suffixes = suffixes.0.0; start = start.0.0; order = order.0.0; lose = []; pages = pages.0.0 } ≡ s = ap (read_or s) others.2 in
    rw (← same) (record {
      some_renderer = within.0;
      renderers = within.1;
      suffixes = suffixes_ok suffixes.0.0 (read_field_or_ok its.Suffixes [] (any_list (λ _. suffix)) renderers.0.1 suffixes.0 suffixes.1);
      some_start = starts.at_least;
      starts = starts.at_most;
      start = start_ok start.0.0 starts;
      order = order_ok renderers.0.0 order.0.0 within.0 (read_field_or_ok its.Order [] (list_of 0 most_turns (λ _. renderer_of renderers.0.0)) start.0.1 order.0 order.1);
      lose = refl;
      most = found.at_most;
      pages = fine.0;
      apart = fine.1;
    })

-- and with what the type of each URL promises
abbrev HasPageText : Page → Type 0
HasPageText page = IsPageText page.url

in_range : (s : Session) → IsReadSession s → All IsPageText s.start → All HasPageText s.pages → IsInRange s
in_range s read starts pages = record {
  some_renderer = read.some_renderer;
  renderers = read.renderers;
  suffixes = read.suffixes;
  some_start = read.some_start;
  starts = read.starts;
  start = λ k d h. record { page = starts k d h; web = read.start k d h };
  turns = read.order.few;
  order = read.order.all;
  most = read.most;
  pages = λ k d h. record {
    url = record { page = pages k d h; web = (read.pages k d h).web };
    fragment = (read.pages k d h).fragment;
    script = (read.pages k d h).script;
    handler = (read.pages k d h).handler;
  };
  apart = read.apart;
  built = (λ k d h. record { script = (read.pages k d h).script.built; handler = (read.pages k d h).handler.built }, read.lose);
}

pub range_of_gives : (result : Outcome Session) (j : Json) → Gives result (session_read j) → IfOk result (λ s. All IsPageText s.start) → IfOk result (λ s. All HasPageText s.pages) → IfOk result IsInRange
range_of_gives (Ok s) j read starts pages = in_range s (session_ok j s read) starts pages
range_of_gives (Err e) j read starts pages = tt
