-- The serialization of the origin of a page's URL is no longer than the URL.
use Rattle.std.proofs.Common.{◌≡◌, ℕ, ◌+◌, ◌≤◌, Bool, true, false, cond, not, ◌&&◌, ◌||◌, ◌==◌, List, [], length, length-append, take, drop, Some, None, Ok, Err, is_some, unwrap_or, sym, ap, ◌∙◌, subst, refl, arith}
use Rattle.std.specs.Prelude.{Option, option_map, codes, decimal, nat_lt, if◌then◌else◌}
use Rattle.std.proofs.lemmas.Bool.{cond_both, false≢true}
use Rattle.url.specs.declared.error.ParseError.{ParseError}
use Rattle.url.specs.declared.scheme.SchemeType.TheVariants.{File, NotSpecial}
use Rattle.url.specs.Input.{when, trim_c0_control_and_space, strip_tabs_and_new_lines, lowercase, split_once, rsplit_once}
use Rattle.url.specs.Scheme.{scheme_type, is_special, is_file}
use Rattle.url.specs.Host.{parse_host, parse_file_host}
use Rattle.url.specs.Path.{segment_len, is_windows_drive_letter, parse_path_start, escape_end}
use Rattle.url.specs.Parts.{Parts, kind_of, has_authority, serialize}
use Rattle.url.specs.Parser.{Parsed, and_then, split_port, lacks_host, parse_port, parse_authority, with_path, leading_slashes, after_double_slash, parse_non_special, after_file_double_slash, parse_file, parse_not_file, parse_body, with_tail, before_tail, parse_parts, split_scheme, parse_by_scheme, parse_url}
use Rattle.plain_data.specs.DataLimits.{is_short}
use Rattle.origin_core.specs.declared.page.UrlError.TheVariants.{NotAUrl, SchemeOut}
use Rattle.origin_core.specs.declared.origin.Scheme.{Scheme}
use Rattle.origin_core.specs.declared.origin.Origin.TheVariants.{Tuple}
use Rattle.origin_core.specs.Page.{is_page, page_text, page_of_parsed, is_text, is_page_text}
use Rattle.origin_core.specs.Origin.{web_scheme, tuple_of, record_origin, parsed_tuple, page_origin}
use Rattle.origin_core.specs.Tuple.{scheme_text, port_text, tuple_text}
use Rattle.origin_core.proofs.HostLaw.{http_kind}
use Rattle.origin_core.proofs.TupleLemmas.{scheme_is}
use Rattle.object_access.specs.LocationAccess.{text_of_origin}
use Rattle.step_ranges.proofs.Texts.{at_least, not_over}

-- RESULTS

ok_then : {A B P : Type 0} (r : Parsed A) (next : A → Parsed B) (y : B) → and_then r next ≡ Ok y → ((x : A) → r ≡ Ok x → next x ≡ Ok y → P) → P
ok_then (Ok x) next y e k = k x refl e
ok_then (Err d) next y e k = cc

by_test : {A P : Type 0} (test : Bool) (r s : Parsed A) (y : A) → cond test r s ≡ Ok y → (test ≡ true → r ≡ Ok y → P) → (test ≡ false → s ≡ Ok y → P) → P
by_test true r s y e k l = k refl e
by_test false r s y e k l = l refl e

past_error : {A : Type 0} (test : Bool) (d : ParseError) (r : Parsed A) (y : A) → cond test (Err d) r ≡ Ok y → r ≡ Ok y
past_error true d r y e = cc
past_error false d r y e = e

same_ok : {A : Type 0} (x y : A) → ◌≡◌ {A = Parsed A} (Ok x) (Ok y) → x ≡ y
same_ok x y e = cc

-- A URL WITH A SPECIAL SCHEME HAS AN AUTHORITY

-- what was parsed has this scheme, and an authority where that is special
abbrev Made : List ℕ → Parts → Type 0
Made scheme url = (url.scheme ≡ scheme) × (is_special (scheme_type scheme) ≡ true → has_authority url ≡ true)

made_authority : (scheme bytes : List ℕ) (head : Parts) → parse_authority scheme bytes ≡ Ok head → Made scheme head
unfolding parse_authority
made_authority scheme bytes head e =
    let text = (split_port (rsplit_once 64 bytes).1).0 in
    let lacks = lacks_host (rsplit_once 64 bytes).0 text (split_port (rsplit_once 64 bytes).1).1 in
    ok_then (parse_host (scheme_type scheme) text) _ head (past_error lacks _ _ head e) λ host read e₁.
    ok_then (parse_port scheme (unwrap_or (split_port (rsplit_once 64 bytes).1).1 [])) _ head e₁ λ port got e₂.
    let same = same_ok _ head e₂ in
    (sym (ap (λ u. u.scheme) same), λ kind. sym (ap has_authority same))

made_slashes : (scheme bytes : List ℕ) (url : Parts) → after_double_slash scheme bytes ≡ Ok url → Made scheme url
unfolding after_double_slash
made_slashes scheme bytes url e =
    let kind = scheme_type scheme in
    let len = segment_len kind bytes in
    ok_then (parse_authority scheme (take len bytes)) _ url e λ head read e₁.
    subst (Made scheme) (same_ok (with_path head (parse_path_start kind [] (drop len bytes))) url e₁) (made_authority scheme _ head read)

-- of a URL whose scheme isn't special only the scheme is told
made_other : (scheme : List ℕ) (url : Parts) → url.scheme ≡ scheme → is_special (scheme_type scheme) ≡ false → Made scheme url
made_other scheme url same other = (same, λ kind. absurd (let clash : false ≡ true = sym other ∙ kind in cc))

made_non_special : (scheme body : List ℕ) (url : Parts) → is_special (scheme_type scheme) ≡ false → parse_non_special scheme body ≡ Ok url → Made scheme url
unfolding parse_non_special
made_non_special scheme body url none e =
    by_test (leading_slashes NotSpecial body == 2) _ _ url e (λ _ k. made_slashes scheme (drop 2 body) url k) λ _ k.
    by_test (leading_slashes NotSpecial body == 1) _ _ url k (λ _ l. made_other scheme url (sym (ap (λ u. u.scheme) (same_ok _ url l))) none)
    λ _ l. made_other scheme url (sym (ap (λ u. u.scheme) (same_ok _ url l))) none

made_not_file : (scheme body : List ℕ) (url : Parts) → parse_not_file scheme None body ≡ Ok url → Made scheme url
made_not_file scheme body url e =
    by_test (is_special (scheme_type scheme)) _ _ url e (λ _ k. made_slashes scheme _ url k) (λ none k. made_non_special scheme body url none k)

-- a file URL has an authority
file_slashes : (bytes : List ℕ) (url : Parts) → after_file_double_slash bytes ≡ Ok url → has_authority url ≡ true
unfolding after_file_double_slash
file_slashes bytes url e =
    let len = segment_len File bytes in
    by_test (is_windows_drive_letter (take len bytes)) _ _ url e (λ _ k. sym (ap has_authority (same_ok _ url k))) λ _ k.
    ok_then (parse_file_host (take len bytes)) _ url k λ host read l. sym (ap has_authority (same_ok _ url l))

file_made : (body : List ℕ) (url : Parts) → parse_file None body ≡ Ok url → has_authority url ≡ true
unfolding parse_file
file_made body url e =
    by_test (leading_slashes File body == 2) _ _ url e (λ _ k. file_slashes _ url k) (λ _ k. sym (ap has_authority (same_ok _ url k)))

-- a URL with a special scheme has an authority
abbrev Whole : Parts → Type 0
Whole url = is_special (kind_of url) ≡ true → has_authority url ≡ true

whole_body : (scheme body : List ℕ) (url : Parts) → parse_body scheme None body ≡ Ok url → Whole url
unfolding parse_body
whole_body scheme body url e =
    by_test (is_file (scheme_type scheme)) _ _ url e (λ _ k kind. file_made body url k)
    (λ _ k kind. let made = made_not_file scheme body url k in made.1 (ap (λ s. is_special (scheme_type s)) (sym made.0) ∙ kind))

whole_tail : (head : Parts) (query fragment : Option (List ℕ)) → Whole head → Whole (with_tail (before_tail head query fragment) query fragment)
whole_tail head query fragment whole =
    cond_both (not (is_special (kind_of head)) && (is_some query || is_some fragment)) (with_path head (escape_end head.path)) head (λ u. Whole (with_tail u query fragment)) (λ _. whole) (λ _. whole)

whole_parts : (scheme body : List ℕ) (query fragment : Option (List ℕ)) (url : Parts) → parse_parts scheme None body query fragment ≡ Ok url → Whole url
unfolding parse_parts
whole_parts scheme body query fragment url e =
    ok_then (parse_body scheme None body) _ url e λ head read k.
    subst Whole (same_ok (with_tail (before_tail head query fragment) query fragment) url k) (whole_tail head query fragment (whole_body scheme body head read))

whole_split : (split : Option (List ℕ × List ℕ)) (body : List ℕ) (query fragment : Option (List ℕ)) (url : Parts) → parse_by_scheme split None body query fragment ≡ Ok url → Whole url
whole_split (Some split) body query fragment url e = whole_parts (lowercase split.0) split.1 query fragment url e
whole_split None body query fragment url e = cc

whole_url : (text : List ℕ) (url : Parts) → parse_url None text ≡ Ok url → Whole url
unfolding parse_url
whole_url text url e =
    let hash = split_once 35 (strip_tabs_and_new_lines (trim_c0_control_and_space text)) in
    let question = split_once 63 hash.0 in
    whole_split (split_scheme question.0) question.0 question.1 hash.1 url e

-- LENGTHS

port_len : (port : Option ℕ) → length (port_text port) ≡ length (when (is_some port) (codes ":")) + length (unwrap_or (option_map decimal port) [])
port_len None = refl
port_len (Some port) = omega arith

tuple_len : (url : Parts) (scheme : Scheme) → has_authority url ≡ true → scheme_text scheme ≡ url.scheme → length (tuple_text (tuple_of url scheme)) ≤ length (serialize url)
tuple_len url scheme authority is =
    let same = ap length is in
    let port = port_len url.port in
    rw authority (simp length-append (omega arith))

null_short : is_short (codes "null") ≡ true
null_short = refl

-- the serialization of the origin of a URL whose own is short
record_short : (url : Parts) → Whole url → length (serialize url) ≤ 1024 → is_short (text_of_origin (record_origin url)) ≡ true
record_short url whole le = by_scheme (web_scheme url.scheme) refl
  where
    by_scheme : (o : Option Scheme) → web_scheme url.scheme ≡ o → is_short (text_of_origin (option_map Tuple (option_map (tuple_of url) o))) ≡ true
    by_scheme None e = null_short
    by_scheme (Some scheme) e =
        let web = scheme_is url.scheme scheme e in
        let authority : has_authority url ≡ true = whole (ap is_special (http_kind url.scheme web.1)) in
        at_least (length (tuple_text (tuple_of url scheme))) 1024 (omega (arith, tuple_len url scheme authority web.0))

-- a page's URL is short
page_limit : (text : List ℕ) (url : Parts) → is_text text (page_text url) ≡ true → length (serialize url) ≤ 1024
page_limit text url h = by_kind (is_page url) h
  where
    by_size : (b : Bool) → nat_lt 1024 (length (serialize url)) ≡ b → is_text text (if b then Err NotAUrl else Ok (serialize url)) ≡ true → length (serialize url) ≤ 1024
    by_size true e k = absurd (false≢true k)
    by_size false e k = not_over (length (serialize url)) e

    by_kind : (b : Bool) → is_text text (if b then (if nat_lt 1024 (length (serialize url)) then Err NotAUrl else Ok (serialize url)) else Err SchemeOut) ≡ true → length (serialize url) ≤ 1024
    by_kind true k = by_size (nat_lt 1024 (length (serialize url))) refl k
    by_kind false k = absurd (false≢true k)

-- so is the serialization of its origin
pub page_origin_short : (text : List ℕ) → is_page_text text ≡ true → is_short (text_of_origin (page_origin text)) ≡ true
page_origin_short text h = by_parsed (parse_url None text) refl (by_size (nat_lt 1024 (length text)) h)
  where
    by_size : (b : Bool) → is_text text (if b then Err NotAUrl else page_of_parsed (parse_url None text)) ≡ true → is_text text (page_of_parsed (parse_url None text)) ≡ true
    by_size true k = absurd (false≢true k)
    by_size false k = k

    by_parsed : (r : Parsed Parts) → parse_url None text ≡ r → is_text text (page_of_parsed r) ≡ true → is_short (text_of_origin (option_map Tuple (parsed_tuple r))) ≡ true
    by_parsed (Ok url) e k = record_short url (whole_url text url e) (page_limit text url k)
    by_parsed (Err d) e k = null_short
