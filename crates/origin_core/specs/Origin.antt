-- Origins, after the HTML Standard, section 7.1.1.
use Rattle.std.specs.Prelude.{◌≡◌, ⊤, ℕ, Bool, true, false, not, ◌&&◌, nat_eq, List, [], ◌++◌, codes, decimal, bytes_eq, Option, Some, None, option_map, unwrap_or, Ok, Err, refl, if◌then◌else◌, length, nat_lt, Result, ◌⊎◌, MatchResult}
use Rattle.std.specs.Option.{option_eq}
use Rattle.url.specs.Host.{host_text}
use Rattle.url.specs.Origin.{origin_of, ascii_serialization}
use Rattle.url.specs.Parts.{Parts, host_or_empty}
use Rattle.url.specs.Parser.{Parsed, parse_url}
use Rattle.origin_core.specs.declared.page.UrlError.{UrlError}
use Rattle.origin_core.specs.declared.page.UrlError.TheVariants.{NotAUrl, NoMemory}
use Rattle.origin_core.specs.declared.origin.Scheme.{Scheme}
use Rattle.origin_core.specs.declared.origin.Scheme.TheVariants.{Http, Https}
use Rattle.origin_core.specs.declared.origin.Origin.{Origin}
use Rattle.origin_core.specs.declared.origin.Origin.TheVariants.{Tuple, Opaque}
use Rattle.origin_core.specs.Page.{is_page_text}
use Rattle.origin_core.specs.Host.{is_address}
use Rattle.origin_core.specs.Tuple as spec
use Rattle.origin_core.specs.Tuple.{tuple_text, IsTuple}

-- ---- sameness

abbrev pub is_same_scheme : Scheme → Scheme → Bool
is_same_scheme Http Http = true
is_same_scheme Https Https = true
is_same_scheme Http Https = false
is_same_scheme Https Http = false

abbrev pub is_same_truth : Bool → Bool → Bool
is_same_truth true b = b
is_same_truth false b = not b

-- Identical scheme, host and port. `ip` follows from the host; comparing it too makes this the
-- equality of all records.
abbrev pub is_same_tuple : spec.TupleParts → spec.TupleParts → Bool
is_same_tuple a b =
    is_same_scheme a.scheme b.scheme && bytes_eq a.host b.host && is_same_truth a.ip b.ip
    && option_eq nat_eq a.port b.port

-- "same origin": the same opaque origin, or tuple origins with identical scheme, host and port
abbrev pub is_same_origin : Origin → Origin → Bool
is_same_origin (Tuple a) (Tuple b) = is_same_tuple a b
is_same_origin (Opaque m) (Opaque n) = nat_eq m n
is_same_origin (Tuple a) (Opaque n) = false
is_same_origin (Opaque m) (Tuple b) = false

abbrev pub is_same_opaque : Origin → Origin → Bool
is_same_opaque (Opaque m) (Opaque n) = nat_eq m n
is_same_opaque _ _ = false

abbrev pub has_same_domain : Origin → List ℕ → Origin → List ℕ → Bool
has_same_domain (Tuple a) c (Tuple b) d = is_same_scheme a.scheme b.scheme && bytes_eq c d
has_same_domain a c b d = is_same_opaque a b

-- "same origin-domain", of two origins, each with the domain that its document has set: the same opaque origin; or tuple
-- origins with identical schemes and identical domains; or the same origin, where neither has a domain
abbrev pub is_same_origin_domain : Origin → Option (List ℕ) → Origin → Option (List ℕ) → Bool
is_same_origin_domain a None b None = is_same_origin a b
is_same_origin_domain a (Some c) b (Some d) = has_same_domain a c b d
is_same_origin_domain a (Some c) b None = is_same_opaque a b
is_same_origin_domain a None b (Some d) = is_same_opaque a b

-- the origin is opaque, or a tuple in range
abbrev pub IsOrigin : Origin → Type 0
IsOrigin (Tuple t) = IsTuple t
IsOrigin (Opaque n) = ⊤

-- ---- texts

-- "serialization of an origin"
abbrev pub origin_text : Origin → List ℕ
origin_text (Tuple t) = tuple_text t
origin_text (Opaque n) = codes "null"

-- the origin as logs print it: an opaque one with the number of its document
abbrev pub origin_words : Origin → List ℕ
origin_words (Tuple t) = tuple_text t
origin_words (Opaque n) = codes "opaque:" ++ decimal n

pub default_port_hidden : origin_text (Tuple (record { scheme = Https; host = codes "a.test"; ip = false; port = None })) ≡ codes "https://a.test"
default_port_hidden = refl

-- ---- the origin of a URL (URL Standard, section 4.7)

-- the scheme of an http or https URL
abbrev pub web_scheme : List ℕ → Option Scheme
web_scheme scheme =
    if bytes_eq scheme (codes "http") then Some Http
    else (if bytes_eq scheme (codes "https") then Some Https else None)

abbrev pub tuple_of : Parts → Scheme → spec.TupleParts
tuple_of url scheme = record {
  scheme = scheme;
  host = host_text (host_or_empty url);
  ip = is_address (host_or_empty url);
  port = url.port;
}

-- the tuple of an http or https URL
abbrev pub record_tuple : Parts → Option spec.TupleParts
record_tuple url = option_map (tuple_of url) (web_scheme url.scheme)

abbrev pub record_origin : Parts → Option Origin
record_origin url = option_map Tuple (record_tuple url)

abbrev pub parsed_tuple : Parsed Parts → Option spec.TupleParts
parsed_tuple (Ok url) = record_tuple url
parsed_tuple (Err e) = None

-- the parts of the origin of the URL that a page's text spells; none for `about:blank`
abbrev pub page_tuple : List ℕ → Option spec.TupleParts
page_tuple text = parsed_tuple (parse_url None text)

abbrev pub page_origin : List ℕ → Option Origin
page_origin text = option_map Tuple (page_tuple text)

abbrev pub parsed_origin_text : Parsed Parts → List ℕ
parsed_origin_text (Ok url) = ascii_serialization (origin_of url)
parsed_origin_text (Err e) = []

-- the URL Standard's serialization of the origin of the URL that the text spells
abbrev pub standard_origin_text : List ℕ → List ℕ
standard_origin_text text = parsed_origin_text (parse_url None text)

-- ---- the origins of documents (HTML Standard, section 7.3.2.1, "determine the origin")

-- A loaded document, by its navigable's origin flag, its own number, the origin of the document
-- that asked and its URL's text: a new opaque origin where the flag is set; else for
-- `about:blank` the origin of who asked; else the URL's origin.
abbrev pub loaded_origin : Bool → ℕ → Origin → List ℕ → Origin
loaded_origin sandboxed doc asker url =
    if sandboxed then Opaque doc else unwrap_or (page_origin url) asker

-- the initial document of a start window: a new opaque origin
abbrev pub start_origin : ℕ → Origin
start_origin doc = Opaque doc

-- the initial document of a frame: a new opaque origin where the navigable's origin flag is set,
-- else the origin of the embedder document
abbrev pub frame_origin : Bool → ℕ → Origin → Origin
frame_origin sandboxed doc embedder = if sandboxed then Opaque doc else embedder

-- the initial document of a window that a document made: a new opaque origin with noopener, else
-- the origin of its creator
abbrev pub window_origin : Bool → ℕ → Origin → Origin
window_origin noopener doc creator = if noopener then Opaque doc else creator

-- ---- blanking

abbrev pub root_text : List ℕ → List ℕ
root_text text = if is_page_text text then text else codes "about:blank"

-- the text of the URL that stands for the origin where the real one is not shown
abbrev pub blank_text : Origin → List ℕ
blank_text (Tuple t) = root_text (tuple_text t ++ codes "/")
blank_text (Opaque n) = codes "about:blank"

-- ---- the origin of any URL

abbrev pub parsed_origin : Parsed Parts → Option Origin
parsed_origin (Ok url) = record_origin url
parsed_origin (Err e) = None

-- a `blob:` URL has the origin of the http or https URL in its path
abbrev pub web_origin : Parts → Option Origin
web_origin url =
    if bytes_eq url.scheme (codes "blob") then parsed_origin (parse_url None url.path)
    else record_origin url

abbrev pub bounded : Option Origin → Result (Option Origin) UrlError
bounded None = Ok None
bounded (Some origin) =
    if nat_lt 1024 (length (origin_text origin)) then Err NotAUrl else Ok (Some origin)

abbrev pub bounded_parsed : Parsed Parts → Result (Option Origin) UrlError
bounded_parsed (Ok url) = bounded (web_origin url)
bounded_parsed (Err e) = Err NotAUrl

-- the http or https origin of the URL that a text is, none where its origin is another
abbrev pub origin_read : List ℕ → Result (Option Origin) UrlError
origin_read text = bounded_parsed (parse_url None text)

-- the answer is the expected one, unless there was no memory
abbrev pub ReadsOrigin : Result (Option Origin) UrlError → Result (Option Origin) UrlError → Type 0
ReadsOrigin result expected =
    MatchResult result (λ origin. expected ≡ Ok origin) (λ e. (expected ≡ Err e) ⊎ (e ≡ NoMemory))
