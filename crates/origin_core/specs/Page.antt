-- Page URLs: what reading a text against a base gives (URL Standard, sections 4.4 and 4.5).
use Rattle.std.specs.Prelude.{◌≡◌, ℕ, ◌≤◌, Bool, true, false, not, ◌&&◌, ◌||◌, nat_lt, List, [], length, codes, bytes_eq, Option, Some, None, is_some, Result, Ok, Err, MatchResult, ◌⊎◌, if◌then◌else◌}
use Rattle.origin_core.specs.declared.page.UrlError.{UrlError}
use Rattle.origin_core.specs.declared.page.UrlError.TheVariants.{NotAUrl, SchemeOut, NoMemory}
use Rattle.url.specs.Parts.{Parts, has_authority, serialize, IsValid}
use Rattle.url.specs.Parser.{Parsed, and_then, parse_url}
use Rattle.url.specs.Origin.{is_http}
use Rattle.url.specs.Canonical.{IsCanonical}

-- an http or https URL
abbrev pub is_web : Parts → Bool
is_web url = is_http url.scheme

-- `about:blank`, with or without a fragment
abbrev pub is_blank : Parts → Bool
is_blank url =
    bytes_eq url.scheme (codes "about") && bytes_eq url.path (codes "blank")
    && not (has_authority url) && not (is_some url.query)

-- a URL that a page can have
abbrev pub is_page : Parts → Bool
is_page url = is_web url || is_blank url

-- the URL Standard's parse of a text against the URL that a base's text spells, if there is one
abbrev pub parse_against : Option (List ℕ) → List ℕ → Parsed Parts
parse_against None text = parse_url None text
parse_against (Some base) text = and_then (parse_url None base) (λ url. parse_url (Some url) text)

-- the text of a page's URL, or why it is none
abbrev pub page_text : Parts → Result (List ℕ) UrlError
page_text url =
    if is_page url
    then (if nat_lt 1024 (length (serialize url)) then Err NotAUrl else Ok (serialize url))
    else Err SchemeOut

abbrev pub page_of_parsed : Parsed Parts → Result (List ℕ) UrlError
page_of_parsed (Ok url) = page_text url
page_of_parsed (Err e) = Err NotAUrl

-- what `read_url` answers while there is memory
abbrev pub read_page : Option (List ℕ) → List ℕ → Result (List ℕ) UrlError
read_page base text =
    if nat_lt 1024 (length text) then Err NotAUrl else page_of_parsed (parse_against base text)

-- the answer is the expected one, unless there was no memory
abbrev pub Reads : Result (List ℕ) UrlError → Result (List ℕ) UrlError → Type 0
Reads result expected =
    MatchResult result (λ page. expected ≡ Ok page) (λ e. (expected ≡ Err e) ⊎ (e ≡ NoMemory))

-- what every page URL's record holds to
pub record IsPageRecord (url : Parts) : Type 0 where
  pub valid : IsValid url
  pub canonical : IsCanonical url
  pub page : is_page url ≡ true
  pub small : length (serialize url) ≤ 1024

-- the text of a page's URL: reading it gives itself
abbrev pub IsPageText : List ℕ → Type 0
IsPageText text = read_page None text ≡ Ok text

-- a URL record that the parser could have written
abbrev pub IsAsParsed : Parts → Type 0
IsAsParsed url = IsValid url → IsCanonical url

-- ---- parts of a page's URL

-- the text of the URL without its fragment
abbrev pub unfragmented : Parsed Parts → List ℕ
unfragmented (Ok url) = serialize (record url { fragment = None })
unfragmented (Err e) = []

abbrev pub without_fragment : List ℕ → List ℕ
without_fragment text = unfragmented (parse_url None text)

abbrev pub is_same_but_fragment : List ℕ → List ℕ → Bool
is_same_but_fragment a b = bytes_eq (without_fragment a) (without_fragment b)

abbrev pub is_web_parsed : Parsed Parts → Bool
is_web_parsed (Ok url) = is_web url
is_web_parsed (Err e) = false

-- the text is that of an http or https URL
abbrev pub is_web_text : List ℕ → Bool
is_web_text text = is_web_parsed (parse_url None text)

abbrev pub parsed_fragment : Parsed Parts → Option (List ℕ)
parsed_fragment (Ok url) = url.fragment
parsed_fragment (Err e) = None

-- the fragment of the URL, which may be empty
abbrev pub fragment_of : List ℕ → Option (List ℕ)
fragment_of text = parsed_fragment (parse_url None text)

abbrev pub is_text : List ℕ → Result (List ℕ) UrlError → Bool
is_text text (Ok page) = bytes_eq page text
is_text text (Err e) = false

-- the text is that of a page's URL
abbrev pub is_page_text : List ℕ → Bool
is_page_text text = is_text text (read_page None text)

-- the page's URL that the text is, if reading it gives just that text
abbrev pub page_spelled : List ℕ → Option (List ℕ)
page_spelled text = if is_page_text text then Some text else None
