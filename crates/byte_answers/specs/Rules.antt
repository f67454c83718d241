-- What is answered on bytes: the texts that they are, and what the rules say of these.
use Rattle.std.specs.Prelude.{ℕ, ◌≡◌, ◌↔◌, Bool, IsTrue, ◌++◌, List, [], ◌∷◌, codes, Option, Some, None, unwrap_or, Result, Ok, Err, if◌then◌else◌}
use lib.Dec.{eqb}
use Rattle.std.specs.List.{slice_split}
use Rattle.std.specs.Str.{is_utf8}
use Rattle.origin_core.specs.Flags as flags
use Rattle.origin_core.specs.Origin as origins
use Rattle.origin_core.specs.Page.{read_page}
use Rattle.origin_core.specs.Site as sites
use Rattle.origin_core.specs.Tuple.{scheme_text}
use Rattle.origin_core.specs.declared.origin.Origin.{Origin}
use Rattle.origin_core.specs.declared.origin.Origin.TheVariants.{Opaque}
use Rattle.origin_core.specs.declared.page.UrlError.{UrlError}
use Rattle.origin_core.specs.declared.page.UrlError.TheVariants as url_errors
use Rattle.origin_core.specs.declared.site.Site.{Site}
use Rattle.origin_core.specs.declared.site.Site.TheVariants as site_kinds
use Rattle.object_access.specs.Methods.{target_of}
use Rattle.tree_log.specs.declared.entry.Target.{Target}
use Rattle.tree_log.specs.declared.entry.Target.TheVariants as targets
use Rattle.byte_answers.specs.declared.answer.Answer.{Answer}
use Rattle.byte_answers.specs.declared.answer.Answer.TheVariants as answers

-- what follows on a value, or the reason why there is none
abbrev pub and_then : {A B : Type 0} → Result A Answer → (A → Result B Answer) → Result B Answer
and_then (Ok a) next = next a
and_then (Err why) next = Err why

-- TEXTS

-- the text that the bytes are
abbrev pub text_told : List ℕ → Result (List ℕ) Answer
text_told bytes = if is_utf8 bytes then Ok bytes else Err answers.NotText

-- what stands between the commas
abbrev pub pieces : List ℕ → List (List ℕ)
pieces text = slice_split (λ b. eqb b 44) text

-- a list of public suffixes, with a comma between two of them
abbrev pub suffixes_of : List ℕ → List (List ℕ)
suffixes_of [] = []
suffixes_of (b ∷ text) = pieces (b ∷ text)

abbrev pub suffixes_told : List ℕ → Result (List (List ℕ)) Answer
suffixes_told bytes = and_then (text_told bytes) (λ text. Ok (suffixes_of text))

-- URLS, ORIGINS AND SITES

abbrev pub reason : UrlError → Answer
reason url_errors.NotAUrl = answers.NotAUrl
reason url_errors.SchemeOut = answers.SchemeOut
reason url_errors.NoMemory = answers.NoMemory

abbrev pub page_or_reason : Result (List ℕ) UrlError → Result (List ℕ) Answer
page_or_reason (Ok page) = Ok page
page_or_reason (Err e) = Err (reason e)

-- the URL of a page that the bytes are, read alone
abbrev pub page_told : List ℕ → Result (List ℕ) Answer
page_told bytes = and_then (text_told bytes) (λ text. page_or_reason (read_page None text))

-- the origin of a page's URL: that of `about:blank` is opaque
abbrev pub origin_told : ℕ → List ℕ → Result Origin Answer
origin_told opaque page = Ok (unwrap_or (origins.page_origin page) (Opaque opaque))

abbrev pub origin_of : ℕ → List ℕ → Result Origin Answer
origin_of opaque url = and_then (page_told url) (origin_told opaque)

abbrev pub serialized : Origin → Result (List ℕ) Answer
serialized origin = Ok (origins.origin_text origin)

-- the serialization of the URL's origin
abbrev pub origin_text_told : List ℕ → Result (List ℕ) Answer
origin_text_told url = and_then (origin_of 0 url) serialized

-- the origins of two URLs are the same; each opaque one is another
abbrev pub same_origin_told : List ℕ → List ℕ → Result Bool Answer
same_origin_told a b = and_then (origin_of 0 a) (λ x. and_then (origin_of 1 b) (λ y. Ok (origins.is_same_origin x y)))

abbrev pub site_told : ℕ → List ℕ → List (List ℕ) → Result Site Answer
site_told opaque url suffixes = and_then (origin_of opaque url) (λ origin. Ok (sites.site_of origin suffixes))

-- "serialization of a site" (HTML Standard, 7.1.1.1)
abbrev pub site_text : Site → List ℕ
site_text (site_kinds.Named scheme host) = scheme_text scheme ++ (codes "://" ++ host)
site_text (site_kinds.Opaque n) = codes "null"

abbrev pub serialized_site : Site → Result (List ℕ) Answer
serialized_site site = Ok (site_text site)

-- the serialization of the site of the URL's origin, by a list of public suffixes
abbrev pub site_text_told : List ℕ → List ℕ → Result (List ℕ) Answer
site_text_told url listed = and_then (suffixes_told listed) (λ suffixes. and_then (site_told 0 url suffixes) serialized_site)

-- the sites of two URLs, each opaque one another
abbrev pub sites_by : List (List ℕ) → List ℕ → List ℕ → Result (Site × Site) Answer
sites_by suffixes a b = and_then (site_told 0 a suffixes) (λ x. and_then (site_told 1 b suffixes) (λ y. Ok (x, y)))

abbrev pub sites_told : List ℕ → List ℕ → List ℕ → Result (Site × Site) Answer
sites_told a b listed = and_then (suffixes_told listed) (λ suffixes. sites_by suffixes a b)

-- whether they are the same
abbrev pub TellsSame : Bool → Site × Site → Type 0
TellsSame same sites = IsTrue same ↔ (sites.0 ≡ sites.1)

-- SANDBOXING AND MESSAGES

-- the flags of the attribute `sandbox`, as the sum of their bits
abbrev pub flags_told : List ℕ → Result ℕ Answer
flags_told attribute = and_then (text_told attribute) (λ text. Ok (flags.flags_of text))

abbrev pub copied : List ℕ → Result (List ℕ) Answer
copied text = Ok text

-- `*` for any origin, `never` for none, else the origin's serialization
abbrev pub target_said : Target → Result (List ℕ) Answer
target_said targets.Any = Ok (codes "*")
target_said targets.Never = Ok (codes "never")
target_said (targets.Origin origin) = serialized origin

abbrev pub target_or_reason : Option Target → Result Target Answer
target_or_reason (Some target) = Ok target
target_or_reason None = Err answers.NotAUrl

abbrev pub target_read : Origin → List ℕ → Result Target Answer
target_read sender text = and_then (text_told text) (λ t. target_or_reason (target_of sender t))

-- the origins that a message's target text means, where a document with the URL `sender` sends it
abbrev pub target_told : List ℕ → List ℕ → Result (List ℕ) Answer
target_told text sender = and_then (origin_of 0 sender) (λ origin. and_then (target_read origin text) target_said)
