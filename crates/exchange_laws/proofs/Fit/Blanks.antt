-- The URL that stands for an origin in range is in range.
use Rattle.std.proofs.Common.{◌≡◌, ℕ, ◌<◌, ◌≤◌, ◌^◌, List, [], ◌∷◌, ◌++◌, length, Option, Some, None, Bool, true, false, refl, ap, subst, arith}
use Rattle.std.specs.Prelude.{codes, decimal, nat_lt, Result, Err, if◌then◌else◌}
use Rattle.std.specs.List.{list_all}
use Rattle.std.specs.Str.{IsUtf8, IsAscii}
use Rattle.std.proofs.lemmas.Bool.Decides.{nat_tests}
use Rattle.std.proofs.lemmas.Str.{IsUtf8-append, IsUtf8-from_ascii, IsAscii-append}
use Rattle.std.proofs.lemmas.Str.Ascii.{IsAscii-nil, IsAscii-cons}
use Rattle.std.proofs.lemmas.Fmt.{IsAscii-decimal}
use Rattle.origin_core.specs.declared.origin.Origin.{Origin}
use Rattle.origin_core.specs.declared.origin.Origin.TheVariants.{Tuple, Opaque}
use Rattle.origin_core.specs.declared.origin.Scheme.{Scheme}
use Rattle.origin_core.specs.declared.origin.Scheme.TheVariants.{Http, Https}
use Rattle.origin_core.specs.declared.page.UrlError.{UrlError}
use Rattle.origin_core.specs.declared.page.UrlError.TheVariants.{NotAUrl}
use Rattle.origin_core.specs.Origin.{root_text, blank_text}
use Rattle.origin_core.specs.Page as page
use Rattle.origin_core.specs.Page.{is_page_text, page_of_parsed, parse_against, read_page}
use Rattle.origin_core.specs.Tuple.{TupleParts, scheme_text, port_text, tuple_text}
use Rattle.origin_core.proofs.PageLemmas.{blank_reads}
use Rattle.link_fields.specs.Basic.{url, optional}
use Rattle.link_fields.specs.Origins.{tuple, origin, port}
use Rattle.tree_log.proofs.Admitted.{both, lt_of}
use Rattle.exchange_laws.proofs.Fit.Parts.{if_some}
use Rattle.exchange_laws.proofs.Fit.Origins.{text_fits, text_utf8}

-- a page's URL has at most 1,024 bytes
page_length : (u : List ℕ) → is_page_text u ≡ true → length u ≤ 1024
page_length u h = by_test (nat_lt 1024 (length u)) refl h
  where
    by_test : (b : Bool) → nat_lt 1024 (length u) ≡ b → page.is_text u (if b then Err NotAUrl else page_of_parsed (parse_against None u)) ≡ true → length u ≤ 1024
    by_test true e k = absurd cc
    by_test false e k = grind (arith, nat_tests)

all_ascii : (bytes : List ℕ) → list_all (λ b. nat_lt b 128) bytes ≡ true → IsAscii bytes
all_ascii [] h = IsAscii-nil
all_ascii (b ∷ bytes) h =
    let two = both (nat_lt b 128) (list_all (λ c. nat_lt c 128) bytes) h in
    IsAscii-cons b bytes (lt_of b 128 two.0) (all_ascii bytes two.1)

about_blank_is_page : is_page_text (codes "about:blank") ≡ true
about_blank_is_page = ap (λ (r : Result (List ℕ) UrlError). page.is_text (codes "about:blank") r) blank_reads

pub about_blank_fits : url.Fits (codes "about:blank")
about_blank_fits = (text_fits (codes "about:blank") (IsUtf8-from_ascii _ (all_ascii (codes "about:blank") refl)) (omega arith), about_blank_is_page)

-- TUPLES

scheme_is_ascii : (s : Scheme) → IsAscii (scheme_text s)
scheme_is_ascii Http = all_ascii (codes "http") refl
scheme_is_ascii Https = all_ascii (codes "https") refl

port_is_ascii : (s : Scheme) (p : Option ℕ) → (optional (port s)).Fits p → IsAscii (port_text p)
port_is_ascii s None h = IsAscii-nil
port_is_ascii s (Some n) h =
    let few : n < 2 ^ 16 = (if_some (port s) n h).0 in
    IsAscii-append (codes ":") (decimal n) (all_ascii (codes ":") refl) (IsAscii-decimal n (omega arith))

tuple_is_utf8 : (t : TupleParts) → tuple.Fits t → IsUtf8 (tuple_text t ++ codes "/")
tuple_is_utf8 t h =
    let front = IsUtf8-append (scheme_text t.scheme) (codes "://") (IsUtf8-from_ascii _ (scheme_is_ascii t.scheme)) (IsUtf8-from_ascii _ (all_ascii (codes "://") refl)) in
    let host = IsUtf8-append (scheme_text t.scheme ++ codes "://") t.host front (text_utf8 t.host h.1.0.0.0.0) in
    let whole = IsUtf8-append (scheme_text t.scheme ++ codes "://" ++ t.host) (port_text t.port) host (IsUtf8-from_ascii _ (port_is_ascii t.scheme t.port h.1.0.0.1)) in
    IsUtf8-append (tuple_text t) (codes "/") whole (IsUtf8-from_ascii _ (all_ascii (codes "/") refl))

root_fits : (u : List ℕ) → IsUtf8 u → url.Fits (root_text u)
root_fits u utf8 = by_test (is_page_text u) refl
  where
    by_test : (b : Bool) → is_page_text u ≡ b → url.Fits (if b then u else codes "about:blank")
    by_test true e = (text_fits u utf8 (page_length u e), e)
    by_test false e = about_blank_fits

pub blank_url_fits : (o : Origin) → origin.Fits o → url.Fits (blank_text o)
blank_url_fits (Tuple t) h =
    let same : h.1.0 ≡ t = cc in
    root_fits (tuple_text t ++ codes "/") (tuple_is_utf8 t (subst (λ (x : TupleParts). tuple.Fits x) same h.1.1))
blank_url_fits (Opaque n) h = about_blank_fits
