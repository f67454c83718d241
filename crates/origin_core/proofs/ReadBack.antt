-- The serialization of a tuple origin, which has no slash at its end, reads back to that origin.
use Rattle.std.proofs.Common.{◌≡◌, ℕ, ◌-◌, ◌<◌, ◌≤◌, Bool, true, false, not, ◌&&◌, ◌||◌, ◌==◌, ltb, List, [], ◌∷◌, ◌++◌, length, get_or, take, drop, Some, None, Ok, All, sym, ap, ◌∙◌, subst, refl, inl, arith, append_assoc, append-nil, length-append, take_all}
use Rattle.std.specs.Prelude.{Option, codes, decimal, is_some, unwrap_or, option_map, reverse, IfSome}
use Rattle.std.specs.List.{prefix_len}
use Rattle.std.proofs.lemmas.Bool.{cond-true, cond-false, lt-leb}
use Rattle.std.proofs.lemmas.Bool.Decides.{nat_tests}
use Rattle.std.proofs.lemmas.List.{get_or-reverse, length-reverse}
use Rattle.std.proofs.Math.Nat.{sub-zero}
use Rattle.std.proofs.lemmas.List.Elements.{All-nil, All-cons, All-head, All-append, All-weaker}
use Rattle.url.specs.declared.host.Host.{Host}
use Rattle.url.specs.declared.host.Host.TheVariants.{Domain, Ipv4, Ipv6}
use Rattle.url.specs.declared.scheme.SchemeType.{SchemeType}
use Rattle.url.specs.declared.scheme.SchemeType.TheVariants.{SpecialNotFile}
use Rattle.url.specs.declared.slicing.Position.TheVariants.{BeforeUsername, AfterPort}
use Rattle.url.specs.Input.{when, is_c0_control_or_space, is_tab_or_new_line, trim_c0_control_and_space, strip_tabs_and_new_lines, split_once}
use Rattle.url.specs.Scheme.{scheme_type, default_port, scheme_len, is_special, is_file, is_slash, IsScheme}
use Rattle.url.specs.Host.{host_text, is_empty_host, parse_host, IsHostOf}
use Rattle.url.specs.Path.{IsSegment, IsSegmentList, dot_count, parse_path_start}
use Rattle.url.specs.Parts.{Parts, kind_of, host_or_empty, cannot_have_credentials_or_port, serialize, text_between, IsBare, IsPortOf, IsValid}
use Rattle.url.specs.Head.{head_only}
use Rattle.url.specs.Parser.{Parsed, and_then, with_path, skip_slashes, after_double_slash, parse_authority, parse_body, parse_parts, parse_by_scheme, split_scheme, parse_url, with_tail, before_tail}
use Rattle.url.proofs.InputLemmas.{IsNot, Passes, StopsAt, split_once_none, prefix_len_at, filter_all, All_from_list_all, is_empty_nonempty}
use Rattle.url.proofs.TextLemmas.{is_authority_byte, authority_bytes}
use Rattle.url.proofs.ParsedCanonical.{before_special}
use Rattle.url.proofs.ValidLemmas.{special_has_authority}
use Rattle.url.proofs.SetterLemmas.{own_host}
use Rattle.url.proofs.HostRoundTrip.{parse_special_host-host_text}
use Rattle.url.proofs.RoundTrip.{stays_unless_file, parse_after_slash, split_own_scheme, parse_own_authority, host_nonempty}
use Rattle.origin_core.specs.declared.origin.Scheme.{Scheme}
use Rattle.origin_core.specs.declared.origin.Scheme.TheVariants.{Http, Https}
use Rattle.origin_core.specs.declared.origin.Origin.{Origin}
use Rattle.origin_core.specs.declared.origin.Origin.TheVariants.{Tuple}
use Rattle.origin_core.specs.Tuple.{TupleParts, scheme_text, port_text, tuple_text, IsTuple}
use Rattle.origin_core.specs.Origin.{origin_text, tuple_of, web_scheme, web_origin, page_origin, parsed_tuple, bounded, bounded_parsed, origin_read}
use Rattle.origin_core.specs.Page.{IsPageRecord}
use Rattle.origin_core.proofs.HostLaw.{http_kind}
use Rattle.origin_core.proofs.PageLemmas.{not_over, own_text}
use Rattle.origin_core.proofs.TupleLemmas.{tuple_in_range}

-- ---- `scheme://HOST:PORT/`

abbrev root : Scheme → Host (List ℕ) → Option ℕ → Parts
root scheme host port = record {
  scheme = scheme_text scheme;
  username = [];
  password = [];
  host = Some host;
  port = port;
  path = codes "/";
  query = None;
  fragment = None;
}

web_kind : (scheme : Scheme) → scheme_type (scheme_text scheme) ≡ SpecialNotFile
unfolding scheme_type default_port
web_kind Http = refl
web_kind Https = refl

web_valid : (scheme : Scheme) → IsScheme (scheme_text scheme)
unfolding scheme_len
web_valid Http = record { nonempty = omega arith; whole = refl; lower = refl }
web_valid Https = record { nonempty = omega arith; whole = refl; lower = refl }

full_host : (host : Host (List ℕ)) → IsHostOf SpecialNotFile host → is_empty_host host ≡ false
full_host (Domain domain) valid = is_empty_nonempty domain valid.1
full_host (Ipv4 address) valid = refl
full_host (Ipv6 address) valid = refl

no_dots : dot_count [] ≡ 0
unfolding dot_count
no_dots = refl

bare : (scheme : Scheme) (host : Host (List ℕ)) (port : Option ℕ) → IsHostOf SpecialNotFile host → cannot_have_credentials_or_port (root scheme host port) ≡ true → IsBare (root scheme host port)
bare scheme host port valid cannot =
    let none = rw (full_host host valid, web_kind scheme) at cannot in absurd cc

-- the path `/`
one_segment : (kind : SchemeType) → IsSegmentList kind (codes "/")
one_segment kind = record {
  segments = [] ∷ [];
  joined = refl;
  each = All-cons (IsSegment kind) [] [] (record { escaped = All-nil _; whole = All-nil _; resolved = no_dots }) (All-nil _);
}

root_valid : (scheme : Scheme) (host : Host (List ℕ)) (port : Option ℕ) → IsHostOf SpecialNotFile host → IsPortOf (scheme_text scheme) port → IsValid (root scheme host port)
root_valid scheme host port valid own = record {
  head = record {
    scheme = web_valid scheme;
    username = All-nil _;
    password = All-nil _;
    host = subst (λ k. IsHostOf k host) (sym (web_kind scheme)) valid;
    port = own;
    bare = bare scheme host port valid;
  };
  path = inl (one_segment (kind_of (root scheme host port)), λ _. omega arith);
  query = tt;
  fragment = tt;
}

-- ---- its text without the slash

-- what stands after `://`
abbrev rest_of : Scheme → Host (List ℕ) → Option ℕ → List ℕ
rest_of scheme host port = text_between (root scheme host port) BeforeUsername AfterPort

port_written : (port : Option ℕ) → port_text port ≡ when (is_some port) (codes ":") ++ (unwrap_or (option_map decimal port) [] ++ [])
port_written None = refl
port_written (Some n) = ap (λ t. 58 ∷ t) (sym (append-nil (decimal n)))

text_is : (scheme : Scheme) (host : Host (List ℕ)) (port : Option ℕ) → tuple_text (tuple_of (root scheme host port) scheme) ≡ scheme_text scheme ++ 58 ∷ 47 ∷ 47 ∷ rest_of scheme host port
text_is scheme host port =
    ap (λ t. scheme_text scheme ++ codes "://" ++ host_text host ++ t) (port_written port) ∙ simp append_assoc

-- no byte is trimmed, stripped, or begins a query or a fragment
abbrev is_plain : ℕ → Bool
is_plain b = ltb 32 b && not (b == 35 || b == 63)

scheme_plain : (scheme : Scheme) → All (Passes is_plain) (scheme_text scheme)
scheme_plain Http = All_from_list_all is_plain (codes "http") refl
scheme_plain Https = All_from_list_all is_plain (codes "https") refl

all_plain : (scheme : Scheme) (rest : List ℕ) → All (Passes is_authority_byte) rest → All (Passes is_plain) (scheme_text scheme ++ 58 ∷ 47 ∷ 47 ∷ rest)
all_plain scheme rest bytes =
    let P = Passes is_plain in
    All-append P (scheme_text scheme) (58 ∷ 47 ∷ 47 ∷ rest) (scheme_plain scheme) (All-cons P 58 (47 ∷ 47 ∷ rest) refl (All-cons P 47 (47 ∷ rest) refl (All-cons P 47 rest refl (All-weaker (Passes is_authority_byte) P (λ b passes. grind (arith, nat_tests)) rest bytes))))

abbrev IsVisible : ℕ → Type 0
IsVisible b = 32 < b

none_at_front : (xs : List ℕ) → (0 < length xs → 32 < get_or xs 0 0) → prefix_len is_c0_control_or_space xs ≡ 0
none_at_front [] first = refl
none_at_front (x ∷ xs) first = cond-false _ _ _ (lt-leb x 32 (first (omega arith)))

untrimmed : (xs : List ℕ) → All IsVisible xs → trim_c0_control_and_space xs ≡ xs
unfolding trim_c0_control_and_space
untrimmed xs visible =
    let start = none_at_front xs (λ inside. visible 0 0 inside) in
    let len = length-reverse xs in
    let end = none_at_front (reverse xs) (λ inside. rw (get_or-reverse xs 0 0 (omega arith), sub-zero) (visible (length xs - 1) 0 (omega arith))) in
    rw (start, end) (take_all _ xs (omega arith))

unstripped : (xs : List ℕ) → All IsVisible xs → strip_tabs_and_new_lines xs ≡ xs
unfolding strip_tabs_and_new_lines
unstripped xs visible =
    filter_all _ xs (All-weaker IsVisible (Passes (λ b. not (is_tab_or_new_line b))) (λ b above. grind (arith, nat_tests)) xs visible)

-- ---- its parse

no_slash_first : (xs : List ℕ) → 0 < length xs → All (Passes is_authority_byte) xs → StopsAt (λ b. b == 47 || b == 92) xs
no_slash_first [] nonempty all = absurd (omega arith)
no_slash_first (x ∷ xs) nonempty all = let passes = All-head (Passes is_authority_byte) x xs all in grind (arith, nat_tests)

slashes_skipped : (rest : List ℕ) → 0 < length rest → All (Passes is_authority_byte) rest → skip_slashes (47 ∷ 47 ∷ rest) ≡ rest
slashes_skipped rest nonempty bytes =
    let test = λ (b : ℕ). b == 47 || b == 92 in
    let len = prefix_len_at test (47 ∷ 47 ∷ []) rest (All-cons (Passes test) 47 (47 ∷ []) refl (All-cons (Passes test) 47 [] refl (All-nil (Passes test)))) (no_slash_first rest nonempty bytes) in
    ap (λ n. drop n (47 ∷ 47 ∷ rest)) len

-- the path start state, at the end of the input
root_path : parse_path_start SpecialNotFile [] [] ≡ codes "/"
unfolding parse_path_start
root_path =
    parse_after_slash SpecialNotFile (codes "/") (stays_unless_file SpecialNotFile [] _ refl) (one_segment SpecialNotFile) (omega arith)

drop_whole : (xs : List ℕ) → drop (length xs) xs ≡ []
drop_whole [] = refl
drop_whole (x ∷ xs) = drop_whole xs

authority_parses : (scheme : Scheme) (host : Host (List ℕ)) (port : Option ℕ) → IsHostOf SpecialNotFile host → IsPortOf (scheme_text scheme) port → after_double_slash (scheme_text scheme) (rest_of scheme host port) ≡ Ok (root scheme host port)
unfolding after_double_slash
authority_parses scheme host port valid own =
    let url = root scheme host port in
    let is_valid = root_valid scheme host port valid own in
    let rest = rest_of scheme host port in
    let kind = web_kind scheme in
    let bytes = authority_bytes url is_valid.head in
    let test = λ (b : ℕ). not (is_slash (scheme_type (scheme_text scheme)) b) in
    let whole = All-weaker (Passes is_authority_byte) (Passes test) (λ b passes. grind (arith, nat_tests)) rest bytes in
    let len : prefix_len test rest ≡ length rest = ap (prefix_len test) (sym (append-nil rest)) ∙ prefix_len_at test rest [] whole tt in
    let parses = parse_own_authority url is_valid.head refl (ap (λ k. parse_host k (host_text host)) kind ∙ parse_special_host-host_text host valid) (rw (is_empty_nonempty _ (host_nonempty host valid))) in
    let name = scheme_text scheme in
    let path : List ℕ → List ℕ = parse_path_start (scheme_type name) [] in
    let at_end : List ℕ → Parts → Parsed Parts = λ xs head. Ok (with_path head (path xs)) in
    ap (λ n. and_then (parse_authority name (take n rest)) (at_end (drop n rest))) len
    ∙ ap (λ xs. and_then (parse_authority name xs) (at_end (drop (length rest) rest))) (take_all (length rest) rest (omega arith))
    ∙ ap (λ r. and_then r (at_end (drop (length rest) rest))) parses
    ∙ ap (λ xs. at_end xs (head_only url)) (drop_whole rest)
    ∙ ap (λ k. Ok (with_path (head_only url) (parse_path_start k [] []))) kind
    ∙ ap (λ p. Ok (with_path (head_only url) p)) root_path

body_parses : (scheme : Scheme) (host : Host (List ℕ)) (port : Option ℕ) → IsHostOf SpecialNotFile host → IsPortOf (scheme_text scheme) port → parse_parts (scheme_text scheme) None (47 ∷ 47 ∷ rest_of scheme host port) None None ≡ Ok (root scheme host port)
unfolding parse_parts parse_body
body_parses scheme host port valid own =
    let url = root scheme host port in
    let rest = rest_of scheme host port in
    let kind = web_kind scheme in
    let some = host_nonempty host valid in
    let nonempty : 0 < length rest = simp length-append (omega arith) in
    let bytes = authority_bytes url (root_valid scheme host port valid own).head in
    let parsed : parse_body (scheme_text scheme) None (47 ∷ 47 ∷ rest) ≡ Ok url = cond-false _ _ _ (ap is_file kind) ∙ cond-true _ _ _ (ap is_special kind) ∙ ap (after_double_slash (scheme_text scheme)) (slashes_skipped rest nonempty bytes) ∙ authority_parses scheme host port valid own in
    ap (λ r. and_then r (λ u. Ok (with_tail (before_tail u None None) None None))) parsed
    ∙ ap (λ (u : Parts). Ok (with_tail u None None)) (before_special url None None (ap is_special kind))

text_parses : (scheme : Scheme) (host : Host (List ℕ)) (port : Option ℕ) → IsHostOf SpecialNotFile host → IsPortOf (scheme_text scheme) port → parse_url None (scheme_text scheme ++ 58 ∷ 47 ∷ 47 ∷ rest_of scheme host port) ≡ Ok (root scheme host port)
unfolding parse_url
text_parses scheme host port valid own =
    let rest = rest_of scheme host port in
    let xs = scheme_text scheme ++ 58 ∷ 47 ∷ 47 ∷ rest in
    let plain = all_plain scheme rest (authority_bytes (root scheme host port) (root_valid scheme host port valid own).head) in
    let visible = All-weaker (Passes is_plain) IsVisible (λ b passes. grind (arith, nat_tests)) xs plain in
    let no_hash = All-weaker (Passes is_plain) (IsNot 35) (λ b passes e. grind (arith, nat_tests)) xs plain in
    let no_question = All-weaker (Passes is_plain) (IsNot 63) (λ b passes e. grind (arith, nat_tests)) xs plain in
    let clean = ap strip_tabs_and_new_lines (untrimmed xs visible) ∙ unstripped xs visible in
    let hash = ap (split_once 35) clean ∙ split_once_none 35 xs no_hash in
    let question = ap (λ r. split_once 63 r.0) hash ∙ split_once_none 63 xs no_question in
    let split = ap (λ r. split_scheme r.0) question ∙ split_own_scheme (scheme_text scheme) (47 ∷ 47 ∷ rest) (web_valid scheme) in
    (λ i. parse_by_scheme (split i) None (question i).0 (question i).1 (hash i).1)
    ∙ ap (λ s. parse_parts s None (47 ∷ 47 ∷ rest) None None) (web_valid scheme).lower
    ∙ body_parses scheme host port valid own

-- ---- its origin

web_of_root : (scheme : Scheme) (host : Host (List ℕ)) (port : Option ℕ) → web_origin (root scheme host port) ≡ Some (Tuple (tuple_of (root scheme host port) scheme))
web_of_root Http host port = refl
web_of_root Https host port = refl

root_reads : (scheme : Scheme) (host : Host (List ℕ)) (port : Option ℕ) → IsHostOf SpecialNotFile host → IsPortOf (scheme_text scheme) port → length (tuple_text (tuple_of (root scheme host port) scheme)) ≤ 1024 → origin_read (tuple_text (tuple_of (root scheme host port) scheme)) ≡ Ok (Some (Tuple (tuple_of (root scheme host port) scheme)))
root_reads scheme host port valid own small =
    ap origin_read (text_is scheme host port)
    ∙ ap bounded_parsed (text_parses scheme host port valid own)
    ∙ ap bounded (web_of_root scheme host port)
    ∙ cond-false _ _ _ (not_over _ small)

pub tuple_reads_back : (t : TupleParts) → IsTuple t → origin_read (origin_text (Tuple t)) ≡ Ok (Some (Tuple t))
tuple_reads_back t valid =
    let h = valid.host in
    let url = h.0 in
    let kind = http_kind url.scheme h.2 in
    let host = host_or_empty url in
    let is_host = subst (λ k. IsHostOf k host) kind (own_host url h.1.head (special_has_authority url h.1.head (ap is_special kind))) in
    let same : tuple_of (root t.scheme host t.port) t.scheme ≡ t = λ i. record { scheme = t.scheme; host = h.3 i; ip = h.4 i; port = t.port } in
    subst (λ u. origin_read (tuple_text u) ≡ Ok (Some (Tuple u))) same (root_reads t.scheme host t.port is_host valid.port (subst (λ u. length (tuple_text u) ≤ 1024) (sym same) valid.small))

abbrev ReadsBack : Origin → Type 0
ReadsBack origin = origin_read (origin_text origin) ≡ Ok (Some origin)

page_of_scheme : (url : Parts) (scheme : Option Scheme) → IsPageRecord url → web_scheme url.scheme ≡ scheme → IfSome (option_map Tuple (option_map (tuple_of url) scheme)) ReadsBack
page_of_scheme url None page is = tt
page_of_scheme url (Some scheme) page is = tuple_reads_back (tuple_of url scheme) (tuple_in_range url scheme page.valid is page.small)

pub page_reads_back : (url : Parts) → IsPageRecord url → IfSome (page_origin (serialize url)) ReadsBack
page_reads_back url page =
    subst (λ r. IfSome (option_map Tuple (parsed_tuple r)) ReadsBack) (sym (own_text url None page)) (page_of_scheme url _ page refl)
