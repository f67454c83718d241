-- The host in the tuple of a page's URL is one that a web URL can have.
use Rattle.std.proofs.Common.{◌≡◌, ℕ, zero, suc, ◌-◌, ◌^◌, ◌<◌, Bool, true, false, cond, not, ◌&&◌, ◌||◌, ◌==◌, List, [], length, get_or, take, drop, Some, None, Ok, Err, All, is_some, unwrap_or, sym, ap, ◌∙◌, subst, refl, arith}
use Rattle.std.specs.Prelude.{Option, option_map, codes, bytes_eq}
use Rattle.std.specs.Int.{w32, to_be_bytes, byte_at, bytes_high_first}
use Rattle.std.specs.List.{list_any}
use Rattle.std.specs.Net.Addr.{IsIpv4Addr}
use Rattle.std.proofs.Math.Nat.{mod-lt}
use Rattle.std.proofs.lemmas.Bool.{cond_both}
use Rattle.url.specs.declared.error.ParseError.{ParseError}
use Rattle.url.specs.declared.host.Host.{Host}
use Rattle.url.specs.declared.host.Host.TheVariants.{Domain, Ipv4, Ipv6}
use Rattle.url.specs.declared.scheme.SchemeType.{SchemeType}
use Rattle.url.specs.declared.scheme.SchemeType.TheVariants.{File, SpecialNotFile, NotSpecial}
use Rattle.url.specs.Input.{is_empty, trim_c0_control_and_space, strip_tabs_and_new_lines, lowercase, split_once, rsplit_once}
use Rattle.url.specs.Scheme.{scheme_type, is_special, is_file}
use Rattle.url.specs.Host.{host_text, is_forbidden_in_domain, ipv6_host, parse_bracketed, ipv4_host, ascii_domain, host_of_ascii, parse_domain, parse_special_host, parse_file_host, parse_host}
use Rattle.url.specs.Ipv4.{ends_in_a_number, parse_ipv4}
use Rattle.url.specs.Path.{segment_len, is_windows_drive_letter, parse_path_start, escape_end}
use Rattle.url.specs.Parts.{Parts, kind_of, host_or_empty}
use Rattle.url.specs.Parser.{Parsed, and_then, split_port, lacks_host, parse_port, parse_authority, with_path, leading_slashes, after_double_slash, parse_non_special, after_file_double_slash, parse_file, parse_not_file, parse_body, with_tail, before_tail, parse_parts, split_scheme, parse_by_scheme, parse_url}
use Rattle.url.proofs.HostLemmas.{none_from_list_any}
use Rattle.url.proofs.SchemeLemmas.{file_from_is_file, file_from_scheme_type}
use Rattle.origin_core.specs.declared.origin.Scheme.{Scheme}
use Rattle.origin_core.specs.declared.origin.Scheme.TheVariants.{Http, Https}
use Rattle.origin_core.specs.Host.{is_address}
use Rattle.origin_core.specs.Origin.{web_scheme, tuple_of, parsed_tuple, page_tuple}
use Rattle.origin_core.specs.Tuple.{TupleParts}
use Rattle.origin_core.proofs.HostLaw.{http_kind}

-- a domain that does not end in a number and holds no forbidden byte, or an address
abbrev pub IsWebHost : Host (List ℕ) → Type 0
IsWebHost (Domain domain) = (ends_in_a_number domain ≡ false) × All (λ b. is_forbidden_in_domain b ≡ false) domain
IsWebHost (Ipv4 address) = IsIpv4Addr address
IsWebHost (Ipv6 address) = Unit {0}

-- the text is that of such a host, which is an address or is not
abbrev pub HasWebHost : List ℕ → Bool → Type 0
HasWebHost text ip = (host : Host (List ℕ)) × IsWebHost host × (host_text host ≡ text) × (is_address host ≡ ip)

-- ---- results

ok_then : {A B P : Type 0} (r : Parsed A) (next : A → Parsed B) (y : B) → and_then r next ≡ Ok y → ((x : A) → r ≡ Ok x → next x ≡ Ok y → P) → P
ok_then (Ok x) next y e k = k x refl e
ok_then (Err d) next y e k = cc

past_error : {A : Type 0} (test : Bool) (d : ParseError) (r : Parsed A) (y : A) → cond test (Err d) r ≡ Ok y → (test ≡ false) × (r ≡ Ok y)
past_error true d r y e = cc
past_error false d r y e = (refl, e)

by_test : {A P : Type 0} (test : Bool) (r s : Parsed A) (y : A) → cond test r s ≡ Ok y → (test ≡ true → r ≡ Ok y → P) → (test ≡ false → s ≡ Ok y → P) → P
by_test true r s y e k l = k refl e
by_test false r s y e k l = l refl e

same_ok : {A : Type 0} (x y : A) → ◌≡◌ {A = Parsed A} (Ok x) (Ok y) → x ≡ y
same_ok x y e = cc

-- ---- hosts

byte_below : (k n : ℕ) → byte_at k n < 2 ^ 8
byte_below zero n = mod-lt n {m = 256} (omega arith)
byte_below (suc k) n = mod-lt _ {m = 256} (omega arith)

octet_below : (k n i : ℕ) → get_or (bytes_high_first k n) i 0 < 2 ^ 8
octet_below zero n i = omega arith
octet_below (suc k) n zero = byte_below k n
octet_below (suc k) n (suc i) = octet_below k n i

ipv6_is : (o : Option (List ℕ)) (h : Host (List ℕ)) → ipv6_host o ≡ Ok h → IsWebHost h
ipv6_is None h e = cc
ipv6_is (Some segments) h e = subst IsWebHost (same_ok (Ipv6 (record { segments = segments })) h e) tt

bracketed_is : (bytes : List ℕ) (h : Host (List ℕ)) → parse_bracketed bytes ≡ Ok h → IsWebHost h
unfolding parse_bracketed
bracketed_is bytes h e = by_test (get_or bytes (length bytes - 1) 0 == 93) _ _ h e (λ _ k. ipv6_is _ h k) (λ _ k. cc)

ipv4_is : (o : Option ℕ) (h : Host (List ℕ)) → ipv4_host o ≡ Ok h → IsWebHost h
ipv4_is None h e = cc
ipv4_is (Some bits) h e = subst IsWebHost (same_ok (Ipv4 (record { octets = to_be_bytes w32 bits })) h e) (refl, octet_below 4 bits)

domain_is : (o : Option (List ℕ)) (h : Host (List ℕ)) → host_of_ascii o ≡ Ok h → IsWebHost h
domain_is None h e = cc
domain_is (Some domain) h e =
    let some = past_error (is_empty domain) _ _ h e in
    let allowed = past_error (list_any is_forbidden_in_domain domain) _ _ h some.1 in
    by_test (ends_in_a_number domain) _ _ h allowed.1 (λ _ k. ipv4_is (parse_ipv4 domain) h k)
    (λ named k. subst IsWebHost (same_ok (Domain domain) h k) (named, none_from_list_any is_forbidden_in_domain domain allowed.0))

decoded_is : (domain : List ℕ) (h : Host (List ℕ)) → parse_domain domain ≡ Ok h → IsWebHost h
decoded_is domain h e = domain_is (ascii_domain domain) h e

special_is : (bytes : List ℕ) (h : Host (List ℕ)) → parse_special_host bytes ≡ Ok h → IsWebHost h
unfolding parse_special_host
special_is bytes h e =
    by_test (get_or bytes 0 0 == 91) _ _ h e (λ _ k. bracketed_is bytes h k) (λ _ k. decoded_is _ h k)

-- ---- the parts up to the path

-- the URL has this scheme, and where that is special but not `file` a web URL can have its host
abbrev Made : List ℕ → Parts → Type 0
Made scheme url = (url.scheme ≡ scheme) × (scheme_type scheme ≡ SpecialNotFile → IsWebHost (host_or_empty url))

made_authority : (scheme bytes : List ℕ) (head : Parts) → parse_authority scheme bytes ≡ Ok head → Made scheme head
unfolding parse_authority
made_authority scheme bytes head e =
    let text = (split_port (rsplit_once 64 bytes).1).0 in
    let lacks = lacks_host (rsplit_once 64 bytes).0 text (split_port (rsplit_once 64 bytes).1).1 in
    ok_then (parse_host (scheme_type scheme) text) _ head (past_error lacks _ _ head e).1 λ host read e₁.
    ok_then (parse_port scheme (unwrap_or (split_port (rsplit_once 64 bytes).1).1 [])) _ head e₁ λ port got e₂.
    let same = same_ok _ head e₂ in (
      sym (ap (λ u. u.scheme) same),
      λ kind. subst (λ u. IsWebHost (host_or_empty u)) same (special_is text host (subst (λ k. parse_host k text ≡ Ok host) kind read)),
    )

made_slashes : (scheme bytes : List ℕ) (url : Parts) → after_double_slash scheme bytes ≡ Ok url → Made scheme url
unfolding after_double_slash
made_slashes scheme bytes url e =
    let kind = scheme_type scheme in
    let len = segment_len kind bytes in
    ok_then (parse_authority scheme (take len bytes)) _ url e λ head read e₁.
    subst (Made scheme) (same_ok (with_path head (parse_path_start kind [] (drop len bytes))) url e₁) (made_authority scheme _ head read)

-- of a URL with another kind of scheme only the scheme is told
made_other : (scheme : List ℕ) (url : Parts) → url.scheme ≡ scheme → (scheme_type scheme ≡ SpecialNotFile → ⊥) → Made scheme url
made_other scheme url same other = (same, λ kind. absurd (other kind))

not_special : (kind : SchemeType) → is_special kind ≡ false → kind ≡ SpecialNotFile → ⊥
not_special File none is = cc
not_special SpecialNotFile none is = cc
not_special NotSpecial none is = cc

made_non_special : (scheme body : List ℕ) (url : Parts) → is_special (scheme_type scheme) ≡ false → parse_non_special scheme body ≡ Ok url → Made scheme url
unfolding parse_non_special
made_non_special scheme body url none e =
    let other = not_special (scheme_type scheme) none in
    by_test (leading_slashes NotSpecial body == 2) _ _ url e (λ _ k. made_slashes scheme (drop 2 body) url k) λ _ k.
    by_test (leading_slashes NotSpecial body == 1) _ _ url k (λ _ l. made_other scheme url (sym (ap (λ u. u.scheme) (same_ok _ url l))) other)
    λ _ l. made_other scheme url (sym (ap (λ u. u.scheme) (same_ok _ url l))) other

made_not_file : (scheme body : List ℕ) (url : Parts) → parse_not_file scheme None body ≡ Ok url → Made scheme url
made_not_file scheme body url e =
    by_test (is_special (scheme_type scheme)) _ _ url e (λ _ k. made_slashes scheme _ url k) (λ none k. made_non_special scheme body url none k)

file_slashes : (bytes : List ℕ) (url : Parts) → after_file_double_slash bytes ≡ Ok url → url.scheme ≡ codes "file"
unfolding after_file_double_slash
file_slashes bytes url e =
    let len = segment_len File bytes in
    by_test (is_windows_drive_letter (take len bytes)) _ _ url e (λ _ k. sym (ap (λ u. u.scheme) (same_ok _ url k))) λ _ k.
    ok_then (parse_file_host (take len bytes)) _ url k λ host read l. sym (ap (λ u. u.scheme) (same_ok _ url l))

file_scheme : (body : List ℕ) (url : Parts) → parse_file None body ≡ Ok url → url.scheme ≡ codes "file"
unfolding parse_file
file_scheme body url e =
    by_test (leading_slashes File body == 2) _ _ url e (λ _ k. file_slashes _ url k) (λ _ k. sym (ap (λ u. u.scheme) (same_ok _ url k)))

made_body : (scheme body : List ℕ) (url : Parts) → parse_body scheme None body ≡ Ok url → Made scheme url
unfolding parse_body
made_body scheme body url e =
    by_test (is_file (scheme_type scheme)) _ _ url e
    (λ file k.
    let kind = file_from_is_file _ file in
    made_other scheme url (file_scheme body url k ∙ sym (file_from_scheme_type scheme kind)) (λ is. cc))
    (λ _ k. made_not_file scheme body url k)

-- ---- the whole

-- a web URL can have the host of this one, where its scheme is special but not `file`
abbrev Whole : Parts → Type 0
Whole url = scheme_type url.scheme ≡ SpecialNotFile → IsWebHost (host_or_empty url)

whole_tail : (head : Parts) (query fragment : Option (List ℕ)) → Whole head → Whole (with_tail (before_tail head query fragment) query fragment)
whole_tail head query fragment whole =
    cond_both (not (is_special (kind_of head)) && (is_some query || is_some fragment)) (with_path head (escape_end head.path)) head (λ u. Whole (with_tail u query fragment)) (λ _. whole) (λ _. whole)

whole_parts : (scheme body : List ℕ) (query fragment : Option (List ℕ)) (url : Parts) → parse_parts scheme None body query fragment ≡ Ok url → Whole url
unfolding parse_parts
whole_parts scheme body query fragment url e =
    ok_then (parse_body scheme None body) _ url e λ head read k.
    let made = made_body scheme body head read in
    let whole : Whole head = λ kind. made.1 (ap scheme_type (sym made.0) ∙ kind) in
    subst Whole (same_ok (with_tail (before_tail head query fragment) query fragment) url k) (whole_tail head query fragment whole)

whole_split : (split : Option (List ℕ × List ℕ)) (body : List ℕ) (query fragment : Option (List ℕ)) (url : Parts) → parse_by_scheme split None body query fragment ≡ Ok url → Whole url
whole_split (Some split) body query fragment url e = whole_parts (lowercase split.0) split.1 query fragment url e
whole_split None body query fragment url e = cc

whole_url : (text : List ℕ) (url : Parts) → parse_url None text ≡ Ok url → Whole url
unfolding parse_url
whole_url text url e =
    let hash = split_once 35 (strip_tabs_and_new_lines (trim_c0_control_and_space text)) in
    let question = split_once 63 hash.0 in
    whole_split (split_scheme question.0) question.0 question.1 hash.1 url e

-- ---- pages

is_web : (plain secure : Bool) (scheme : Scheme) → cond plain (Some Http) (cond secure (Some Https) None) ≡ Some scheme → (plain || secure) ≡ true
is_web true secure scheme e = refl
is_web false true scheme e = refl
is_web false false scheme e = absurd cc

-- a URL that has a tuple is an http or https URL, and the tuple has its host
has_host : (url : Parts) (scheme : Option Scheme) (tuple : TupleParts) → Whole url → web_scheme url.scheme ≡ scheme → option_map (tuple_of url) scheme ≡ Some tuple → HasWebHost tuple.host tuple.ip
has_host url None tuple whole web is = absurd cc
has_host url (Some scheme) tuple whole web is =
    let same : tuple_of url scheme ≡ tuple = cc in
    let http = is_web (bytes_eq url.scheme (codes "http")) (bytes_eq url.scheme (codes "https")) scheme web in
    subst (λ t. HasWebHost t.host t.ip) same (host_or_empty url, whole (http_kind url.scheme http), refl, refl)

of_parsed : (parsed : Parsed Parts) (tuple : TupleParts) → ((url : Parts) → parsed ≡ Ok url → Whole url) → parsed_tuple parsed ≡ Some tuple → HasWebHost tuple.host tuple.ip
of_parsed (Ok url) tuple whole is = has_host url (web_scheme url.scheme) tuple (whole url refl) refl is
of_parsed (Err e) tuple whole is = absurd cc

pub page_host : (text : List ℕ) (tuple : TupleParts) → page_tuple text ≡ Some tuple → HasWebHost tuple.host tuple.ip
page_host text tuple is = of_parsed (parse_url None text) tuple (whole_url text) is
