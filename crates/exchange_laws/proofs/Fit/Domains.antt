-- A domain that a document may set is the host of some URL, where its host or its domain is.
use Rattle.std.proofs.Common.{◌≡◌, ℕ, ◌-◌, ◌<◌, ◌≤◌, List, [], ◌∷◌, ◌++◌, length, get_or, All, Option, Some, None, Ok, Err, Bool, true, false, IsTrue, refl, sym, ap, subst, ◌∙◌, inl, ⊎_elim, arith, length-append}
use Rattle.std.specs.Prelude.{codes, ◌==◌, ◌&&◌, ◌||◌, bytes_eq, map, is_some, option_map, if◌then◌else◌}
use Rattle.std.specs.Char.{to_ascii_lowercase}
use Rattle.std.proofs.Math.Seq.{drop-append_seam}
use Rattle.std.proofs.lemmas.Bool.{false≢true, and_parts, cases_Bool}
use Rattle.std.proofs.lemmas.List.Elements.{All-nil, All-cons, All-drop}
use Rattle.std.proofs.lemmas.Slice.Eq.{bytes_eq-Decides}
use Rattle.std.proofs.lemmas.Str.{IsUtf8-from_ascii}
use Rattle.std.proofs.lemmas.List.{append-nil}
use Rattle.url.specs.declared.host.Host.{Host}
use Rattle.url.specs.declared.host.Host.TheVariants.{Domain, Ipv4, Ipv6}
use Rattle.url.specs.declared.scheme.SchemeType.TheVariants.{SpecialNotFile}
use Rattle.url.specs.Host.{host_text, is_forbidden_in_domain, IsHostOf}
use Rattle.url.specs.Ipv4.{ends_in_a_number}
use Rattle.url.specs.Origin.{is_http}
use Rattle.url.specs.Parser.{Parsed, parse_url}
use Rattle.url.specs.Parts.{Parts, kind_of, host_or_empty, IsValid}
use Rattle.url.specs.Path.{IsSegment, dot_count}
use Rattle.url.specs.Scheme.{scheme_type, default_port, scheme_len, IsScheme}
use Rattle.url.proofs.HostLemmas.{IsAscii-host_text}
use Rattle.url.proofs.SchemeLemmas.{lowercase-lowercase_all}
use Rattle.origin_core.specs.declared.origin.Origin.{Origin}
use Rattle.origin_core.specs.declared.origin.Origin.TheVariants.{Tuple, Opaque}
use Rattle.origin_core.specs.declared.origin.Scheme.{Scheme}
use Rattle.origin_core.specs.declared.origin.Scheme.TheVariants.{Http, Https}
use Rattle.origin_core.specs.Host.{is_address, IsHost, spelled_host, parsed_host, host_kind}
use Rattle.origin_core.specs.Origin.{web_scheme, tuple_of, parsed_tuple, page_tuple}
use Rattle.origin_core.specs.Site.{ends_in_dot, registrable_domain, is_value_below, fits}
use Rattle.origin_core.specs.Tuple.{TupleParts}
use Rattle.origin_core.proofs.DomainLaw.{IsBelow, below}
use Rattle.origin_core.proofs.HostLaw.{host_of_root}
use Rattle.origin_core.proofs.PageHost.{IsWebHost, HasWebHost, page_host}
use Rattle.coordinator_rules.specs.Decision.{effective_domain, is_address as is_ip}
use Rattle.link_fields.specs.Origins.{is_kind, host, any_host, tuple, origin}
use Rattle.exchange_laws.proofs.Fit.Origins.{text_fits, text_length}
use Rattle.exchange_laws.proofs.Fit.Suffixes.{suffix_ends}

-- THE HOST OF A URL

http_scheme : (s : List ℕ) → is_http s ≡ true → (scheme : Scheme) × (web_scheme s ≡ Some scheme)
http_scheme s h = by_tests (bytes_eq s (codes "http")) (bytes_eq s (codes "https")) h
  where
    by_tests : (a b : Bool) → (a || b) ≡ true → (scheme : Scheme) × ((if a then Some Http else (if b then Some Https else None)) ≡ Some scheme)
    by_tests true b e = (Http, refl)
    by_tests false true e = (Https, refl)
    by_tests false false e = absurd (false≢true e)

-- the tests of a URL whose host is this text
spelled_tests : (x : List ℕ) (url : Parts) (ip : Bool) → spelled_host x url ≡ Some ip → (is_http url.scheme ≡ true) × (host_text (host_or_empty url) ≡ x) × (is_address (host_or_empty url) ≡ ip)
spelled_tests x url ip h = by_test (is_http url.scheme && bytes_eq (host_text (host_or_empty url)) x) refl h
  where
    by_test : (b : Bool) → (is_http url.scheme && bytes_eq (host_text (host_or_empty url)) x) ≡ b → (if b then Some (is_address (host_or_empty url)) else None) ≡ Some ip
        → (is_http url.scheme ≡ true) × (host_text (host_or_empty url) ≡ x) × (is_address (host_or_empty url) ≡ ip)
    by_test true e k =
        let two = and_parts _ _ e in
        (two.0, (bytes_eq-Decides (host_text (host_or_empty url)) x).0 two.1, cc)
    by_test false e k = absurd cc

web_host : (x : List ℕ) (ip : Bool) → host_kind x ≡ Some ip → HasWebHost x ip
web_host x ip h = by_parse (parse_url None page) refl h
  where
    page : List ℕ
    page = codes "https://" ++ x ++ codes "/"

    by_parse : (r : Parsed Parts) → parse_url None page ≡ r → parsed_host x r ≡ Some ip → HasWebHost x ip
    by_parse (Err e) is k = absurd cc
    by_parse (Ok url) is k =
        let tests = spelled_tests x url ip k in
        let web = http_scheme url.scheme tests.0 in
        let tuple : page_tuple page ≡ Some (tuple_of url web.0) = ap parsed_tuple is ∙ ap (option_map (tuple_of url)) web.1 in
        let one = page_host page (tuple_of url web.0) tuple in
        (one.0, one.1, one.2 ∙ tests.1, one.3 ∙ tests.2)

-- A DOMAIN AS A HOST

abbrev root : List ℕ → Parts
root domain = record {
  scheme = codes "https";
  username = [];
  password = [];
  host = Some (Domain domain);
  port = None;
  path = codes "/";
  query = None;
  fragment = None;
}

https_kind : scheme_type (codes "https") ≡ SpecialNotFile
unfolding scheme_type default_port
https_kind = refl

https_scheme : IsScheme (codes "https")
unfolding scheme_len
https_scheme = record { nonempty = omega arith; whole = refl; lower = refl }

no_dots : dot_count [] ≡ 0
unfolding dot_count
no_dots = refl

root_valid : (domain : List ℕ) → IsHostOf SpecialNotFile (Domain domain) → IsValid (root domain)
root_valid domain valid = record {
  head = record {
    scheme = https_scheme;
    username = All-nil _;
    password = All-nil _;
    host = subst (λ k. IsHostOf k (Domain domain)) (sym https_kind) valid;
    port = tt;
    bare = λ _. (refl, refl, refl);
  };
  path = inl (
    record {
      segments = [] ∷ [];
      joined = refl;
      each = All-cons (IsSegment (kind_of (root domain))) [] [] (record { escaped = All-nil _; whole = All-nil _; resolved = no_dots }) (All-nil _);
    },
    λ _. omega arith,
  );
  query = tt;
  fragment = tt;
}

domain_fits : (v : List ℕ) → IsHostOf SpecialNotFile (Domain v) → length v ≤ 1024 → (host false).Fits v
domain_fits v valid short =
    let is : IsHost v false = (root v, root_valid v valid, refl, refl, refl) in
    (text_fits v (IsUtf8-from_ascii v (IsAscii-host_text SpecialNotFile (Domain v) valid)) short, rw (host_of_root v false is) refl)

-- WHAT A DOCUMENT MAY SET

false_kind : (x : List ℕ) → (host false).Fits x → host_kind x ≡ Some false
false_kind x h = by_kind (host_kind x) h.1
  where
    by_kind : (o : Option Bool) → IsTrue (is_kind false o) → o ≡ Some false
    by_kind None k = absurd (false≢true k)
    by_kind (Some true) k = absurd (false≢true k)
    by_kind (Some false) k = refl

-- the domain has no byte that is forbidden, and doesn't end in a number
of_domain : (x : List ℕ) → HasWebHost x false → (ends_in_a_number x ≡ false) × All (λ b. is_forbidden_in_domain b ≡ false) x
of_domain x h = by_host h.0 h.1 h.2 h.3
  where
    by_host : (a : Host (List ℕ)) → IsWebHost a → host_text a ≡ x → is_address a ≡ false → (ends_in_a_number x ≡ false) × All (λ b. is_forbidden_in_domain b ≡ false) x
    by_host (Domain d) w e k = subst (λ (l : List ℕ). (ends_in_a_number l ≡ false) × All (λ b. is_forbidden_in_domain b ≡ false) l) e (w.0, w.1)
    by_host (Ipv4 a) w e k = absurd (false≢true (sym k))
    by_host (Ipv6 a) w e k = absurd (false≢true (sym k))

-- a part of a domain, in lower case
part_fits : (x value : List ℕ) → (host false).Fits x → IsBelow x (map to_ascii_lowercase value) → 0 < length (map to_ascii_lowercase value) → (host false).Fits (map to_ascii_lowercase value)
part_fits x value h part some =
    let v : List ℕ = map to_ascii_lowercase value in
    let web = of_domain x (web_host x false (false_kind x h)) in
    let len = ap length part.joined ∙ length-append part.front v in
    let le = text_length x h.0 in
    let all = subst (λ (l : List ℕ). All (λ b. is_forbidden_in_domain b ≡ false) l) part.joined web.1 in
    let kept = subst (λ (l : List ℕ). All (λ b. is_forbidden_in_domain b ≡ false) l) (drop-append_seam part.front v) (All-drop (λ b. is_forbidden_in_domain b ≡ false) (length part.front) (part.front ++ v) all) in
    domain_fits v (record { allowed = kept; lower = lowercase-lowercase_all value; named = suffix_ends x v part some web.0 }, some) (omega arith)

-- an address, and what ends in a dot, has nothing below it
none_below : (value x : List ℕ) (ip : Bool) (suffixes : List (List ℕ)) → (ip || ends_in_dot x) ≡ true → is_value_below value (registrable_domain x ip suffixes) ≡ false
none_below value x ip suffixes h = rw h refl

-- a domain that ends in no dot ends with a dot and something
some_value : (x v : List ℕ) → IsBelow x v → ends_in_dot x ≡ false → 0 < length v
some_value x [] part h =
    let e : x ≡ part.front = part.joined ∙ append-nil part.front in
    let stop : get_or x (length x - 1) 0 ≡ 46 = subst (λ (l : List ℕ). get_or l (length l - 1) 0 ≡ 46) (sym e) part.stop in
    absurd (false≢true (sym h ∙ ap (λ (n : ℕ). n == 46) stop))
some_value x (b ∷ v) part h = omega arith

below_fits : (value x : List ℕ) (ip : Bool) (suffixes : List (List ℕ)) → (host ip).Fits x → IsBelow x (map to_ascii_lowercase value)
    → is_value_below (map to_ascii_lowercase value) (registrable_domain x ip suffixes) ≡ true → (host ip).Fits (map to_ascii_lowercase value)
below_fits value x true suffixes h part at = absurd (false≢true (sym (none_below (map to_ascii_lowercase value) x true suffixes refl) ∙ at))
below_fits value x false suffixes h part at =
    ⊎_elim
    (λ dotted. absurd (false≢true (sym (none_below (map to_ascii_lowercase value) x false suffixes dotted) ∙ at)))
    (λ open_end. part_fits x value h part (some_value x (map to_ascii_lowercase value) part open_end))
    (cases_Bool (ends_in_dot x))

-- where the effective domain is a host of this kind, so is the value
pub set_fits : (value effective : List ℕ) (ip : Bool) (suffixes : List (List ℕ)) → (host ip).Fits effective → fits (map to_ascii_lowercase value) effective ip suffixes ≡ true → (host ip).Fits (map to_ascii_lowercase value)
set_fits value effective ip suffixes h fit =
    let v : List ℕ = map to_ascii_lowercase value in
    let P : List ℕ → Type 0 = λ l. (host ip).Fits l in
    ⊎_elim
    (λ same. subst P (sym ((bytes_eq-Decides v effective).0 same)) h)
    (λ other.
    let parts = and_parts _ _ (rw other at fit) in
    ⊎_elim (λ same. subst P same h) (λ part. below_fits value effective ip suffixes h part parts.1) (below effective v parts.0))
    (cases_Bool (bytes_eq v effective))

-- a host of either kind is a host
pub kind_fits : (x : List ℕ) (ip : Bool) → (host ip).Fits x → any_host.Fits x
kind_fits x ip h = (h.0, by_kind (host_kind x) h.1)
  where
    by_kind : (o : Option Bool) → IsTrue (is_kind ip o) → IsTrue (is_some o)
    by_kind None k = absurd (false≢true k)
    by_kind (Some b) k = refl

-- the effective domain of a document
pub effective_fits : (o : Origin) (domain : Option (List ℕ)) (effective : List ℕ) → origin.Fits o → ((x : List ℕ) → domain ≡ Some x → (host (is_ip o)).Fits x)
    → effective_domain o domain ≡ Some effective → (host (is_ip o)).Fits effective
effective_fits (Opaque n) domain effective h set e = absurd cc
effective_fits (Tuple t) None effective h set e =
    let same : t.host ≡ effective = cc in
    let of : h.1.0 ≡ t = cc in
    let fit : tuple.Fits t = subst (λ (x : TupleParts). tuple.Fits x) of h.1.1 in
    subst (λ (x : List ℕ). (host t.ip).Fits x) same fit.1.0.0.0
effective_fits (Tuple t) (Some x) effective h set e =
    let same : x ≡ effective = cc in
    subst (λ (l : List ℕ). (host t.ip).Fits l) same (set x refl)
