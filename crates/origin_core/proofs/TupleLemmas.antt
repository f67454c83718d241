-- The tuple of a URL in range is in range.
use Rattle.std.proofs.Common.{◌≡◌, ℕ, ◌≤◌, ◌+◌, true, sym, ap, subst, refl, List, [], Some, None, length, length-append, arith}
use Rattle.std.specs.Prelude.{codes, decimal, Option, is_some, unwrap_or, option_map}
use Rattle.std.proofs.lemmas.Bool.{cond_both, cond-false, or_right}
use Rattle.std.proofs.lemmas.Slice.Eq.{bytes_eq-Decides}
use Rattle.url.specs.Input.{when}
use Rattle.url.specs.Parts.{Parts, has_authority, serialize, IsValid, IsPortOf}
use Rattle.url.specs.Scheme.{is_special}
use Rattle.url.specs.Origin.{is_http}
use Rattle.url.proofs.ValidLemmas.{special_has_authority}
use Rattle.origin_core.specs.declared.origin.Scheme.{Scheme}
use Rattle.origin_core.specs.declared.origin.Scheme.TheVariants.{Http, Https}
use Rattle.origin_core.specs.Tuple.{TupleParts, scheme_text, port_text, tuple_text, is_own_port, within_limit, IsTuple}
use Rattle.origin_core.specs.Host.{host_kind}
use Rattle.origin_core.proofs.PortLaw.{own_port_iff}
use Rattle.origin_core.proofs.PageLemmas.{not_over}
use Rattle.origin_core.specs.Origin.{web_scheme, tuple_of}
use Rattle.origin_core.proofs.HostLaw.{http_kind, host_of_root}

pub scheme_is : (s : List ℕ) (scheme : Scheme) → web_scheme s ≡ Some scheme → (scheme_text scheme ≡ s) × (is_http s ≡ true)
scheme_is s scheme =
    let Q : Scheme → Type 0 = λ k. (scheme_text k ≡ s) × (is_http s ≡ true) in
    let P : Option Scheme → Type 0 = λ o. o ≡ Some scheme → Q scheme in
    cond_both _ (Some Http) _ P
    (λ http is. let same : Http ≡ scheme = cc in subst Q same (sym ((bytes_eq-Decides s (codes "http")).0 http), rw http refl))
    (λ other.
    cond_both _ (Some Https) None P
    (λ https is. let same : Https ≡ scheme = cc in subst Q same (sym ((bytes_eq-Decides s (codes "https")).0 https), rw https (or_right _ _ refl)))
    (λ none is. absurd cc))

port_len : (port : Option ℕ) → length (port_text port) ≡ length (when (is_some port) (codes ":")) + length (unwrap_or (option_map decimal port) [])
port_len None = refl
port_len (Some port) = omega arith

tuple_len : (url : Parts) (scheme : Scheme) → has_authority url ≡ true → scheme_text scheme ≡ url.scheme → length (tuple_text (tuple_of url scheme)) ≤ length (serialize url)
tuple_len url scheme authority is =
    let same = ap length is in
    let port = port_len url.port in
    rw authority (simp length-append (omega arith))

pub tuple_bounded : (url : Parts) (scheme : Scheme) → IsValid url → web_scheme url.scheme ≡ Some scheme → length (tuple_text (tuple_of url scheme)) ≤ 1024 → IsTuple (tuple_of url scheme)
tuple_bounded url scheme valid is small =
    let web = scheme_is url.scheme scheme is in
    record {
      host = (url, valid, web.1, refl, refl);
      port = subst (λ s. IsPortOf s url.port) (sym web.0) valid.head.port;
      small = small;
    }

pub tuple_in_range : (url : Parts) (scheme : Scheme) → IsValid url → web_scheme url.scheme ≡ Some scheme → length (serialize url) ≤ 1024 → IsTuple (tuple_of url scheme)
tuple_in_range url scheme valid is small =
    let web = scheme_is url.scheme scheme is in
    let authority = special_has_authority url valid.head (ap is_special (http_kind url.scheme web.1)) in
    tuple_bounded url scheme valid is (omega (arith, tuple_len url scheme authority web.0))

-- ---- a tuple in range passes the tests of its parts

own_port : (scheme : Scheme) (port : Option ℕ) → IsPortOf (scheme_text scheme) port → is_own_port scheme port ≡ true
own_port scheme None own = refl
own_port scheme (Some n) own = (own_port_iff scheme n _ own.0 refl).1 own

pub tuple_host : (t : TupleParts) → IsTuple t → host_kind t.host ≡ Some t.ip
tuple_host t valid = host_of_root t.host t.ip valid.host

pub tuple_port : (t : TupleParts) → IsTuple t → is_own_port t.scheme t.port ≡ true
tuple_port t valid = own_port t.scheme t.port valid.port

pub tuple_limit : (t : TupleParts) → IsTuple t → within_limit t ≡ Some t
tuple_limit t valid = cond-false _ _ _ (not_over _ valid.small)
