-- The text of a URL's origin is the URL Standard's serialization of that origin.
use Rattle.std.proofs.Common.{◌≡◌, ◌≢◌, ℕ, ◌^◌, ◌<◌, sym, ap, subst, refl, List, [], ◌++◌, Some, None, cond, nat_eq, eq-eqb}
use Rattle.std.specs.Prelude.{codes, decimal, Option, unwrap_or, option_map, IfSome, Result, Ok, Err, IfOk}
use Rattle.std.specs.Option.{option_or, option_eq}
use Rattle.std.proofs.lemmas.Bool.{cond-true, cond-false, cond_both, ne_eqb}
use Rattle.std.proofs.lemmas.Slice.Eq.{bytes_eq-Decides}
use Rattle.url.specs.Scheme.{scheme_type, default_port}
use Rattle.url.specs.Host.{host_text}
use Rattle.url.specs.Parts.{Parts, host_or_empty, IsValid, IsPortOf}
use Rattle.url.specs.Origin.{origin_of, ascii_serialization}
use Rattle.origin_core.specs.declared.origin.Scheme.{Scheme}
use Rattle.origin_core.specs.declared.origin.Scheme.TheVariants.{Http, Https}
use Rattle.url.specs.Parser.{parse_url}
use Rattle.origin_core.specs.declared.origin.Origin.{Origin}
use Rattle.origin_core.specs.declared.origin.Origin.TheVariants.{Tuple}
use Rattle.origin_core.specs.Tuple.{port_text}
use Rattle.origin_core.specs.Origin.{origin_text, tuple_of, record_origin, page_origin, standard_origin_text}

-- the port as the Standard writes it, for a default port d
port_written : (d : ℕ) (port : Option ℕ) → IfSome port (λ n. (n < 2 ^ 16) × (Some d ≢ Some n)) → (let n = unwrap_or (option_or port (Some d)) 0 in cond (option_eq nat_eq (Some d) (Some n)) [] (codes ":" ++ decimal n)) ≡ port_text port
port_written d None own = cond-true _ _ _ (eq-eqb d d refl)
port_written d (Some n) own = cond-false _ _ _ (ne_eqb d n (λ e. own.1 (ap Some e)))

http_plain : (url : Parts) → IsPortOf (codes "http") url.port → origin_text (Tuple (tuple_of url Http)) ≡ ascii_serialization (origin_of (record url { scheme = codes "http" }))
unfolding scheme_type default_port
http_plain url port =
    ap (λ t. codes "http" ++ codes "://" ++ host_text (host_or_empty url) ++ t) (sym (port_written 80 url.port port))

https_plain : (url : Parts) → IsPortOf (codes "https") url.port → origin_text (Tuple (tuple_of url Https)) ≡ ascii_serialization (origin_of (record url { scheme = codes "https" }))
unfolding scheme_type default_port
https_plain url port =
    ap (λ t. codes "https" ++ codes "://" ++ host_text (host_or_empty url) ++ t) (sym (port_written 443 url.port port))

pub standard_text : (url : Parts) → IsValid url → IfSome (record_origin url) (λ o. origin_text o ≡ ascii_serialization (origin_of url))
standard_text url valid =
    let P : Option Scheme → Type 0 = λ o. IfSome (option_map Tuple (option_map (tuple_of url) o)) (λ o. origin_text o ≡ ascii_serialization (origin_of url)) in
    cond_both _ (Some Http) _ P
    (λ http.
    let is = (bytes_eq-Decides url.scheme (codes "http")).0 http in
    subst (λ s. origin_text (Tuple (tuple_of url Http)) ≡ ascii_serialization (origin_of (record url { scheme = s }))) (sym is) (http_plain url (subst (λ s. IsPortOf s url.port) is valid.head.port)))
    (λ other.
    cond_both _ (Some Https) None P
    (λ https.
    let is = (bytes_eq-Decides url.scheme (codes "https")).0 https in
    subst (λ s. origin_text (Tuple (tuple_of url Https)) ≡ ascii_serialization (origin_of (record url { scheme = s }))) (sym is) (https_plain url (subst (λ s. IsPortOf s url.port) is valid.head.port)))
    (λ none. tt))

-- the same, of an answer on a page's text
pub standard_answer : {E : Type 0} (text : List ℕ) (url : Parts) (result : Result (Option Origin) E) → parse_url None text ≡ Ok url → IsValid url → IfOk result (λ origin. origin ≡ page_origin text) → IfOk result (λ origin. IfSome origin (λ o. origin_text o ≡ standard_origin_text text))
standard_answer text url (Ok origin) parsed valid value = rw (value, parsed) (standard_text url valid)
standard_answer text url (Err e) parsed valid value = tt
