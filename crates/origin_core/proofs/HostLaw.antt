-- A host of some http or https URL is the host of `https://HOST/`.
use Rattle.std.proofs.Common.{◌≡◌, ℕ, Bool, true, ◌∙◌, sym, ap, subst, refl, List, [], ◌∷◌, Some, None, Ok, arith, ⊎_elim, inl}
use Rattle.std.specs.Prelude.{codes, bytes_eq, Option, Result, Err, IfOk}
use Rattle.std.proofs.lemmas.Bool.{cond-true, cases_Bool}
use Rattle.std.proofs.lemmas.List.Elements.{All-nil, All-cons}
use Rattle.std.proofs.lemmas.Slice.Eq.{bytes_eq-Decides}
use Rattle.url.specs.declared.host.Host.{Host}
use Rattle.url.specs.declared.scheme.SchemeType.TheVariants.{SpecialNotFile}
use Rattle.url.specs.Scheme.{scheme_type, default_port, scheme_len, is_special, IsScheme}
use Rattle.url.specs.Host.{host_text, IsHostOf}
use Rattle.url.specs.Path.{IsSegment, dot_count}
use Rattle.url.specs.Parts.{Parts, kind_of, host_or_empty, IsValid}
use Rattle.url.specs.Origin.{is_http}
use Rattle.url.proofs.ValidLemmas.{special_has_authority}
use Rattle.url.proofs.SetterLemmas.{own_host}
use Rattle.url.proofs.Theorems.{parse_url-serialize_special}
use Rattle.origin_core.specs.Host.{is_address, IsHost, parsed_host, host_kind}

-- `https://HOST/`
abbrev root : Host (List ℕ) → Parts
root host = record {
  scheme = codes "https";
  username = [];
  password = [];
  host = Some host;
  port = None;
  path = codes "/";
  query = None;
  fragment = None;
}

https_kind : scheme_type (codes "https") ≡ SpecialNotFile
unfolding scheme_type default_port
https_kind = refl

https_scheme : IsScheme (codes "https")
unfolding scheme_len
https_scheme = record { nonempty = omega arith; whole = refl; lower = refl }

no_dots : dot_count [] ≡ 0
unfolding dot_count
no_dots = refl

root_valid : (host : Host (List ℕ)) → IsHostOf SpecialNotFile host → IsValid (root host)
root_valid host valid = record {
  head = record {
    scheme = https_scheme;
    username = All-nil _;
    password = All-nil _;
    host = subst (λ k. IsHostOf k host) (sym https_kind) valid;
    port = tt;
    bare = λ _. (refl, refl, refl);
  };
  path = inl (
    record {
      segments = [] ∷ [];
      joined = refl;
      each = All-cons (IsSegment (kind_of (root host))) [] [] (record { escaped = All-nil _; whole = All-nil _; resolved = no_dots }) (All-nil _);
    },
    λ _. omega arith,
  );
  query = tt;
  fragment = tt;
}

pub http_kind : (scheme : List ℕ) → is_http scheme ≡ true → scheme_type scheme ≡ SpecialNotFile
unfolding scheme_type default_port
http_kind scheme http =
    ⊎_elim
    (λ plain. let is : codes "http" ≡ scheme = sym ((bytes_eq-Decides _ _).0 plain) in subst (λ s. scheme_type s ≡ SpecialNotFile) is refl)
    (λ other.
    let secure : bytes_eq scheme (codes "https") ≡ true = rw other at http in
    let is : codes "https" ≡ scheme = sym ((bytes_eq-Decides _ _).0 secure) in
    subst (λ s. scheme_type s ≡ SpecialNotFile) is refl)
    (cases_Bool (bytes_eq scheme (codes "http")))

pub host_of_root : (text : List ℕ) (ip : Bool) → IsHost text ip → host_kind text ≡ Some ip
host_of_root text ip h =
    let url = h.0 in
    let kind = http_kind url.scheme h.2 in
    let authority = special_has_authority url h.1.head (ap is_special kind) in
    let host = host_or_empty url in
    let is_host = subst (λ k. IsHostOf k host) kind (own_host url h.1.head authority) in
    let parses = parse_url-serialize_special (root host) None (root_valid host is_host) https_kind in
    let kept = cond-true _ (Some (is_address host)) None ((bytes_eq-Decides (host_text host) (host_text host)).1 refl) in
    subst (λ t. host_kind t ≡ Some ip) h.3 (ap (parsed_host (host_text host)) parses ∙ kept ∙ ap Some h.4)

-- the same, of an answer that may be want of memory
pub every_host : {E : Type 0} (text : List ℕ) (result : Result (Option Bool) E) → IfOk result (λ kind. kind ≡ host_kind text) → IfOk result (λ kind. (ip : Bool) → IsHost text ip → kind ≡ Some ip)
every_host text (Ok kind) value = λ ip host. value ∙ host_of_root text ip host
every_host text (Err e) value = tt
