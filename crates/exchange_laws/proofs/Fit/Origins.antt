-- An origin in range can be spelled, and so can the URL that stands for it.
use Rattle.std.proofs.Common.{◌≡◌, ℕ, ◌<◌, ◌≤◌, ◌^◌, List, ◌++◌, length, Option, Some, None, Bool, true, false, IsTrue, refl, length-append, arith}
use Rattle.std.specs.Prelude.{codes, is_some}
use Rattle.std.specs.Str.{IsUtf8, is_utf8}
use Rattle.std.proofs.lemmas.Bool.Decides.{nat_tests}
use Rattle.std.proofs.lemmas.Str.{IsUtf8-from_ascii, IsUtf8-from_is_utf8, is_utf8-from_IsUtf8}
use Rattle.url.specs.Parts.{IsPortOf}
use Rattle.plain_data.specs.DataLimits.{is_short}
use Rattle.origin_core.specs.declared.origin.Origin.{Origin}
use Rattle.origin_core.specs.declared.origin.Origin.TheVariants.{Tuple, Opaque}
use Rattle.origin_core.specs.declared.origin.Scheme.{Scheme}
use Rattle.origin_core.specs.declared.origin.Scheme.TheVariants.{Http, Https}
use Rattle.origin_core.specs.Host.{host_kind}
use Rattle.origin_core.specs.Origin.{IsOrigin}
use Rattle.origin_core.specs.Tuple.{TupleParts, scheme_text, port_text, tuple_text, is_own_port, within_limit, IsTuple}
use Rattle.origin_core.proofs.TupleLemmas.{tuple_host, tuple_port, tuple_limit}
use Rattle.link_fields.specs.Basic.{is_text, text, truth, optional}
use Rattle.link_fields.specs.Origins.{is_kind, scheme, port, tuple, origin}
use Rattle.link_fields.proofs.FieldLaws.{at_most}
use Rattle.tree_log.proofs.Admitted.{both}
use Rattle.exchange_laws.proofs.Fit.Hosts.{host_is_ascii}
use Rattle.exchange_laws.proofs.Fit.Parts.{some_fits, none_fits}

pub text_fits : (s : List ℕ) → IsUtf8 s → length s ≤ 1024 → text.Fits s
unfolding is_text
text_fits s u le =
    let short : is_short s ≡ true = grind (arith, nat_tests) in
    (omega arith, rw (is_utf8-from_IsUtf8 s u, short) refl)

pub text_utf8 : (s : List ℕ) → text.Fits s → IsUtf8 s
unfolding is_text
text_utf8 s h = IsUtf8-from_is_utf8 s (both (is_utf8 s) (is_short s) h.1).0

pub text_length : (s : List ℕ) → text.Fits s → length s ≤ 1024
unfolding is_text
text_length s h = at_most (length s) 1024 (both (is_utf8 s) (is_short s) h.1).1

-- TUPLES

scheme_fits : (s : Scheme) → scheme.Fits s
scheme_fits Http = ((omega arith, refl), refl)
scheme_fits Https = ((omega arith, refl), refl)

truth_fits : (b : Bool) → truth.Fits b
truth_fits true = ((omega arith, refl), refl)
truth_fits false = ((omega arith, refl), refl)

own_kind : (ip : Bool) → IsTrue (is_kind ip (Some ip))
own_kind true = refl
own_kind false = refl

port_fits : (s : Scheme) (p : Option ℕ) → IsPortOf (scheme_text s) p → is_own_port s p ≡ true → (optional (port s)).Fits p
port_fits s None valid own = none_fits (port s)
port_fits s (Some n) valid own = some_fits (port s) n (valid.0, own)

host_length : (t : TupleParts) → length (tuple_text t) ≤ 1024 → length t.host ≤ 1024
host_length t le =
    let one = length-append (scheme_text t.scheme ++ codes "://" ++ t.host) (port_text t.port) in
    let two = length-append (scheme_text t.scheme ++ codes "://") t.host in
    omega arith

is_some_of : {A : Type 0} (o : Option A) (a : A) → o ≡ Some a → IsTrue (is_some o)
is_some_of o a e = rw e refl

pub tuple_fits : (t : TupleParts) → IsTuple t → tuple.Fits t
tuple_fits t valid =
    let name : text.Fits t.host = text_fits t.host (IsUtf8-from_ascii t.host (host_is_ascii t.host t.ip valid.host)) (host_length t valid.small) in
    let kind : IsTrue (is_kind t.ip (host_kind t.host)) = rw (tuple_host t valid) (own_kind t.ip) in (
      (scheme_fits t.scheme, truth_fits t.ip),
      ((((name, kind), port_fits t.scheme t.port valid.port (tuple_port t valid)), refl), is_some_of (within_limit t) t (tuple_limit t valid)),
    )

-- a number of an opaque origin is in range
abbrev pub IsNumbered : Origin → Type 0
IsNumbered (Tuple t) = Unit {0}
IsNumbered (Opaque n) = n < 2 ^ 32

pub origin_fits : (o : Origin) → IsOrigin o → IsNumbered o → origin.Fits o
origin_fits (Tuple t) valid few = ((omega arith, refl), (t, tuple_fits t valid, refl))
origin_fits (Opaque n) valid few = ((omega arith, refl), (n, few, refl))

pub opaque_fits : (n : ℕ) → n < 2 ^ 32 → origin.Fits (Opaque n)
opaque_fits n few = origin_fits (Opaque n) tt few
