-- Origins (HTML Standard, section 7.1.1).
use Rattle.std.specs.Prelude.{ℕ, ◌==◌, List, Bool, false, not, cond, Option, Some, None, is_some, if◌then◌else◌}
use Rattle.origin_core.specs.Host.{host_kind}
use Rattle.origin_core.specs.Tuple.{TupleParts, is_own_port, within_limit}
use Rattle.origin_core.specs.declared.origin.Scheme.{Scheme}
use Rattle.origin_core.specs.declared.origin.Scheme.TheVariants.{Http, Https}
use Rattle.origin_core.specs.declared.origin.Origin.{Origin}
use Rattle.origin_core.specs.declared.origin.Origin.TheVariants as origins
use Rattle.link_fields.specs.declared.fault.Flaw.TheVariants.{Range}
use Rattle.link_fields.specs.Field.{Field, ◌⊗◌, only, mapped, keyed, row, never}
use Rattle.link_fields.specs.Basic.{u16, u32, small, truth, text, optional}

abbrev pub scheme_at : ℕ → Scheme
scheme_at n = if n == 1 then Https else Http

abbrev pub scheme_number : Scheme → ℕ
scheme_number Http = 0
scheme_number Https = 1

abbrev pub scheme : Field Scheme
scheme = mapped scheme_at scheme_number (small 1)

abbrev pub is_kind : Bool → Option Bool → Bool
is_kind ip None = false
is_kind ip (Some kind) = if kind then ip else not ip

-- a text that a URL has as its host, which is an address or not
abbrev pub host : Bool → Field (List ℕ)
host ip = only Range (λ host. is_kind ip (host_kind host)) text

-- a text that a URL has as its host
abbrev pub any_host : Field (List ℕ)
any_host = only Range (λ host. is_some (host_kind host)) text

-- a port other than the scheme's default one
abbrev pub port : Scheme → Field ℕ
port s = only Range (λ n. is_own_port s (Some n)) u16

abbrev pub tuple_at : Scheme × Bool → List ℕ × Option ℕ → TupleParts
tuple_at k x = record { scheme = k.0; host = x.0; ip = k.1; port = x.1 }

-- The host and the port. Then the size of the origin's serialization is tested, at the host's first byte.
abbrev pub located : Scheme × Bool → Field TupleParts
located k =
    only Range (λ t. is_some (within_limit t))
    (mapped (tuple_at k) (λ t. (t.host, t.port)) (host k.1 ⊗ optional (port k.0)))

abbrev pub tuple : Field TupleParts
tuple = keyed (λ t. (t.scheme, t.ip)) (scheme ⊗ truth) located

abbrev pub origin_tag : Origin → ℕ
origin_tag (origins.Tuple t) = 0
origin_tag (origins.Opaque n) = 1

abbrev pub origin_inside : Origin → List ℕ
origin_inside (origins.Tuple t) = tuple.spell t
origin_inside (origins.Opaque n) = u32.spell n

abbrev pub origin_row : ℕ → Field Origin
origin_row tag =
    cond (tag == 0) (row origin_inside (λ t. origins.Tuple t) tuple)
    (cond (tag == 1) (row origin_inside (λ n. origins.Opaque n) u32)
    (never Range))

abbrev pub origin : Field Origin
origin = keyed origin_tag (small 1) origin_row
