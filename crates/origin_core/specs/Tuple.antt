-- What contracts see of a tuple origin (HTML Standard, section 7.1.1, "tuple origin"). Its domain
-- is no part of it: it belongs to a document.
use Rattle.std.specs.Prelude.{ℕ, ◌≤◌, Bool, true, not, ◌==◌, List, [], ◌++◌, length, nat_lt, codes, decimal, Option, Some, None, if◌then◌else◌}
use Rattle.url.specs.Parts.{IsPortOf}
use Rattle.origin_core.specs.declared.origin.Scheme.{Scheme}
use Rattle.origin_core.specs.declared.origin.Scheme.TheVariants.{Http, Https}
use Rattle.origin_core.specs.declared.origin.TupleOrigin.TheInside.{Inside}
use Rattle.origin_core.specs.Host.{IsHost}

-- a scheme, a host with whether it is an IP address, and a port where it isn't the default one
pub record TupleParts : Type 0 where
  pub scheme : Scheme
  pub host : List ℕ
  pub ip : Bool
  pub port : Option ℕ

abbrev pub tuple_view : Inside → TupleParts
tuple_view t = record { scheme = t.scheme; host = t.host; ip = t.ip; port = t.port }

abbrev pub scheme_text : Scheme → List ℕ
scheme_text Http = codes "http"
scheme_text Https = codes "https"

-- URL Standard, section 4.2, "default port"
abbrev pub default_port : Scheme → ℕ
default_port Http = 80
default_port Https = 443

-- the port, if there is one, isn't the scheme's default
abbrev pub is_own_port : Scheme → Option ℕ → Bool
is_own_port scheme None = true
is_own_port scheme (Some port) = not (port == default_port scheme)

abbrev pub port_text : Option ℕ → List ℕ
port_text None = []
port_text (Some port) = codes ":" ++ decimal port

-- HTML Standard, section 7.1.1, "serialization of an origin"
abbrev pub tuple_text : TupleParts → List ℕ
tuple_text t = scheme_text t.scheme ++ codes "://" ++ t.host ++ port_text t.port

-- what every tuple origin holds to
pub record IsTuple (t : TupleParts) : Type 0 where
  pub host : IsHost t.host t.ip
  pub port : IsPortOf (scheme_text t.scheme) t.port
  pub small : length (tuple_text t) ≤ 1024

abbrev pub IsTupleInside : Inside → Type 0
IsTupleInside t = IsTuple (tuple_view t)

-- the tuple, unless its serialization is over 1,024 bytes
abbrev pub within_limit : TupleParts → Option TupleParts
within_limit t = if nat_lt 1024 (length (tuple_text t)) then None else Some t
