-- The host of a URL is ASCII.
use Rattle.std.proofs.Common.{ℕ, List, [], Option, Some, None, subst}
use Rattle.std.specs.Prelude.{Bool, unwrap_or, MatchOption}
use Rattle.std.specs.Str.{IsAscii}
use Rattle.std.proofs.lemmas.Str.Ascii.{IsAscii-nil}
use Rattle.url.specs.declared.host.Host.{Host}
use Rattle.url.specs.declared.host.Host.TheVariants.{Domain}
use Rattle.url.specs.declared.scheme.SchemeType.{SchemeType}
use Rattle.url.specs.Host.{host_text, IsHostOf}
use Rattle.url.specs.Parts.{kind_of}
use Rattle.url.proofs.HostLemmas.{IsAscii-host_text}
use Rattle.origin_core.specs.Host.{IsHost}

some_host : (kind : SchemeType) (P : Type 0) (o : Option (Host (List ℕ))) → MatchOption o P (IsHostOf kind) → IsAscii (host_text (unwrap_or o (Domain [])))
some_host kind P None h = IsAscii-nil
some_host kind P (Some host) h = IsAscii-host_text kind host h

pub host_is_ascii : (text : List ℕ) (ip : Bool) → IsHost text ip → IsAscii text
host_is_ascii text ip h = subst IsAscii h.3 (some_host (kind_of h.0) _ h.0.host h.1.head.host)
