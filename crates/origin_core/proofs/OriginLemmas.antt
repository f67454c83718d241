-- Reading the origin of a URL from its parts.
use Rattle.std.proofs.Common.{◌≡◌, ℕ, Bool, false, not, List, [], Some, None, refl}
use Rattle.std.proofs.lemmas.Bool.{cond_both}
use Rattle.std.specs.Prelude.{Option, unwrap_or, if◌then◌else◌}
use Rattle.url.specs.declared.host.Host.{Host}
use Rattle.url.specs.declared.host.Host.TheVariants.{Domain, Ipv4, Ipv6}
use Rattle.url.specs.Host.{is_empty_host}
use Rattle.url.specs.Parts.{Parts, host_or_empty, nonempty_host}
use Rattle.origin_core.specs.Host.{is_address}

abbrev pub has_address : Option (Host (List ℕ)) → Bool
has_address None = false
has_address (Some host) = is_address host

address_cases : (host : Option (Host (List ℕ))) → has_address (if not (is_empty_host (unwrap_or host (Domain []))) then host else None) ≡ is_address (unwrap_or host (Domain []))
address_cases None = refl
address_cases (Some (Domain domain)) =
    cond_both _ (Some (Domain domain)) None (λ o. has_address o ≡ false) (λ _. refl) (λ _. refl)
address_cases (Some (Ipv4 address)) = refl
address_cases (Some (Ipv6 address)) = refl

pub address_of : (url : Parts) → has_address (nonempty_host url) ≡ is_address (host_or_empty url)
address_of url = address_cases url.host
