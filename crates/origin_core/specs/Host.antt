-- Hosts of http and https URLs, after the URL Standard, section 3.
use Rattle.std.specs.Prelude.{◌≡◌, ℕ, Bool, true, false, ◌&&◌, List, ◌++◌, codes, bytes_eq, Option, Some, None, Ok, Err, if◌then◌else◌}
use Rattle.url.specs.declared.host.Host.{Host}
use Rattle.url.specs.declared.host.Host.TheVariants.{Domain, Ipv4, Ipv6}
use Rattle.url.specs.Host.{host_text}
use Rattle.url.specs.Origin.{is_http}
use Rattle.url.specs.Parts.{Parts, host_or_empty, IsValid}
use Rattle.url.specs.Parser.{Parsed, parse_url}

-- the host is an IP address
abbrev pub is_address : Host (List ℕ) → Bool
is_address (Domain domain) = false
is_address (Ipv4 address) = true
is_address (Ipv6 address) = true

-- some http or https URL has the text as its host
abbrev pub IsHost : List ℕ → Bool → Type 0
IsHost text ip =
    (url : Parts) × IsValid url × (is_http url.scheme ≡ true)
    × (host_text (host_or_empty url) ≡ text) × (is_address (host_or_empty url) ≡ ip)

-- the text is the host of this URL, and then whether it is an address
abbrev pub spelled_host : List ℕ → Parts → Option Bool
spelled_host text url =
    if is_http url.scheme && bytes_eq (host_text (host_or_empty url)) text
    then Some (is_address (host_or_empty url)) else None

abbrev pub parsed_host : List ℕ → Parsed Parts → Option Bool
parsed_host text (Ok url) = spelled_host text url
parsed_host text (Err e) = None

-- whether the text, put as the host of an https URL, is that URL's host unchanged, and then
-- whether it is an address
abbrev pub host_kind : List ℕ → Option Bool
host_kind text = parsed_host text (parse_url None (codes "https://" ++ text ++ codes "/"))
