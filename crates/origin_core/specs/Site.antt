-- Sites, by a list of public suffixes (HTML Standard, section 7.1.1.1, "obtain a site"; URL
-- Standard, section 3.2, "registrable domain").
use Rattle.std.specs.Prelude.{◌≡◌, ℕ, ◌-◌, ◌<◌, ◌≤◌, Bool, true, false, not, ◌&&◌, ◌||◌, ◌==◌, nat_eq, nat_lt, bytes_eq, ◌⊎◌, List, [], ◌∷◌, ◌++◌, Contains, length, codes, refl, take, drop, fold, slice_index, Option, Some, None, option_map, unwrap_or, if◌then◌else◌}
use Rattle.std.specs.List.{ends_with, suffix_len, list_all}
use Rattle.origin_core.specs.declared.origin.Origin.{Origin}
use Rattle.origin_core.specs.declared.origin.Origin.TheVariants.{Tuple, Opaque}
use Rattle.origin_core.specs.declared.site.Site.{Site}
use Rattle.origin_core.specs.declared.site.Site.TheVariants as of

abbrev pub dot : ℕ
dot = 46

abbrev pub is_in_label : ℕ → Bool
is_in_label b = not (b == dot)

-- the length of the last label
abbrev pub last_label_len : List ℕ → ℕ
last_label_len host = suffix_len is_in_label host

-- the host is the suffix, or ends with a dot and it
abbrev pub has_suffix : List ℕ → List ℕ → Bool
has_suffix host suffix =
    ends_with nat_eq host suffix
    && (length host == length suffix || slice_index host (length host - length suffix - 1) == dot)

-- the longer of a length and a suffix that the host has
abbrev pub longer : List ℕ → ℕ → List ℕ → ℕ
longer host len suffix = if has_suffix host suffix && nat_lt len (length suffix) then length suffix else len

-- the length of the longest listed suffix, or 0
abbrev pub listed_len : List ℕ → List (List ℕ) → ℕ
listed_len host suffixes = fold (longer host) 0 suffixes

-- the length of the public suffix: where none is listed, the last label
abbrev pub public_suffix_len : List ℕ → List (List ℕ) → ℕ
public_suffix_len host suffixes =
    let listed = listed_len host suffixes in
    if listed == 0 then last_label_len host else listed

abbrev pub ends_in_dot : List ℕ → Bool
ends_in_dot host = slice_index host (length host - 1) == dot

-- the host is an address, ends in a dot, or is a suffix itself
abbrev pub is_unregistered : List ℕ → Bool → ℕ → Bool
is_unregistered host ip suffix = ip || ends_in_dot host || not (nat_lt suffix (length host))

-- where the last label begins in what stands before the suffix and its dot
abbrev pub label_start : List ℕ → ℕ → ℕ
label_start host suffix =
    let front = take (length host - suffix - 1) host in length front - last_label_len front

-- where the registrable domain begins in the host
abbrev pub registrable_start : List ℕ → Bool → List (List ℕ) → Option ℕ
registrable_start host ip suffixes =
    let suffix = public_suffix_len host suffixes in
    if is_unregistered host ip suffix then None else Some (label_start host suffix)

-- the public suffix with one label before it
abbrev pub registrable_domain : List ℕ → Bool → List (List ℕ) → Option (List ℕ)
registrable_domain host ip suffixes =
    option_map (λ start. drop start host) (registrable_start host ip suffixes)

-- the registrable domain, or the host where there is none
abbrev pub site_host : List ℕ → Bool → List (List ℕ) → List ℕ
site_host host ip suffixes = unwrap_or (registrable_domain host ip suffixes) host

-- the index is the start of a text, or comes after a dot
abbrev pub StartsLabel : List ℕ → ℕ → Type 0
StartsLabel host start = (start ≤ length host) × (0 < start → slice_index host (start - 1) ≡ dot)

abbrev pub site_of : Origin → List (List ℕ) → Site
site_of (Tuple t) suffixes = of.Named t.scheme (site_host t.host t.ip suffixes)
site_of (Opaque n) suffixes = of.Opaque n

pub longest_suffix : site_host (codes "x.a.co.test") false (codes "test" ∷ codes "co.test" ∷ []) ≡ codes "a.co.test"
longest_suffix = refl

pub suffix_itself : site_host (codes "co.test") false (codes "test" ∷ codes "co.test" ∷ []) ≡ codes "co.test"
suffix_itself = refl

pub address_site : site_host (codes "127.0.0.1") true [] ≡ codes "127.0.0.1"
address_site = refl

-- ---- public suffixes in words (URL Standard, section 3.2)

-- one of the listed suffixes, which the host has, and no longer one
pub record IsLongestListed (host : List ℕ) (suffixes : List (List ℕ)) (suffix : List ℕ) : Type 0 where
  pub listed : Contains suffixes suffix
  pub had : has_suffix host suffix ≡ true
  pub longest : (other : List ℕ) → Contains suffixes other → has_suffix host other ≡ true → length other ≤ length suffix

abbrev pub HasNoneListed : List ℕ → List (List ℕ) → Type 0
HasNoneListed host suffixes = (other : List ℕ) → Contains suffixes other → has_suffix host other ≡ true → other ≡ []

abbrev pub IsLastLabel : List ℕ → List ℕ → Type 0
IsLastLabel host label = (list_all is_in_label label ≡ true) × (has_suffix host label ≡ true)

-- the public suffix of a host: the longest listed, or the last label where none is listed
abbrev pub IsPublicSuffix : List ℕ → List (List ℕ) → List ℕ → Type 0
IsPublicSuffix host suffixes suffix =
    (IsLongestListed host suffixes suffix × (0 < length suffix)) ⊎ (HasNoneListed host suffixes × IsLastLabel host suffix)

-- the domain is one label, a dot and the suffix, and the host is it or ends with a dot and it
pub record IsLabelAbove (host suffix domain : List ℕ) : Type 0 where
  pub label : List ℕ
  pub one : list_all is_in_label label ≡ true
  pub is : domain ≡ label ++ dot ∷ suffix
  pub ends : has_suffix host domain ≡ true

-- ---- domains of documents (HTML Standard, section 7.1.1.2, "relaxing the same-origin restriction")

abbrev pub is_value_below : List ℕ → Option (List ℕ) → Bool
is_value_below value None = false
is_value_below value (Some domain) = has_suffix value domain

-- A document may have this value as its domain where it equals the effective domain, or where
-- that ends with a dot and the value, has a registrable domain, and the value is it or ends with
-- a dot and it.
abbrev pub fits : List ℕ → List ℕ → Bool → List (List ℕ) → Bool
fits value effective ip suffixes =
    bytes_eq value effective
    || (has_suffix effective value && is_value_below value (registrable_domain effective ip suffixes))

pub parent_fits : fits (codes "a.test") (codes "x.a.test") false [] ≡ true
parent_fits = refl

pub suffix_fits_not : fits (codes "test") (codes "x.a.test") false [] ≡ false
suffix_fits_not = refl

-- a document with this host can have come to this domain, step by step
pub data IsDomainOf (host : List ℕ) (ip : Bool) (suffixes : List (List ℕ)) : List ℕ → Type 0 where
  own : IsDomainOf host ip suffixes host
  relaxed : (effective value : List ℕ) → IsDomainOf host ip suffixes effective → fits value effective ip suffixes ≡ true → IsDomainOf host ip suffixes value
