-- A domain that fits is of the same site as what it fits.
use Rattle.std.proofs.Common.{◌≡◌, ℕ, ◌+◌, ◌-◌, ◌^◌, ◌<◌, ◌≤◌, ◌⊎◌, Bool, true, false, cond, not, ◌&&◌, ◌||◌, ◌==◌, nat_lt, nat_eq, List, [], ◌∷◌, ◌++◌, length, get_or, take, drop, Some, None, All, sym, ap, ◌∙◌, subst, refl, inl, inr, ⊎_elim, arith, append_assoc, length-append, length-drop}
use Rattle.std.specs.Prelude.{Option, option_map, unwrap_or, bytes_eq, fold, reverse, codes, decimal}
use Rattle.std.specs.Int.{IsInRange}
use Rattle.std.specs.List.{ends_with, prefix_len, list_all}
use Rattle.std.specs.Cmp.Lexicographic.{pointwise}
use Rattle.std.proofs.lemmas.Bool.{cond-true, cond-false, cond_both, cases_Bool, cases_lt, and_parts, or_parts, not-false, ne_eqb}
use Rattle.std.proofs.lemmas.Bool.Decides.{nat_tests, Decides-eqb, eqb_tells}
use Rattle.std.proofs.Math.ListN.{get_or-append}
use Rattle.std.proofs.Math.Seq.{drop-append-add, take-append-add}
use Rattle.std.proofs.lemmas.List.{get_or-append-add, get_or-reverse, get_or-take, length-reverse, length-take-le, reverse-append}
use Rattle.std.proofs.lemmas.Slice.Eq.{bytes_eq-Decides, ends_is}
use Rattle.std.proofs.lemmas.List.Elements.{All-weaker}
use Rattle.std.proofs.lemmas.Fmt.{decimal_nonempty}
use Rattle.std.proofs.Math.Seq.{get_or-append_seam}
use Rattle.std.specs.Char.{is_ascii_digit}
use Rattle.std.specs.Net.Addr.{ipv4_octets, ipv6_segments}
use Rattle.std.specs.Net.Text.{dotted_text, hex_groups_text}
use Rattle.url.specs.declared.sets.TheConstants.{FORBIDDEN_DOMAIN}
use Rattle.url.specs.declared.host.Host.{Host}
use Rattle.url.specs.declared.host.Host.TheVariants.{Domain, Ipv4, Ipv6}
use Rattle.url.specs.declared.scheme.SchemeType.TheVariants.{SpecialNotFile}
use Rattle.url.specs.Scheme.{is_special}
use Rattle.url.specs.Host.{host_text, IsHostOf}
use Rattle.url.specs.Ipv4.{ends_in_a_number}
use Rattle.url.specs.Parts.{host_or_empty}
use Rattle.url.proofs.InputLemmas.{IsNot, Passes, rsplit_once_at, list_all_from_All, is_empty_nonempty}
use Rattle.url.proofs.SetLemmas.{All_kept_differs}
use Rattle.url.proofs.HostRoundTrip.{All-decimal}
use Rattle.url.proofs.ValidLemmas.{special_has_authority}
use Rattle.url.proofs.SetterLemmas.{own_host}
use Rattle.origin_core.specs.Host.{is_address, IsHost}
use Rattle.origin_core.specs.Origin.{page_tuple}
use Rattle.origin_core.specs.Tuple.{TupleParts}
use Rattle.origin_core.proofs.HostLaw.{http_kind}
use Rattle.origin_core.proofs.PageHost.{IsWebHost, HasWebHost, page_host}
use Rattle.origin_core.specs.Site.{dot, is_in_label, last_label_len, has_suffix, longer, listed_len, public_suffix_len, is_unregistered, label_start, registrable_domain, site_host, is_value_below, fits, IsDomainOf, own, relaxed}
use Rattle.origin_core.proofs.SiteLemmas.{last_label_len-le}

-- the host ends with a dot and the value
pub record IsBelow (host value : List ℕ) : Type 0 where
  pub front : List ℕ
  pub some : 0 < length front
  pub stop : get_or front (length front - 1) 0 ≡ dot
  pub joined : host ≡ front ++ value

pub below : (host value : List ℕ) → has_suffix host value ≡ true → (host ≡ value) ⊎ IsBelow host value
below host value has =
    let parts = and_parts _ _ has in
    let joined = (ends_is Decides-eqb host value _ refl).0 parts.0 in
    ⊎_elim
    (λ same. let none : length host - length value ≡ 0 = omega (arith, same.1) in inl (joined ∙ ap (λ k. take k host ++ value) none))
    (λ other.
    let len = ap length joined ∙ length-append (take (length host - length value) host) value in
    let taken = length-take-le (length host - length value) host (omega arith) in
    let at = rw other.0 at parts.1 in
    let stop = (Decides-eqb _ _).0 at in
    let inside : length host - length value - 1 < length host - length value = omega (arith, len, taken, other.1) in
    inr (record {
      front = take (length host - length value) host;
      some = omega (arith, len, taken, other.1);
      stop = ap (λ k. get_or (take (length host - length value) host) (k - 1) 0) taken ∙ get_or-take (length host - length value) host _ 0 inside ∙ stop;
      joined = joined;
    }))
    (eqb_tells (length host) (length value))

-- a suffix is no longer than the host
no_longer : (value suffix : List ℕ) → has_suffix value suffix ≡ true → length suffix ≤ length value
no_longer value suffix has =
    let joined = (ends_is Decides-eqb value suffix _ refl).0 (and_parts _ _ has).0 in
    omega (arith, ap length joined ∙ length-append (take (length value - length suffix) value) suffix)

too_long : (value suffix : List ℕ) → length value < length suffix → has_suffix value suffix ≡ false
too_long value suffix long =
    ⊎_elim (λ yes. absurd (omega (arith, no_longer value suffix yes))) (λ no. no) (cases_Bool (has_suffix value suffix))

-- a short suffix of the whole is one of what stands behind its dot
short_suffix : (front value suffix : List ℕ) → 0 < length front → get_or front (length front - 1) 0 ≡ dot → length suffix ≤ length value → has_suffix (front ++ value) suffix ≡ has_suffix value suffix
short_suffix front value suffix some stop short =
    let whole = front ++ value in
    let len = length-append front value in
    let from : length whole - length suffix ≡ length front + (length value - length suffix) = omega (arith, len) in
    let ends : ends_with nat_eq whole suffix ≡ ends_with nat_eq value suffix = ap (λ k. pointwise nat_eq suffix (drop k whole)) from ∙ ap (pointwise nat_eq suffix) (drop-append-add front value (length value - length suffix)) in
    let longer_whole : (length whole == length suffix) ≡ false = ne_eqb (length whole) (length suffix) (λ e. omega (arith, len)) in
    let before : (length whole == length suffix || get_or whole (length whole - length suffix - 1) 0 == dot) ≡ (length value == length suffix || get_or value (length value - length suffix - 1) 0 == dot) = ⊎_elim
    (λ same.
    let at : length whole - length suffix - 1 ≡ length front - 1 = omega (arith, len, same.1) in
    let byte : get_or whole (length whole - length suffix - 1) 0 ≡ dot = ap (λ k. get_or whole k 0) at ∙ get_or-append front value 0 (length front - 1) (omega arith) ∙ stop in
    rw (longer_whole, same.0, byte) refl)
    (λ other.
    let at : length whole - length suffix - 1 ≡ length front + (length value - length suffix - 1) = omega (arith, len, other.1) in
    let byte = ap (λ k. get_or whole k 0) at ∙ get_or-append-add front value (length value - length suffix - 1) 0 in
    rw (longer_whole, other.0, byte) refl)
    (eqb_tells (length value) (length suffix)) in
    λ i. ends i && before i

-- ---- the public suffix

step_grows : (host : List ℕ) (len : ℕ) (suffix : List ℕ) → len ≤ longer host len suffix
step_grows host len suffix =
    cond_both (has_suffix host suffix && nat_lt len (length suffix)) (length suffix) len (λ n. len ≤ n) (λ yes. let more = (and_parts (has_suffix host suffix) (nat_lt len (length suffix)) yes).1 in grind (arith, nat_tests)) (λ _. omega arith)

pub grows : (host : List ℕ) (len : ℕ) (suffixes : List (List ℕ)) → len ≤ fold (longer host) len suffixes
grows host len [] = omega arith
grows host len (suffix ∷ suffixes) = omega (arith, step_grows host len suffix, grows host (longer host len suffix) suffixes)

same_step : (front value : List ℕ) (len : ℕ) (suffix : List ℕ) → 0 < length front → get_or front (length front - 1) 0 ≡ dot → longer (front ++ value) len suffix ≤ length value → longer (front ++ value) len suffix ≡ longer value len suffix
same_step front value len suffix some stop small =
    let pick : Bool → ℕ = λ has. cond (has && nat_lt len (length suffix)) (length suffix) len in
    ⊎_elim
    (λ long.
    let none = ap pick (too_long value suffix long) in
    ⊎_elim
    (λ yes. absurd (let is = cond-true _ (length suffix) len yes in omega (arith, rw is at small)))
    (λ no. cond-false _ (length suffix) len no ∙ sym none)
    (cases_Bool (has_suffix (front ++ value) suffix && nat_lt len (length suffix))))
    (λ short. ap pick (short_suffix front value suffix some stop short))
    (cases_lt (length value) (length suffix))

same_fold : (front value : List ℕ) (len : ℕ) (suffixes : List (List ℕ)) → 0 < length front → get_or front (length front - 1) 0 ≡ dot → fold (longer (front ++ value)) len suffixes ≤ length value → fold (longer (front ++ value)) len suffixes ≡ fold (longer value) len suffixes
same_fold front value len [] some stop small = refl
same_fold front value len (suffix ∷ suffixes) some stop small =
    let next = longer (front ++ value) len suffix in
    let step = same_step front value len suffix some stop (omega (arith, grows (front ++ value) next suffixes)) in
    same_fold front value next suffixes some stop small ∙ ap (λ n. fold (longer value) n suffixes) step

-- ---- labels

stops : (xs ys : List ℕ) → prefix_len is_in_label ys ≡ 0 → prefix_len is_in_label (xs ++ ys) ≡ prefix_len is_in_label xs
stops [] ys none = none
stops (x ∷ xs) ys none = ap (λ n. cond (is_in_label x) (1 + n) 0) (stops xs ys none)

dot_first : (xs : List ℕ) → 0 < length xs → get_or xs 0 0 ≡ dot → prefix_len is_in_label xs ≡ 0
dot_first [] some first = absurd (omega arith)
dot_first (x ∷ xs) some first = cond-false _ _ _ (ap is_in_label first)

pub same_label : (front value : List ℕ) → 0 < length front → get_or front (length front - 1) 0 ≡ dot → last_label_len (front ++ value) ≡ last_label_len value
same_label front value some stop =
    let at : length front - 1 - 0 ≡ length front - 1 = omega arith in
    let first = get_or-reverse front 0 0 some ∙ ap (λ k. get_or front k 0) at ∙ stop in
    ap (prefix_len is_in_label) (reverse-append front value) ∙ stops (reverse value) (reverse front) (dot_first (reverse front) (rw length-reverse some) first)

same_start : (front value : List ℕ) (suffix : ℕ) → 0 < length front → get_or front (length front - 1) 0 ≡ dot → suffix < length value → label_start (front ++ value) suffix ≡ length front + label_start value suffix
same_start front value suffix some stop short =
    let whole = front ++ value in
    let before = take (length value - suffix - 1) value in
    let at : length whole - suffix - 1 ≡ length front + (length value - suffix - 1) = omega (arith, length-append front value) in
    let taken : take (length whole - suffix - 1) whole ≡ front ++ before = ap (λ k. take k whole) at ∙ take-append-add front value (length value - suffix - 1) in
    let label = same_label front before some stop in
    ap (λ xs. length xs - last_label_len xs) taken ∙ ap (λ n. length (front ++ before) - n) label ∙ omega (arith, length-append front before, last_label_len-le before)

-- ---- the registrable domain

-- the suffix is shorter than a text that holds the registrable domain
short_of : (suffix whole value start domain : ℕ) → start ≤ whole - suffix - 1 → domain ≡ whole - start → domain ≤ value → suffix < whole → suffix < value
short_of suffix whole value start domain early len inside within = omega arith

-- the whole has a registrable domain, and the value ends with it
registered : (front value : List ℕ) (ip : Bool) (suffixes : List (List ℕ)) → 0 < length front → get_or front (length front - 1) 0 ≡ dot → is_unregistered (front ++ value) ip (public_suffix_len (front ++ value) suffixes) ≡ false → is_value_below value (registrable_domain (front ++ value) ip suffixes) ≡ true → site_host value ip suffixes ≡ site_host (front ++ value) ip suffixes
registered front value ip suffixes some stop has fit =
    let whole = front ++ value in
    let len = length-append front value in
    let suffix = public_suffix_len whole suffixes in
    let start = label_start whole suffix in
    let reg : registrable_domain whole ip suffixes ≡ Some (drop start whole) = ap (λ b. option_map (λ k. drop k whole) (cond b None (Some start))) has in
    let inside = no_longer value (drop start whole) (sym (ap (is_value_below value) reg) ∙ fit) in
    let limit_whole : nat_lt suffix (length whole) ≡ true = not-false _ (or_parts (ip || get_or whole (length whole - 1) 0 == dot) (not (nat_lt suffix (length whole))) has).1 in
    let within : suffix < length whole = grind (arith, nat_tests) in
    let taken = length-take-le (length whole - suffix - 1) whole (omega arith) in
    let short : suffix < length value = short_of suffix (length whole) (length value) start (length (drop start whole)) (omega (arith, taken)) (length-drop start whole) inside within in
    let listed : listed_len whole suffixes ≤ length value = ⊎_elim (λ none. omega (arith, none.1)) (λ other. let is = cond-false _ (last_label_len whole) (listed_len whole suffixes) other.0 in omega (arith, is, short)) (eqb_tells (listed_len whole suffixes) 0) in
    let lists = same_fold front value 0 suffixes some stop listed in
    let label = same_label front value some stop in
    let same_suffix : suffix ≡ public_suffix_len value suffixes = λ i. cond (lists i == 0) (label i) (lists i) in
    let from = same_start front value suffix some stop short in
    let last : length whole - 1 ≡ length front + (length value - 1) = omega (arith, len, short) in
    let byte : get_or value (length value - 1) 0 ≡ get_or whole (length whole - 1) 0 = sym (ap (λ k. get_or whole k 0) last ∙ get_or-append-add front value (length value - 1) 0) in
    let limit_value : nat_lt suffix (length value) ≡ true = grind (arith, nat_tests) in
    let limit : nat_lt suffix (length value) ≡ nat_lt suffix (length whole) = limit_value ∙ sym limit_whole in
    let also : is_unregistered value ip suffix ≡ false = (λ i. ip || byte i == dot || not (limit i)) ∙ has in
    let at : ℕ → Bool → Option (List ℕ) = λ s b. option_map (λ k. drop k value) (cond b None (Some (label_start value s))) in
    let reg_value : registrable_domain value ip suffixes ≡ Some (drop (label_start value suffix) value) = (λ i. at (sym same_suffix i) (is_unregistered value ip (sym same_suffix i))) ∙ ap (at suffix) also in
    let same : drop start whole ≡ drop (label_start value suffix) value = ap (λ k. drop k whole) from ∙ drop-append-add front value (label_start value suffix) in
    ap (λ d. unwrap_or d value) reg_value ∙ sym same ∙ sym (ap (λ d. unwrap_or d whole) reg)

below_site : (front value : List ℕ) (ip : Bool) (suffixes : List (List ℕ)) → 0 < length front → get_or front (length front - 1) 0 ≡ dot → is_value_below value (registrable_domain (front ++ value) ip suffixes) ≡ true → site_host value ip suffixes ≡ site_host (front ++ value) ip suffixes
below_site front value ip suffixes some stop fit =
    let whole = front ++ value in
    let suffix = public_suffix_len whole suffixes in
    let domain : Bool → Option (List ℕ) = λ b. option_map (λ k. drop k whole) (cond b None (Some (label_start whole suffix))) in
    ⊎_elim
    (λ none. let no : false ≡ true = sym (ap (λ b. is_value_below value (domain b)) none) ∙ fit in absurd cc)
    (λ has. registered front value ip suffixes some stop has fit)
    (cases_Bool (is_unregistered whole ip suffix))

fits_below : (value effective : List ℕ) (ip : Bool) (suffixes : List (List ℕ)) → fits value effective ip suffixes ≡ true → (effective ≡ value) ⊎ (IsBelow effective value × (is_value_below value (registrable_domain effective ip suffixes) ≡ true))
fits_below value effective ip suffixes fit =
    ⊎_elim
    (λ same. inl (sym ((bytes_eq-Decides value effective).0 same)))
    (λ other.
    let parts = and_parts _ _ (rw other at fit) in
    ⊎_elim (λ same. inl same) (λ part. inr (part, parts.1)) (below effective value parts.0))
    (cases_Bool (bytes_eq value effective))

pub fits_site : (value effective : List ℕ) (ip : Bool) (suffixes : List (List ℕ)) → fits value effective ip suffixes ≡ true → site_host value ip suffixes ≡ site_host effective ip suffixes
fits_site value effective ip suffixes fit =
    let P : List ℕ → Type 0 = λ host. is_value_below value (registrable_domain host ip suffixes) ≡ true → site_host value ip suffixes ≡ site_host host ip suffixes in
    ⊎_elim
    (λ same. ap (λ host. site_host host ip suffixes) (sym same))
    (λ part. let b = part.0 in subst P (sym b.joined) (below_site b.front value ip suffixes b.some b.stop) part.1)
    (fits_below value effective ip suffixes fit)

-- ---- domains that were set in several steps

pub domain_site : (host : List ℕ) (ip : Bool) (suffixes : List (List ℕ)) (domain : List ℕ) → IsDomainOf host ip suffixes domain → site_host domain ip suffixes ≡ site_host host ip suffixes
domain_site host ip suffixes domain own = refl
domain_site host ip suffixes domain (relaxed effective value before fit) =
    fits_site value effective ip suffixes fit ∙ domain_site host ip suffixes effective before

joins : (a b c : List ℕ) → (a ≡ b) ⊎ IsBelow a b → (b ≡ c) ⊎ IsBelow b c → (a ≡ c) ⊎ IsBelow a c
joins a b c (inl same) second = subst (λ x. (x ≡ c) ⊎ IsBelow x c) (sym same) second
joins a b c (inr first) (inl same) = subst (λ x. (a ≡ x) ⊎ IsBelow a x) same (inr first)
joins a b c (inr first) (inr second) =
    let front = first.front ++ second.front in
    let len = length-append first.front second.front in
    let some = second.some in
    let last : length front - 1 ≡ length first.front + (length second.front - 1) = omega (arith, len, some) in
    inr (record {
      front = front;
      some = omega (arith, len, some);
      stop = ap (λ k. get_or front k 0) last ∙ get_or-append-add first.front second.front (length second.front - 1) 0 ∙ second.stop;
      joined = first.joined ∙ ap (λ t. first.front ++ t) second.joined ∙ sym (append_assoc first.front second.front c);
    })

domain_below : (host : List ℕ) (ip : Bool) (suffixes : List (List ℕ)) (domain : List ℕ) → IsDomainOf host ip suffixes domain → (host ≡ domain) ⊎ IsBelow host domain
domain_below host ip suffixes domain own = inl refl
domain_below host ip suffixes domain (relaxed effective value before fit) =
    joins host effective value (domain_below host ip suffixes effective before) (⊎_elim (λ same. inl same) (λ part. inr part.0) (fits_below value effective ip suffixes fit))

-- an address keeps its host as its domain
address_domain : (host : List ℕ) (suffixes : List (List ℕ)) (domain : List ℕ) → IsDomainOf host true suffixes domain → host ≡ domain
address_domain host suffixes domain own = refl
address_domain host suffixes domain (relaxed effective value before fit) =
    address_domain host suffixes effective before ∙ ⊎_elim (λ same. same) (λ part. absurd cc) (fits_below value effective true suffixes fit)

-- ---- no domain ends with an address

no_dot : (n : ℕ) → n < 2 ^ 8 → All (IsNot 46) (decimal n)
no_dot n small = All-weaker (IsInRange 48 57) (IsNot 46) (λ b h e. omega (arith, h.0, h.1)) (decimal n) (All-decimal n (omega arith))

all_digits : (n : ℕ) → n < 2 ^ 64 → list_all is_ascii_digit (decimal n) ≡ true
all_digits n small =
    list_all_from_All is_ascii_digit (decimal n)
    (All-weaker (IsInRange 48 57) (Passes is_ascii_digit) (λ b h. grind (arith, nat_tests)) (decimal n) (All-decimal n small))

number_ends : (front : List ℕ) (n : ℕ) → n < 2 ^ 8 → ends_in_a_number (front ++ 46 ∷ decimal n) ≡ true
unfolding ends_in_a_number
number_ends front n small =
    let some = is_empty_nonempty (decimal n) (decimal_nonempty n (omega arith)) in
    rw (rsplit_once_at 46 front (decimal n) (no_dot n small), some, some, all_digits n (omega arith))

-- the text of an IPv4 address, cut at its last dot
dotted : (front : List ℕ) (a b c d : ℕ) → front ++ dotted_text a b c d ≡ (front ++ decimal a ++ codes "." ++ decimal b ++ codes "." ++ decimal c) ++ 46 ∷ decimal d
dotted front a b c d = simp append_assoc

last_byte : (front : List ℕ) (b : ℕ) → get_or (front ++ b ∷ []) (length (front ++ b ∷ []) - 1) 0 ≡ b
last_byte front b =
    let last : length (front ++ b ∷ []) - 1 ≡ length front = omega (arith, length-append front (b ∷ [])) in
    ap (λ k. get_or (front ++ b ∷ []) k 0) last ∙ get_or-append_seam front b [] 0

no_address_below : (domain address : Host (List ℕ)) → IsWebHost domain → IsWebHost address → is_address domain ≡ false → is_address address ≡ true → (front : List ℕ) → host_text domain ≡ front ++ host_text address → ⊥
no_address_below (Ipv4 a) address valid other kind is front joined = absurd cc
no_address_below (Ipv6 a) address valid other kind is front joined = absurd cc
no_address_below (Domain d) (Domain e) valid other kind is front joined = absurd cc
no_address_below (Domain d) (Ipv4 a) valid other kind is front joined =
    let octet : ℕ → ℕ = λ k. get_or (ipv4_octets a) k 0 in
    let number = number_ends (front ++ decimal (octet 0) ++ codes "." ++ decimal (octet 1) ++ codes "." ++ decimal (octet 2)) (octet 3) (other.1 3) in
    let ends = ap ends_in_a_number (joined ∙ dotted front (octet 0) (octet 1) (octet 2) (octet 3)) ∙ number in
    let no : false ≡ true = sym valid.0 ∙ ends in
    absurd cc
no_address_below (Domain d) (Ipv6 a) valid other kind is front joined =
    let inner = front ++ codes "[" ++ hex_groups_text (ipv6_segments a) in
    let whole : d ≡ inner ++ 93 ∷ [] = joined ∙ simp append_assoc in
    let none = All_kept_differs FORBIDDEN_DOMAIN 93 refl d valid.1 in
    let len = ap length whole ∙ length-append inner (93 ∷ []) in
    let last = ap (λ xs. get_or xs (length xs - 1) 0) whole ∙ last_byte inner 93 in
    absurd (none (length d - 1) 0 (omega (arith, len)) last)

no_mixed : (address domain : List ℕ) → HasWebHost address true → HasWebHost domain false → (domain ≡ address) ⊎ IsBelow domain address → ⊥
no_mixed address domain is other (inl same) =
    no_address_below other.0 is.0 other.1 is.1 other.3 is.3 [] (other.2 ∙ same ∙ sym is.2)
no_mixed address domain is other (inr part) =
    no_address_below other.0 is.0 other.1 is.1 other.3 is.3 part.front (other.2 ∙ part.joined ∙ ap (λ t. part.front ++ t) (sym is.2))

pub one_site_of : (suffixes : List (List ℕ)) (domain a b : List ℕ) (a_ip b_ip : Bool) → HasWebHost a a_ip → HasWebHost b b_ip → IsDomainOf a a_ip suffixes domain → IsDomainOf b b_ip suffixes domain → site_host a a_ip suffixes ≡ site_host b b_ip suffixes
one_site_of suffixes domain a b true true is other of_a of_b = sym (domain_site a true suffixes domain of_a) ∙ domain_site b true suffixes domain of_b
one_site_of suffixes domain a b false false is other of_a of_b = sym (domain_site a false suffixes domain of_a) ∙ domain_site b false suffixes domain of_b
one_site_of suffixes domain a b true false is other of_a of_b =
    let P : List ℕ → Type 0 = λ x. (b ≡ x) ⊎ IsBelow b x in
    absurd (no_mixed a b is other (subst P (sym (address_domain a suffixes domain of_a)) (domain_below b false suffixes domain of_b)))
one_site_of suffixes domain a b false true is other of_a of_b =
    let P : List ℕ → Type 0 = λ x. (a ≡ x) ⊎ IsBelow a x in
    absurd (no_mixed b a other is (subst P (sym (address_domain b suffixes domain of_b)) (domain_below a false suffixes domain of_a)))

-- ---- hosts of URLs, and of pages

-- the host of a URL, and that a web URL can have it
web_host : (text : List ℕ) (ip : Bool) (h : IsHost text ip) → IsHostOf SpecialNotFile (host_or_empty h.0)
web_host text ip h =
    let url = h.0 in
    let kind = http_kind url.scheme h.2 in
    subst (λ k. IsHostOf k (host_or_empty url)) kind (own_host url h.1.head (special_has_authority url h.1.head (ap is_special kind)))

from_valid : (host : Host (List ℕ)) → IsHostOf SpecialNotFile host → IsWebHost host
from_valid (Domain domain) valid = (valid.0.named, valid.0.allowed)
from_valid (Ipv4 address) valid = valid
from_valid (Ipv6 address) valid = tt

from_host : (text : List ℕ) (ip : Bool) → IsHost text ip → HasWebHost text ip
from_host text ip h = (host_or_empty h.0, from_valid (host_or_empty h.0) (web_host text ip h), h.3, h.4)

pub one_site : (suffixes : List (List ℕ)) (domain a b : List ℕ) (a_ip b_ip : Bool) → IsHost a a_ip → IsHost b b_ip → IsDomainOf a a_ip suffixes domain → IsDomainOf b b_ip suffixes domain → site_host a a_ip suffixes ≡ site_host b b_ip suffixes
one_site suffixes domain a b a_ip b_ip is other = one_site_of suffixes domain a b a_ip b_ip (from_host a a_ip is) (from_host b b_ip other)

-- documents of two pages' URLs
pub pages_site : (suffixes : List (List ℕ)) (domain one other : List ℕ) (a b : TupleParts) → page_tuple one ≡ Some a → page_tuple other ≡ Some b → IsDomainOf a.host a.ip suffixes domain → IsDomainOf b.host b.ip suffixes domain → site_host a.host a.ip suffixes ≡ site_host b.host b.ip suffixes
pages_site suffixes domain one other a b of_one of_other =
    one_site_of suffixes domain a.host b.host a.ip b.ip (page_host one a of_one) (page_host other b of_other)
