-- The site of a domain is one label above its public suffix.
use Rattle.std.proofs.Common.{◌≡◌, ℕ, ◌+◌, ◌-◌, ◌<◌, ◌≤◌, ◌⊎◌, Bool, true, false, cond, not, ◌&&◌, ◌||◌, ◌==◌, nat_lt, List, [], ◌∷◌, ◌++◌, length, get_or, take, drop, Some, None, zero, suc, sym, ap, ◌∙◌, subst, refl, inl, inr, ⊎_elim, arith, append_assoc, length-append, length-drop}
use Rattle.std.specs.Prelude.{Contains, option_map, unwrap_or, fold, reverse}
use Rattle.std.specs.List.{list_all}
use Rattle.std.proofs.lemmas.Bool.{cond-true, cond-false, cond_both, cases_lt, cases_Bool, and_parts, and_from}
use Rattle.std.proofs.lemmas.Bool.Decides.{nat_tests, Decides-eqb, eqb_tells}
use Rattle.std.proofs.lemmas.List.{take_more, take-append-le, take-append-drop, drop-append-le, get_or-drop, get_or-reverse}
use Rattle.std.proofs.Math.Seq.{take-length}
use Rattle.std.proofs.lemmas.List.Elements.{All-from_get_or}
use Rattle.std.proofs.lemmas.List.Folds.{list_all_at}
use Rattle.std.proofs.lemmas.List.Sums.{prefix_len_passes, suffix_len_is}
use Rattle.std.proofs.lemmas.Slice.Eq.{ends_is}
use Rattle.url.proofs.InputLemmas.{Passes, list_all_from_All}
use Rattle.origin_core.specs.Site.{dot, is_in_label, last_label_len, has_suffix, longer, listed_len, public_suffix_len, ends_in_dot, is_unregistered, label_start, site_host, StartsLabel, IsLongestListed, HasNoneListed, IsLastLabel, IsPublicSuffix, IsLabelAbove}
use Rattle.origin_core.proofs.SiteLemmas.{last_label_len-le, starts_last_label}
use Rattle.origin_core.proofs.DomainLaw.{IsBelow, below, grows, same_label}

-- ---- the longest listed suffix

takes : (host : List ℕ) (len : ℕ) (suffix : List ℕ) → has_suffix host suffix ≡ true → length suffix ≤ longer host len suffix
takes host len suffix has =
    let P : Bool → Type 0 = λ b. length suffix ≤ cond (b && nat_lt len (length suffix)) (length suffix) len in
    subst P (sym has) (cond_both (nat_lt len (length suffix)) (length suffix) len (λ n. length suffix ≤ n) (λ _. omega arith) (λ no. grind (arith, nat_tests)))

reaches : (host : List ℕ) (len : ℕ) (suffixes : List (List ℕ)) (k : ℕ) (suffix : List ℕ) → k < length suffixes → get_or suffixes k suffix ≡ suffix → has_suffix host suffix ≡ true → length suffix ≤ fold (longer host) len suffixes
reaches host len [] k suffix lt is has = absurd (omega (arith, lt))
reaches host len (first ∷ suffixes) zero suffix lt is has =
    let step : length suffix ≤ longer host len first = subst (λ s. length suffix ≤ longer host len s) (sym is) (takes host len suffix has) in
    omega (arith, step, grows host (longer host len first) suffixes)
reaches host len (first ∷ suffixes) (suc k) suffix lt is has = reaches host (longer host len first) suffixes k suffix (omega (arith, lt)) is has

bounded : (host : List ℕ) (len n : ℕ) (suffixes : List (List ℕ)) → len ≤ n → ((k : ℕ) (other : List ℕ) → k < length suffixes → get_or suffixes k other ≡ other → has_suffix host other ≡ true → length other ≤ n) → fold (longer host) len suffixes ≤ n
bounded host len n [] le all = le
bounded host len n (first ∷ suffixes) le all =
    let step = cond_both (has_suffix host first && nat_lt len (length first)) (length first) len (λ m. m ≤ n) (λ yes. all zero first (omega arith) refl (and_parts (has_suffix host first) (nat_lt len (length first)) yes).0) (λ _. le) in
    bounded host (longer host len first) n suffixes step (λ k other lt is has. all (suc k) other (omega (arith, lt)) is has)

longest_len : (host : List ℕ) (suffixes : List (List ℕ)) (suffix : List ℕ) → IsLongestListed host suffixes suffix → listed_len host suffixes ≡ length suffix
longest_len host suffixes suffix is =
    let low = reaches host 0 suffixes is.listed.0 suffix is.listed.1 is.listed.2 is.had in
    let high = bounded host 0 (length suffix) suffixes (omega arith) (λ k other lt at has. is.longest other (k, lt, at) has) in
    omega (arith, low, high)

none_len : (host : List ℕ) (suffixes : List (List ℕ)) → HasNoneListed host suffixes → listed_len host suffixes ≡ 0
none_len host suffixes none =
    let high = bounded host 0 0 suffixes (omega arith) (λ k other lt at has. omega (arith, ap length (none other (k, lt, at) has))) in
    omega (arith, high)

-- ---- labels

in_label_at : (xs : List ℕ) (k : ℕ) → list_all is_in_label xs ≡ true → k < length xs → is_in_label (get_or xs k 0) ≡ true
in_label_at xs k all lt =
    ⊎_elim
    (λ yes. yes)
    (λ no. let other : true ≡ false = sym all ∙ list_all_at is_in_label xs k 0 lt no in absurd cc)
    (cases_Bool (is_in_label (get_or xs k 0)))

whole_label : (xs : List ℕ) → list_all is_in_label xs ≡ true → last_label_len xs ≡ length xs
whole_label xs all =
    let len : length xs - 0 ≡ length xs = omega arith in
    suffix_len_is is_in_label xs 0 0 (omega arith) (λ k _ lt. in_label_at xs k all lt) (λ lt. absurd (omega (arith, lt))) ∙ len

last_len : (host label : List ℕ) → IsLastLabel host label → last_label_len host ≡ length label
last_len host label is =
    ⊎_elim
    (λ same. ap last_label_len same ∙ whole_label label is.0)
    (λ part. ap last_label_len part.joined ∙ same_label part.front label part.some part.stop ∙ whole_label label is.0)
    (below host label is.1)

suffix_len_of : (host : List ℕ) (suffixes : List (List ℕ)) (suffix : List ℕ) → IsPublicSuffix host suffixes suffix → public_suffix_len host suffixes ≡ length suffix
suffix_len_of host suffixes suffix (inl is) =
    let len = longest_len host suffixes suffix is.0 in
    ⊎_elim
    (λ none. absurd (omega (arith, none.1, len, is.1)))
    (λ other. cond-false _ (last_label_len host) (listed_len host suffixes) other.0 ∙ len)
    (eqb_tells (listed_len host suffixes) 0)
suffix_len_of host suffixes suffix (inr is) =
    let pick : ℕ → ℕ = λ listed. cond (listed == 0) (last_label_len host) listed in
    ap pick (none_len host suffixes is.0) ∙ last_len host suffix is.1

-- the last label has no dot
one_label : (xs : List ℕ) → list_all is_in_label (drop (length xs - last_label_len xs) xs) ≡ true
one_label xs =
    let n = last_label_len xs in
    let le = last_label_len-le xs in
    let start = length xs - n in
    let at : (i : ℕ) → i < length (drop start xs) → Passes is_in_label (get_or (drop start xs) i 0) = λ i lt.
    let len = length-drop start xs in
    let k = n - 1 - i in
    let short : k < length xs = omega (arith, le, lt, len) in
    let back = get_or-reverse xs k 0 short in
    let place : length xs - 1 - k ≡ start + i = omega (arith, le, lt, len) in
    let same : get_or (reverse xs) k 0 ≡ get_or (drop start xs) i 0 = back ∙ ap (λ m. get_or xs m 0) place ∙ sym (get_or-drop start xs i 0) in
    subst (Passes is_in_label) same (prefix_len_passes is_in_label (reverse xs) k 0 (omega (arith, le, lt, len))) in
    list_all_from_All is_in_label (drop start xs) (All-from_get_or (Passes is_in_label) (drop start xs) 0 at)

label_before : (host : List ℕ) (start len : ℕ) → StartsLabel host start → length host - len ≡ start → len ≤ length host → (length host == len || get_or host (length host - len - 1) 0 == dot) ≡ true
label_before host zero len cut from le = grind (arith, nat_tests)
label_before host (suc start) len cut from le =
    let at : get_or host (length host - len - 1) 0 ≡ dot = ap (λ k. get_or host (k - 1) 0) from ∙ cut.1 (omega arith) in
    grind (arith, nat_tests)

-- a part that starts a label is a suffix
label_suffix : (host : List ℕ) (start : ℕ) → StartsLabel host start → has_suffix host (drop start host) ≡ true
label_suffix host start cut =
    let part = drop start host in
    let len = length-drop start host in
    let from : length host - length part ≡ start = omega (arith, len, cut.0) in
    let ends = (ends_is Decides-eqb host part _ refl).1 (take start host) (sym (take-append-drop start host)) in
    and_from _ _ ends (label_before host start (length part) cut from (omega (arith, len)))

above : (host suffix : List ℕ) → IsBelow host suffix → IsLabelAbove host suffix (drop (label_start host (length suffix)) host)
above host suffix part =
    let front = part.front in
    let len = ap length part.joined ∙ length-append front suffix in
    let before = take (length front - 1) front in
    let all : length front - 1 + 1 ≡ length front = omega (arith, part.some) in
    let split : front ≡ before ++ dot ∷ [] = sym (take-length front) ∙ ap (λ k. take k front) (sym all) ∙ take_more front (length front - 1) 0 (omega (arith, part.some)) ∙ ap (λ b. before ++ b ∷ []) part.stop in
    let whole : host ≡ before ++ dot ∷ suffix = part.joined ∙ ap (λ xs. xs ++ suffix) split ∙ append_assoc before (dot ∷ []) suffix in
    let count : length host - length suffix - 1 ≡ length front - 1 = omega (arith, len) in
    let cut : take (length host - length suffix - 1) host ≡ before = ap (λ k. take k host) count ∙ ap (take (length front - 1)) part.joined ∙ take-append-le (length front - 1) front suffix (omega arith) in
    let start = label_start host (length suffix) in
    let from : start ≡ length before - last_label_len before = ap (λ xs. length xs - last_label_len xs) cut in
    record {
      label = drop (length before - last_label_len before) before;
      one = one_label before;
      is = ap (λ k. drop k host) from ∙ ap (drop (length before - last_label_len before)) whole ∙ drop-append-le (length before - last_label_len before) before (dot ∷ suffix) (omega arith);
      ends = label_suffix host start (starts_last_label host (length host - length suffix - 1) (omega arith));
    }

-- ---- each host has a public suffix

-- a listed suffix that the host has, of that length
record IsFound (host : List ℕ) (suffixes : List (List ℕ)) (len : ℕ) : Type 0 where
  suffix : List ℕ
  at : ℕ
  within : at < length suffixes
  is : get_or suffixes at suffix ≡ suffix
  has : has_suffix host suffix ≡ true
  long : len ≡ length suffix

later : (host : List ℕ) (first : List ℕ) (suffixes : List (List ℕ)) (len : ℕ) → IsFound host suffixes len → IsFound host (first ∷ suffixes) len
later host first suffixes len f = record { suffix = f.suffix; at = suc f.at; within = omega (arith, f.within); is = f.is; has = f.has; long = f.long }

found_len : (host : List ℕ) (len : ℕ) (suffixes : List (List ℕ)) → (fold (longer host) len suffixes ≡ len) ⊎ IsFound host suffixes (fold (longer host) len suffixes)
found_len host len [] = inl refl
found_len host len (first ∷ suffixes) =
    let test = has_suffix host first && nat_lt len (length first) in
    let whole = fold (longer host) (longer host len first) suffixes in
    ⊎_elim
    (λ same. ⊎_elim
    (λ yes. inr (record {
      suffix = first;
      at = zero;
      within = omega arith;
      is = refl;
      has = (and_parts (has_suffix host first) (nat_lt len (length first)) yes).0;
      long = same ∙ cond-true test (length first) len yes;
    }))
    (λ no. inl (same ∙ cond-false test (length first) len no))
    (cases_Bool test))
    (λ f. inr (later host first suffixes whole f))
    (found_len host (longer host len first) suffixes)

no_bytes : (xs : List ℕ) → length xs ≤ 0 → xs ≡ []
no_bytes [] le = refl
no_bytes (x ∷ xs) le = absurd (omega (arith, le))

-- nothing longer than the length of the longest is listed
none_longer : (host : List ℕ) (suffixes : List (List ℕ)) (other : List ℕ) → Contains suffixes other → has_suffix host other ≡ true → length other ≤ listed_len host suffixes
none_longer host suffixes other listed has = reaches host 0 suffixes listed.0 other listed.1 listed.2 has

last_label : (host : List ℕ) → (label : List ℕ) × IsLastLabel host label
last_label host =
    let start = length host - last_label_len host in
    let cut : StartsLabel host start = subst (λ xs. StartsLabel host (length xs - last_label_len xs)) (take-length host) (starts_last_label host (length host) (omega arith)) in
    (drop start host, (one_label host, label_suffix host start cut))

of_unlisted : (host : List ℕ) (suffixes : List (List ℕ)) → listed_len host suffixes ≡ 0 → (suffix : List ℕ) × IsPublicSuffix host suffixes suffix
of_unlisted host suffixes zero_len =
    let label = last_label host in
    let none : HasNoneListed host suffixes = λ other listed has. no_bytes other (omega (arith, none_longer host suffixes other listed has, zero_len)) in
    (label.0, inr (none, label.1))

of_listed : (host : List ℕ) (suffixes : List (List ℕ)) → IsFound host suffixes (listed_len host suffixes) → 0 < listed_len host suffixes → (suffix : List ℕ) × IsPublicSuffix host suffixes suffix
of_listed host suffixes f some =
    let longest : IsLongestListed host suffixes f.suffix = record {
      listed = (f.at, f.within, f.is);
      had = f.has;
      longest = λ other in_list has. omega (arith, none_longer host suffixes other in_list has, f.long);
    } in
    (f.suffix, inl (longest, omega (arith, f.long, some)))

pub suffix_of_host : (host : List ℕ) (suffixes : List (List ℕ)) → (suffix : List ℕ) × IsPublicSuffix host suffixes suffix
suffix_of_host host suffixes =
    ⊎_elim
    (λ none. of_unlisted host suffixes none)
    (λ f. ⊎_elim (λ none. of_unlisted host suffixes (omega (arith, none))) (λ some. of_listed host suffixes f some) (cases_lt (listed_len host suffixes) 1))
    (found_len host 0 suffixes)

-- ---- sites

registered : (host : List ℕ) (suffixes : List (List ℕ)) (suffix : List ℕ) → ends_in_dot host ≡ false → IsPublicSuffix host suffixes suffix → length suffix < length host → site_host host false suffixes ≡ drop (label_start host (length suffix)) host
registered host suffixes suffix stop is short =
    let limit : nat_lt (length suffix) (length host) ≡ true = grind (arith, nat_tests) in
    let pick : ℕ → List ℕ = λ n. unwrap_or (option_map (λ start. drop start host) (cond (is_unregistered host false n) None (Some (label_start host n)))) host in
    ap pick (suffix_len_of host suffixes suffix is) ∙ rw (stop, limit) refl

unregistered : (host : List ℕ) (ip : Bool) (suffixes : List (List ℕ)) → is_unregistered host ip (public_suffix_len host suffixes) ≡ true → site_host host ip suffixes ≡ host
unregistered host ip suffixes un =
    let pick : Bool → List ℕ = λ b. unwrap_or (option_map (λ start. drop start host) (cond b None (Some (label_start host (public_suffix_len host suffixes))))) host in
    ap pick un

had : (host : List ℕ) (suffixes : List (List ℕ)) (suffix : List ℕ) → IsPublicSuffix host suffixes suffix → has_suffix host suffix ≡ true
had host suffixes suffix (inl is) = is.0.had
had host suffixes suffix (inr is) = is.1.1

pub site_above : (host : List ℕ) (suffixes : List (List ℕ)) (suffix : List ℕ) → ends_in_dot host ≡ false → IsPublicSuffix host suffixes suffix → (host ≡ suffix → ⊥) → (domain : List ℕ) × (site_host host false suffixes ≡ domain) × IsLabelAbove host suffix domain
site_above host suffixes suffix stop is other =
    ⊎_elim
    (λ same. absurd (other same))
    (λ part.
    let len = ap length part.joined ∙ length-append part.front suffix in
    (drop (label_start host (length suffix)) host, registered host suffixes suffix stop is (omega (arith, len, part.some)), above host suffix part))
    (below host suffix (had host suffixes suffix is))

pub site_itself : (host : List ℕ) (suffixes : List (List ℕ)) → IsPublicSuffix host suffixes host → site_host host false suffixes ≡ host
site_itself host suffixes is =
    let len = suffix_len_of host suffixes host is in
    let limit : nat_lt (public_suffix_len host suffixes) (length host) ≡ false = grind (arith, nat_tests) in
    unregistered host false suffixes (⊎_elim (λ yes. rw yes refl) (λ no i. false || no i || not (limit i)) (cases_Bool (ends_in_dot host)))

pub site_dotted : (host : List ℕ) (ip : Bool) (suffixes : List (List ℕ)) → ends_in_dot host ≡ true → site_host host ip suffixes ≡ host
site_dotted host true suffixes stop = refl
site_dotted host false suffixes stop = unregistered host false suffixes (rw stop refl)

pub site_of_address : (host : List ℕ) (suffixes : List (List ℕ)) → site_host host true suffixes ≡ host
site_of_address host suffixes = refl
