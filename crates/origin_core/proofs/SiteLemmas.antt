-- Where the last label begins.
use Rattle.std.proofs.Common.{◌≡◌, ℕ, ◌-◌, ◌<◌, ◌≤◌, ◌∙◌, sym, ap, false, List, length, reverse, get_or, take, subst, zero, suc, ◌+◌, arith}
use Rattle.std.proofs.lemmas.Bool.Decides.{nat_tests}
use Rattle.std.proofs.lemmas.List.{get_or-reverse, length-reverse, length-take-le, get_or-take}
use Rattle.std.proofs.lemmas.List.Sums.{prefix_len_stops, suffix_len-le-length}
use Rattle.std.specs.Str.{IsUtf8, IsCharBoundary}
use Rattle.std.proofs.lemmas.Str.{IsCharBoundary-after_ascii, IsCharBoundary-start}
use Rattle.origin_core.specs.Site.{dot, StartsLabel, is_in_label, last_label_len}

pub last_label_len-le : (host : List ℕ) → last_label_len host ≤ length host
last_label_len-le host = suffix_len-le-length is_in_label host

is_dot : (b : ℕ) → is_in_label b ≡ false → b ≡ dot
is_dot b other = grind (arith, nat_tests)

pub dot_before_label : (host : List ℕ) → last_label_len host < length host → get_or host (length host - last_label_len host - 1) 0 ≡ dot
dot_before_label host short =
    let n = last_label_len host in
    let inside : n < length (reverse host) = rw length-reverse short in
    let stop = prefix_len_stops is_in_label (reverse host) 0 inside in
    let back = get_or-reverse host n 0 short in
    let same : length host - 1 - n ≡ length host - n - 1 = omega arith in
    ap (λ k. get_or host k 0) (sym same) ∙ sym back ∙ is_dot _ stop

-- the last label of a part of the host
pub starts_last_label : (host : List ℕ) (m : ℕ) → m ≤ length host → StartsLabel host (length (take m host) - last_label_len (take m host))
starts_last_label host m inside =
    let front = take m host in
    let len : length front ≡ m = length-take-le m host inside in
    let label = last_label_len front in (
      rw len (omega arith),
      λ more.
          let short : label < length front = omega arith in
          let at : length front - label - 1 < m = rw len (omega (arith, rw len at more)) in
          sym (get_or-take m host _ 0 at) ∙ dot_before_label front short,
    )

-- a text may be cut there
pub label_boundary : (host : List ℕ) (start : ℕ) → IsUtf8 host → StartsLabel host start → IsCharBoundary host start
label_boundary host zero utf8 cut = IsCharBoundary-start host utf8
label_boundary host (suc start) utf8 cut =
    let at : suc start - 1 ≡ start = omega arith in
    let end : start + 1 ≡ suc start = omega arith in
    let here : get_or host start 0 ≡ dot = rw at at (cut.1 (omega arith)) in
    subst (IsCharBoundary host) end (IsCharBoundary-after_ascii host start utf8 (omega (arith, cut.0)) (rw here (omega arith)))
