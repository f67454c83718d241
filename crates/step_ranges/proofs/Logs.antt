-- What an admitted log whose entries frames can spell keeps to: its numbers are there, its texts are short, and it isn't too long.
use Rattle.std.proofs.Common.{◌≡◌, ℕ, ◌+◌, ◌<◌, ◌≤◌, List, [], ◌∷◌, ◌++◌, length, length-append, Option, Some, None, Bool, true, false, arith}
use Rattle.std.specs.Prelude.{◌==◌, not, nat_lt, filter, unwrap_or, if◌then◌else◌}
use Rattle.plain_data.specs.DataLimits.{is_short}
use Rattle.origin_core.specs.Origin.{origin_text}
use Rattle.tree_log.specs.declared.entry.Entry.{Entry}
use Rattle.tree_log.specs.declared.entry.What.{What}
use Rattle.tree_log.specs.declared.entry.What.TheVariants.{Open, Frame, Opener}
use Rattle.tree_log.specs.Facts.{says_opener, with_frame, frames_after, navs_after}
use Rattle.tree_log.specs.Tree.{Tree, tree_of, origin_of, is_active, children_of}
use Rattle.tree_log.specs.Urls.{url_of}
use Rattle.tree_log.specs.Admits.{has_if_any, is_next_load, admits_what, admits, AreAdmitted}
use Rattle.tree_log.proofs.Admitted.{both, lt_of, navs_grow, what_admitted, few_of}
use Rattle.agent_laws.specs.Wellness.{IsWell}
use Rattle.agent_laws.proofs.Groups.Choices.{IsBelow}
use Rattle.agent_laws.proofs.Groups.Well.{admitted_well}
use Rattle.exchange_laws.specs.Fit.{AreFit}
use Rattle.step_ranges.proofs.Spelled.{IsPage, names_short, origins_short, pages_spelled}

pub record KeepsLimits (t : Tree) (urls : ℕ → List ℕ) : Type 0 where
  pub well : IsWell t
  pub openers : (n : ℕ) → IsBelow t.navs (t.nav n).opener
  pub names : (n : ℕ) → is_short (t.nav n).name ≡ true
  pub origins : (d : ℕ) → is_short (origin_text (origin_of t d)) ≡ true
  pub pages : (d : ℕ) → IsPage (urls d)
  pub few : (d : ℕ) → length (children_of t d) ≤ 4294967295

-- OPENERS

more_if_any : (n m : ℕ) (o : Option ℕ) → n ≤ m → IsBelow n o → IsBelow m o
more_if_any n m None le h = tt
more_if_any n m (Some k) le h = omega arith

one_if_any : (n : ℕ) (o : Option ℕ) → has_if_any n o ≡ true → IsBelow n o
one_if_any n None h = tt
one_if_any n (Some k) h = lt_of k n h

if_below : (m : ℕ) (b : Bool) (x old : Option ℕ) → IsBelow m x → IsBelow m old → IsBelow m (unwrap_or (if b then Some x else None) old)
if_below m true x old h k = h
if_below m false x old h k = k

opener_at_step : (t : Tree) (by actor : Option ℕ) (n : ℕ) (w : What) → admits_what t by actor w ≡ true → IsBelow t.navs (t.nav n).opener
    → IsBelow (navs_after w t.navs) (unwrap_or (says_opener n w) (t.nav n).opener)
opener_at_step t by actor n (Open nav doc group home origin name opener flags navigator load) h old =
    let seven = both _ (is_next_load (t.docs + 1) load) h in
    let six = both _ (has_if_any t.navs navigator) seven.0 in
    let five = both _ (has_if_any t.navs opener) six.0 in
    if_below (t.navs + 1) (nav == n) opener (t.nav n).opener (more_if_any t.navs (t.navs + 1) opener (omega arith) (one_if_any t.navs opener five.1))
    (more_if_any t.navs (t.navs + 1) (t.nav n).opener (omega arith) old)
opener_at_step t by actor n (Opener nav to) h old =
    let last = both _ (has_if_any t.navs to) h in
    if_below t.navs (nav == n) to (t.nav n).opener (one_if_any t.navs to last.1) old
opener_at_step t by actor n w h old = more_if_any t.navs (navs_after w t.navs) (t.nav n).opener (navs_grow w t.navs) old

-- an opener is there
openers_below : (log : List Entry) (n : ℕ) → AreAdmitted log → IsBelow (tree_of log).navs ((tree_of log).nav n).opener
unfolding tree_of
openers_below [] n all = tt
openers_below (e ∷ older) n all = opener_at_step (tree_of older) e.by e.actor n e.what (what_admitted (tree_of older) e all.0) (openers_below older n all.1)

-- CHILDREN

frame_if : (b : Bool) (nav : ℕ) (xs : List ℕ) → length (if b then xs ++ nav ∷ [] else xs) ≤ length xs + 1
frame_if true nav xs = omega (arith, length-append xs (nav ∷ []))
frame_if false nav xs = omega arith

frames_step : (d : ℕ) (actor : Option ℕ) (w : What) (xs : List ℕ) → length (frames_after d actor w xs) ≤ length xs + 1
frames_step d actor (Frame nav doc home origin name flags load) xs = by_actor actor
  where
    by_actor : (a : Option ℕ) → length (with_frame d a nav xs) ≤ length xs + 1
    by_actor None = omega arith
    by_actor (Some a) = frame_if (a == d) nav xs
frames_step d actor w xs = omega arith

frames_few : (log : List Entry) (d : ℕ) → length ((tree_of log).frames d) ≤ length log
unfolding tree_of
frames_few [] d = omega arith
frames_few (e ∷ older) d = omega (arith, frames_step d e.actor e.what ((tree_of older).frames d), frames_few older d)

-- each entry was admitted to a log that wasn't full
log_limit : (log : List Entry) → AreAdmitted log → length log ≤ 4294967295
unfolding admits
log_limit [] all = omega arith
log_limit (e ∷ older) all =
    let room : (tree_of older).len < 4294967295 = lt_of _ _ (both (nat_lt (tree_of older).len 4294967295) _ all.0).0 in
    omega (arith, (few_of older).len)

filter_few : (test : ℕ → Bool) (xs : List ℕ) → length (filter test xs) ≤ length xs
filter_few test [] = omega arith
filter_few test (x ∷ xs) = by_test (test x) (filter_few test xs)
  where
    by_test : (b : Bool) → length (filter test xs) ≤ length xs → length (if b then x ∷ filter test xs else filter test xs) ≤ length (x ∷ xs)
    by_test true le = omega arith
    by_test false le = omega arith

children_few : (t : Tree) (d : ℕ) → length (children_of t d) ≤ length (t.frames d)
unfolding children_of
children_few t d = by_test (is_active t d)
  where
    by_test : (b : Bool) → length (if b then filter (λ n. not (t.nav n).dropped) (t.frames d) else []) ≤ length (t.frames d)
    by_test true = filter_few (λ n. not (t.nav n).dropped) (t.frames d)
    by_test false = omega arith

-- THE WHOLE

pub limits_kept : (log : List Entry) → AreAdmitted log → AreFit log → KeepsLimits (tree_of log) (url_of log)
limits_kept log all fit = record {
  well = admitted_well log all;
  openers = λ n. openers_below log n all;
  names = λ n. names_short log n fit;
  origins = λ d. origins_short log d fit;
  pages = λ d. pages_spelled log d fit;
  few = λ d. omega (arith, children_few (tree_of log) d, frames_few log d, log_limit log all);
}
