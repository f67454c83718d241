-- On an admitted log each entry is told by the homes of the whole log, since a home never changes.
use Rattle.std.proofs.Common.{◌≡◌, ℕ, ◌+◌, ◌<◌, ◌≤◌, List, [], ◌∷◌, map, Option, Some, None, Bool, true, refl, sym, ap, subst, ◌∙◌, arith}
use Rattle.std.specs.Prelude.{◌==◌, not, nat_lt, codes, if◌then◌else◌}
use Rattle.origin_core.specs.Origin.{blank_text}
use Rattle.tree_log.specs.declared.entry.Entry.{Entry}
use Rattle.tree_log.specs.declared.entry.Load.{Load}
use Rattle.tree_log.specs.declared.entry.What.{What}
use Rattle.tree_log.specs.declared.entry.What.TheVariants.{Open, Frame, Begin, Fragment, Post, Fire, Lapse}
use Rattle.tree_log.specs.Facts.{Birth, loads_of, docs_after}
use Rattle.tree_log.specs.Tree.{Tree, tree_of, tree_of_step}
use Rattle.tree_log.specs.Admits.{has, is_next, is_next_load, admits_what, AreAdmitted}
use Rattle.tree_log.specs.Blanking.{blank, blank_load, hidden, is_homed}
use Rattle.tree_log.proofs.Admitted.{both, lt_of, eq_of, what_admitted, docs_at_step, docs_grow, born_stays}
use Rattle.coordinator_rules.specs.Told.{told_log}
use Rattle.told_replies.specs.Within.{IsLoadWithin, IsWithin}

-- WHAT AN ENTRY NAMES IS THERE

next_is : (count number : ℕ) → is_next count number ≡ true → number ≡ count
next_is count number h = eq_of number count (both (number == count) (nat_lt number 4294967295) h).0

load_here : (count : ℕ) (load : Option Load) → is_next_load (count + 1) load ≡ true → IsLoadWithin (count + (1 + loads_of load)) load
load_here count None h = tt
load_here count (Some load) h = let is : load.doc ≡ count + 1 = next_is (count + 1) load.doc h in omega arith

within_here : (t : Tree) (by actor : Option ℕ) (w : What) → admits_what t by actor w ≡ true → IsWithin (docs_after w t.docs) w
within_here t by actor (Open nav doc group home origin name opener flags navigator load) h = load_here t.docs load (both _ (is_next_load (t.docs + 1) load) h).1
within_here t by actor (Frame nav doc home origin name flags load) h = load_here t.docs load (both _ (is_next_load (t.docs + 1) load) h).1
within_here t by actor (Begin nav load) h = let is : load.doc ≡ t.docs = next_is t.docs load.doc (both _ (is_next t.docs load.doc) h).1 in omega arith
within_here t by actor (Fragment nav doc url) h = lt_of doc t.docs (both _ (has t.docs doc) h).1
within_here t by actor (Post to from origin target body) h = lt_of to t.docs (both _ (has t.docs to) (both _ (has t.navs from) h).0).1
within_here t by actor (Fire doc post) h = lt_of doc t.docs (both _ (has t.docs doc) h).1
within_here t by actor (Lapse doc post cause) h = lt_of doc t.docs (both _ (has t.docs doc) h).1
within_here t by actor w h = tt

load_later : (m n : ℕ) → m ≤ n → (load : Option Load) → IsLoadWithin m load → IsLoadWithin n load
load_later m n le None h = tt
load_later m n le (Some load) h = omega arith

within_later : (m n : ℕ) → m ≤ n → (w : What) → IsWithin m w → IsWithin n w
within_later m n le (Open nav doc group home origin name opener flags navigator load) h = load_later m n le load h
within_later m n le (Frame nav doc home origin name flags load) h = load_later m n le load h
within_later m n le (Begin nav load) h = omega arith
within_later m n le (Fragment nav doc url) h = omega arith
within_later m n le (Post to from origin target body) h = omega arith
within_later m n le (Fire doc post) h = omega arith
within_later m n le (Lapse doc post cause) h = omega arith
within_later m n le w h = tt

-- of each entry
abbrev pub AllWithin : ℕ → List Entry → Type 0
AllWithin docs [] = Unit {0}
AllWithin docs (e ∷ older) = IsWithin docs e.what × AllWithin docs older

all_later : (m n : ℕ) → m ≤ n → (log : List Entry) → AllWithin m log → AllWithin n log
all_later m n le [] h = tt
all_later m n le (e ∷ older) h = (within_later m n le e.what h.0, all_later m n le older h.1)

pub all_within : (log : List Entry) → AreAdmitted log → AllWithin (tree_of log).docs log
all_within [] h = tt
all_within (e ∷ older) h =
    let docs : (tree_of (e ∷ older)).docs ≡ docs_after e.what (tree_of older).docs = ap (λ (t : Tree). t.docs) (tree_of_step e older) ∙ docs_at_step (tree_of older) e in
    let more : (tree_of older).docs ≤ (tree_of (e ∷ older)).docs = omega (arith, docs_grow e.what (tree_of older).docs) in (
      subst (λ (n : ℕ). IsWithin n e.what) (sym docs) (within_here (tree_of older) e.by e.actor e.what (what_admitted (tree_of older) e h.0)),
      all_later (tree_of older).docs (tree_of (e ∷ older)).docs more older (all_within older h.1),
    )

-- WHAT IS KEPT AMONG THEM DECIDES HOW IT IS TOLD

module _ (kept known : ℕ → Bool) (docs : ℕ) (agree : (d : ℕ) → d < docs → kept d ≡ known d) where
  load_agrees : (load : Load) → load.doc < docs → blank_load kept load ≡ blank_load known load
  load_agrees load lt = ap (λ (b : Bool). record load { url = if b then load.url else blank_text load.origin }) (agree load.doc lt)

  what_agrees : (by actor : Option ℕ) (w : What) → IsWithin docs w → blank kept (record { by = by; actor = actor; what = w }) ≡ blank known (record { by = by; actor = actor; what = w })
  what_agrees by actor (Open nav doc group home origin name opener flags navigator None) h = refl
  what_agrees by actor (Open nav doc group home origin name opener flags navigator (Some load)) h =
      ap (λ (l : Load). record { by = by; actor = actor; what = Open nav doc group home origin name opener flags navigator (Some l) }) (load_agrees load h)
  what_agrees by actor (Frame nav doc home origin name flags None) h = refl
  what_agrees by actor (Frame nav doc home origin name flags (Some load)) h =
      ap (λ (l : Load). record { by = by; actor = actor; what = Frame nav doc home origin name flags (Some l) }) (load_agrees load h)
  what_agrees by actor (Begin nav load) h = ap (λ (l : Load). record { by = by; actor = actor; what = Begin nav l }) (load_agrees load h)
  what_agrees by actor (Fragment nav doc url) h = ap (λ (b : Bool). record { by = by; actor = actor; what = Fragment nav doc (if b then url else codes "about:blank") }) (agree doc h)
  what_agrees by actor (Post to from origin target body) h = ap (λ (b : Bool). if not b then hidden else record { by = by; actor = actor; what = Post to from origin target body }) (agree to h)
  what_agrees by actor (Fire doc post) h = ap (λ (b : Bool). if not b then hidden else record { by = by; actor = actor; what = Fire doc post }) (agree doc h)
  what_agrees by actor (Lapse doc post cause) h = ap (λ (b : Bool). if not b then hidden else record { by = by; actor = actor; what = Lapse doc post cause }) (agree doc h)
  what_agrees by actor w h = refl

  all_agree : (log : List Entry) → AllWithin docs log → map (blank kept) log ≡ map (blank known) log
  all_agree [] h = refl
  all_agree (e ∷ older) h =
      ap (λ (x : Entry). x ∷ map (blank kept) older) (what_agrees e.by e.actor e.what h.0)
      ∙ ap (λ (es : List Entry). blank known e ∷ es) (all_agree older h.1)

-- A HOME NEVER CHANGES

homed_on : (r : ℕ) (e : Entry) (older : List Entry) → AreAdmitted (e ∷ older) → (d : ℕ) → d < (tree_of older).docs → is_homed (tree_of older) r d ≡ is_homed (tree_of (e ∷ older)) r d
homed_on r e older h d lt =
    ap (λ (b : Birth). b.home == r) (sym (born_stays (tree_of older) e d h.0 lt))
    ∙ ap (λ (t : Tree). is_homed t r d) (sym (tree_of_step e older))

-- the entries as the homes on the whole log tell them
pub told_by_homes : (r : ℕ) (log : List Entry) → AreAdmitted log → told_log r log ≡ map (blank (is_homed (tree_of log) r)) log
told_by_homes r [] h = refl
told_by_homes r (e ∷ older) h =
    ap (λ (es : List Entry). blank (is_homed (tree_of (e ∷ older)) r) e ∷ es)
    (told_by_homes r older h.1
    ∙ all_agree (is_homed (tree_of older) r) (is_homed (tree_of (e ∷ older)) r) (tree_of older).docs (homed_on r e older h) older (all_within older h.1))
