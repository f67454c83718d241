-- What an admitted entry leaves of the navigables and documents that were there.
use Rattle.std.proofs.Common.{◌≡◌, ℕ, zero, suc, ◌<◌, List, [], ◌∷◌, Option, Some, None, true, refl, ap, ◌∙◌, arith}
use Rattle.std.specs.Prelude.{unwrap_or}
use Rattle.std.proofs.lemmas.Bool.{ne_eqb}
use Rattle.tree_log.specs.declared.entry.Entry.{Entry}
use Rattle.tree_log.specs.declared.entry.What.{What}
use Rattle.tree_log.specs.declared.entry.What.TheVariants.{Open, Frame}
use Rattle.tree_log.specs.Facts.{at, Making, making}
use Rattle.tree_log.specs.Tree.{Tree, tree_after, embedder, nav_of, chain, chain_from, last_or, root_of, group_of}
use Rattle.tree_log.specs.Admits.{admits}
use Rattle.tree_log.proofs.Admitted.{what_admitted}
use Rattle.agent_laws.specs.Wellness.{IsWell}
use Rattle.agent_laws.proofs.Logs.Entries.{entry, open_next, frame_next}
use Rattle.agent_laws.proofs.Groups.Well.{as_top, as_frame, nav_stays}
use Rattle.agent_laws.proofs.Groups.Choices.{root_below}

abbrev pub group_of_doc : Tree → ℕ → Option ℕ
group_of_doc t d = group_of t (nav_of t d)

pub at_other : {A : Type 0} (n number : ℕ) (x : A) → n < number → at n number x ≡ None
at_other n number x lt = rw (ne_eqb number n (λ e. absurd (omega arith))) refl

made_before : (t : Tree) (by actor : Option ℕ) (w : What) → admits t (entry by actor w) ≡ true → (n : ℕ) → n < t.navs → unwrap_or (making n actor w) (t.nav n).made ≡ (t.nav n).made
made_before t by actor (Open nav doc group home origin name opener flags navigator load) h n lt =
    let next = open_next t by actor nav doc group home origin name opener flags navigator load (what_admitted t (entry by actor (Open nav doc group home origin name opener flags navigator load)) h) in
    let is : nav ≡ t.navs = next.new_nav in
    ap (λ (m : Option Making). unwrap_or m (t.nav n).made) (at_other n nav (as_top actor group flags navigator) (omega arith))
made_before t by actor (Frame nav doc home origin name flags load) h n lt =
    let next = frame_next t by actor nav doc home origin name flags load (what_admitted t (entry by actor (Frame nav doc home origin name flags load)) h) in
    let is : nav ≡ t.navs = next.new_nav in
    ap (λ (m : Option Making). unwrap_or m (t.nav n).made) (at_other n nav (as_frame actor flags) (omega arith))
made_before t by actor w h n lt = refl

pub made_stays : (t : Tree) (e : Entry) → admits t e ≡ true → (n : ℕ) → n < t.navs → ((tree_after t e).nav n).made ≡ (t.nav n).made
unfolding tree_after
made_stays t e h n lt = made_before t e.by e.actor e.what h n lt

-- the navigables above one that was there
pub chain_stays : (t : Tree) (e : Entry) → admits t e ≡ true → IsWell t → (j x : ℕ) → x < t.navs → chain_from (tree_after t e) j x ≡ chain_from t j x
chain_stays t e h well zero x lt = refl
chain_stays t e h well (suc j) x lt =
    ap (λ (xs : List ℕ). x ∷ xs) (ap (λ (o : Option ℕ). elim o as (λ _. List ℕ) [ None ↦ [] | Some d ↦ chain_from (tree_after t e) j (nav_of (tree_after t e) d) ]) (ap (λ (m : Making). m.embedder) (made_stays t e h x lt))
    ∙ above (embedder t x) (λ d is. (well.up x d is).0) (λ d is. chain_stays t e h well j (nav_of t d) (well.below d (well.up x d is).0)))
  where
    above : (o : Option ℕ) → ((d : ℕ) → o ≡ Some d → d < t.docs) → ((d : ℕ) → o ≡ Some d → chain_from (tree_after t e) j (nav_of t d) ≡ chain_from t j (nav_of t d))
        → elim o as (λ _. List ℕ) [ None ↦ [] | Some d ↦ chain_from (tree_after t e) j (nav_of (tree_after t e) d) ] ≡ elim o as (λ _. List ℕ) [ None ↦ [] | Some d ↦ chain_from t j (nav_of t d) ]
    above None k later = refl
    above (Some d) k later = ap (chain_from (tree_after t e) j) (nav_stays t e d h (k d refl)) ∙ later d refl

pub root_stays : (t : Tree) (e : Entry) → admits t e ≡ true → IsWell t → (n : ℕ) → n < t.navs → root_of (tree_after t e) n ≡ root_of t n
unfolding chain
root_stays t e h well n lt = ap (last_or n) (chain_stays t e h well (suc n) n lt)

-- the group of a navigable that was there
pub group_stays : (t : Tree) (e : Entry) → admits t e ≡ true → IsWell t → (n : ℕ) → n < t.navs → group_of (tree_after t e) n ≡ group_of t n
unfolding group_of
group_stays t e h well n lt =
    ap (λ (x : ℕ). ((tree_after t e).nav x).made.group) (root_stays t e h well n lt) ∙ ap (λ (m : Making). m.group) (made_stays t e h (root_of t n) (root_below t well n lt))

pub group_of_doc_stays : (t : Tree) (e : Entry) → admits t e ≡ true → IsWell t → (d : ℕ) → d < t.docs → group_of_doc (tree_after t e) d ≡ group_of_doc t d
group_of_doc_stays t e h well d lt = ap (group_of (tree_after t e)) (nav_stays t e d h lt) ∙ group_stays t e h well (nav_of t d) (well.below d lt)

-- more than enough is enough to reach the top
pub fuel : (t : Tree) → IsWell t → (j i x : ℕ) → x < j → x < i → chain_from t j x ≡ chain_from t i x
fuel t well zero i x a b = absurd (omega arith)
fuel t well (suc j) zero x a b = absurd (omega arith)
fuel t well (suc j) (suc i) x a b = ap (λ (xs : List ℕ). x ∷ xs) (above (embedder t x) (λ d is. let up = well.up x d is in let less : nav_of t d < x = up.1 in fuel t well j i (nav_of t d) (omega arith) (omega arith)))
  where
    above : (o : Option ℕ) → ((d : ℕ) → o ≡ Some d → chain_from t j (nav_of t d) ≡ chain_from t i (nav_of t d))
        → elim o as (λ _. List ℕ) [ None ↦ [] | Some d ↦ chain_from t j (nav_of t d) ] ≡ elim o as (λ _. List ℕ) [ None ↦ [] | Some d ↦ chain_from t i (nav_of t d) ]
    above None later = refl
    above (Some d) later = later d refl

-- the group of a navigable with an embedder is the embedder's
pub group_of_child : (t : Tree) → IsWell t → (n d : ℕ) → embedder t n ≡ Some d → group_of t n ≡ group_of_doc t d
unfolding group_of chain
group_of_child t well n d is =
    let up : nav_of t d < n = (well.up n d is).1 in
    ap (λ (xs : List ℕ). (t.nav (last_or n xs)).made.group)
    (ap (λ (o : Option ℕ). n ∷ elim o as (λ _. List ℕ) [ None ↦ [] | Some x ↦ chain_from t n (nav_of t x) ]) is ∙ ap (λ (xs : List ℕ). n ∷ xs) (fuel t well n (suc (nav_of t d)) (nav_of t d) up (omega arith)))

-- the group of a top-level is its own
pub group_of_top : (t : Tree) (n : ℕ) → embedder t n ≡ None → group_of t n ≡ (t.nav n).made.group
unfolding group_of chain
group_of_top t n is = ap (λ (o : Option ℕ). (t.nav (last_or n (n ∷ elim o as (λ _. List ℕ) [ None ↦ [] | Some x ↦ chain_from t n (nav_of t x) ]))).made.group) is
