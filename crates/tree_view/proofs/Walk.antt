-- A walk up the tree, step by step.
use Rattle.std.proofs.Common.{◌≡◌, ℕ, zero, suc, ◌<◌, List, [], ◌∷◌, Option, Some, None, Bool, true, false, ◌||◌, refl, ap, sym, ◌∙◌, arith, ◌≢◌, eq-eqb, ne_eqb}
use Rattle.std.specs.List.{list_any}
use Rattle.tree_log.specs.Tree.{Tree, embedder, nav_of, chain_from, chain, is_cut, is_shown, is_discarded, last_or, root_of}
use Rattle.tree_view.specs.Ordered.{IsOrdered}

-- the chain above an embedder
abbrev rest : Tree → ℕ → Option ℕ → List ℕ
rest t k None = []
rest t k (Some d) = chain_from t k (nav_of t d)

unfold_chain : (t : Tree) (k n : ℕ) (e : Option ℕ) → n ∷ elim e [ None ↦ [] | Some d ↦ chain_from t k (nav_of t d) ] ≡ n ∷ rest t k e
unfold_chain t k n None = refl
unfold_chain t k n (Some d) = refl

step_rest : (t : Tree) (j k : ℕ) (e : Option ℕ) → ((d : ℕ) → e ≡ Some d → chain_from t j (nav_of t d) ≡ chain_from t k (nav_of t d)) → rest t j e ≡ rest t k e
step_rest t j k None h = refl
step_rest t j k (Some d) h = h d refl

-- how far a chain may go doesn't matter once it is further than the number
same_chain : (t : Tree) → IsOrdered t → (j k n : ℕ) → n < j → n < k → n < t.navs → chain_from t j n ≡ chain_from t k n
same_chain t ordered zero k n hj hk h = absurd (omega arith)
same_chain t ordered (suc j) zero n hj hk h = absurd (omega arith)
same_chain t ordered (suc j) (suc k) n hj hk h =
    unfold_chain t j n (embedder t n)
    ∙ ap (λ r. n ∷ r) (step_rest t j k (embedder t n) (λ d is. let below : nav_of t d < n = ordered n d h is in same_chain t ordered j k (nav_of t d) (omega arith) (omega arith) (omega arith)))
    ∙ sym (unfold_chain t k n (embedder t n))

abbrev pub chain_above : Tree → Option ℕ → List ℕ
chain_above t None = []
chain_above t (Some d) = chain t (nav_of t d)

above : (t : Tree) (n : ℕ) → IsOrdered t → n < t.navs → (e : Option ℕ) → ((d : ℕ) → e ≡ Some d → nav_of t d < n) → rest t n e ≡ chain_above t e
unfolding chain
above t n ordered h None low = refl
above t n ordered h (Some d) low = let lt : nav_of t d < n = low d refl in same_chain t ordered n (suc (nav_of t d)) (nav_of t d) lt (omega arith) (omega arith)

-- the chain of n is n and the chain above it
pub chain_step : (t : Tree) (n : ℕ) → IsOrdered t → n < t.navs → chain t n ≡ n ∷ chain_above t (embedder t n)
unfolding chain
chain_step t n ordered h = unfold_chain t n n (embedder t n) ∙ ap (λ r. n ∷ r) (above t n ordered h (embedder t n) (λ d is. ordered n d h is))

-- whether what embeds n was discarded
abbrev pub gone_above : Tree → Option ℕ → Bool
gone_above t None = false
gone_above t (Some d) = is_discarded t (nav_of t d)

over : (t : Tree) (e : Option ℕ) → list_any (is_cut t) (chain_above t e) ≡ gone_above t e
unfolding is_discarded
over t None = refl
over t (Some d) = refl

pub discarded_step : (t : Tree) (n : ℕ) → IsOrdered t → n < t.navs → is_discarded t n ≡ is_cut t n || gone_above t (embedder t n)
unfolding is_discarded
discarded_step t n ordered h = ap (list_any (is_cut t)) (chain_step t n ordered h) ∙ ap (λ b. is_cut t n || b) (over t (embedder t n))

pub stops_ended : (t : Tree) (n : ℕ) → IsOrdered t → n < t.navs → ((t.nav n).dropped || (t.nav n).gone) ≡ true → is_discarded t n ≡ true
stops_ended t n ordered h ended = discarded_step t n ordered h ∙ rw ended refl

pub stops_top : (t : Tree) (n : ℕ) → IsOrdered t → n < t.navs → ((t.nav n).dropped || (t.nav n).gone) ≡ false → embedder t n ≡ None → is_discarded t n ≡ false
stops_top t n ordered h ended top = discarded_step t n ordered h ∙ rw (ended, top) refl

pub stops_replaced : (t : Tree) (n d home : ℕ) → IsOrdered t → n < t.navs → ((t.nav n).dropped || (t.nav n).gone) ≡ false → embedder t n ≡ Some d → nav_of t d ≡ home → (t.nav home).active ≢ d
    → is_discarded t n ≡ true
stops_replaced t n d home ordered h ended by at gone =
    let away : is_shown t d ≡ false = rw at (ne_eqb _ _ gone) in
    discarded_step t n ordered h ∙ rw (ended, by, away) refl

pub goes_up : (t : Tree) (n d home : ℕ) → IsOrdered t → n < t.navs → ((t.nav n).dropped || (t.nav n).gone) ≡ false → embedder t n ≡ Some d → nav_of t d ≡ home → (t.nav home).active ≡ d
    → is_discarded t n ≡ is_discarded t home
goes_up t n d home ordered h ended by at there =
    let stays : is_shown t d ≡ true = rw at (eq-eqb _ _ there) in
    discarded_step t n ordered h ∙ rw (ended, by, stays) (ap (is_discarded t) at)

abbrev last_above : Tree → ℕ → Option ℕ → ℕ
last_above t n None = n
last_above t n (Some d) = root_of t (nav_of t d)

last_over : (t : Tree) (n : ℕ) → IsOrdered t → n < t.navs → (e : Option ℕ) → ((d : ℕ) → e ≡ Some d → nav_of t d < t.navs) → last_or n (chain_above t e) ≡ last_above t n e
last_over t n ordered h None there = refl
last_over t n ordered h (Some d) there =
    let step : chain t (nav_of t d) ≡ nav_of t d ∷ chain_above t (embedder t (nav_of t d)) = chain_step t (nav_of t d) ordered (there d refl) in
    ap (last_or n) step ∙ sym (ap (last_or (nav_of t d)) step)

root_step : (t : Tree) (n : ℕ) → IsOrdered t → n < t.navs → root_of t n ≡ last_above t n (embedder t n)
root_step t n ordered h =
    ap (last_or n) (chain_step t n ordered h) ∙ last_over t n ordered h (embedder t n) (λ d is. let low : nav_of t d < n = ordered n d h is in omega arith)

pub root_here : (t : Tree) (n : ℕ) → IsOrdered t → n < t.navs → embedder t n ≡ None → root_of t n ≡ n
root_here t n ordered h top = root_step t n ordered h ∙ rw top refl

pub root_up : (t : Tree) (n d home : ℕ) → IsOrdered t → n < t.navs → embedder t n ≡ Some d → nav_of t d ≡ home → root_of t n ≡ root_of t home
root_up t n d home ordered h by at = root_step t n ordered h ∙ rw by (ap (root_of t) at)
