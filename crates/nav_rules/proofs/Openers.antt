-- Familiarity, opener by opener.
use Rattle.std.proofs.Common.{◌≡◌, ℕ, zero, suc, ◌+◌, Option, Some, None, Bool, true, false, ◌||◌, ◌&&◌, refl, ap, ◌∙◌, arith}
use Rattle.tree_log.specs.Tree.{Tree, is_top_level}
use Rattle.coordinator_rules.specs.Navigation.{is_known, is_opener_known, familiar_through}

pub known_at_once : (t : Tree) (k a b : ℕ) → is_known t a b ≡ true → familiar_through t k a b ≡ true
unfolding familiar_through
known_at_once t zero a b known = known
known_at_once t (suc k) a b known = ap (λ x. x || (is_top_level t b && is_opener_known (familiar_through t k a) (t.nav b).opener)) known

pub not_further : (t : Tree) (k a b : ℕ) → k ≡ 0 → is_known t a b ≡ false → familiar_through t k a b ≡ false
unfolding familiar_through
not_further t zero a b none known = known
not_further t (suc k) a b none known = absurd (omega (arith, none))

pub not_a_top : (t : Tree) (k a b : ℕ) → is_known t a b ≡ false → is_top_level t b ≡ false → familiar_through t k a b ≡ false
unfolding familiar_through
not_a_top t zero a b known top = known
not_a_top t (suc k) a b known top = ap (λ x. x || (is_top_level t b && is_opener_known (familiar_through t k a) (t.nav b).opener)) known ∙ ap (λ x. x && is_opener_known (familiar_through t k a) (t.nav b).opener) top

no_opener_of : (test : ℕ → Bool) (o : Option ℕ) (top : Bool) → o ≡ None → (top && is_opener_known test o) ≡ false
no_opener_of test None true is = refl
no_opener_of test None false is = refl
no_opener_of test (Some m) top is = absurd cc

pub no_opener : (t : Tree) (k a b : ℕ) → is_known t a b ≡ false → (t.nav b).opener ≡ None → familiar_through t k a b ≡ false
unfolding familiar_through
no_opener t zero a b known opener = known
no_opener t (suc k) a b known opener = ap (λ x. x || (is_top_level t b && is_opener_known (familiar_through t k a) (t.nav b).opener)) known ∙ no_opener_of (familiar_through t k a) (t.nav b).opener (is_top_level t b) opener

pub by_opener : (t : Tree) (j k a b m : ℕ) → k ≡ j + 1 → is_known t a b ≡ false → is_top_level t b ≡ true → (t.nav b).opener ≡ Some m → familiar_through t k a b ≡ familiar_through t j a m
unfolding familiar_through
by_opener t j zero a b m count known top opener = absurd (omega (arith, count))
by_opener t j (suc k) a b m count known top opener =
    let same : k ≡ j = omega (arith, count) in
    ap (λ x. x || (is_top_level t b && is_opener_known (familiar_through t k a) (t.nav b).opener)) known
    ∙ ap (λ x. x && is_opener_known (familiar_through t k a) (t.nav b).opener) top
    ∙ ap (is_opener_known (familiar_through t k a)) opener
    ∙ ap (λ i. familiar_through t i a m) same
