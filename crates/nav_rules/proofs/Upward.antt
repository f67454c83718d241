-- Ancestors, by parents.
use Rattle.std.proofs.Common.{◌≡◌, ℕ, ◌<◌, [], ◌∷◌, Option, Some, None, Bool, true, false, cond, ◌||◌, refl, ap, sym, ◌∙◌, arith, subst}
use Rattle.std.specs.List.{list_any}
use Rattle.tree_log.specs.Tree.{Tree, embedder, nav_of, chain, is_cut, is_discarded, parent_of, ancestors, rest_of}
use Rattle.tree_view.specs.Ordered.{IsOrdered}
use Rattle.tree_view.proofs.Walk.{chain_above, chain_step, gone_above, discarded_step}
use Rattle.nav_rules.specs.Walks.{nav_if_any, above}

same_nav : (t : Tree) (e : Option ℕ) → elim e [ None ↦ None | Some d ↦ Some (nav_of t d) ] ≡ nav_if_any t e
same_nav t None = refl
same_nav t (Some d) = refl

parent_is : (t : Tree) (n : ℕ) → parent_of t n ≡ cond (is_discarded t n) None (above t n)
unfolding parent_of
parent_is t n = ap (λ p. cond (is_discarded t n) None p) (same_nav t (embedder t n))

ancestors_are : (t : Tree) (n : ℕ) → ancestors t n ≡ cond (is_discarded t n) [] (rest_of (chain t n))
unfolding ancestors
ancestors_are t n = refl

or_false : (a b : Bool) → (a || b) ≡ false → b ≡ false
or_false true b h = absurd cc
or_false false b h = h

-- whether what embeds a navigable that is kept is kept
pub kept_above : (t : Tree) (n m : ℕ) → IsOrdered t → n < t.navs → above t n ≡ Some m → is_discarded t n ≡ false → is_discarded t m ≡ false
kept_above t n m ordered h up kept = go (embedder t n) refl up
  where
    go : (e : Option ℕ) → embedder t n ≡ e → nav_if_any t e ≡ Some m → is_discarded t m ≡ false
    go None is up = absurd cc
    go (Some d) is up =
        let at : nav_of t d ≡ m = cc in
        subst (λ k. is_discarded t k ≡ false) at (or_false (is_cut t n) (is_discarded t (nav_of t d)) (sym (discarded_step t n ordered h ∙ ap (λ e. is_cut t n || gone_above t e) is) ∙ kept))

-- the chain of n, where m embeds it
pub chain_up : (t : Tree) (n m : ℕ) → IsOrdered t → n < t.navs → above t n ≡ Some m → chain t n ≡ n ∷ chain t m
chain_up t n m ordered h up = go (embedder t n) refl up
  where
    go : (e : Option ℕ) → embedder t n ≡ e → nav_if_any t e ≡ Some m → chain t n ≡ n ∷ chain t m
    go None is up = absurd cc
    go (Some d) is up =
        let at : nav_of t d ≡ m = cc in
        chain_step t n ordered h ∙ ap (λ e. n ∷ chain_above t e) is ∙ ap (λ k. n ∷ chain t k) at

pub chain_top : (t : Tree) (n : ℕ) → IsOrdered t → n < t.navs → above t n ≡ None → chain t n ≡ n ∷ []
chain_top t n ordered h up = go (embedder t n) refl up
  where
    go : (e : Option ℕ) → embedder t n ≡ e → nav_if_any t e ≡ None → chain t n ≡ n ∷ []
    go None is up = chain_step t n ordered h ∙ ap (λ e. n ∷ chain_above t e) is
    go (Some d) is up = absurd cc

pub above_lower : (t : Tree) (n m : ℕ) → IsOrdered t → n < t.navs → above t n ≡ Some m → m < n
above_lower t n m ordered h up = go (embedder t n) refl up
  where
    go : (e : Option ℕ) → embedder t n ≡ e → nav_if_any t e ≡ Some m → m < n
    go None is up = absurd cc
    go (Some d) is up = let at : nav_of t d ≡ m = cc in subst (λ k. k < n) at (ordered n d h is)

-- a chain begins with its navigable
chain_begins : (t : Tree) (n : ℕ) → IsOrdered t → n < t.navs → chain t n ≡ n ∷ rest_of (chain t n)
chain_begins t n ordered h = chain_step t n ordered h ∙ ap (λ ms. n ∷ rest_of ms) (sym (chain_step t n ordered h))

-- what a parent says
pub parent_cases : (t : Tree) (n m : ℕ) → parent_of t n ≡ Some m → (is_discarded t n ≡ false) × (above t n ≡ Some m)
parent_cases t n m p = go (is_discarded t n) refl (sym (parent_is t n) ∙ p)
  where
    go : (b : Bool) → is_discarded t n ≡ b → cond b None (above t n) ≡ Some m → (is_discarded t n ≡ false) × (above t n ≡ Some m)
    go true is q = absurd cc
    go false is q = (is, q)

pub no_ancestors : (t : Tree) (n : ℕ) → IsOrdered t → n < t.navs → parent_of t n ≡ None → ancestors t n ≡ []
no_ancestors t n ordered h p = ancestors_are t n ∙ go (is_discarded t n) (sym (parent_is t n) ∙ p)
  where
    go : (b : Bool) → cond b None (above t n) ≡ None → cond b [] (rest_of (chain t n)) ≡ []
    go true q = refl
    go false q = ap rest_of (chain_top t n ordered h q)

pub ancestors_up : (t : Tree) (n m : ℕ) → IsOrdered t → n < t.navs → parent_of t n ≡ Some m → ancestors t n ≡ m ∷ ancestors t m
ancestors_up t n m ordered h p =
    let here = parent_cases t n m p in
    let lower : m < n = above_lower t n m ordered h here.1 in
    let kept : is_discarded t m ≡ false = kept_above t n m ordered h here.1 here.0 in
    let own : ancestors t m ≡ rest_of (chain t m) = ancestors_are t m ∙ ap (λ b. cond b [] (rest_of (chain t m))) kept in
    ancestors_are t n
    ∙ ap (λ b. cond b [] (rest_of (chain t n))) here.0
    ∙ ap rest_of (chain_up t n m ordered h here.1)
    ∙ chain_begins t m ordered (omega (arith, lower, h))
    ∙ ap (λ ms. m ∷ ms) (sym own)

pub parent_lower : (t : Tree) (n m : ℕ) → IsOrdered t → n < t.navs → parent_of t n ≡ Some m → m < n
parent_lower t n m ordered h p = above_lower t n m ordered h (parent_cases t n m p).1

-- the parent of a navigable that is kept
pub parent_kept : (t : Tree) (n m : ℕ) → is_discarded t n ≡ false → above t n ≡ Some m → parent_of t n ≡ Some m
parent_kept t n m kept up = parent_is t n ∙ ap (λ b. cond b None (above t n)) kept ∙ up

-- whether some ancestor passes
pub none_passes : (t : Tree) (test : ℕ → Bool) (n : ℕ) → IsOrdered t → n < t.navs → parent_of t n ≡ None → list_any test (ancestors t n) ≡ false
none_passes t test n ordered h p = ap (list_any test) (no_ancestors t n ordered h p)

pub this_passes : (t : Tree) (test : ℕ → Bool) (n m : ℕ) → IsOrdered t → n < t.navs → parent_of t n ≡ Some m → test m ≡ true → list_any test (ancestors t n) ≡ true
this_passes t test n m ordered h p it = ap (list_any test) (ancestors_up t n m ordered h p) ∙ rw it refl

pub passes_above : (t : Tree) (test : ℕ → Bool) (n m : ℕ) → IsOrdered t → n < t.navs → parent_of t n ≡ Some m → test m ≡ false → list_any test (ancestors t n) ≡ list_any test (ancestors t m)
passes_above t test n m ordered h p it = ap (list_any test) (ancestors_up t n m ordered h p) ∙ rw it refl
