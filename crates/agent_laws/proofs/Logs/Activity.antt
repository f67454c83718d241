-- What a new document leaves as it was.
use Rattle.std.proofs.Common.{◌≡◌, ℕ, zero, suc, ◌<◌, List, [], ◌∷◌, Option, Some, None, Bool, true, refl, ap, ◌∙◌}
use Rattle.std.specs.Prelude.{◌==◌, ◌||◌, ◌&&◌, not}
use Rattle.std.specs.List.{list_any}
use Rattle.tree_log.specs.declared.entry.Load.{Load}
use Rattle.tree_log.specs.declared.entry.What.TheVariants.{Begin, Fragment}
use Rattle.tree_log.specs.Facts.{Making}
use Rattle.tree_log.specs.Tree.{Tree, tree_after, embedder, nav_of, chain, chain_from, is_shown, is_embedded, is_cut, is_discarded, is_active}
use Rattle.tree_log.specs.Admits.{admits}
use Rattle.agent_laws.specs.Wellness.{IsWell}
use Rattle.agent_laws.proofs.Logs.Entries.{entry}
use Rattle.agent_laws.proofs.Groups.Well.{nav_stays}

-- the tree s has the navigables of t as they were, and its documents where they were
pub record IsUnmoved (t s : Tree) : Type 0 where
  pub made : (x : ℕ) → (s.nav x).made ≡ (t.nav x).made
  pub active : (x : ℕ) → (s.nav x).active ≡ (t.nav x).active
  pub dropped : (x : ℕ) → (s.nav x).dropped ≡ (t.nav x).dropped
  pub gone : (x : ℕ) → (s.nav x).gone ≡ (t.nav x).gone
  pub docs : (d : ℕ) → d < t.docs → nav_of s d ≡ nav_of t d

embedder_unmoved : (t s : Tree) → IsUnmoved t s → (x : ℕ) → embedder s x ≡ embedder t x
embedder_unmoved t s u x = ap (λ (m : Making). m.embedder) (u.made x)

chain_unmoved : (t s : Tree) → IsWell t → IsUnmoved t s → (j x : ℕ) → chain_from s j x ≡ chain_from t j x
chain_unmoved t s well u zero x = refl
chain_unmoved t s well u (suc j) x =
    ap (λ (xs : List ℕ). x ∷ xs) (ap (λ (o : Option ℕ). elim o as (λ _. List ℕ) [ None ↦ [] | Some d ↦ chain_from s j (nav_of s d) ]) (embedder_unmoved t s u x)
    ∙ above (embedder t x) (λ d e. (well.up x d e).0) (λ n. chain_unmoved t s well u j n))
  where
    above : (o : Option ℕ) → ((d : ℕ) → o ≡ Some d → d < t.docs) → ((n : ℕ) → chain_from s j n ≡ chain_from t j n)
        → elim o as (λ _. List ℕ) [ None ↦ [] | Some d ↦ chain_from s j (nav_of s d) ] ≡ elim o as (λ _. List ℕ) [ None ↦ [] | Some d ↦ chain_from t j (nav_of t d) ]
    above None h later = refl
    above (Some d) h later = ap (chain_from s j) (u.docs d (h d refl)) ∙ later (nav_of t d)

shown_unmoved : (t s : Tree) → IsUnmoved t s → (d : ℕ) → d < t.docs → is_shown s d ≡ is_shown t d
shown_unmoved t s u d lt = ap (λ (a : ℕ). a == d) (ap (λ (n : ℕ). (s.nav n).active) (u.docs d lt) ∙ u.active (nav_of t d))

cut_unmoved : (t s : Tree) → IsWell t → IsUnmoved t s → (x : ℕ) → is_cut s x ≡ is_cut t x
cut_unmoved t s well u x =
    ap (λ (b : Bool). b || (s.nav x).gone || not (is_embedded s (embedder s x))) (u.dropped x)
    ∙ ap (λ (b : Bool). (t.nav x).dropped || b || not (is_embedded s (embedder s x))) (u.gone x)
    ∙ ap (λ (b : Bool). (t.nav x).dropped || (t.nav x).gone || not b) (ap (is_embedded s) (embedder_unmoved t s u x) ∙ embedded (embedder t x) (λ d e. (well.up x d e).0))
  where
    embedded : (o : Option ℕ) → ((d : ℕ) → o ≡ Some d → d < t.docs) → is_embedded s o ≡ is_embedded t o
    embedded None h = refl
    embedded (Some d) h = shown_unmoved t s u d (h d refl)

pub any_same : (p q : ℕ → Bool) → ((x : ℕ) → p x ≡ q x) → (xs : List ℕ) → list_any p xs ≡ list_any q xs
any_same p q h [] = refl
any_same p q h (x ∷ xs) = rw (h x, any_same p q h xs) refl

pub discarded_unmoved : (t s : Tree) → IsWell t → IsUnmoved t s → (n : ℕ) → is_discarded s n ≡ is_discarded t n
unfolding is_discarded chain
discarded_unmoved t s well u n = ap (list_any (is_cut s)) (chain_unmoved t s well u (suc n) n) ∙ any_same (is_cut s) (is_cut t) (cut_unmoved t s well u) (chain_from t (suc n) n)

pub active_unmoved : (t s : Tree) → IsWell t → IsUnmoved t s → (d : ℕ) → d < t.docs → is_active s d ≡ is_active t d
unfolding is_active
active_unmoved t s well u d lt =
    ap (λ (b : Bool). b && not (is_discarded s (nav_of s d))) (shown_unmoved t s u d lt)
    ∙ ap (λ (n : ℕ). is_shown t d && not (is_discarded s n)) (u.docs d lt)
    ∙ ap (λ (b : Bool). is_shown t d && not b) (discarded_unmoved t s well u (nav_of t d))

pub begin_unmoved : (t : Tree) (by actor : Option ℕ) (nav : ℕ) (load : Load) → admits t (entry by actor (Begin nav load)) ≡ true → IsUnmoved t (tree_after t (entry by actor (Begin nav load)))
unfolding tree_after
begin_unmoved t by actor nav load h = record { made = λ x. refl; active = λ x. refl; dropped = λ x. refl; gone = λ x. refl; docs = λ d lt. nav_stays t (entry by actor (Begin nav load)) d h lt }

pub fragment_unmoved : (t : Tree) (by actor : Option ℕ) (nav doc : ℕ) (url : List ℕ) → IsUnmoved t (tree_after t (entry by actor (Fragment nav doc url)))
unfolding tree_after
fragment_unmoved t by actor nav doc url = record { made = λ x. refl; active = λ x. refl; dropped = λ x. refl; gone = λ x. refl; docs = λ d lt. refl }
