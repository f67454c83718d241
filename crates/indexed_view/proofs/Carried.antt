-- What a later tree says of the navigables and documents of an earlier one.
use Rattle.std.proofs.Common.{◌≡◌, ℕ, zero, suc, ◌<◌, ◌≤◌, true, refl, ap, sym, subst, ◌∙◌, arith, not, Option, Some, None, ◌||◌, eqb}
use Rattle.tree_log.specs.Tree.{Tree, embedder, nav_of, is_cut, is_embedded, is_discarded, root_of, group_of}
use Rattle.tree_view.specs.Ordered.{IsOrdered}
use Rattle.tree_view.proofs.Walk.{root_here, root_up}
use Rattle.indexed_view.proofs.Marking.{spreads, cut_gone, child_gone, same_bool}

-- each navigable of t is embedded in u as it was, by a document of the same navigable
pub record IsCarried (t u : Tree) : Type 0 where
  pub before : IsOrdered t
  pub after : IsOrdered u
  pub navs : t.navs ≤ u.navs
  pub there : (n d : ℕ) → n < t.navs → embedder t n ≡ Some d → d < t.docs
  pub embedders : (n : ℕ) → n < t.navs → embedder u n ≡ embedder t n
  pub homes : (d : ℕ) → d < t.docs → nav_of u d ≡ nav_of t d

-- and what was dropped, closed or shown is as it was
pub record IsUncut (t u : Tree) : Type 0 where
  pub active : (n : ℕ) → n < t.navs → (u.nav n).active ≡ (t.nav n).active
  pub dropped : (n : ℕ) → n < t.navs → (u.nav n).dropped ≡ (t.nav n).dropped
  pub gone : (n : ℕ) → n < t.navs → (u.nav n).gone ≡ (t.nav n).gone

module _ (t u : Tree) (h : IsCarried t u) where
  same_root_from : (k n : ℕ) → n < k → n < t.navs → root_of u n ≡ root_of t n
  same_root_from zero n under lt = absurd (omega arith)
  same_root_from (suc k) n under lt = by (embedder t n) refl (λ m low there. same_root_from k m (omega (arith, low)) there)
    where
      by : (e : Option ℕ) → embedder t n ≡ e → ((m : ℕ) → m < n → m < t.navs → root_of u m ≡ root_of t m) → root_of u n ≡ root_of t n
      by None top rest = root_here u n h.after (omega (arith, h.navs)) (h.embedders n lt ∙ top) ∙ sym (root_here t n h.before lt top)
      by (Some d) up rest =
          let low : nav_of t d < n = h.before n d lt up in
          root_up u n d (nav_of u d) h.after (omega (arith, h.navs)) (h.embedders n lt ∙ up) refl
          ∙ ap (root_of u) (h.homes d (h.there n d lt up))
          ∙ rest (nav_of t d) low (omega (arith, low))
          ∙ sym (root_up t n d (nav_of t d) h.before lt up refl)

  pub same_root : (n : ℕ) → n < t.navs → root_of u n ≡ root_of t n
  same_root n lt = same_root_from (suc n) n (omega arith) lt

  same_embedded : IsUncut t u → (n : ℕ) → n < t.navs → (e : Option ℕ) → embedder t n ≡ e → is_embedded u e ≡ is_embedded t e
  same_embedded uncut n lt None by = refl
  same_embedded uncut n lt (Some d) by =
      let low : nav_of t d < n = h.before n d lt by in
      ap (λ k. eqb (u.nav k).active d) (h.homes d (h.there n d lt by)) ∙ ap (λ a. eqb a d) (uncut.active (nav_of t d) (omega (arith, low)))

  pub same_cut : IsUncut t u → (n : ℕ) → n < t.navs → is_cut u n ≡ is_cut t n
  same_cut uncut n lt =
      ap (λ b. b || (u.nav n).gone || not (is_embedded u (embedder u n))) (uncut.dropped n lt)
      ∙ ap (λ b. (t.nav n).dropped || b || not (is_embedded u (embedder u n))) (uncut.gone n lt)
      ∙ ap (λ e. (t.nav n).dropped || (t.nav n).gone || not (is_embedded u e)) (h.embedders n lt)
      ∙ ap (λ b. (t.nav n).dropped || (t.nav n).gone || not b) (same_embedded uncut n lt (embedder t n) refl)

  pub same_gone : IsUncut t u → (n : ℕ) → n < t.navs → is_discarded u n ≡ is_discarded t n
  same_gone uncut n lt = same_bool (is_discarded u n) (is_discarded t n) back on
    where
      on : is_discarded t n ≡ true → is_discarded u n ≡ true
      on = spreads t (λ m. is_discarded u m ≡ true) h.before
          (λ m there e. cut_gone u h.after m (omega (arith, h.navs)) (same_cut uncut m there ∙ e))
          (λ m d there by low gone up. child_gone u h.after m d (omega (arith, h.navs)) (h.embedders m there ∙ by) (ap (is_discarded u) (h.homes d (h.there m d there by)) ∙ up))
          (suc n) n (omega arith) lt

      back : is_discarded u n ≡ true → is_discarded t n ≡ true
      back gone = spreads u (λ m. m < t.navs → is_discarded t m ≡ true) h.after
          (λ m _ e there. cut_gone t h.before m there (sym (same_cut uncut m there) ∙ e))
          (λ m d _ by low _ up there.
          let was : embedder t m ≡ Some d = sym (h.embedders m there) ∙ by in
          let home : nav_of u d ≡ nav_of t d = h.homes d (h.there m d there was) in
          let under : nav_of t d < m = h.before m d there was in
          child_gone t h.before m d there was (subst (λ k. is_discarded t k ≡ true) home (up (omega (arith, home, under)))))
          (suc n) n (omega arith) (omega (arith, h.navs)) gone lt

-- THE TOP

pub root_within : (t : Tree) → IsOrdered t → (k n : ℕ) → n < k → n < t.navs → root_of t n < t.navs
root_within t ordered zero n under lt = absurd (omega arith)
root_within t ordered (suc k) n under lt = by (embedder t n) refl (λ m low there. root_within t ordered k m (omega (arith, low)) there)
  where
    by : (e : Option ℕ) → embedder t n ≡ e → ((m : ℕ) → m < n → m < t.navs → root_of t m < t.navs) → root_of t n < t.navs
    by None top rest = subst (λ m. m < t.navs) (sym (root_here t n ordered lt top)) lt
    by (Some d) up rest =
        let low : nav_of t d < n = ordered n d lt up in
        subst (λ m. m < t.navs) (sym (root_up t n d (nav_of t d) ordered lt up refl)) (rest (nav_of t d) low (omega (arith, low)))

pub root_of_root : (t : Tree) → IsOrdered t → (k n : ℕ) → n < k → n < t.navs → root_of t (root_of t n) ≡ root_of t n
root_of_root t ordered zero n under lt = absurd (omega arith)
root_of_root t ordered (suc k) n under lt = by (embedder t n) refl (λ m low there. root_of_root t ordered k m (omega (arith, low)) there)
  where
    by : (e : Option ℕ) → embedder t n ≡ e → ((m : ℕ) → m < n → m < t.navs → root_of t (root_of t m) ≡ root_of t m) → root_of t (root_of t n) ≡ root_of t n
    by None top rest = ap (root_of t) (root_here t n ordered lt top)
    by (Some d) up rest =
        let low : nav_of t d < n = ordered n d lt up in
        let step = root_up t n d (nav_of t d) ordered lt up refl in
        ap (root_of t) step ∙ rest (nav_of t d) low (omega (arith, low)) ∙ sym step

pub group_of_root : (t : Tree) → IsOrdered t → (n root group : ℕ) → n < t.navs → root ≡ root_of t n → group_of t root ≡ Some group → group_of t n ≡ Some group
unfolding group_of
group_of_root t ordered n root group lt is h = ap (λ m. (t.nav m).made.group) (sym (ap (root_of t) is ∙ root_of_root t ordered (suc n) n (omega arith) lt)) ∙ h
