-- Lists that begin with others, and lists read by `get_elem?`.
use Rattle.std.proofs.Common.{◌≡◌, ◌≢◌, ◌⊎◌, ℕ, zero, suc, ◌+◌, ◌<◌, ◌≤◌, List, [], ◌∷◌, ◌++◌, length, get_or, set, Option, Some, inl, inr, refl, sym, ap, ◌∙◌, subst, ⊎_elim, arith}
use Rattle.std.specs.List.{All, sum_by}
use Rattle.std.proofs.lemmas.List.{append_assoc, append-nil, append_cancel_left, length-append, get_or-append-add}
use Rattle.std.proofs.lemmas.List.Elements.{All-append, All-nil}
use Rattle.std.proofs.lemmas.List.Sums.{sum_by-set, sum_by-cons}
use mathlib.Core.Option.{some, some-injective, some-ne-none}
use lib.ListN.{get_elem?}
use Rattle.turnstile.specs.Histories.{Follows, Enters, Since, Begins, NamesBelow}

module _ {A : Type 0} where
  pub at_get : (l : List A) (i : ℕ) (a : A) → get_elem? l i ≡ some a → (i < length l) × (get_or l i a ≡ a)
  at_get [] i a e = absurd (some-ne-none a (sym e))
  at_get (x ∷ l) zero a e = (omega arith, some-injective x a e)
  at_get (x ∷ l) (suc i) a e = let h = at_get l i a e in let lt = h.0 in (omega arith, h.1)

  pub some_at : (l : List A) (i : ℕ) → i < length l → (a : A) × (get_elem? l i ≡ some a)
  some_at [] i lt = absurd (omega arith)
  some_at (x ∷ l) zero lt = (x, refl)
  some_at (x ∷ l) (suc i) lt = some_at l i (omega arith)

  -- the last or one before it
  pub at_end : (l : List A) (a b : A) (j : ℕ) → get_elem? (l ++ a ∷ []) j ≡ some b → (get_elem? l j ≡ some b) ⊎ ((j ≡ length l) × (a ≡ b))
  at_end [] a b zero e = inr (refl, some-injective a b e)
  at_end [] a b (suc j) e = absurd (some-ne-none b (sym e))
  at_end (x ∷ l) a b zero e = inl e
  at_end (x ∷ l) a b (suc j) e = ⊎_elim (λ h. inl h) (λ (h : (j ≡ length l) × (a ≡ b)). inr (ap suc h.0, h.1)) (at_end l a b j e)

  pub same_at : (l : List A) (i : ℕ) (a b : A) → get_elem? l i ≡ some a → get_elem? l i ≡ some b → a ≡ b
  same_at l i a b p q = some-injective a b (sym p ∙ q)

  pub sum_set : (f : A → ℕ) (l : List A) (i : ℕ) (v w : A) → get_elem? l i ≡ some v → sum_by f (set l i w) + f v ≡ sum_by f l + f w
  sum_set f l i v w at = let h = at_get l i v at in subst (λ (x : A). sum_by f (set l i w) + f x ≡ sum_by f l + f w) h.1 (sum_by-set f l i w v h.0)

  pub sum_le : (f : A → ℕ) → ((a : A) → f a ≤ 1) → (l : List A) → sum_by f l ≤ length l
  sum_le f one [] = omega arith
  sum_le f one (x ∷ l) = let h = sum_le f one l in let o = one x in let c = sum_by-cons f x l in omega arith

  pub sum_end : (f : A → ℕ) (l : List A) (a : A) → sum_by f (l ++ a ∷ []) ≡ sum_by f l + f a
  sum_end f [] a = omega (arith, sum_by-cons f a [])
  sum_end f (x ∷ l) a = let h = sum_end f l a in let c = sum_by-cons f x l in let d = sum_by-cons f x (l ++ a ∷ []) in omega arith

  pub all_right : (P : A → Type 0) (xs ys : List A) → All P (xs ++ ys) → All P ys
  all_right P xs ys h k d lt = subst P (get_or-append-add xs ys k d) (h (length xs + k) d (omega (arith, length-append xs ys)))

module _ {I : Type 0} (names : I → Option ℕ) where
  pub follows_self : (n : ℕ) (xs : List I) → Follows names n xs xs
  follows_self n xs = ([], sym (append-nil xs), All-nil (λ x. names x ≢ Some n))

  -- what other seats add
  pub follows_more : (n m : ℕ) (l base own : List I) → n ≢ m → Follows names n l base → All (λ x. names x ≡ Some m) own → Follows names n l (base ++ own)
  follows_more n m l base own apart f mine = (
    f.0 ++ own,
    ap (λ w. w ++ own) f.1 ∙ append_assoc l f.0 own,
    All-append (λ x. names x ≢ Some n) f.0 own f.2 (λ k d lt e. apart (some_same (sym e ∙ mine k d lt))),
  )
    where
      some_same : {x y : ℕ} → Some x ≡ Some y → x ≡ y
      some_same e = cc e

  -- the items past the opening are of known seats, so are those past what was seen
  pub rest_below : (n : ℕ) (opening seen base rest : List I) → Begins opening seen → base ≡ seen ++ rest → Since names n opening base → All (NamesBelow names n) rest
  rest_below n opening seen base rest b e s =
      let same : s.0 ≡ b.0 ++ rest = append_cancel_left opening s.0 (b.0 ++ rest) (sym s.1 ∙ (e ∙ (ap (λ w. w ++ rest) b.1 ∙ append_assoc opening b.0 rest))) in
      all_right (NamesBelow names n) b.0 rest (subst (All (NamesBelow names n)) same s.2)

  -- nobody but known seats added, and not this one
  pub enters : (n count : ℕ) (opening seen base : List I) → Begins opening seen → Follows names n seen base → Since names count opening base → Enters names n seen base
  enters n count opening seen base b f s = let below = rest_below count opening seen base f.0 b f.1 s in
      (f.0, f.1, λ k d lt. let h = below k d lt in let not = f.2 k d lt in (h.0, h.1, λ e. not (h.1 ∙ ap Some e)))

  -- a seat that was not given yet made none of the items
  pub follows_new : (n : ℕ) (opening seen base : List I) (m : ℕ) → Begins opening seen → Follows names m seen base → Since names n opening base → Follows names n seen base
  follows_new n opening seen base m b f s = let below = rest_below n opening seen base f.0 b f.1 s in
      (f.0, f.1, λ k d lt e. let h = below k d lt in let lt' = h.2 in let same : h.0 ≡ n = some_same (sym h.1 ∙ e) in absurd (omega arith))
    where
      some_same : {x y : ℕ} → Some x ≡ Some y → x ≡ y
      some_same e = cc e

  pub begins_trans : (xs ys zs : List I) → Begins xs ys → Begins ys zs → Begins xs zs
  begins_trans xs ys zs p q = (p.0 ++ q.0, q.1 ∙ (ap (λ w. w ++ q.0) p.1 ∙ append_assoc xs p.0 q.0))

  pub since_more : (n m : ℕ) (opening base own : List I) → m < n → Since names n opening base → All (λ x. names x ≡ Some m) own → Since names n opening (base ++ own)
  since_more n m opening base own lt s mine = (
    s.0 ++ own,
    ap (λ w. w ++ own) s.1 ∙ append_assoc opening s.0 own,
    All-append (NamesBelow names n) s.0 own s.2 (λ k d l. (m, mine k d l, lt)),
  )

  pub since_wider : (n m : ℕ) (opening base : List I) → n ≤ m → Since names n opening base → Since names m opening base
  since_wider n m opening base le s = (s.0, s.1, λ k d l. let h = s.2 k d l in let lt = h.2 in (h.0, h.1, omega arith))
