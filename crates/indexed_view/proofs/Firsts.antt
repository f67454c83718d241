-- The first of a list of children, and the first behind one.
use Rattle.std.proofs.Common.{◌≡◌, ℕ, ◌<◌, List, [], ◌∷◌, Bool, true, false, cond, refl, ap, sym, subst, ◌∙◌, length, eqb, filter, Option, Some}
use Rattle.std.specs.Prelude.{find, bytes_eq}
use Rattle.std.specs.List.{All}
use Rattle.std.specs.Option.{IfSome}
use Rattle.std.proofs.lemmas.List.Elements.{All-filter, All-head, All-tail, filter_agree}
use Rattle.tree_log.specs.Tree.{Tree, is_active, children_of}
use Rattle.tree_log.specs.NamedChildren.{first_of_name}
use Rattle.tree_log.specs.Siblings.{behind, first_if_any}
use Rattle.tree_view.specs.Grown.{IsGrown}
use Rattle.indexed_view.specs.Live.{live, live_named, has_name}
use Rattle.indexed_view.proofs.Naming.{is_full}
use Rattle.indexed_view.proofs.Members.{live_below}

first_within : (P : ℕ → Type 0) (ns : List ℕ) → All P ns → IfSome (first_if_any ns) P
first_within P [] h = tt
first_within P (n ∷ ns) h = All-head P n ns h

behind_within : (P : ℕ → Type 0) (n : ℕ) (ns : List ℕ) → All P ns → All P (behind n ns)
behind_within P n [] h = h
behind_within P n (m ∷ ns) h = pick (eqb m n) (behind_within P n ns (All-tail P m ns h))
  where
    pick : (b : Bool) → All P (behind n ns) → All P (cond b ns (behind n ns))
    pick true rest = All-tail P m ns h
    pick false rest = rest

pub first_named_within : (t : Tree) → IsGrown t → (d : ℕ) (q : List ℕ) (o : Option ℕ) → o ≡ first_if_any (live_named t d q) → IfSome o (λ n. n < t.navs)
first_named_within t grown d q o is =
    subst (λ x. IfSome x (λ n. n < t.navs)) (sym is) (first_within (λ n. n < t.navs) (live_named t d q) (All-filter (has_name t q) (λ n. n < t.navs) (live t d) (live_below t grown d)))

pub behind_live_within : (t : Tree) → IsGrown t → (d n : ℕ) (o : Option ℕ) → o ≡ first_if_any (behind n (live t d)) → IfSome o (λ m. m < t.navs)
behind_live_within t grown d n o is =
    subst (λ x. IfSome x (λ m. m < t.navs)) (sym is) (first_within (λ m. m < t.navs) (behind n (live t d)) (behind_within (λ m. m < t.navs) n (live t d) (live_below t grown d)))

found_first : (p : ℕ → Bool) (ns : List ℕ) → find p ns ≡ first_if_any (filter p ns)
found_first p [] = refl
found_first p (n ∷ ns) = pick (p n) (found_first p ns)
  where
    pick : (b : Bool) → find p ns ≡ first_if_any (filter p ns) → cond b (Some n) (find p ns) ≡ first_if_any (cond b (n ∷ filter p ns) (filter p ns))
    pick true rest = refl
    pick false rest = rest

pub named_of_active : (t : Tree) (d : ℕ) (q : List ℕ) → is_active t d ≡ true → eqb (length q) 0 ≡ false → first_of_name t d q ≡ first_if_any (live_named t d q)
unfolding children_of
named_of_active t d [] active long = absurd cc
named_of_active t d (x ∷ q) active long = ap (λ b. find (λ n. bytes_eq (t.nav n).name (x ∷ q)) (cond b (live t d) [])) active ∙ found_first (λ n. bytes_eq (t.nav n).name (x ∷ q)) (live t d)
    ∙ ap first_if_any (filter_agree (λ n. bytes_eq (t.nav n).name (x ∷ q)) (has_name t (x ∷ q)) (λ n. sym (is_full (t.nav n).name x q)) (live t d))
