-- A walk of a tree, parents before children, place by place.
use Rattle.std.proofs.Common.{◌≡◌, ◌≢◌, ℕ, zero, suc, ◌+◌, ◌<◌, ◌≤◌, List, [], ◌∷◌, ◌++◌, length, length-append, append_assoc, append-nil, Option, Some, None, Bool, true, false, cond, not, ◌&&◌, ◌||◌, refl, ap, sym, ◌∙◌, arith, subst, inl, inr, eqb, eq-eqb, eqb-true, ne_eqb, find, flat_map, slice_get}
use Rattle.std.specs.Prelude.{IfSome}
use Rattle.std.proofs.lemmas.Bool.Decides.{eqb_tells}
use Rattle.std.proofs.lemmas.List.Folds.{find-append}
use Rattle.std.specs.Option.{option_or}
use Rattle.tree_log.specs.Tree.{Tree, embedder, nav_of, chain, is_discarded, children_of, parent_of, rest_of, is}
use Rattle.tree_log.specs.Siblings.{later_siblings, next_sibling}
use Rattle.tree_view.specs.Grown.{IsGrown}
use Rattle.tree_view.specs.Ordered.{IsOrdered}
use Rattle.coordinator_rules.specs.Navigation.{is_in, walk, walk_from}
use Rattle.nav_rules.specs.declared.place.Place.{Place}
use Rattle.nav_rules.specs.Walks.{nav_if_any, above, after_from, after, left_after, Under, Stands, Comes}
use Rattle.nav_rules.proofs.Upward.{chain_up, chain_top, above_lower, kept_above, parent_kept}
use Rattle.nav_rules.proofs.Children.{Rising, IsChild, children_rise, NextTo, next_to, none_behind, FirstOf, first_of}

-- HOW DEEP A WALK MAY GO doesn't matter once it can go below all numbers

flat_same : (P : ℕ → Type 0) (f g : ℕ → List ℕ) (k : ℕ) (ns : List ℕ) → ((n : ℕ) → P n → f n ≡ g n) → Rising P k ns → flat_map f ns ≡ flat_map g ns
flat_same P f g k [] h r = refl
flat_same P f g k (n ∷ ns) h r = ap (λ xs. xs ++ flat_map f ns) (h n r.1) ∙ ap (λ xs. g n ++ xs) (flat_same P f g (suc n) ns h r.2)

-- a child of what n shows has a greater number
child_greater : (t : Tree) (n c : ℕ) → IsGrown t → n < t.navs → IsChild t (t.nav n).active c → n < c
child_greater t n c grown there child = subst (λ m. m < c) (grown.shows_its_own n there) (grown.ordered c (t.nav n).active child.0 child.1)

same_walk : (t : Tree) → IsGrown t → (j k n : ℕ) → n < t.navs → t.navs ≤ n + j → t.navs ≤ n + k → walk_from t j n ≡ walk_from t k n
unfolding walk_from
same_walk t grown zero k n there hj hk = absurd (omega (arith, there, hj))
same_walk t grown (suc j) zero n there hj hk = absurd (omega (arith, there, hk))
same_walk t grown (suc j) (suc k) n there hj hk =
    ap (λ ns. n ∷ ns) (flat_same (IsChild t (t.nav n).active) (λ c. walk_from t j c) (λ c. walk_from t k c) 0 (children_of t (t.nav n).active)
    (λ c child. let greater : n < c = child_greater t n c grown there child in same_walk t grown j k c child.0 (omega (arith, hj, greater)) (omega (arith, hk, greater)))
    (children_rise t (t.nav n).active grown))

pub walk_step : (t : Tree) (n : ℕ) → IsGrown t → n < t.navs → walk t n ≡ n ∷ flat_map (walk t) (children_of t (t.nav n).active)
unfolding walk_from
walk_step t n grown there = go t.navs refl
  where
    go : (k : ℕ) → t.navs ≡ k → walk_from t k n ≡ n ∷ flat_map (walk t) (children_of t (t.nav n).active)
    go zero is = absurd (omega (arith, there, is))
    go (suc k) is =
        ap (λ ns. n ∷ ns) (flat_same (IsChild t (t.nav n).active) (λ c. walk_from t k c) (walk t) 0 (children_of t (t.nav n).active)
        (λ c child. let greater : n < c = child_greater t n c grown there child in same_walk t grown k t.navs c child.0 (omega (arith, is, greater)) (omega arith))
        (children_rise t (t.nav n).active grown))

-- WHAT IS LEFT behind a place

abbrev upward : Tree → ℕ → ℕ → Option ℕ → List ℕ
upward t root k None = []
upward t root k (Some m) = after_from t root k m

up_is : (t : Tree) (root k : ℕ) (e : Option ℕ) → elim e [ None ↦ [] | Some d ↦ after_from t root k (nav_of t d) ] ≡ upward t root k (nav_if_any t e)
up_is t root k None = refl
up_is t root k (Some d) = refl

after_step : (t : Tree) (root k n : ℕ) → after_from t root (suc k) n ≡ cond (eqb n root) [] (flat_map (walk t) (later_siblings t n) ++ upward t root k (above t n))
after_step t root k n = ap (λ ns. cond (eqb n root) [] (flat_map (walk t) (later_siblings t n) ++ ns)) (up_is t root k (embedder t n))

same_up : (t : Tree) (root j k : ℕ) (up : Option ℕ) → ((m : ℕ) → up ≡ Some m → after_from t root j m ≡ after_from t root k m) → upward t root j up ≡ upward t root k up
same_up t root j k None h = refl
same_up t root j k (Some m) h = h m refl

same_after : (t : Tree) (root : ℕ) → IsOrdered t → (j k n : ℕ) → n < j → n < k → n < t.navs → after_from t root j n ≡ after_from t root k n
same_after t root ordered zero k n hj hk there = absurd (omega (arith, hj))
same_after t root ordered (suc j) zero n hj hk there = absurd (omega (arith, hk))
same_after t root ordered (suc j) (suc k) n hj hk there =
    after_step t root j n
    ∙ ap (λ ns. cond (eqb n root) [] (flat_map (walk t) (later_siblings t n) ++ ns)) (same_up t root j k (above t n) (λ m is. let low : m < n = above_lower t n m ordered there is in same_after t root ordered j k m (omega (arith, low, hj)) (omega (arith, low, hk)) (omega (arith, low, there))))
    ∙ sym (after_step t root k n)

pub after_root : (t : Tree) (root n : ℕ) → n ≡ root → after t root n ≡ []
unfolding after
after_root t root n at = after_step t root n n ∙ ap (λ b. cond b [] (flat_map (walk t) (later_siblings t n) ++ upward t root n (above t n))) (eq-eqb n root at)

pub after_other : (t : Tree) (root n up : ℕ) → IsOrdered t → n < t.navs → n ≢ root → above t n ≡ Some up → after t root n ≡ flat_map (walk t) (later_siblings t n) ++ after t root up
unfolding after
after_other t root n up ordered there other is =
    let low : up < n = above_lower t n up ordered there is in
    after_step t root n n
    ∙ ap (λ b. cond b [] (flat_map (walk t) (later_siblings t n) ++ upward t root n (above t n))) (ne_eqb n root other)
    ∙ ap (λ o. flat_map (walk t) (later_siblings t n) ++ upward t root n o) is
    ∙ ap (λ ns. flat_map (walk t) (later_siblings t n) ++ ns) (same_after t root ordered n (suc up) up low (omega arith) (omega (arith, low, there)))

-- a root of a chain has no greater number
root_low : (t : Tree) (root : ℕ) → IsOrdered t → (k n : ℕ) → n < k → n < t.navs → is_in root (chain t n) ≡ true → root ≤ n
root_low t root ordered zero n lt there h = absurd (omega (arith, lt))
root_low t root ordered (suc k) n lt there h =
    go (λ m low q. root_low t root ordered k m (omega (arith, low, lt)) (omega (arith, low, there)) q) (above t n) refl
  where
    here : (b : Bool) → eqb n root ≡ b → (rest : List ℕ) → (b || is_in root rest) ≡ true → (is_in root rest ≡ true → root ≤ n) → root ≤ n
    here true is rest q more = omega (arith, eqb-true n root is)
    here false is rest q more = more q

    go : ((m : ℕ) → m < n → is_in root (chain t m) ≡ true → root ≤ m) → (o : Option ℕ) → above t n ≡ o → root ≤ n
    go more None is = here (eqb n root) refl [] (sym (ap (is_in root) (chain_top t n ordered there is)) ∙ h) (λ q. absurd cc)
    go more (Some m) is =
        let low : m < n = above_lower t n m ordered there is in
        here (eqb n root) refl (chain t m) (sym (ap (is_in root) (chain_up t n m ordered there is)) ∙ h) (λ q. omega (arith, low, more m low q))

pub root_below : (t : Tree) (root n : ℕ) → IsOrdered t → n < t.navs → is_in root (chain t n) ≡ true → root ≤ n
root_below t root n ordered there h = root_low t root ordered (suc n) n (omega arith) there h

-- what is under root isn't it
not_root : (t : Tree) (root n up : ℕ) → IsOrdered t → n < t.navs → above t n ≡ Some up → is_in root (chain t up) ≡ true → n ≢ root
not_root t root n up ordered there is below e =
    let low : up < n = above_lower t n up ordered there is in
    let at_most : root ≤ up = root_below t root up ordered (omega (arith, low, there)) below in
    absurd (omega (arith, low, at_most, e))

abbrev at : ℕ → ℕ → Place
at n up = record { nav = n; parent = up }

-- the first place
pub stands_root : (t : Tree) (n : ℕ) → n < t.navs → Stands t n (at n n)
stands_root t n there = record { within = there; parent = there; under = λ other. absurd (other refl) }

in_own_chain : (t : Tree) (n : ℕ) → IsOrdered t → n < t.navs → is_in n (chain t n) ≡ true
in_own_chain t n ordered there = go (above t n) refl
  where
    go : (o : Option ℕ) → above t n ≡ o → is_in n (chain t n) ≡ true
    go None is = ap (is_in n) (chain_top t n ordered there is) ∙ rw (eq-eqb n n refl) refl
    go (Some m) is = ap (is_in n) (chain_up t n m ordered there is) ∙ rw (eq-eqb n n refl) refl

-- at a place the root is in the chain
pub root_in_chain : (t : Tree) (root : ℕ) (p : Place) → IsOrdered t → Stands t root p → is_in root (chain t p.nav) ≡ true
root_in_chain t root p ordered s = elim (eqb_tells p.nav root) [
  | inl e ↦ subst (λ r. is_in r (chain t p.nav) ≡ true) e.1 (in_own_chain t p.nav ordered s.within)
  | inr o ↦ let u : Under t root p.nav p.parent = s.under o.1 in ap (is_in root) (chain_up t p.nav p.parent ordered s.within u.above) ∙ or_true (eqb p.nav root) (is_in root (chain t p.parent)) u.below_root
]
  where
    or_true : (a b : Bool) → b ≡ true → (a || b) ≡ true
    or_true true b h = refl
    or_true false b h = h

-- the first child
pub comes_first : (t : Tree) (root c : ℕ) (p : Place) (cs : List ℕ) → IsGrown t → Stands t root p → children_of t (t.nav p.nav).active ≡ c ∷ cs
    → Comes t root (left_after t root false p.nav) (Some (at c p.nav))
comes_first t root c p cs grown s h =
    let f : FirstOf t p.nav c cs = first_of t p.nav c cs grown s.within h in
    let below : is_in root (chain t p.nav) ≡ true = root_in_chain t root p grown.ordered s in
    let other : c ≢ root = not_root t root c p.nav grown.ordered f.within f.above below in
    let rest : after t root c ≡ flat_map (walk t) cs ++ after t root p.nav = after_other t root c p.nav grown.ordered f.within other f.above ∙ ap (λ ns. flat_map (walk t) ns ++ after t root p.nav) f.later in (
      ap (λ ns. flat_map (walk t) ns ++ after t root p.nav) h ∙ append_assoc (walk t c) (flat_map (walk t) cs) (after t root p.nav) ∙ ap (λ ns. walk t c ++ ns) (sym rest),
      record { within = f.within; parent = s.within; under = λ o. record { within = s.within; above = f.above; below_root = below; kept = f.kept } },
    )

-- no child
pub no_child : (t : Tree) (root n : ℕ) → children_of t (t.nav n).active ≡ [] → left_after t root false n ≡ after t root n
no_child t root n h = ap (λ ns. flat_map (walk t) ns ++ after t root n) h

-- the next sibling
comes_next : (t : Tree) (root s : ℕ) (p : Place) → IsGrown t → Stands t root p → p.nav ≢ root → next_sibling t p.nav ≡ Some s
    → Comes t root (after t root p.nav) (Some (at s p.parent))
comes_next t root s p grown st other next =
    let u : Under t root p.nav p.parent = st.under other in
    let n : NextTo t p.nav s = next_to t p.nav s grown next in
    let up : above t s ≡ Some p.parent = n.above ∙ u.above in
    let apart : s ≢ root = not_root t root s p.parent grown.ordered n.within up u.below_root in
    let rest : after t root s ≡ flat_map (walk t) (later_siblings t s) ++ after t root p.parent = after_other t root s p.parent grown.ordered n.within apart up in (
      after_other t root p.nav p.parent grown.ordered st.within other u.above
          ∙ ap (λ ns. flat_map (walk t) ns ++ after t root p.parent) n.later
          ∙ append_assoc (walk t s) (flat_map (walk t) (later_siblings t s)) (after t root p.parent)
          ∙ ap (λ ns. walk t s ++ ns) (sym rest),
      record { within = n.within; parent = u.within; under = λ o. record { within = u.within; above = up; below_root = u.below_root; kept = u.kept } },
    )

-- up to the parent
pub goes_up : (t : Tree) (root : ℕ) (p : Place) → IsGrown t → Stands t root p → p.nav ≢ root → next_sibling t p.nav ≡ None → after t root p.nav ≡ after t root p.parent
goes_up t root p grown st other next =
    let u : Under t root p.nav p.parent = st.under other in
    after_other t root p.nav p.parent grown.ordered st.within other u.above ∙ ap (λ ns. flat_map (walk t) ns ++ after t root p.parent) (none_behind t p.nav next)

pub lower_up : (t : Tree) (root : ℕ) (p : Place) → IsGrown t → Stands t root p → p.nav ≢ root → p.parent < p.nav
lower_up t root p grown st other = above_lower t p.nav p.parent grown.ordered st.within (st.under other).above

pub stands_up : (t : Tree) (root : ℕ) (p : Place) (q : Place) → IsGrown t → Stands t root p → p.nav ≢ root → q.nav ≡ p.parent → q.parent < t.navs → ((m : ℕ) → parent_of t p.parent ≡ Some m → q.parent ≡ m) → Stands t root q
stands_up t root p q grown st other nav parent is =
    let u : Under t root p.nav p.parent = st.under other in
    record {
      within = subst (λ m. m < t.navs) (sym nav) u.within;
      parent = parent;
      under = λ o. go o (above t p.parent) refl;
    }
  where
    u : Under t root p.nav p.parent
    u = st.under other

    in_rest : (n : ℕ) (ns : List ℕ) → n ≢ root → is_in root (n ∷ ns) ≡ true → is_in root ns ≡ true
    in_rest n ns o h = sym (ap (λ b. b || is_in root ns) (ne_eqb n root o)) ∙ h

    go : q.nav ≢ root → (o : Option ℕ) → above t p.parent ≡ o → Under t root q.nav q.parent
    go apart None up =
        let none : false ≡ true = in_rest p.parent [] (λ e. apart (nav ∙ e)) (sym (ap (is_in root) (chain_top t p.parent grown.ordered u.within up)) ∙ u.below_root) in
        absurd cc
    go apart (Some m) up =
        let it : q.parent ≡ m = is m (parent_kept t p.parent m u.kept up) in
        record {
          within = parent;
          above = ap (above t) nav ∙ up ∙ ap (λ k. Some k) (sym it);
          below_root = ap (λ k. is_in root (chain t k)) it ∙ in_rest p.parent (chain t m) (λ e. apart (nav ∙ e)) (sym (ap (is_in root) (chain_up t p.parent m grown.ordered u.within up)) ∙ u.below_root);
          kept = ap (is_discarded t) it ∙ kept_above t p.parent m grown.ordered u.within up u.kept;
        }

-- SEARCHING on the walk

none_first : (test : ℕ → Bool) (n : ℕ) (ns : List ℕ) → test n ≡ false → find test (n ∷ ns) ≡ find test ns
none_first test n ns it = rw it refl

-- the navigable that passes is found
pub found_here : (t : Tree) (test : ℕ → Bool) (root n : ℕ) → IsGrown t → n < t.navs → test n ≡ true → find test (walk t n ++ after t root n) ≡ Some n
found_here t test root n grown there it = ap (λ ns. find test (ns ++ after t root n)) (walk_step t n grown there) ∙ rw it refl

-- one that doesn't pass is passed over, and so is a tree in which none passes
pub not_here : (t : Tree) (test : ℕ → Bool) (root n : ℕ) → IsGrown t → n < t.navs → test n ≡ false → find test (walk t n ++ after t root n) ≡ find test (left_after t root false n)
not_here t test root n grown there it =
    ap (λ ns. find test (ns ++ after t root n)) (walk_step t n grown there) ∙ none_first test n (flat_map (walk t) (children_of t (t.nav n).active) ++ after t root n) it

pub not_below : (t : Tree) (test : ℕ → Bool) (root n : ℕ) → find test (walk t n) ≡ None → find test (walk t n ++ after t root n) ≡ find test (left_after t root true n)
not_below t test root n none = find-append test (walk t n) (after t root n) ∙ ap (λ o. option_or o (find test (after t root n))) none

-- what is left is less
pub left_less : (t : Tree) (root n : ℕ) (b : Bool) → IsGrown t → n < t.navs → length (left_after t root b n) < length (walk t n ++ after t root n)
left_less t root n true grown there = omega (arith, ap length (walk_step t n grown there), length-append (walk t n) (after t root n))
left_less t root n false grown there = omega (arith, ap (λ ns. length (ns ++ after t root n)) (walk_step t n grown there))

-- the whole walk
pub from_root : (t : Tree) (test : ℕ → Bool) (root : ℕ) → find test (walk t root ++ after t root root) ≡ find test (walk t root)
from_root t test root = ap (λ ns. find test (walk t root ++ ns)) (after_root t root root refl) ∙ ap (find test) (append-nil (walk t root))

-- BY WHAT THE PROGRAM READS

first_none : (ns : List ℕ) → slice_get ns 0 ≡ None → ns ≡ []
first_none [] h = refl
first_none (n ∷ ns) h = absurd cc

first_some : (ns : List ℕ) (n : ℕ) → slice_get ns 0 ≡ Some n → ns ≡ n ∷ rest_of ns
first_some [] n h = absurd cc
first_some (m ∷ ms) n h = let it : m ≡ n = cc in ap (λ x. x ∷ ms) it

pub comes_child : (t : Tree) (root c d : ℕ) (b : Bool) (p : Place) → IsGrown t → Stands t root p → d ≡ (t.nav p.nav).active → slice_get (children_of t d) 0 ≡ Some c → b ≡ false
    → Comes t root (left_after t root b p.nav) (Some (at c p.nav))
comes_child t root c d b p grown s shown child not =
    subst (λ x. Comes t root (left_after t root x p.nav) (Some (at c p.nav))) (sym not)
    (comes_first t root c p (rest_of (children_of t (t.nav p.nav).active)) grown s (first_some (children_of t (t.nav p.nav).active) c (ap (λ x. slice_get (children_of t x) 0) (sym shown) ∙ child)))

pub comes_on : (t : Tree) (root d n : ℕ) (b : Bool) (r : Option Place) → d ≡ (t.nav n).active → slice_get (children_of t d) 0 ≡ None → b ≡ false → Comes t root (after t root n) r → Comes t root (left_after t root b n) r
comes_on t root d n b r shown none not comes =
    subst (λ ns. Comes t root ns r) (sym (ap (λ x. left_after t root x n) not ∙ no_child t root n (first_none (children_of t (t.nav n).active) (ap (λ x. slice_get (children_of t x) 0) (sym shown) ∙ none)))) comes

pub comes_behind : (t : Tree) (root n : ℕ) (b : Bool) (r : Option Place) → b ≡ true → Comes t root (after t root n) r → Comes t root (left_after t root b n) r
comes_behind t root n b r it comes = subst (λ x. Comes t root (left_after t root x n) r) (sym it) comes

pub comes_later : (t : Tree) (root s : ℕ) (p : Place) (before : List ℕ) → IsGrown t → Stands t root p → p.nav ≢ root → next_sibling t p.nav ≡ Some s → after t root p.nav ≡ before → Comes t root before (Some (at s p.parent))
comes_later t root s p before grown st other next same = subst (λ ns. Comes t root ns (Some (at s p.parent))) same (comes_next t root s p grown st other next)

pub stands_at_root : (t : Tree) (root : ℕ) (p : Place) → root < t.navs → p.nav ≡ root → p.parent ≡ root → Stands t root p
stands_at_root t root p there nav parent = record {
  within = subst (λ n. n < t.navs) (sym nav) there;
  parent = subst (λ n. n < t.navs) (sym parent) there;
  under = λ other. absurd (other nav);
}

pub whole_walk : (t : Tree) (test : ℕ → Bool) (root n : ℕ) → n ≡ root → find test (walk t n ++ after t root n) ≡ find test (walk t root)
whole_walk t test root n is = ap (λ m. find test (walk t m ++ after t root m)) is ∙ from_root t test root

was_none : (t : Tree) (test : ℕ → Bool) (searched : Option ℕ) (n : ℕ) → IfSome searched (λ m. find test (walk t m) ≡ None) → is searched n ≡ true → find test (walk t n) ≡ None
was_none t test None n h it = absurd cc
was_none t test (Some m) n h it = subst (λ x. find test (walk t x) ≡ None) (eqb-true m n it) h

pub passed_by : (t : Tree) (test : ℕ → Bool) (root n : ℕ) (searched : Option ℕ) (b : Bool) → IsGrown t → n < t.navs → IfSome searched (λ m. find test (walk t m) ≡ None) → b ≡ is searched n → (not b && test n) ≡ false
    → find test (walk t n ++ after t root n) ≡ find test (left_after t root b n)
passed_by t test root n searched true grown there none is out = not_below t test root n (was_none t test searched n none (sym is))
passed_by t test root n searched false grown there none is out = not_here t test root n grown there out

pub new_find : (t : Tree) (test : ℕ → Bool) (root n : ℕ) (b : Bool) → IsGrown t → n < t.navs → (not b && test n) ≡ true → find test (walk t n ++ after t root n) ≡ Some n
new_find t test root n true grown there h = absurd cc
new_find t test root n false grown there h = found_here t test root n grown there h

-- the rest of a walk at its next place
pub at_end : (t : Tree) (root : ℕ) (ns : List ℕ) (r : Option Place) → Comes t root ns r → r ≡ None → ns ≡ []
at_end t root ns None c is = c
at_end t root ns (Some p) c is = absurd cc

pub at_place : (t : Tree) (root : ℕ) (ns : List ℕ) (r : Option Place) (p : Place) → Comes t root ns r → r ≡ Some p → (ns ≡ walk t p.nav ++ after t root p.nav) × Stands t root p
at_place t root ns None p c is = absurd cc
at_place t root ns (Some q) p c is = let it : q ≡ p = cc in subst (λ (x : Place). (ns ≡ walk t x.nav ++ after t root x.nav) × Stands t root x) it c
