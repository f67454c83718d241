-- Children, in the order of their numbers.
use Rattle.std.proofs.Common.{◌≡◌, ℕ, zero, suc, ◌+◌, ◌<◌, ◌≤◌, List, [], ◌∷◌, Option, Some, None, Bool, true, false, cond, not, ◌&&◌, refl, ap, sym, ◌∙◌, arith, subst, inl, inr, eqb, eq-eqb, eqb-true, filter}
use Rattle.std.specs.List.{range_with_len}
use Rattle.std.proofs.lemmas.Bool.Decides.{eqb_tells}
use Rattle.tree_log.specs.Tree.{Tree, is, embedder, nav_of, is_shown, is_discarded, is_active, children_of}
use Rattle.tree_log.specs.Siblings.{behind, children_behind, later_siblings, first_if_any, next_sibling}
use Rattle.tree_view.specs.Grown.{IsGrown}
use Rattle.nav_rules.specs.Walks.{nav_if_any, above}

-- rising numbers from k on, each of which is so
abbrev pub Rising : (ℕ → Type 0) → ℕ → List ℕ → Type 0
Rising P k [] = Unit {0}
Rising P k (n ∷ ns) = (k ≤ n) × P n × Rising P (suc n) ns

lower : (P : ℕ → Type 0) (j k : ℕ) (ns : List ℕ) → j ≤ k → Rising P k ns → Rising P j ns
lower P j k [] le r = tt
lower P j k (n ∷ ns) le r = (omega (arith, le, r.0), r.1, r.2)

range_rises : (n k j : ℕ) → k + j ≤ n → Rising (λ m. m < n) k (range_with_len k j)
range_rises n k zero le = tt
range_rises n k (suc j) le = (omega arith, omega (arith, le), lower (λ m. m < n) (suc k) (k + 1) (range_with_len (k + 1) j) (omega arith) (range_rises n (k + 1) j (omega (arith, le))))

filter_rises : (P Q : ℕ → Type 0) (test : ℕ → Bool) (k : ℕ) (ns : List ℕ) → ((n : ℕ) → test n ≡ true → P n → Q n) → Rising P k ns → Rising Q k (filter test ns)
filter_rises P Q test k [] keeps r = tt
filter_rises P Q test k (n ∷ ns) keeps r = go (filter_rises P Q test (suc n) ns keeps r.2) (test n) refl
  where
    go : Rising Q (suc n) (filter test ns) → (b : Bool) → test n ≡ b → Rising Q k (cond b (n ∷ filter test ns) (filter test ns))
    go more true it = (r.0, keeps n it r.1, more)
    go more false it = lower Q k (suc n) (filter test ns) (omega (arith, r.0)) more

-- a child of d is there, d embeds it, and it wasn't dropped
abbrev pub IsChild : Tree → ℕ → ℕ → Type 0
IsChild t d n = (n < t.navs) × (embedder t n ≡ Some d)

is_it : (e : Option ℕ) (d : ℕ) → is e d ≡ true → e ≡ Some d
is_it None d h = absurd cc
is_it (Some m) d h = ap (λ x. Some x) (eqb-true m d h)

pub children_rise : (t : Tree) (d : ℕ) → IsGrown t → Rising (IsChild t d) 0 (children_of t d)
unfolding children_of
children_rise t d grown = go (is_active t d)
  where
    framed : Rising (IsChild t d) 0 (t.frames d)
    framed = subst (λ ns. Rising (IsChild t d) 0 ns) (sym (grown.frames d))
        (filter_rises (λ m. m < t.navs) (IsChild t d) (λ n. is (embedder t n) d) 0 (range_with_len 0 t.navs) (λ n it there. (there, is_it (embedder t n) d it)) (range_rises t.navs 0 t.navs (omega arith)))

    go : (b : Bool) → Rising (IsChild t d) 0 (cond b (filter (λ n. not (t.nav n).dropped) (t.frames d)) [])
    go true = filter_rises (IsChild t d) (IsChild t d) (λ n. not (t.nav n).dropped) 0 (t.frames d) (λ n it child. child) framed
    go false = tt

-- what stands behind n, and behind the next one
pub record Follows (P : ℕ → Type 0) (k n s : ℕ) (ns others : List ℕ) : Type 0 where
  pub from : k ≤ s
  pub greater : n < s
  pub holds : P s
  pub rest : behind s ns ≡ others

same : (n : ℕ) → eqb n n ≡ true
same n = eq-eqb n n refl

apart : (m n : ℕ) → m < n → eqb m n ≡ false
apart m n lt = elim (eqb_tells m n) [
  | inl p ↦ absurd (omega (arith, lt, p.1))
  | inr p ↦ p.0
]

pub behind_next : (P : ℕ → Type 0) (k n s : ℕ) (ns rest : List ℕ) → Rising P k ns → behind n ns ≡ s ∷ rest → Follows P k n s ns rest
behind_next P k n s [] rest r b = absurd cc
behind_next P k n s (m ∷ ms) rest r b = go (λ q. behind_next P (suc m) n s ms rest r.2 q) (eqb m n) refl b
  where
    here : (ks : List ℕ) → ks ≡ s ∷ rest → m ≡ n → ms ≡ ks → Rising P (suc m) ks → Follows P k n s (m ∷ ms) rest
    here [] is at ks r2 = absurd cc
    here (x ∷ xs) is at ks r2 =
        let first : x ≡ s = cc in
        let others : xs ≡ rest = cc in
        let big : m < s = omega (arith, first, r2.0) in
        record {
          from = omega (arith, r.0, big);
          greater = omega (arith, at, big);
          holds = subst P first r2.1;
          rest = ap (λ c. cond c ms (behind s ms)) (apart m s big) ∙ ap (behind s) (ks ∙ is) ∙ ap (λ c. cond c rest (behind s rest)) (same s);
        }

    further : Follows P (suc m) n s ms rest → Follows P k n s (m ∷ ms) rest
    further f = record {
      from = omega (arith, r.0, f.from);
      greater = f.greater;
      holds = f.holds;
      rest = ap (λ c. cond c ms (behind s ms)) (apart m s (omega (arith, f.from))) ∙ f.rest;
    }

    go : (behind n ms ≡ s ∷ rest → Follows P (suc m) n s ms rest) → (c : Bool) → eqb m n ≡ c → cond c ms (behind n ms) ≡ s ∷ rest → Follows P k n s (m ∷ ms) rest
    go more true it q = here ms q (eqb-true m n it) refl r.2
    go more false it q = further (more q)

-- the next sibling of n, and those behind it
pub record NextTo (t : Tree) (n s : ℕ) : Type 0 where
  pub within : s < t.navs
  pub above : above t s ≡ above t n
  pub later : later_siblings t n ≡ s ∷ later_siblings t s

pub next_to : (t : Tree) (n s : ℕ) → IsGrown t → next_sibling t n ≡ Some s → NextTo t n s
unfolding next_sibling later_siblings
next_to t n s grown next = go (embedder t n) refl next
  where
    rest_of : (d : ℕ) → embedder t n ≡ Some d → (ns : List ℕ) → behind n (children_of t d) ≡ ns → first_if_any ns ≡ Some s → NextTo t n s
    rest_of d is [] b first = absurd cc
    rest_of d is (x ∷ xs) b first =
        let it : x ≡ s = cc in
        let f : Follows (IsChild t d) 0 n s (children_of t d) xs = behind_next (IsChild t d) 0 n s (children_of t d) xs (children_rise t d grown) (b ∙ ap (λ y. y ∷ xs) it) in
        record {
          within = f.holds.0;
          above = ap (nav_if_any t) f.holds.1 ∙ ap (nav_if_any t) (sym is);
          later = ap (children_behind t n) is ∙ b ∙ ap (λ y. y ∷ xs) it ∙ ap (λ ns. s ∷ ns) (sym (ap (children_behind t s) f.holds.1 ∙ f.rest));
        }

    go : (e : Option ℕ) → embedder t n ≡ e → first_if_any (children_behind t n e) ≡ Some s → NextTo t n s
    go None is q = absurd cc
    go (Some d) is q = rest_of d is (behind n (children_of t d)) refl q

-- where there is no next sibling, none stands behind
pub none_behind : (t : Tree) (n : ℕ) → next_sibling t n ≡ None → later_siblings t n ≡ []
unfolding next_sibling
none_behind t n next = go (later_siblings t n) next
  where
    go : (ns : List ℕ) → first_if_any ns ≡ None → ns ≡ []
    go [] q = refl
    go (x ∷ xs) q = absurd cc

-- the first child of what n shows, and its siblings
pub record FirstOf (t : Tree) (n c : ℕ) (cs : List ℕ) : Type 0 where
  pub within : c < t.navs
  pub above : above t c ≡ Some n
  pub kept : is_discarded t n ≡ false
  pub later : later_siblings t c ≡ cs

active_is : (t : Tree) (d c : ℕ) (cs : List ℕ) → children_of t d ≡ c ∷ cs → is_active t d ≡ true
unfolding children_of
active_is t d c cs h = go (is_active t d) refl h
  where
    go : (b : Bool) → is_active t d ≡ b → cond b (filter (λ n. not (t.nav n).dropped) (t.frames d)) [] ≡ c ∷ cs → is_active t d ≡ true
    go true is q = is
    go false is q = absurd cc

kept_of : (a b : Bool) → (a && not b) ≡ true → b ≡ false
kept_of true false h = refl
kept_of true true h = absurd cc
kept_of false b h = absurd cc

active_kept : (t : Tree) (d : ℕ) → is_active t d ≡ true → is_discarded t (nav_of t d) ≡ false
unfolding is_active
active_kept t d h = kept_of (is_shown t d) (is_discarded t (nav_of t d)) h

pub first_of : (t : Tree) (n c : ℕ) (cs : List ℕ) → IsGrown t → n < t.navs → children_of t (t.nav n).active ≡ c ∷ cs → FirstOf t n c cs
unfolding later_siblings
first_of t n c cs grown there h =
    let d : ℕ = (t.nav n).active in
    let own : nav_of t d ≡ n = grown.shows_its_own n there in
    let r : Rising (IsChild t d) 0 (c ∷ cs) = subst (λ ns. Rising (IsChild t d) 0 ns) h (children_rise t d grown) in
    record {
      within = r.1.0;
      above = ap (nav_if_any t) r.1.1 ∙ ap (λ m. Some m) own;
      kept = subst (λ m. is_discarded t m ≡ false) own (active_kept t d (active_is t d c cs h));
      later = ap (children_behind t c) r.1.1 ∙ ap (behind c) h ∙ ap (λ b. cond b cs (behind c cs)) (same c);
    }
