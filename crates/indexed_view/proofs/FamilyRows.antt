-- A family written, read and added.
use Rattle.std.proofs.Common.{◌≡◌, ℕ, zero, suc, ◌<◌, List, [], ◌∷◌, ◌++◌, Bool, true, false, cond, refl, ap, sym, subst, ◌∙◌, length, get_or, set, inl, inr, arith, eqb, ne_eqb, eq-eqb, Some, ◌&&◌, not}
use Rattle.std.specs.Prelude.{slice_get, vec_capacity}
use Rattle.std.specs.Option.{option_map_or}
use Rattle.std.proofs.lemmas.Bool.Decides.{eqb_tells}
use Rattle.std.proofs.lemmas.Option.{slice_get_read}
use Rattle.indexed_view.specs.declared.families.Family.{Family}
use Rattle.tree_log.specs.Tree.{Tree}
use Rattle.indexed_view.specs.Live.{is_name, live}
use Rattle.indexed_view.specs.Lists.{IsAscending, is_in, without}
use Rattle.indexed_view.specs.Families.{named, children_in, named_in, taken, AreAscending, HasRoomIn, HasRoomIfAny}
use Rattle.indexed_view.proofs.Members.{ascending_filter}

slice_get-set : {X : Type 0} (xs : List X) (i k : ℕ) (x : X) → i < length xs → slice_get (set xs i x) k ≡ cond (eqb i k) (Some x) (slice_get xs k)
slice_get-set [] i k x lt = absurd (omega arith)
slice_get-set (y ∷ xs) zero zero x lt = refl
slice_get-set (y ∷ xs) zero (suc k) x lt = rw (ne_eqb 0 (suc k) (λ e. absurd (omega arith))) refl
slice_get-set (y ∷ xs) (suc i) zero x lt = rw (ne_eqb (suc i) 0 (λ e. absurd (omega arith))) refl
slice_get-set (y ∷ xs) (suc i) (suc k) x lt =
    elim (eqb_tells i k) [
      | inl p ↦ slice_get-set xs i k x (omega arith) ∙ rw (p.0, eq-eqb (suc i) (suc k) (ap suc p.1)) refl
      | inr p ↦ slice_get-set xs i k x (omega arith) ∙ rw (p.0, ne_eqb (suc i) (suc k) (λ e. p.1 (omega (arith, e)))) refl
    ]

slice_get-push : {X : Type 0} (xs : List X) (x : X) (k : ℕ) {A : Type 0} (f : X → A) (e : A) → f x ≡ e → option_map_or f (slice_get (xs ++ x ∷ []) k) e ≡ option_map_or f (slice_get xs k) e
slice_get-push [] x zero f e is = is
slice_get-push [] x (suc k) f e is = refl
slice_get-push (y ∷ xs) x zero f e is = refl
slice_get-push (y ∷ xs) x (suc k) f e is = slice_get-push xs x k f e is

choose : {A B : Type 0} (f : A → B) (b : Bool) (x y : A) → f (cond b x y) ≡ cond b (f x) (f y)
choose f true x y = refl
choose f false x y = refl

written_at : {A : Type 0} (f : Family → A) (e : A) (fs : List Family) (i d : ℕ) (new : Family) → i < length fs
    → option_map_or f (slice_get (set fs i new) d) e ≡ cond (eqb i d) (f new) (option_map_or f (slice_get fs d) e)
written_at f e fs i d new lt = ap (λ o. option_map_or f o e) (slice_get-set fs i d new lt) ∙ choose (λ o. option_map_or f o e) (eqb i d) (Some new) (slice_get fs d)

read_at : {A : Type 0} (f : Family → A) (e : A) (fs : List Family) (i : ℕ) (old : Family) → i < length fs → old ≡ get_or fs i old → option_map_or f (slice_get fs i) e ≡ f old
read_at f e fs i old lt read = ap (λ o. option_map_or f o e) (slice_get_read fs (length fs) i old refl lt read)

pub children_read : (fs : List Family) (i : ℕ) (old : Family) → i < length fs → old ≡ get_or fs i old → children_in fs i ≡ old.children.items
children_read fs i old lt read = read_at (λ f. f.children.items) [] fs i old lt read

pub names_read : (fs : List Family) (i : ℕ) (old : Family) (q : List ℕ) → i < length fs → old ≡ get_or fs i old → named_in fs i q ≡ named old.names q
names_read fs i old q lt read = read_at (λ f. named f.names q) [] fs i old lt read

pub children_written : (fs : List Family) (i : ℕ) (old new : Family) → i < length fs → old ≡ get_or fs i old → (step : List ℕ → List ℕ) → new.children.items ≡ step old.children.items
    → (d : ℕ) → children_in (set fs i new) d ≡ cond (eqb i d) (step (children_in fs d)) (children_in fs d)
children_written fs i old new lt read step is d =
    written_at (λ f. f.children.items) [] fs i d new lt
    ∙ elim (eqb_tells i d) [
      | inl p ↦ rw p.0 (is ∙ ap step (sym (children_read fs i old lt read)) ∙ ap (λ k. step (children_in fs k)) p.1)
      | inr p ↦ rw p.0 refl
    ]

pub names_written : (fs : List Family) (i : ℕ) (old new : Family) → i < length fs → old ≡ get_or fs i old → (test : List ℕ → Bool) (step : List ℕ → List ℕ)
    → ((q : List ℕ) → named new.names q ≡ cond (test q) (step (named old.names q)) (named old.names q))
    → (d : ℕ) (q : List ℕ) → named_in (set fs i new) d q ≡ cond (eqb i d && test q) (step (named_in fs d q)) (named_in fs d q)
names_written fs i old new lt read test step is d q =
    written_at (λ f. named f.names q) [] fs i d new lt
    ∙ elim (eqb_tells i d) [
      | inl p ↦
          let same : named old.names q ≡ named_in fs d q = sym (names_read fs i old q lt read) ∙ ap (λ k. named_in fs k q) p.1 in
          rw p.0 (is q ∙ ap (λ ns. cond (test q) (step ns) ns) same)
      | inr p ↦ rw p.0 refl
    ]

-- one more family without children
pub children_pushed : (fs : List Family) (new : Family) → new.children.items ≡ [] → (d : ℕ) → children_in (fs ++ new ∷ []) d ≡ children_in fs d
children_pushed fs new none d = slice_get-push fs new d (λ f. f.children.items) [] none

pub names_pushed : (fs : List Family) (new : Family) → ((q : List ℕ) → named new.names q ≡ []) → (d : ℕ) (q : List ℕ) → named_in (fs ++ new ∷ []) d q ≡ named_in fs d q
names_pushed fs new none d q = slice_get-push fs new d (λ f. named f.names q) [] (none q)

-- what is known of one family
pub name_ascends : (fs : List Family) (i : ℕ) (old : Family) (q : List ℕ) → i < length fs → old ≡ get_or fs i old → AreAscending fs i → IsAscending (named old.names q)
name_ascends fs i old q lt read up = subst IsAscending (names_read fs i old q lt read) (up.1 q)

pub children_ascend : (fs : List Family) (i : ℕ) (old : Family) → i < length fs → old ≡ get_or fs i old → AreAscending fs i → IsAscending old.children.items
children_ascend fs i old lt read up = subst IsAscending (children_read fs i old lt read) up.0

pub has_room : (fs : List Family) (i : ℕ) (old : Family) (q : List ℕ) → i < length fs → old ≡ get_or fs i old → HasRoomIn fs i q → (length old.children.items < vec_capacity old.children) × HasRoomIfAny old.names q
has_room fs i old q lt read room = room old (slice_get_read fs (length fs) i old refl lt read)

pub live_read : (t : Tree) (fs : List Family) (i d : ℕ) (row : Family) (items : List ℕ) → i < length fs → row ≡ get_or fs i row → ((d : ℕ) → children_in fs d ≡ live t d) → items ≡ (get_or fs i row).children.items → i ≡ d → items ≡ live t d
live_read t fs i d row items lt read are is at = is ∙ ap (λ (r : Family). r.children.items) (sym read) ∙ sym (children_read fs i row lt read) ∙ are i ∙ ap (live t) at

pub names_changed : (fs : List Family) (i : ℕ) (old new : Family) → i < length fs → old ≡ get_or fs i old → (step : List ℕ → List ℕ → List ℕ)
    → ((q : List ℕ) → named new.names q ≡ step q (named old.names q)) → (d : ℕ) (q : List ℕ) → named_in (set fs i new) d q ≡ cond (eqb i d) (step q (named_in fs d q)) (named_in fs d q)
names_changed fs i old new lt read step is d q =
    written_at (λ f. named f.names q) [] fs i d new lt
    ∙ elim (eqb_tells i d) [
      | inl p ↦ rw p.0 (is q ∙ ap (step q) (sym (names_read fs i old q lt read) ∙ ap (λ k. named_in fs k q) p.1))
      | inr p ↦ rw p.0 refl
    ]

either : {A : Type 0} (b : Bool) (x : A) → cond b x x ≡ x
either true x = refl
either false x = refl

pub children_unchanged : (fs : List Family) (i : ℕ) (old new : Family) → i < length fs → old ≡ get_or fs i old → new.children.items ≡ old.children.items → (d : ℕ) → children_in (set fs i new) d ≡ children_in fs d
children_unchanged fs i old new lt read is d = children_written fs i old new lt read (λ ns. ns) is d ∙ either (eqb i d) (children_in fs d)

pub taken_ascends : (n : ℕ) (from q ns : List ℕ) → IsAscending ns → IsAscending (taken n from q ns)
taken_ascends n from q ns up = pick (is_name from q)
  where
    pick : (b : Bool) → IsAscending (cond b (without n ns) ns)
    pick true = ascending_filter (λ m. not (eqb m n)) ns up
    pick false = up

-- where n is a child of the family that is written, and where it is none and nothing is written
pub names_renamed : (fs : List Family) (i n : ℕ) (old new : Family) → i < length fs → old ≡ get_or fs i old → (step : List ℕ → List ℕ → List ℕ) → is_in n old.children.items ≡ true
    → ((q : List ℕ) → named new.names q ≡ step q (named old.names q))
    → (d : ℕ) (q : List ℕ) → named_in (set fs i new) d q ≡ cond (eqb i d && is_in n (children_in fs d)) (step q (named_in fs d q)) (named_in fs d q)
names_renamed fs i n old new lt read step there is d q =
    names_changed fs i old new lt read step is d q
    ∙ elim (eqb_tells i d) [
      | inl p ↦
          let here : is_in n (children_in fs d) ≡ true = ap (λ k. is_in n (children_in fs k)) (sym p.1) ∙ ap (is_in n) (children_read fs i old lt read) ∙ there in
          rw (p.0, here) refl
      | inr p ↦ rw p.0 refl
    ]

pub names_left : (fs : List Family) (i n : ℕ) (old new : Family) → i < length fs → old ≡ get_or fs i old → (step : List ℕ → List ℕ → List ℕ) → is_in n old.children.items ≡ false → ((q : List ℕ) → named new.names q ≡ named old.names q)
    → (d : ℕ) (q : List ℕ) → named_in (set fs i new) d q ≡ cond (eqb i d && is_in n (children_in fs d)) (step q (named_in fs d q)) (named_in fs d q)
names_left fs i n old new lt read step away same d q =
    names_changed fs i old new lt read (λ _ ns. ns) same d q ∙ either (eqb i d) (named_in fs d q)
    ∙ elim (eqb_tells i d) [
      | inl p ↦
          let here : is_in n (children_in fs d) ≡ false = ap (λ k. is_in n (children_in fs k)) (sym p.1) ∙ ap (is_in n) (children_read fs i old lt read) ∙ away in
          rw (p.0, here) refl
      | inr p ↦ rw p.0 refl
    ]
