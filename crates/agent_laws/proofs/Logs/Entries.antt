-- What is known of an entry that was admitted.
use Rattle.std.proofs.Common.{◌≡◌, ℕ, ◌+◌, ◌<◌, List, Option, Some, None, Bool, true, false, refl, inl, inr, arith}
use Rattle.std.specs.Prelude.{◌⊎◌, ◌||◌, nat_lt, ◌==◌, unwrap_or}
use Rattle.std.proofs.lemmas.Bool.{false≢true}
use Rattle.std.proofs.lemmas.Bool.Decides.{eqb_tells}
use Rattle.std.specs.Option.{option_or}
use Rattle.origin_core.specs.declared.origin.Origin.{Origin}
use Rattle.tree_log.specs.declared.entry.Entry.{Entry}
use Rattle.tree_log.specs.declared.entry.Load.{Load}
use Rattle.tree_log.specs.declared.entry.What.{What}
use Rattle.tree_log.specs.declared.entry.What.TheVariants.{Open, Frame, Begin, Commit}
use Rattle.tree_log.specs.Facts.{at}
use Rattle.tree_log.specs.Tree.{Tree, nav_of, is_active}
use Rattle.tree_log.specs.Admits.{is_documents, has, has_if_any, is_next, is_next_load, admits_what}
use Rattle.tree_log.proofs.Admitted.{both, lt_of, eq_of}

abbrev pub entry : Option ℕ → Option ℕ → What → Entry
entry by actor w = record { by = by; actor = actor; what = w }

-- a reading of what an entry says of one of its numbers, or of what was said before
pub at_cases : {A : Type 0} (P : A → Type 0) (n number : ℕ) (x old : A) → (number ≡ n → P x) → ((number ≡ n → ⊥) → P old) → P (unwrap_or (at n number x) old)
at_cases {A} P n number x old here other =
    elim (eqb_tells number n) as (λ _. P (unwrap_or (at n number x) old)) [ inl p ↦ rw (p.0) (here p.1) | inr p ↦ rw (p.0) (other p.1) ]

pub next_number : (count number : ℕ) → is_next count number ≡ true → number ≡ count
next_number count number h = eq_of number count (both _ _ h).0

-- the load of a new navigable is of the document after the initial one
abbrev pub IsNextLoad : ℕ → Option Load → Type 0
IsNextLoad docs None = Unit {0}
IsNextLoad docs (Some load) = load.doc ≡ docs + 1

next_load : (count : ℕ) (load : Option Load) → is_next_load (count + 1) load ≡ true → IsNextLoad count load
next_load count None h = tt
next_load count (Some load) h = next_number (count + 1) load.doc h

-- a document acts
pub record HasActor (t : Tree) (by actor : Option ℕ) : Type 0 where
  pub renderer : ℕ
  pub document : ℕ
  pub by_it : by ≡ Some renderer
  pub acts : actor ≡ Some document
  pub there : document < t.docs
  pub is_there : is_active t document ≡ true

pub documents_actor : (t : Tree) (by actor : Option ℕ) → is_documents t by actor ≡ true → HasActor t by actor
documents_actor t None actor h = absurd (false≢true h)
documents_actor t (Some r) None h = absurd (false≢true h)
documents_actor t (Some r) (Some d) h =
    let two = both (nat_lt d t.docs) (is_active t d) h in
    record { renderer = r; document = d; by_it = refl; acts = refl; there = lt_of d t.docs two.0; is_there = two.1 }

either : (a b : Bool) → (a || b) ≡ true → (a ≡ true) ⊎ (b ≡ true)
either true b h = inl refl
either false b h = inr h

pub record OpenNext (t : Tree) (nav doc group : ℕ) (load : Option Load) : Type 0 where
  pub new_nav : nav ≡ t.navs
  pub new_doc : doc ≡ t.docs
  pub in_group : (group < t.groups) ⊎ (group ≡ t.groups)
  pub new_load : IsNextLoad t.docs load

pub open_next : (t : Tree) (by actor : Option ℕ) (nav doc group home : ℕ) (origin : Origin) (name : List ℕ) (opener : Option ℕ) (flags : ℕ) (navigator : Option ℕ) (load : Option Load)
    → admits_what t by actor (Open nav doc group home origin name opener flags navigator load) ≡ true → OpenNext t nav doc group load
open_next t by actor nav doc group home origin name opener flags navigator load h =
    let seven = both _ (is_next_load (t.docs + 1) load) h in
    let six = both _ (has_if_any t.navs navigator) seven.0 in
    let five = both _ (has_if_any t.navs opener) six.0 in
    let four = both _ (has t.groups group || is_next t.groups group) five.0 in
    let three = both _ (is_next t.docs doc) four.0 in
    let two = both _ (is_next t.navs nav) three.0 in
    record {
      new_nav = next_number t.navs nav two.1;
      new_doc = next_number t.docs doc three.1;
      in_group = elim (either (has t.groups group) (is_next t.groups group) four.1) [ inl p ↦ inl (lt_of group t.groups p) | inr p ↦ inr (next_number t.groups group p) ];
      new_load = next_load t.docs load seven.1;
    }

pub record FrameNext (t : Tree) (by actor : Option ℕ) (nav doc : ℕ) (load : Option Load) : Type 0 where
  pub who : HasActor t by actor
  pub new_nav : nav ≡ t.navs
  pub new_doc : doc ≡ t.docs
  pub new_load : IsNextLoad t.docs load

pub frame_next : (t : Tree) (by actor : Option ℕ) (nav doc home : ℕ) (origin : Origin) (name : List ℕ) (flags : ℕ) (load : Option Load)
    → admits_what t by actor (Frame nav doc home origin name flags load) ≡ true → FrameNext t by actor nav doc load
frame_next t by actor nav doc home origin name flags load h =
    let four = both _ (is_next_load (t.docs + 1) load) h in
    let three = both _ (is_next t.docs doc) four.0 in
    let two = both _ (is_next t.navs nav) three.0 in
    record { who = documents_actor t by actor two.0; new_nav = next_number t.navs nav two.1; new_doc = next_number t.docs doc three.1; new_load = next_load t.docs load four.1 }

pub begin_next : (t : Tree) (by actor : Option ℕ) (nav : ℕ) (load : Load) → admits_what t by actor (Begin nav load) ≡ true → (nav < t.navs) × (load.doc ≡ t.docs)
begin_next t by actor nav load h =
    let three = both _ (is_next t.docs load.doc) h in
    let two = both _ (has t.navs nav) three.0 in
    (lt_of nav t.navs two.1, next_number t.docs load.doc three.1)

pub commit_there : (t : Tree) (by actor : Option ℕ) (nav doc begin : ℕ) → admits_what t by actor (Commit nav doc begin) ≡ true → (nav < t.navs) × (doc < t.docs) × (nav_of t doc ≡ nav)
commit_there t by actor nav doc begin h =
    let five = both _ _ h in
    let four = both _ (nav_of t doc == nav) five.0 in
    let three = both _ (has t.docs doc) four.0 in
    let two = both _ (has t.navs nav) three.0 in
    (lt_of nav t.navs two.1, lt_of doc t.docs three.1, eq_of (nav_of t doc) nav four.1)

-- what an entry says of its own numbers

pub at_self : {A : Type 0} (n : ℕ) (x old : A) → unwrap_or (at n n x) old ≡ x
at_self {A} n x old = elim (eqb_tells n n) as (λ _. unwrap_or (at n n x) old ≡ x) [ inl p ↦ rw (p.0) refl | inr p ↦ absurd (p.1 refl) ]

pub at_first : {A : Type 0} (n : ℕ) (x old : A) (o : Option A) → unwrap_or (option_or (at n n x) o) old ≡ x
at_first {A} n x old o = elim (eqb_tells n n) as (λ _. unwrap_or (option_or (at n n x) o) old ≡ x) [ inl p ↦ rw (p.0) refl | inr p ↦ absurd (p.1 refl) ]

pub at_next : {A : Type 0} (n : ℕ) (a b old : A) → unwrap_or (option_or (at (n + 1) n a) (at (n + 1) (n + 1) b)) old ≡ b
at_next {A} n a b old =
    elim (eqb_tells n (n + 1)) as (λ _. unwrap_or (option_or (at (n + 1) n a) (at (n + 1) (n + 1) b)) old ≡ b) [
      | inl p ↦ absurd (let e : n ≡ n + 1 = p.1 in omega arith)
      | inr p ↦ rw (p.0) (at_self (n + 1) b old)
    ]
