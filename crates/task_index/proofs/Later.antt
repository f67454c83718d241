-- What waits once an entry more was admitted waited before, but for windows that show another document.
use Rattle.std.proofs.Common.{◌≡◌, ℕ, ◌<◌, Option, Some, None, Bool, true, false, refl, ap, subst, arith, inl, inr}
use Rattle.std.specs.Prelude.{◌⊎◌, ◌==◌, ◌&&◌, ◌||◌, not, unwrap_or, if◌then◌else◌}
use Rattle.std.proofs.lemmas.Bool.{eqb-true}
use Rattle.tree_log.specs.declared.entry.Entry.{Entry}
use Rattle.tree_log.specs.declared.entry.Load.{Load}
use Rattle.tree_log.specs.declared.entry.Target.{Target}
use Rattle.tree_log.specs.declared.entry.What.{What}
use Rattle.tree_log.specs.declared.entry.What.TheVariants.{Open, Frame, Begin, Commit, Post, Closing}
use Rattle.tree_log.specs.Facts.{Birth, activates, doc_of_load, loads_in, shows}
use Rattle.tree_log.specs.Log.{is}
use Rattle.tree_log.specs.Tree.{Tree, tree_after, home_of, is_discarded}
use Rattle.tree_log.specs.Admits.{admits}
use Rattle.tree_log.proofs.Admitted.{both, born_stays, what_admitted, StandsFor, StandsIfAny, TaskStands}
use Rattle.coordinator_rules.specs.NextTask.{load_waits, load_task, delivery, ends, message_task, closing_task, task_of}
use Rattle.agent_laws.specs.Wellness.{IsWell}
use Rattle.agent_laws.proofs.Logs.Admitted.{tested_is}
use Rattle.agent_laws.proofs.Logs.Entries.{entry, at_cases, open_next, frame_next, begin_next}
use Rattle.agent_laws.proofs.Logs.Discarded.{IsSeated, discarded_later}

-- TESTS

all_of : (a b : Bool) → a ≡ true → b ≡ true → (a && b) ≡ true
all_of true b h k = k
all_of false b h k = absurd cc

not_right : (a b : Bool) → not (a || b) ≡ true → not b ≡ true
not_right true b h = absurd cc
not_right false b h = h

not_back : (a b : Bool) → (a ≡ true → b ≡ true) → not b ≡ true → not a ≡ true
not_back true true later h = h
not_back true false later h = absurd (let k = later refl in cc)
not_back false b later h = refl

-- there is a task
pub record HasTask (o : Option What) : Type 0 where
  pub task : What
  pub is : o ≡ Some task

has_if : (b : Bool) (w : What) → b ≡ true → HasTask (if b then Some w else None)
has_if b w h = record { task = w; is = ap (λ (x : Bool). if x then Some w else None) h }

-- the entry makes this navigable show another document, whose home is renderer r
pub record IsMoved (s : Tree) (nav r : ℕ) (w : What) : Type 0 where
  pub doc : ℕ
  pub begin : ℕ
  pub is : w ≡ Commit nav doc begin
  pub home : home_of s doc ≡ r

-- LOADS

-- the newest load of a navigable that was there is an older one, if it is of a document that was there
newest_back : (t : Tree) (by actor : Option ℕ) (w : What) → admits t (entry by actor w) ≡ true → (nav doc : ℕ) → nav < t.navs → doc < t.docs → is (unwrap_or (loads_in nav w) (t.nav nav).last_load) doc ≡ true → is (t.nav nav).last_load doc ≡ true
newest_back t by actor (Open n d group home origin name opener flags navigator load) h nav doc there lt =
    let next = open_next t by actor n d group home origin name opener flags navigator load (what_admitted t (entry by actor (Open n d group home origin name opener flags navigator load)) h) in
    let new : n ≡ t.navs = next.new_nav in
    at_cases (λ (o : Option ℕ). is o doc ≡ true → is (t.nav nav).last_load doc ≡ true) nav n (doc_of_load load) (t.nav nav).last_load (λ same k. absurd (omega arith)) (λ other k. k)
newest_back t by actor (Frame n d home origin name flags load) h nav doc there lt =
    let next = frame_next t by actor n d home origin name flags load (what_admitted t (entry by actor (Frame n d home origin name flags load)) h) in
    let new : n ≡ t.navs = next.new_nav in
    at_cases (λ (o : Option ℕ). is o doc ≡ true → is (t.nav nav).last_load doc ≡ true) nav n (doc_of_load load) (t.nav nav).last_load (λ same k. absurd (omega arith)) (λ other k. k)
newest_back t by actor (Begin n load) h nav doc there lt =
    let next = begin_next t by actor n load (what_admitted t (entry by actor (Begin n load)) h) in
    let new : load.doc ≡ t.docs = next.1 in
    at_cases (λ (o : Option ℕ). is o doc ≡ true → is (t.nav nav).last_load doc ≡ true) nav n (Some load.doc) (t.nav nav).last_load
    (λ same k. absurd (let it : load.doc ≡ doc = eqb-true load.doc doc k in omega arith)) (λ other k. k)
newest_back t by actor w h nav doc there lt = λ k. k

module _ (t : Tree) (e : Entry) (h : admits t e ≡ true) (well : IsWell t) (seated : IsSeated t) where
  last_load_after : (nav : ℕ) → ((tree_after t e).nav nav).last_load ≡ unwrap_or (loads_in nav e.what) (t.nav nav).last_load
  unfolding tree_after
  last_load_after nav = refl

  been_after : (doc : ℕ) → ((tree_after t e).doc doc).been_active ≡ shows doc e.what || (t.doc doc).been_active
  unfolding tree_after
  been_after doc = refl

  waits_back : (r nav : ℕ) (load : Load) → StandsFor t nav load → load_waits (tree_after t e) r nav load ≡ true → load_waits t r nav load ≡ true
  waits_back r nav load stands k =
      let three = both _ (not (is_discarded (tree_after t e) nav)) k in
      let two = both _ (not ((tree_after t e).doc load.doc).been_active) three.0 in
      let one = both (load.home == r) (is ((tree_after t e).nav nav).last_load load.doc) two.0 in
      let newest = newest_back t e.by e.actor e.what h nav load.doc stands.nav_there stands.doc (subst (λ (o : Option ℕ). is o load.doc ≡ true) (last_load_after nav) one.1) in
      let not_been = not_right (shows load.doc e.what) (t.doc load.doc).been_active (subst (λ (b : Bool). not b ≡ true) (been_after load.doc) two.1) in
      let kept = not_back (is_discarded t nav) (is_discarded (tree_after t e) nav) (discarded_later t e h well seated nav stands.nav_there) three.1 in
      all_of _ _ (all_of _ _ (all_of _ _ one.0 newest) not_been) kept

  load_back : (r place nav : ℕ) (load : Option Load) (task : What) → StandsIfAny t nav load → load_task (tree_after t e) r place nav load ≡ Some task → HasTask (load_task t r place nav load)
  load_back r place nav None task stands k = absurd cc
  load_back r place nav (Some load) task stands k =
      has_if (load_waits t r nav load) (Commit nav load.doc place) (waits_back r nav load stands (tested_is (load_waits (tree_after t e) r nav load) (Commit nav load.doc place) task k).0)

  -- MESSAGES

  home_stays : (doc : ℕ) → doc < t.docs → home_of (tree_after t e) doc ≡ home_of t doc
  home_stays doc lt = ap (λ (b : Birth). b.home) (born_stays t e doc h lt)

  message_back : (over : ℕ → ℕ → Bool) (r place to : ℕ) (target : Target) (task : What) → to < t.docs
      → message_task (tree_after t e) (λ d p. ends d p e.what || over d p) r place to target ≡ Some task → HasTask (message_task t over r place to target)
  message_back over r place to target task there k =
      let tested = (tested_is (home_of (tree_after t e) to == r && not (ends to place e.what || over to place)) (delivery (tree_after t e) place to target) task k).0 in
      let one = both (home_of (tree_after t e) to == r) (not (ends to place e.what || over to place)) tested in
      let home : (home_of t to == r) ≡ true = subst (λ (n : ℕ). (n == r) ≡ true) (home_stays to there) one.0 in
      has_if (home_of t to == r && not (over to place)) (delivery t place to target) (all_of _ _ home (not_right (ends to place e.what) (over to place) one.1))

  -- WINDOWS THAT CLOSE

  active_after : (nav : ℕ) → ((tree_after t e).nav nav).active ≡ unwrap_or (activates nav e.what) (t.nav nav).active
  unfolding tree_after
  active_after nav = refl

-- the home of the active document is what it was, or the entry moved it
home_back : (t s : Tree) (by actor : Option ℕ) (w : What) → admits t (entry by actor w) ≡ true → ((doc : ℕ) → doc < t.docs → home_of s doc ≡ home_of t doc) → (nav r : ℕ) → nav < t.navs → (t.nav nav).active < t.docs
    → (home_of s (unwrap_or (activates nav w) (t.nav nav).active) == r) ≡ true → ((home_of t (t.nav nav).active == r) ≡ true) ⊎ IsMoved s nav r w
home_back t s by actor (Open n d group home origin name opener flags navigator load) h stays nav r there lt =
    let w = Open n d group home origin name opener flags navigator load in
    let next = open_next t by actor n d group home origin name opener flags navigator load (what_admitted t (entry by actor w) h) in
    let new : n ≡ t.navs = next.new_nav in
    at_cases (λ (a : ℕ). (home_of s a == r) ≡ true → ((home_of t (t.nav nav).active == r) ≡ true) ⊎ IsMoved s nav r w) nav n d (t.nav nav).active (λ same k. absurd (omega arith))
    (λ other k. inl (subst (λ (x : ℕ). (x == r) ≡ true) (stays (t.nav nav).active lt) k))
home_back t s by actor (Frame n d home origin name flags load) h stays nav r there lt =
    let w = Frame n d home origin name flags load in
    let next = frame_next t by actor n d home origin name flags load (what_admitted t (entry by actor w) h) in
    let new : n ≡ t.navs = next.new_nav in
    at_cases (λ (a : ℕ). (home_of s a == r) ≡ true → ((home_of t (t.nav nav).active == r) ≡ true) ⊎ IsMoved s nav r w) nav n d (t.nav nav).active (λ same k. absurd (omega arith))
    (λ other k. inl (subst (λ (x : ℕ). (x == r) ≡ true) (stays (t.nav nav).active lt) k))
home_back t s by actor (Commit n d begin) h stays nav r there lt =
    at_cases (λ (a : ℕ). (home_of s a == r) ≡ true → ((home_of t (t.nav nav).active == r) ≡ true) ⊎ IsMoved s nav r (Commit n d begin)) nav n d (t.nav nav).active
    (λ same k. inr (record { doc = d; begin = begin; is = ap (λ (m : ℕ). Commit m d begin) same; home = eqb-true (home_of s d) r k }))
    (λ other k. inl (subst (λ (x : ℕ). (x == r) ≡ true) (stays (t.nav nav).active lt) k))
home_back t s by actor w h stays nav r there lt = λ k. inl (subst (λ (x : ℕ). (x == r) ≡ true) (stays (t.nav nav).active lt) k)

-- a window that an entry asked to close, and that the newest entry moved to renderer r
abbrev pub MovedWindow : Tree → ℕ → What → What → Type 0
MovedWindow s r moving (Closing nav) = IsMoved s nav r moving
MovedWindow s r moving w = ⊥

module _ (t : Tree) (e : Entry) (h : admits t e ≡ true) (well : IsWell t) (seated : IsSeated t) where
  closing_back : (r nav : ℕ) (task : What) → nav < t.navs → closing_task (tree_after t e) r nav ≡ Some task → HasTask (closing_task t r nav) ⊎ IsMoved (tree_after t e) nav r e.what
  closing_back r nav task there k =
      let tested = (tested_is (home_of (tree_after t e) ((tree_after t e).nav nav).active == r && not (is_discarded (tree_after t e) nav)) _ task k).0 in
      let one = both (home_of (tree_after t e) ((tree_after t e).nav nav).active == r) (not (is_discarded (tree_after t e) nav)) tested in
      let kept = not_back (is_discarded t nav) (is_discarded (tree_after t e) nav) (discarded_later t e h well seated nav there) one.1 in
      let at : (home_of (tree_after t e) (unwrap_or (activates nav e.what) (t.nav nav).active) == r) ≡ true = subst (λ (a : ℕ). (home_of (tree_after t e) a == r) ≡ true) (active_after t e h well seated nav) one.0 in
      elim (home_back t (tree_after t e) e.by e.actor e.what h (home_stays t e h well seated) nav r there (well.active nav there) at) as (λ _. HasTask (closing_task t r nav) ⊎ IsMoved (tree_after t e) nav r e.what) [
        | inl home ↦ inl (has_if (home_of t (t.nav nav).active == r && not (is_discarded t nav)) _ (all_of _ _ home kept))
        | inr moved ↦ inr moved
      ]

  -- what waits now waited before, or is a window that was moved
  pub task_back : (over : ℕ → ℕ → Bool) (r place : ℕ) (w task : What) → TaskStands t w → task_of (tree_after t e) (λ d p. ends d p e.what || over d p) r place w ≡ Some task
      → HasTask (task_of t over r place w) ⊎ MovedWindow (tree_after t e) r e.what w
  task_back over r place (Open nav _ _ _ _ _ _ _ _ load) task stands k = inl (load_back t e h well seated r place nav load task stands k)
  task_back over r place (Frame nav _ _ _ _ _ load) task stands k = inl (load_back t e h well seated r place nav load task stands k)
  task_back over r place (Begin nav load) task stands k = inl (load_back t e h well seated r place nav (Some load) task stands k)
  task_back over r place (Post to _ _ target _) task stands k = inl (message_back t e h well seated over r place to target task stands k)
  task_back over r place (Closing nav) task stands k = closing_back r nav task stands k
  task_back over r place _ task stands k = absurd cc
