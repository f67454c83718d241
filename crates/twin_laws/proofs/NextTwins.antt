-- The next tasks of one renderer on twin logs.
use Rattle.std.proofs.Common.{◌≡◌, ℕ, ◌<◌, ◌≤◌, List, [], ◌∷◌, length, Option, Some, None, Bool, true, false, refl, ap, ◌∙◌, sym, subst, not, ◌&&◌, if◌then◌else◌, arith}
use Rattle.std.specs.Prelude.{◌==◌}
use Rattle.std.proofs.lemmas.Bool.{false≢true}
use Rattle.std.specs.Option.{option_or}
use Rattle.tree_log.specs.declared.entry.Entry.{Entry}
use Rattle.tree_log.specs.declared.entry.Target.{Target}
use Rattle.tree_log.specs.declared.entry.Target.TheVariants as targets
use Rattle.tree_log.specs.declared.entry.Cause.{Cause}
use Rattle.tree_log.specs.declared.entry.Cause.TheVariants as causes
use Rattle.tree_log.specs.declared.entry.What.{What}
use Rattle.tree_log.specs.declared.entry.What.TheVariants.{Open, Frame, Post, Fire, Lapse}
use Rattle.tree_log.specs.Tree.{Tree, tree_of, tree_after, tree_of_step, home_of, origin_of, is_active}
use Rattle.tree_log.specs.Blanking.{blank, hidden, is_homed}
use Rattle.agent_terms.specs.declared.request.Request.TheVariants as ask
use Rattle.coordinator_rules.specs.NextTask.{is_for, delivery, ends, is_over, message_task, task_of, first_task, next_task, task_entry}
use Rattle.coordinator_rules.specs.Decision.{Rules, exchange, task_decision}
use Rattle.twin_laws.specs.Twins.{bare, bare_what, IsTwin, TwinLogs, IsForThere, HomesStay}
use Rattle.agent_laws.proofs.Groups.Well.{more_docs}
use Rattle.twin_laws.proofs.Twins.{Agree, agree_same, tree_of-twin, length-twin}

-- MESSAGES THAT ARE OVER

-- how a message ended isn't needed to see that it ended
ends-bare : (to place : ℕ) (w : What) → ends to place (bare_what w) ≡ ends to place w
ends-bare to place (Fire doc post) = refl
ends-bare to place w = refl

ends-twin : (to place : ℕ) (kept : ℕ → Bool) (a b : Entry) → IsTwin kept a b → ends to place a.what ≡ ends to place b.what
ends-twin to place kept a b h = sym (ends-bare to place a.what) ∙ ap (λ (e : Entry). ends to place e.what) h.same_bare ∙ ends-bare to place b.what

is_over-twin : (r : ℕ) (left right : List Entry) → TwinLogs r left right → (to place : ℕ) → is_over left to place ≡ is_over right to place
is_over-twin r [] [] h to place = refl
is_over-twin r (a ∷ left) (b ∷ right) h to place = rw (ends-twin to place (is_homed (tree_of (a ∷ left)) r) a b h.0, is_over-twin r left right h.1 to place) refl
is_over-twin r [] (b ∷ right) h to place = absurd h
is_over-twin r (a ∷ left) [] h to place = absurd h

-- A TASK BY WHAT ISN'T HIDDEN, AND THE TARGET

-- the target of a message; never, for what is none
target_in : What → Target
target_in (Post _ _ _ target _) = target
target_in w = targets.Never

to_in : What → ℕ
to_in (Post to _ _ _ _) = to
to_in w = 0

is_post : What → Bool
is_post (Post _ _ _ _ _) = true
is_post w = false

task_from : Tree → (ℕ → ℕ → Bool) → ℕ → ℕ → What → Target → Option What
task_from t over x place (Post to _ _ _ _) target = message_task t over x place to target
task_from t over x place w target = task_of t over x place w

task_of-from : (t : Tree) (over : ℕ → ℕ → Bool) (x place : ℕ) (w : What) → task_of t over x place w ≡ task_from t over x place (bare_what w) (target_in w)
unfolding task_from target_in
task_of-from t over x place (Open _ _ _ _ _ _ _ _ _ None) = refl
task_of-from t over x place (Open _ _ _ _ _ _ _ _ _ (Some load)) = refl
task_of-from t over x place (Frame _ _ _ _ _ _ None) = refl
task_of-from t over x place (Frame _ _ _ _ _ _ (Some load)) = refl
task_of-from t over x place w = refl

-- two tasks that one who may not see the document takes for one: the same; or ends of one message to a document that isn't
-- homed at r
pub data TaskTwin (t : Tree) (r : ℕ) : Option What → Option What → Type 0 where
  Same : (task : Option What) → TaskTwin t r task task
  Ends : (to place : ℕ) (target other : Target) → (home_of t to == r) ≡ false → TaskTwin t r (Some (delivery t place to target)) (Some (delivery t place to other))

abbrev no_task : Option What
no_task = None

or_twin : (t : Tree) (r : ℕ) (a other b last : Option What) → TaskTwin t r a other → TaskTwin t r b last → TaskTwin t r (option_or a b) (option_or other last)
or_twin t r a other b last (Same None) k = k
or_twin t r a other b last (Same (Some w)) k = Same (Some w)
or_twin t r a other b last (Ends to place target another h) k = Ends to place target another h

tested_ends : (t : Tree) (r to place : ℕ) (target other : Target) → (home_of t to == r) ≡ false → (b : Bool)
    → TaskTwin t r (if b then Some (delivery t place to target) else None) (if b then Some (delivery t place to other) else None)
tested_ends t r to place target other h true = Ends to place target other h
tested_ends t r to place target other h false = Same no_task

message_twin : (t : Tree) (over others : ℕ → ℕ → Bool) (r x place to : ℕ) (target other : Target) → over to place ≡ others to place → (home : Bool) → (home_of t to == r) ≡ home → (home ≡ true → target ≡ other)
    → TaskTwin t r (message_task t over x place to target) (message_task t others x place to other)
message_twin t over others r x place to target other s true h e = rw (s, e refl) (Same (message_task t others x place to other))
message_twin t over others r x place to target other s false h e = rw s (tested_ends t r to place target other h (home_of t to == x && not (others to place)))

task_from-twin : (t : Tree) (over others : ℕ → ℕ → Bool) (r x place : ℕ) → ((to : ℕ) → over to place ≡ others to place) → (w : What) (target other : Target)
    → (is_post w ≡ true → (home_of t (to_in w) == r) ≡ true → target ≡ other) → TaskTwin t r (task_from t over x place w target) (task_from t others x place w other)
unfolding task_from is_post to_in
task_from-twin t over others r x place s (Post to _ _ _ _) target other e = message_twin t over others r x place to target other (s to) (home_of t to == r) refl (e refl)
task_from-twin t over others r x place s w target other e = Same (task_of t over x place w)

-- the target of a message for a kept document is shown
target_in-blank : (kept : ℕ → Bool) (by actor : Option ℕ) (w : What) → is_post (bare_what w) ≡ true → kept (to_in (bare_what w)) ≡ true
    → target_in (blank kept (record { by = by; actor = actor; what = w })).what ≡ target_in w
unfolding target_in is_post to_in
target_in-blank kept by actor (Post to from origin target body) p k = rw k refl
target_in-blank kept by actor (Fire doc post) p k = absurd (false≢true p)
target_in-blank kept by actor (Lapse doc post cause) p k = absurd (false≢true p)
target_in-blank kept by actor w p k = refl

post_there : (t : Tree) (w : What) → is_post (bare_what w) ≡ true → IsForThere t w → to_in (bare_what w) < t.docs
unfolding is_post to_in
post_there t (Post to from origin target body) p there = there
post_there t w p there = absurd (false≢true p)

-- TASKS OF TWINS

docs_older : (e : Entry) (older : List Entry) → (tree_of older).docs ≤ (tree_of (e ∷ older)).docs
docs_older e older = subst (λ (t : Tree). (tree_of older).docs ≤ t.docs) (sym (tree_of_step e older)) (more_docs (tree_of older) e)

-- the documents that there are by the end of a log have the homes that they have in a tree
abbrev HasHomesOf : Tree → List Entry → Type 0
HasHomesOf t log = (d : ℕ) → d < (tree_of log).docs → home_of t d ≡ home_of (tree_of log) d

entry_twin : (t : Tree) (over others : ℕ → ℕ → Bool) (r x place : ℕ) (a b : Entry) (left : List Entry) → ((to : ℕ) → over to place ≡ others to place) → IsForThere (tree_of left) a.what → HasHomesOf t (a ∷ left)
    → IsTwin (is_homed (tree_of (a ∷ left)) r) a b → TaskTwin t r (task_of t over x place a.what) (task_of t others x place b.what)
entry_twin t over others r x place a b left s there homes h =
    let kept : ℕ → Bool = is_homed (tree_of (a ∷ left)) r in
    let same_kind : bare_what b.what ≡ bare_what a.what = sym (ap (λ (e : Entry). e.what) h.same_bare) in
    let same_target : is_post (bare_what a.what) ≡ true → (home_of t (to_in (bare_what a.what)) == r) ≡ true → target_in a.what ≡ target_in b.what =
    λ p k.
    let lt : to_in (bare_what a.what) < (tree_of left).docs = post_there (tree_of left) a.what p there in
    let more : (tree_of left).docs ≤ (tree_of (a ∷ left)).docs = docs_older a left in
    let home : kept (to_in (bare_what a.what)) ≡ true = ap (λ (n : ℕ). n == r) (sym (homes (to_in (bare_what a.what)) (omega arith))) ∙ k in
    sym (target_in-blank kept a.by a.actor a.what p home)
    ∙ ap (λ (e : Entry). target_in e.what) h.same_blank
    ∙ target_in-blank kept b.by b.actor b.what (ap is_post same_kind ∙ p) (ap (λ (w : What). kept (to_in w)) same_kind ∙ home) in
    rw (task_of-from t over x place a.what, task_of-from t others x place b.what, same_kind)
    (task_from-twin t over others r x place s (bare_what a.what) (target_in a.what) (target_in b.what) same_target)

first_task-twin : (t : Tree) (over others : ℕ → ℕ → Bool) (r x : ℕ) → ((to place : ℕ) → over to place ≡ others to place) → (left right : List Entry) → TwinLogs r left right → HomesStay left → HasHomesOf t left
    → TaskTwin t r (first_task t over x left) (first_task t others x right)
first_task-twin t over others r x s [] [] h stay homes = Same no_task
first_task-twin t over others r x s (a ∷ left) (b ∷ right) h stay homes =
    rw (sym (length-twin r left right h.1))
    (or_twin t r (first_task t over x left) (first_task t others x right) (task_of t over x (length left) a.what) (task_of t others x (length left) b.what)
    (first_task-twin t over others r x s left right h.1 stay.2 (λ d lt.
    let more : (tree_of left).docs ≤ (tree_of (a ∷ left)).docs = docs_older a left in
    homes d (omega arith) ∙ stay.1 d lt))
    (entry_twin t over others r x (length left) a b left (λ to. s to (length left)) stay.0 homes h.0))
first_task-twin t over others r x s [] (b ∷ right) h stay homes = absurd h
first_task-twin t over others r x s (a ∷ left) [] h stay homes = absurd h

pub next_task-twin : (r x : ℕ) (left right : List Entry) → TwinLogs r left right → HomesStay left → TaskTwin (tree_of left) r (next_task left x) (next_task right x)
unfolding next_task
next_task-twin r x left right h stay =
    rw (sym (tree_of-twin r left right h)) (first_task-twin (tree_of left) (is_over left) (is_over right) r x (is_over-twin r left right h) left right h stay (λ d lt. refl))

-- ENDS OF A MESSAGE

data End (to place : ℕ) : What → Type 0 where
  Fired : End to place (Fire to place)
  Lapsed : (cause : Cause) → End to place (Lapse to place cause)

delivery_ends : (t : Tree) (to place : ℕ) (target : Target) → End to place (delivery t place to target)
delivery_ends t to place target = by_tests (not (is_active t to)) (is_for target (origin_of t to))
  where
    by_tests : (a b : Bool) → End to place (if a then Lapse to place causes.Inactive else if b then Fire to place else Lapse to place causes.Origin)
    by_tests true b = Lapsed causes.Inactive
    by_tests false true = Fired
    by_tests false false = Lapsed causes.Origin

end_home : (t : Tree) (r x to place : ℕ) (w : What) → End to place w → (home_of t to == r) ≡ false → is_homed (tree_after t (task_entry x w)) r to ≡ false
unfolding tree_after
end_home t r x to place w Fired h = h
end_home t r x to place w (Lapsed cause) h = h

end_blank : (kept : ℕ → Bool) (x to place : ℕ) (w : What) → End to place w → kept to ≡ false → blank kept (task_entry x w) ≡ hidden
end_blank kept x to place w Fired k = rw k refl
end_blank kept x to place w (Lapsed cause) k = rw k refl

end_bare : (x to place : ℕ) (w : What) → End to place w → bare (task_entry x w) ≡ task_entry x (Lapse to place causes.Inactive)
end_bare x to place w Fired = refl
end_bare x to place w (Lapsed cause) = refl

-- two ends of one message to a document that isn't homed at r
end_twin : (left : List Entry) (r x to place : ℕ) (a b : What) → End to place a → End to place b → (home_of (tree_of left) to == r) ≡ false → IsTwin (is_homed (tree_of (task_entry x a ∷ left)) r) (task_entry x a) (task_entry x b)
end_twin left r x to place a b h k e =
    let kept : ℕ → Bool = is_homed (tree_of (task_entry x a ∷ left)) r in
    let away : kept to ≡ false = ap (λ (t : Tree). is_homed t r to) (tree_of_step (task_entry x a) left) ∙ end_home (tree_of left) r x to place a h e in
    record { same_bare = end_bare x to place a h ∙ sym (end_bare x to place b k); same_blank = end_blank kept x to place a h away ∙ sym (end_blank kept x to place b k away) }

-- EXCHANGES

next_agree : (left : List Entry) (r x place : ℕ) (a b : Option What) → TaskTwin (tree_of left) r a b → Agree r left (task_decision x place a) (task_decision x place b)
next_agree left r x place a b (Same o) = agree_same r left (task_decision x place o)
next_agree left r x place a b (Ends to post target other h) =
    let t : Tree = tree_of left in
    record {
      outcome = refl;
      logs = λ right twins. (end_twin left r x to post (delivery t post to target) (delivery t post to other) (delivery_ends t to post target) (delivery_ends t to post other) h, twins);
    }

pub next_pair : (rules : Rules) (left right : List Entry) (r x : ℕ) → TwinLogs r left right → HomesStay left → Agree r left (exchange rules left x ask.Next) (exchange rules right x ask.Next)
unfolding exchange
next_pair rules left right r x h stay = rw (sym (length-twin r left right h)) (next_agree left r x (length left) (next_task left x) (next_task right x) (next_task-twin r x left right h stay))
