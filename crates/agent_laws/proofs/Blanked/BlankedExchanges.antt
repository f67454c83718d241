-- What is decided on a blanked log.
use Rattle.std.proofs.Common.{◌≡◌, ℕ, List, [], ◌∷◌, ◌++◌, length, Option, Some, None, Bool, true, false, refl, sym, ap, ◌∙◌, not, ◌&&◌, if◌then◌else◌, inl, inr}
use Rattle.std.specs.Prelude.{◌==◌}
use Rattle.std.proofs.lemmas.Bool.{false≢true}
use Rattle.std.proofs.lemmas.Bool.Decides.{eqb_tells}
use Rattle.plain_data.specs.declared.data.Data.{Data}
use Rattle.origin_core.specs.declared.origin.Origin.{Origin}
use Rattle.tree_log.specs.declared.entry.Entry.{Entry}
use Rattle.tree_log.specs.declared.entry.Target.{Target}
use Rattle.tree_log.specs.declared.entry.What.{What}
use Rattle.tree_log.specs.declared.entry.What.TheVariants.{Sync, Open, Frame, Begin, Post, Fire, Lapse}
use Rattle.tree_log.specs.Tree.{Tree, tree_of, nav_of, home_of, is_active, is}
use Rattle.tree_log.specs.Urls.{url_of}
use Rattle.tree_log.specs.Blanking.{blank, blanked, hidden, is_homed}
use Rattle.tree_log.proofs.BlankLaws.{said, tree_of-blanked, length-blanked}
use Rattle.agent_terms.specs.declared.request.Request.{Request}
use Rattle.agent_terms.specs.declared.request.Request.TheVariants as ask
use Rattle.agent_terms.specs.declared.request.ReplyOutcome.TheVariants as reply
use Rattle.coordinator_rules.specs.NextTask.{next_task, first_task, task_of, ends, is_over}
use Rattle.coordinator_rules.specs.Navigation.{may_navigate, Choice, Existing, New, Nothing, choice}
use Rattle.coordinator_rules.specs.Decision.{asking, Rules, Decision, decide, exchange, end_of, is_in_fragment, asker_of, by, one, navigation, opener_entry, made_or_null, open_chosen, is_live, home_if_active}
use Rattle.agent_laws.specs.Actors.{has_no_asker}
use Rattle.agent_laws.proofs.Logs.Exchanges.{exchange-asked, asked-decided, not_yours, unloaded}

outcome_if : (test : Bool) (a b other : Decision) → a.outcome ≡ b.outcome → (if test then a else other).outcome ≡ (if test then b else other).outcome
outcome_if true a b other h = h
outcome_if false a b other h = refl

opened_outcome : (rules : Rules) (t : Tree) (f g : ℕ → List ℕ → Bool) (r asker : ℕ) (url : Option (List ℕ)) (name : List ℕ) (noopener user : Bool) (c : Choice)
    → (open_chosen (asking rules t r asker noopener user) f url name c).outcome ≡ (open_chosen (asking rules t r asker noopener user) g url name c).outcome
opened_outcome rules t f g r asker url name noopener user Nothing = refl
opened_outcome rules t f g r asker url name noopener user New = refl
opened_outcome rules t f g r asker None name noopener user (Existing n) = refl
opened_outcome rules t f g r asker (Some url) name noopener user (Existing n) = outcome_if (may_navigate t (nav_of t asker) n user) (to_url (f n url)) (to_url (g n url)) (one r asker Sync (reply.Security 7)) refl
  where
    to_url : Bool → Decision
    to_url fragment = record { entries = opener_entry t r asker noopener n ++ by r asker (navigation rules t fragment asker n url) ∷ []; outcome = made_or_null noopener n }

-- whether a request is a fragment navigation doesn't show in its outcome
decide_outcome : (rules : Rules) (t : Tree) (f g : ℕ → List ℕ → Bool) (r : ℕ) (q : Request) → (decide rules t f r q).outcome ≡ (decide rules t g r q).outcome
unfolding decide
decide_outcome rules t f g r (ask.Open asker url name noopener user) = opened_outcome rules t f g r asker url name noopener user (choice t (nav_of t asker) name noopener user)
decide_outcome rules t f g r (ask.Go asker doc url user) =
    let n : ℕ = nav_of t doc in
    outcome_if (is_live t asker doc) (if may_navigate t (nav_of t asker) n user then one r asker (navigation rules t (f n url) asker n url) reply.Done else one r asker Sync (reply.Security 7))
    (if may_navigate t (nav_of t asker) n user then one r asker (navigation rules t (g n url) asker n url) reply.Done else one r asker Sync (reply.Security 7)) (one r asker Sync reply.Done)
    (outcome_if (may_navigate t (nav_of t asker) n user) (one r asker (navigation rules t (f n url) asker n url) reply.Done) (one r asker (navigation rules t (g n url) asker n url) reply.Done) (one r asker Sync (reply.Security 7)) refl)
decide_outcome rules t f g r q = refl

end_of-blanked : (kept : ℕ → Bool) (log : List Entry) (d : ℕ) → end_of (blanked kept log) d ≡ end_of log d
unfolding end_of
end_of-blanked kept [] d = refl
end_of-blanked kept (e ∷ older) d = rw (tree_of-blanked kept older, length-blanked kept older, end_of-blanked kept older d) refl

asked_outcome : (rules : Rules) (t : Tree) (f g : ℕ → List ℕ → Bool) (r : ℕ) (q : Request) (place : ℕ) (active home : Bool)
    → (if home then (if active then decide rules t f r q else unloaded place) else not_yours t (asker_of q)).outcome
    ≡ (if home then (if active then decide rules t g r q else unloaded place) else not_yours t (asker_of q)).outcome
asked_outcome rules t f g r q place true true = decide_outcome rules t f g r q
asked_outcome rules t f g r q place false true = refl
asked_outcome rules t f g r q place active false = refl

-- the outcome of a request for anything but the next task is the same on a blanked log, whoever is kept
pub outcome-blanked : (rules : Rules) (kept : ℕ → Bool) (log : List Entry) (r : ℕ) (q : Request) → has_no_asker q ≡ false
    → (exchange rules (blanked kept log) r q).outcome ≡ (exchange rules log r q).outcome
outcome-blanked rules kept log r q other =
    rw (exchange-asked rules (blanked kept log) r q other, exchange-asked rules log r q other, asked-decided rules (blanked kept log) r q, asked-decided rules log r q, tree_of-blanked kept log, end_of-blanked kept log (asker_of q))
    (asked_outcome rules (tree_of log) (is_in_fragment (tree_of log) (url_of (blanked kept log))) (is_in_fragment (tree_of log) (url_of log)) r q (end_of log (asker_of q))
    (is_active (tree_of log) (asker_of q)) (is (home_if_active (tree_of log) (asker_of q)) r))

-- TASKS

-- an end of a message for a kept document is shown
end_or_hidden : (kept : ℕ → Bool) (to place doc : ℕ) (x : Bool) (by actor : Option ℕ) (w : What) → kept to ≡ true → ends to place w ≡ (doc == to && x) → (b : Bool) → kept doc ≡ b
    → ends to place (if not b then hidden else record { by = by; actor = actor; what = w }).what ≡ ends to place w
end_or_hidden kept to place doc x by actor w h is true e = refl
end_or_hidden kept to place doc x by actor w h is false e =
    elim (eqb_tells doc to) as (λ _. false ≡ ends to place w) [
      | inl p ↦ absurd (false≢true (sym e ∙ ap kept p.1 ∙ h))
      | inr p ↦ sym (is ∙ rw (p.0) refl)
    ]

ends-blank : (kept : ℕ → Bool) (to place : ℕ) → kept to ≡ true → (by actor : Option ℕ) (w : What) → ends to place (blank kept (record { by = by; actor = actor; what = w })).what ≡ ends to place w
ends-blank kept to place h by actor (Post a from origin target body) = said (ends to place) (not (kept a)) by actor (Post a from origin target body) refl
ends-blank kept to place h by actor (Fire doc post) = end_or_hidden kept to place doc (post == place) by actor (Fire doc post) h refl (kept doc) refl
ends-blank kept to place h by actor (Lapse doc post cause) = end_or_hidden kept to place doc (post == place) by actor (Lapse doc post cause) h refl (kept doc) refl
ends-blank kept to place h by actor w = refl

is_over-blanked : (kept : ℕ → Bool) (log : List Entry) (to place : ℕ) → kept to ≡ true → is_over (blanked kept log) to place ≡ is_over log to place
is_over-blanked kept [] to place h = refl
is_over-blanked kept (e ∷ older) to place h = rw (ends-blank kept to place h e.by e.actor e.what, is_over-blanked kept older to place h) refl

-- all documents homed at r are kept
abbrev KeepsAll : (ℕ → Bool) → Tree → ℕ → Type 0
KeepsAll kept t r = (d : ℕ) → is_homed t r d ≡ true → kept d ≡ true

-- of messages for kept documents the same ones are over
abbrev AreOverAlike : (ℕ → Bool) → (ℕ → ℕ → Bool) → (ℕ → ℕ → Bool) → Type 0
AreOverAlike kept over other = (to place : ℕ) → kept to ≡ true → over to place ≡ other to place

abbrev no_task : Option What
no_task = None

message-blank : (kept : ℕ → Bool) (t : Tree) (over other : ℕ → ℕ → Bool) (r place : ℕ) → KeepsAll kept t r → AreOverAlike kept over other → (by actor : Option ℕ) (to from : ℕ) (origin : Origin) (target : Target) (body : Data)
    → (b : Bool) → kept to ≡ b
    → task_of t over r place (if not b then hidden else record { by = by; actor = actor; what = Post to from origin target body }).what ≡ task_of t other r place (Post to from origin target body)
message-blank kept t over other r place homed same by actor to from origin target body true e = rw (same to place e) refl
message-blank kept t over other r place homed same by actor to from origin target body false e =
    elim (eqb_tells (home_of t to) r) as (λ _. no_task ≡ task_of t other r place (Post to from origin target body)) [
      | inl p ↦ absurd (false≢true (sym e ∙ homed to (p.0)))
      | inr p ↦ rw (p.0) refl
    ]

task_of-blank : (kept : ℕ → Bool) (t : Tree) (over other : ℕ → ℕ → Bool) (r place : ℕ) → KeepsAll kept t r → AreOverAlike kept over other → (by actor : Option ℕ) (w : What)
    → task_of t over r place (blank kept (record { by = by; actor = actor; what = w })).what ≡ task_of t other r place w
task_of-blank kept t over other r place homed same by actor (Open _ _ _ _ _ _ _ _ _ None) = refl
task_of-blank kept t over other r place homed same by actor (Open _ _ _ _ _ _ _ _ _ (Some load)) = refl
task_of-blank kept t over other r place homed same by actor (Frame _ _ _ _ _ _ None) = refl
task_of-blank kept t over other r place homed same by actor (Frame _ _ _ _ _ _ (Some load)) = refl
task_of-blank kept t over other r place homed same by actor (Begin _ load) = refl
task_of-blank kept t over other r place homed same by actor (Post to from origin target body) = message-blank kept t over other r place homed same by actor to from origin target body (kept to) refl
task_of-blank kept t over other r place homed same by actor (Fire doc post) = said (task_of t over r place) (not (kept doc)) by actor (Fire doc post) refl
task_of-blank kept t over other r place homed same by actor (Lapse doc post cause) = said (task_of t over r place) (not (kept doc)) by actor (Lapse doc post cause) refl
task_of-blank kept t over other r place homed same by actor w = refl

first_task-blanked : (kept : ℕ → Bool) (t : Tree) (over other : ℕ → ℕ → Bool) (r : ℕ) → KeepsAll kept t r → AreOverAlike kept over other → (log : List Entry)
    → first_task t over r (blanked kept log) ≡ first_task t other r log
first_task-blanked kept t over other r homed same [] = refl
first_task-blanked kept t over other r homed same (e ∷ older) =
    rw (first_task-blanked kept t over other r homed same older, length-blanked kept older, task_of-blank kept t over other r (length older) homed same e.by e.actor e.what) refl

-- a renderer's next task is the same where all documents homed there are kept
pub next_task-blanked : (kept : ℕ → Bool) (log : List Entry) (r : ℕ) → ((d : ℕ) → is_homed (tree_of log) r d ≡ true → kept d ≡ true) → next_task (blanked kept log) r ≡ next_task log r
unfolding next_task
next_task-blanked kept log r homed =
    rw (tree_of-blanked kept log) (first_task-blanked kept (tree_of log) (is_over (blanked kept log)) (is_over log) r homed (λ to place h. is_over-blanked kept log to place h) log)
