-- The entries of an exchange are the renderer's own, and few.
use Rattle.std.proofs.Common.{◌≡◌, ◌≤◌, ℕ, List, [], ◌∷◌, length, Option, Some, None, Bool, true, false, refl, sym, subst, arith}
use Rattle.std.specs.List.{AllByRecursion, All}
use Rattle.std.proofs.lemmas.List.Elements.{All-from_recursion}
use Rattle.tree_log.specs.declared.entry.Entry.{Entry}
use Rattle.tree_log.specs.declared.entry.What.{What}
use Rattle.tree_log.specs.declared.entry.What.TheVariants.{Opener}
use Rattle.tree_log.specs.Tree.{tree_of, home_of, is_active}
use Rattle.tree_log.specs.Urls.{url_of}
use Rattle.agent_terms.specs.declared.request.Request.{Request}
use Rattle.agent_terms.specs.declared.request.Request.TheVariants as ask
use Rattle.coordinator_rules.specs.NextTask.{next_task}
use Rattle.coordinator_rules.specs.Decision.{Rules, Decision, exchange, asker_of, is_in_fragment, task_decision}
use Rattle.agent_laws.specs.Actors.{has_no_asker}
use Rattle.agent_laws.proofs.Logs.Exchanges.{without_asker, decided_or_none}
use Rattle.agent_laws.proofs.Logs.Admitted.{IsTask, Commits, Fires, Lapses, Closes as Gones, next_is_task}
use Rattle.exchange_laws.specs.Own.{IsActor, IsOwnActor, IsOwnWhat, IsOwn}
use Rattle.exchange_laws.proofs.Made.{IsMade, Syncs, Frames, Drops, Windows, Begins, Fragments, Openers, Names, Closes, Posts, Relaxes, IsAsked, IsDecided, AreFew, decide-made}

own_what : (rules : Rules) (log : List Entry) (r : ℕ) (q : Request) (w : What) → IsMade rules (tree_of log) q w → IsOwnWhat log r (Some (asker_of q)) w
own_what rules log r q w (Syncs _) = tt
own_what rules log r q w (Frames asker name flags url) = tt
own_what rules log r q w (Drops _ nav) = tt
own_what rules log r q w (Windows _ noopener) = tt
own_what rules log r q w (Begins _ n url e) = tt
own_what rules log r q w (Fragments _ n d url e) = tt
own_what rules log r q w (Openers _ n to) = tt
own_what rules log r q w (Names _ n) = tt
own_what rules log r q w (Closes _ n) = tt
own_what rules log r q w (Posts asker doc target body) = record { sender = asker; acts = refl; window = refl; origin_is = refl }
own_what rules log r q w (Relaxes asker value effective e fit) = tt

own_entry : (rules : Rules) (log : List Entry) (r : ℕ) (q : Request) (e : Entry) → IsActor (tree_of log) r (asker_of q) → IsAsked rules (tree_of log) r q e → IsOwn log r e
own_entry rules log r q e acts h = record {
  by = h.by;
  actor = subst (λ (a : Option ℕ). IsOwnActor (tree_of log) r a) (sym h.actor) acts;
  what = subst (λ (a : Option ℕ). IsOwnWhat log r a e.what) (sym h.actor) (own_what rules log r q e.what h.made);
}

own_entries : (rules : Rules) (log : List Entry) (r : ℕ) (q : Request) (es : List Entry) → IsActor (tree_of log) r (asker_of q) → AllByRecursion (IsAsked rules (tree_of log) r q) es → AllByRecursion (IsOwn log r) es
own_entries rules log r q [] acts h = tt
own_entries rules log r q (e ∷ es) acts h = (own_entry rules log r q e acts h.0, own_entries rules log r q es acts h.1)

-- what is done for a task
task_what : (log : List Entry) (r : ℕ) (w : What) → next_task log r ≡ Some w → IsTask w → IsOwnWhat log r None w
task_what log r w e (Commits nav doc begin) = e
task_what log r w e (Fires doc post) = e
task_what log r w e (Lapses doc post cause) = e
task_what log r w e (Gones nav) = e

-- what is so of an exchange, where it is of each of its cases
pub record IsOwned (log : List Entry) (r : ℕ) (d : Decision) : Type 0 where
  pub own : AllByRecursion (IsOwn log r) d.entries
  pub few : AreFew d.entries

task_owned : (log : List Entry) (r place : ℕ) (o : Option What) → next_task log r ≡ o → IsOwned log r (task_decision r place o)
task_owned log r place None e = record { own = tt; few = tt }
task_owned log r place (Some w) e = record { own = (record { by = refl; actor = tt; what = task_what log r w e (next_is_task log r w e) }, tt); few = tt }

next_owned : (rules : Rules) (log : List Entry) (r : ℕ) → IsOwned log r (exchange rules log r ask.Next)
unfolding exchange
next_owned rules log r = task_owned log r (length log) (next_task log r) refl

Owned : List Entry → ℕ → Decision → Type 0
Owned log r d = IsOwned log r d

pub exchange_owned : (rules : Rules) (log : List Entry) (r : ℕ) (q : Request) → IsOwned log r (exchange rules log r q)
unfolding Owned
exchange_owned rules log r q = by_kind (has_no_asker q) refl
  where
    decided : ((tree_of log).doc (asker_of q)).been_active ≡ true → home_of (tree_of log) (asker_of q) ≡ r → is_active (tree_of log) (asker_of q) ≡ true → (d : Decision) → IsDecided rules (tree_of log) r q d → IsOwned log r d
    decided been home active d made = record { own = own_entries rules log r q d.entries (record { home = home; active = active }) made.asked; few = made.few }

    by_kind : (b : Bool) → has_no_asker q ≡ b → IsOwned log r (exchange rules log r q)
    by_kind true e = without_asker (Owned log r) rules log r q e (next_owned rules log r) (record { own = tt; few = tt })
    by_kind false e =
        decided_or_none (Owned log r) rules log r q e (record { own = tt; few = tt }) (record { own = tt; few = tt })
        (λ been home active. decided been home active _ (decide-made rules (tree_of log) (is_in_fragment (tree_of log) (url_of log)) r q))

pub all_own : (rules : Rules) (log : List Entry) (r : ℕ) (q : Request) → All (IsOwn log r) (exchange rules log r q).entries
all_own rules log r q = All-from_recursion (IsOwn log r) (exchange rules log r q).entries (exchange_owned rules log r q).own

few_length : (es : List Entry) → AreFew es → length es ≤ 2
few_length [] h = omega arith
few_length (e ∷ []) h = omega arith
few_length (e ∷ first ∷ []) h = omega arith
few_length (e ∷ first ∷ d ∷ es) h = absurd h

pub few_entries : (rules : Rules) (log : List Entry) (r : ℕ) (q : Request) → length (exchange rules log r q).entries ≤ 2
few_entries rules log r q = few_length (exchange rules log r q).entries (exchange_owned rules log r q).few

pub second_entry : (rules : Rules) (log : List Entry) (r : ℕ) (q : Request) (second first : Entry) → (exchange rules log r q).entries ≡ second ∷ first ∷ [] → (nav : ℕ) × (to : Option ℕ) × (second.what ≡ Opener nav to)
second_entry rules log r q second first e = let h : AreFew (second ∷ first ∷ []) = subst AreFew e (exchange_owned rules log r q).few in h
