-- Who acts in the entries of an exchange.
use Rattle.std.proofs.Common.{◌≡◌, ℕ, List, [], ◌∷◌, ◌++◌, Option, Some, None, Bool, true, false, refl, inl, inr}
use Rattle.std.specs.Prelude.{◌⊎◌, ◌||◌, ◌==◌, map, if◌then◌else◌}
use Rattle.std.specs.Char.{to_ascii_lowercase}
use Rattle.tree_log.specs.declared.entry.Entry.{Entry}
use Rattle.tree_log.specs.declared.entry.What.{What}
use Rattle.tree_log.specs.declared.entry.What.TheVariants as what
use Rattle.tree_log.specs.Tree.{Tree, tree_of, nav_of, same_domain}
use Rattle.agent_terms.specs.declared.request.Request.{Request}
use Rattle.agent_terms.specs.declared.request.Request.TheVariants as ask
use Rattle.agent_terms.specs.declared.request.ReplyOutcome.{ReplyOutcome}
use Rattle.agent_terms.specs.declared.request.ReplyOutcome.TheVariants as reply
use Rattle.coordinator_rules.specs.NextTask.{next_task}
use Rattle.coordinator_rules.specs.Navigation.{may_navigate, Choice, Existing, New, Nothing, choice}
use Rattle.coordinator_rules.specs.Decision.{asking, Rules, Decision, decide, exchange, asker_of, by, one, navigation, new_window, made_or_null, opener_entry, or_sync, open_chosen, is_live, task_decision}
use Rattle.agent_laws.specs.Actors.{has_no_asker, AreActedBy, IsFenced}
use Rattle.agent_laws.proofs.Logs.Exchanges.{decided_or_none, domain_cases}

Acted : ℕ → Option ℕ → Decision → Type 0
Acted r actor d = AreActedBy r actor d.entries

acted_if : (r : ℕ) (actor : Option ℕ) (b : Bool) (c d : Decision) → Acted r actor c → Acted r actor d → Acted r actor (if b then c else d)
acted_if r actor true c d h k = h
acted_if r actor false c d h k = k

acted_one : (r asker : ℕ) (w : What) (o : ReplyOutcome) → Acted r (Some asker) (one r asker w o)
unfolding Acted
acted_one r asker w o = ((refl, refl), tt)

acted_front : (r asker to n : ℕ) (b : Bool) (w : What) → AreActedBy r (Some asker) ((if b then [] else by r asker (what.Opener n (Some to)) ∷ []) ++ by r asker w ∷ [])
acted_front r asker to n true w = ((refl, refl), tt)
acted_front r asker to n false w = ((refl, refl), ((refl, refl), tt))

acted_sync : (r asker to n : ℕ) (b : Bool) → AreActedBy r (Some asker) (or_sync r asker (if b then [] else by r asker (what.Opener n (Some to)) ∷ []))
acted_sync r asker to n true = ((refl, refl), tt)
acted_sync r asker to n false = ((refl, refl), tt)

acted_opened : (rules : Rules) (t : Tree) (f : ℕ → List ℕ → Bool) (r asker : ℕ) (url : Option (List ℕ)) (name : List ℕ) (noopener user : Bool) (c : Choice) → Acted r (Some asker) (open_chosen (asking rules t r asker noopener user) f url name c)
unfolding Acted
acted_opened rules t f r asker url name noopener user Nothing = acted_one r asker what.Sync reply.Null
acted_opened rules t f r asker url name noopener user New = acted_one r asker (new_window rules t asker name noopener url) (made_or_null noopener t.navs)
acted_opened rules t f r asker None name noopener user (Existing n) = acted_sync r asker (nav_of t asker) n (noopener || n == nav_of t asker)
acted_opened rules t f r asker (Some url) name noopener user (Existing n) =
    acted_if r (Some asker) (may_navigate t (nav_of t asker) n user) (record { entries = opener_entry t r asker noopener n ++ by r asker (navigation rules t (f n url) asker n url) ∷ []; outcome = made_or_null noopener n }) (one r asker what.Sync (reply.Security 7))
    (acted_front r asker (nav_of t asker) n (noopener || n == nav_of t asker) (navigation rules t (f n url) asker n url)) (acted_one r asker what.Sync (reply.Security 7))

acted_twice : (r asker : ℕ) (a b : Bool) (w : What) (o p q : ReplyOutcome) → Acted r (Some asker) (if a then if b then one r asker w o else one r asker what.Sync p else one r asker what.Sync q)
acted_twice r asker true true w o p q = acted_one r asker w o
acted_twice r asker true false w o p q = acted_one r asker what.Sync p
acted_twice r asker false b w o p q = acted_one r asker what.Sync q

decide-acted : (rules : Rules) (t : Tree) (f : ℕ → List ℕ → Bool) (r : ℕ) (q : Request) → Acted r (Some (asker_of q)) (decide rules t f r q)
unfolding decide Acted
decide-acted rules t f r ask.Next = tt
decide-acted rules t f r (ask.Open asker url name noopener user) = acted_opened rules t f r asker url name noopener user (choice t (nav_of t asker) name noopener user)
decide-acted rules t f r (ask.Go asker doc url user) =
    acted_twice r asker (is_live t asker doc) (may_navigate t (nav_of t asker) (nav_of t doc) user) (navigation rules t (f (nav_of t doc) url) asker (nav_of t doc) url) reply.Done (reply.Security 7) reply.Done
decide-acted rules t f r (ask.Name asker doc name) =
    acted_twice r asker (is_live t asker doc) (same_domain t asker doc) (what.Name (nav_of t doc) name) reply.Done (reply.Security 8) reply.Done
decide-acted rules t f r (ask.Disown asker doc) =
    acted_twice r asker (is_live t asker doc) (same_domain t asker doc) (what.Opener (nav_of t doc) None) reply.Done (reply.Security 8) reply.Done
decide-acted rules t f r (ask.Domain asker value) =
    domain_cases (Acted r (Some asker)) rules t r asker (map to_ascii_lowercase value) (λ n. acted_one r asker what.Sync (reply.Security n)) (λ effective e f'. acted_one r asker (what.Domain asker (map to_ascii_lowercase value)) reply.Done)
decide-acted rules t f r ask.More = tt
decide-acted rules t f r q = ((refl, refl), tt)

FencedOrNone : List Entry → ℕ → Request → Decision → Type 0
FencedOrNone log r q d = (d.entries ≡ []) ⊎ IsFenced log r q d.entries

-- an exchange that adds entries has an active asker, which acts in each of them
pub fence : (rules : Rules) (log : List Entry) (r : ℕ) (q : Request) → has_no_asker q ≡ false → ((exchange rules log r q).entries ≡ []) ⊎ IsFenced log r q (exchange rules log r q).entries
unfolding FencedOrNone Acted
fence rules log r q other =
    decided_or_none (FencedOrNone log r q) rules log r q other (inl refl) (inl refl)
    (λ been home active. inr (record { active = active; home = home; acted = decide-acted rules (tree_of log) _ r q }))

task_acted : (r place : ℕ) (o : Option What) → AreActedBy r None (task_decision r place o).entries
task_acted r place None = tt
task_acted r place (Some w) = ((refl, refl), tt)

-- a task is its renderer's, and no document acts
pub fence_of_task : (rules : Rules) (log : List Entry) (r : ℕ) → AreActedBy r None (exchange rules log r ask.Next).entries
unfolding exchange
fence_of_task rules log r = task_acted r _ (next_task log r)
