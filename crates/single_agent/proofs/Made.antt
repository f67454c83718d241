-- Who made the entries of an exchange.
use Rattle.std.proofs.Common.{◌≡◌, ℕ, List, [], ◌∷◌, ◌++◌, length, Option, Some, None, Bool, true, false, refl}
use Rattle.std.specs.Prelude.{◌==◌, ◌||◌, map, if◌then◌else◌}
use Rattle.std.specs.Char.{to_ascii_lowercase}
use Rattle.origin_core.specs.Flags.{has_domain}
use Rattle.origin_core.specs.Site.{fits}
use Rattle.tree_log.specs.declared.entry.Entry.{Entry}
use Rattle.tree_log.specs.declared.entry.What.{What}
use Rattle.tree_log.specs.declared.entry.What.TheVariants.{Opener, Sync, Domain}
use Rattle.tree_log.specs.Tree.{Tree, tree_of, is, nav_of, origin_of, domain_of, is_active, same_domain}
use Rattle.tree_log.specs.Urls.{url_of}
use Rattle.agent_terms.specs.declared.request.Request.{Request}
use Rattle.agent_terms.specs.declared.request.Request.TheVariants as ask
use Rattle.agent_terms.specs.declared.request.ReplyOutcome.{ReplyOutcome}
use Rattle.agent_terms.specs.declared.request.ReplyOutcome.TheVariants.{Done, Security, Unloaded, NotYours}
use Rattle.coordinator_rules.specs.NextTask.{next_task}
use Rattle.coordinator_rules.specs.Navigation.{flags_in, may_navigate, Choice, Existing, New, Nothing, choice}
use Rattle.coordinator_rules.specs.Decision.{asking, Rules, Decision, by, one, navigation, opener_entry, or_sync, made_or_null, open_chosen, is_live, is_address, effective_domain, domain_set, domain_decision, decide, is_in_fragment, asker_of, end_of, home_if_active, asked_decision, task_decision, exchange}

-- each entry is renderer r's
abbrev pub AreBy : ℕ → List Entry → Type 0
AreBy r [] = Unit {0}
AreBy r (e ∷ es) = (e.by ≡ Some r) × AreBy r es

IsBy : ℕ → Decision → Type 0
IsBy r d = AreBy r d.entries

if_by : (r : ℕ) (b : Bool) (c d : Decision) → IsBy r c → IsBy r d → IsBy r (if b then c else d)
if_by r true c d h k = h
if_by r false c d h k = k

one_by : (r asker : ℕ) (w : What) (o : ReplyOutcome) → IsBy r (one r asker w o)
unfolding IsBy
one_by r asker w o = (refl, tt)

front_by : (r asker to n : ℕ) (b : Bool) (w : What) → AreBy r ((if b then [] else by r asker (Opener n (Some to)) ∷ []) ++ by r asker w ∷ [])
front_by r asker to n true w = (refl, tt)
front_by r asker to n false w = (refl, (refl, tt))

sync_by : (r asker to n : ℕ) (b : Bool) → AreBy r (or_sync r asker (if b then [] else by r asker (Opener n (Some to)) ∷ []))
sync_by r asker to n true = (refl, tt)
sync_by r asker to n false = (refl, tt)

twice_by : (r asker : ℕ) (a b : Bool) (w : What) (o p q : ReplyOutcome) → IsBy r (if a then if b then one r asker w o else one r asker Sync p else one r asker Sync q)
twice_by r asker true true w o p q = one_by r asker w o
twice_by r asker true false w o p q = one_by r asker Sync p
twice_by r asker false b w o p q = one_by r asker Sync q

chosen_by : (rules : Rules) (t : Tree) (f : ℕ → List ℕ → Bool) (r asker : ℕ) (url : Option (List ℕ)) (name : List ℕ) (noopener user : Bool) (c : Choice) → IsBy r (open_chosen (asking rules t r asker noopener user) f url name c)
unfolding IsBy
chosen_by rules t f r asker url name noopener user Nothing = (refl, tt)
chosen_by rules t f r asker url name noopener user New = (refl, tt)
chosen_by rules t f r asker None name noopener user (Existing n) = sync_by r asker (nav_of t asker) n (noopener || n == nav_of t asker)
chosen_by rules t f r asker (Some url) name noopener user (Existing n) =
    if_by r (may_navigate t (nav_of t asker) n user) (record { entries = opener_entry t r asker noopener n ++ by r asker (navigation rules t (f n url) asker n url) ∷ []; outcome = made_or_null noopener n }) (one r asker Sync (Security 7))
    (front_by r asker (nav_of t asker) n (noopener || n == nav_of t asker) (navigation rules t (f n url) asker n url)) (one_by r asker Sync (Security 7))

set_by : (rules : Rules) (t : Tree) (r asker : ℕ) (value : List ℕ) (effective : Option (List ℕ)) → IsBy r (domain_set rules t r asker value effective)
unfolding IsBy
set_by rules t r asker value None = (refl, tt)
set_by rules t r asker value (Some effective) =
    if_by r (fits value effective (is_address (origin_of t asker)) rules.suffixes) (one r asker (Domain asker value) Done) (one r asker Sync (Security 11))
    (one_by r asker (Domain asker value) Done) (one_by r asker Sync (Security 11))

domain_by : (rules : Rules) (t : Tree) (r asker : ℕ) (value : List ℕ) → IsBy r (domain_decision rules t r asker value)
domain_by rules t r asker value =
    if_by r (has_domain (flags_in t (nav_of t asker))) (one r asker Sync (Security 9)) (domain_set rules t r asker value (effective_domain (origin_of t asker) (domain_of t asker)))
    (one_by r asker Sync (Security 9)) (set_by rules t r asker value (effective_domain (origin_of t asker) (domain_of t asker)))

decide_by : (rules : Rules) (t : Tree) (f : ℕ → List ℕ → Bool) (r : ℕ) (q : Request) → IsBy r (decide rules t f r q)
unfolding decide IsBy
decide_by rules t f r ask.Next = tt
decide_by rules t f r (ask.Open asker url name noopener user) = chosen_by rules t f r asker url name noopener user (choice t (nav_of t asker) name noopener user)
decide_by rules t f r (ask.Go asker doc url user) = twice_by r asker (is_live t asker doc) (may_navigate t (nav_of t asker) (nav_of t doc) user) (navigation rules t (f (nav_of t doc) url) asker (nav_of t doc) url) Done (Security 7) Done
decide_by rules t f r (ask.Name asker doc name) = twice_by r asker (is_live t asker doc) (same_domain t asker doc) _ Done (Security 8) Done
decide_by rules t f r (ask.Disown asker doc) = twice_by r asker (is_live t asker doc) (same_domain t asker doc) _ Done (Security 8) Done
decide_by rules t f r (ask.Domain asker value) = domain_by rules t r asker (map to_ascii_lowercase value)
decide_by rules t f r ask.More = tt
decide_by rules t f r q = (refl, tt)

asked_by : (rules : Rules) (log : List Entry) (r : ℕ) (q : Request) → IsBy r (asked_decision rules log r q)
unfolding asked_decision IsBy
asked_by rules log r q =
    if_by r (is_active (tree_of log) (asker_of q)) (decide rules (tree_of log) (is_in_fragment (tree_of log) (url_of log)) r q) (record { entries = []; outcome = Unloaded (end_of log (asker_of q)) })
    (decide_by rules (tree_of log) (is_in_fragment (tree_of log) (url_of log)) r q) tt

yours_by : (rules : Rules) (log : List Entry) (r : ℕ) (q : Request) →
    IsBy r (if is (home_if_active (tree_of log) (asker_of q)) r then asked_decision rules log r q else record { entries = []; outcome = NotYours (asker_of q) (home_if_active (tree_of log) (asker_of q)) })
unfolding IsBy
yours_by rules log r q =
    if_by r (is (home_if_active (tree_of log) (asker_of q)) r) (asked_decision rules log r q) (record { entries = []; outcome = NotYours (asker_of q) (home_if_active (tree_of log) (asker_of q)) })
    (asked_by rules log r q) tt

task_by : (r place : ℕ) (what : Option What) → IsBy r (task_decision r place what)
unfolding IsBy
task_by r place None = tt
task_by r place (Some w) = (refl, tt)

by_cases : (rules : Rules) (log : List Entry) (r : ℕ) (q : Request) → IsBy r (exchange rules log r q)
unfolding exchange IsBy
by_cases rules log r ask.Next = task_by r _ (next_task log r)
by_cases rules log r ask.More = tt
by_cases rules log r q = yours_by rules log r q

-- each entry of an exchange is that renderer's
pub exchange_by : (rules : Rules) (log : List Entry) (r : ℕ) (q : Request) → AreBy r (exchange rules log r q).entries
unfolding IsBy
exchange_by rules log r q = by_cases rules log r q

-- a task's exchange
pub next_gives : (rules : Rules) (log : List Entry) (r : ℕ) → exchange rules log r ask.Next ≡ task_decision r (length log) (next_task log r)
unfolding exchange
next_gives rules log r = refl
