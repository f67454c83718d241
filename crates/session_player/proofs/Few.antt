-- An exchange adds at most two entries, and none where nothing needs room.
use Rattle.std.proofs.Common.{◌≡◌, ℕ, ◌≤◌, List, [], ◌∷◌, ◌++◌, length, Option, Some, None, Bool, true, false, refl, ap, arith, length-append}
use Rattle.std.specs.Prelude.{◌||◌, ◌==◌, map, if◌then◌else◌}
use Rattle.std.specs.Char.{to_ascii_lowercase}
use Rattle.agent_laws.proofs.Logs.Exchanges.{domain_cases}
use Rattle.tree_log.specs.declared.entry.Entry.{Entry}
use Rattle.tree_log.specs.declared.entry.What.TheVariants.{Opener, Sync}
use Rattle.tree_log.specs.Tree.{Tree, tree_of, is_active, nav_of, same_domain}
use Rattle.tree_log.specs.Urls.{url_of}
use Rattle.agent_terms.specs.declared.request.Request.{Request}
use Rattle.agent_terms.specs.declared.request.Request.TheVariants as ask
use Rattle.agent_terms.specs.declared.request.ReplyOutcome.TheVariants.{Security}
use Rattle.coordinator_rules.specs.Navigation.{may_navigate, Choice, Existing, New, Nothing, choice}
use Rattle.coordinator_rules.specs.Decision.{asking, Rules, Decision, by, one, navigation, opener_entry, or_sync, made_or_null, open_chosen, is_live, decide, is_in_fragment, asker_of, asked_decision}
use Rattle.single_agent.specs.Turns.{HasRoom}

Few : Decision → Type 0
Few d = length d.entries ≤ 2

few_if : (b : Bool) (c d : Decision) → Few c → Few d → Few (if b then c else d)
few_if true c d h k = h
few_if false c d h k = k

few_twice : (a b : Bool) (c d e : Decision) → Few c → Few d → Few e → Few (if a then if b then c else d else e)
few_twice true true c d e h k j = h
few_twice true false c d e h k j = k
few_twice false b c d e h k j = j

few_front : (b : Bool) (x y : Entry) → length ((if b then [] else x ∷ []) ++ y ∷ []) ≤ 2
few_front true x y = omega arith
few_front false x y = omega arith

few_sync : (r asker : ℕ) (b : Bool) (x : Entry) → length (or_sync r asker (if b then [] else x ∷ [])) ≤ 2
few_sync r asker true x = omega arith
few_sync r asker false x = omega arith

few_chosen : (rules : Rules) (t : Tree) (f : ℕ → List ℕ → Bool) (r asker : ℕ) (url : Option (List ℕ)) (name : List ℕ) (noopener user : Bool) (c : Choice) → Few (open_chosen (asking rules t r asker noopener user) f url name c)
unfolding Few
few_chosen rules t f r asker url name noopener user Nothing = omega arith
few_chosen rules t f r asker url name noopener user New = omega arith
few_chosen rules t f r asker None name noopener user (Existing n) = few_sync r asker (noopener || n == nav_of t asker) (by r asker (Opener n (Some (nav_of t asker))))
few_chosen rules t f r asker (Some url) name noopener user (Existing n) =
    few_if (may_navigate t (nav_of t asker) n user) (record { entries = opener_entry t r asker noopener n ++ by r asker (navigation rules t (f n url) asker n url) ∷ []; outcome = made_or_null noopener n }) (one r asker Sync (Security 7))
    (few_front (noopener || n == nav_of t asker) (by r asker (Opener n (Some (nav_of t asker)))) (by r asker (navigation rules t (f n url) asker n url))) (omega arith)

few_decided : (rules : Rules) (t : Tree) (f : ℕ → List ℕ → Bool) (r : ℕ) (q : Request) → Few (decide rules t f r q)
unfolding decide Few
few_decided rules t f r ask.Next = omega arith
few_decided rules t f r (ask.Open asker url name noopener user) = few_chosen rules t f r asker url name noopener user (choice t (nav_of t asker) name noopener user)
few_decided rules t f r (ask.Go asker doc url user) = few_twice (is_live t asker doc) (may_navigate t (nav_of t asker) (nav_of t doc) user) _ _ _ (omega arith) (omega arith) (omega arith)
few_decided rules t f r (ask.Name asker doc name) = few_twice (is_live t asker doc) (same_domain t asker doc) _ _ _ (omega arith) (omega arith) (omega arith)
few_decided rules t f r (ask.Disown asker doc) = few_twice (is_live t asker doc) (same_domain t asker doc) _ _ _ (omega arith) (omega arith) (omega arith)
few_decided rules t f r (ask.Domain asker value) = domain_cases Few rules t r asker (map to_ascii_lowercase value) (λ n. omega arith) (λ effective e k. omega arith)
few_decided rules t f r q = omega arith

if_few : (b : Bool) (log : List Entry) (c d : Decision) → Few c → d.entries ≡ [] → length log ≤ 40000 → (b ≡ true → HasRoom log) → length ((if b then c else d).entries ++ log) ≤ 40000
unfolding Few
if_few true log c d few none short room = let h = room refl in let l = length-append c.entries log in omega arith
if_few false log c d few none short room = let l = length-append d.entries log in let n = ap length none in omega arith

-- none is added but where there is room
pub asked_few : (rules : Rules) (log : List Entry) (r : ℕ) (q : Request) → length log ≤ 40000 → (is_active (tree_of log) (asker_of q) ≡ true → HasRoom log) → length ((asked_decision rules log r q).entries ++ log) ≤ 40000
unfolding asked_decision
asked_few rules log r q short room =
    if_few (is_active (tree_of log) (asker_of q)) log (decide rules (tree_of log) (is_in_fragment (tree_of log) (url_of log)) r q) _ (few_decided rules (tree_of log) (is_in_fragment (tree_of log) (url_of log)) r q) refl short room
