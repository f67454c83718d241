-- What a coordinator decides, where its log may be full.
use Rattle.std.proofs.Common.{◌≡◌, ℕ, List, [], length, Option, Some, None, Bool, true, false, refl, sym, ap, ◌∙◌}
use Rattle.std.specs.Prelude.{◌&&◌, if◌then◌else◌}
use Rattle.tree_log.specs.declared.entry.Entry.{Entry}
use Rattle.tree_log.specs.declared.entry.What.{What}
use Rattle.origin_core.specs.Site.{fits}
use Rattle.origin_core.specs.Flags.{has_domain}
use Rattle.std.specs.Prelude.{map}
use Rattle.std.specs.Char.{to_ascii_lowercase}
use Rattle.tree_log.specs.Tree.{Tree, tree_of, is, is_active, nav_of, origin_of, domain_of, same_domain}
use Rattle.tree_log.specs.Urls.{url_of}
use Rattle.agent_terms.specs.declared.request.Request.{Request}
use Rattle.agent_terms.specs.declared.request.Request.TheVariants as ask
use Rattle.agent_terms.specs.declared.request.ReplyOutcome.{ReplyOutcome}
use Rattle.agent_terms.specs.declared.request.ReplyOutcome.TheVariants as reply
use Rattle.agent_laws.specs.Actors.{has_no_asker}
use Rattle.coordinator_rules.specs.Navigation.{Choice, Nothing, New, Existing, choice, may_navigate, flags_in}
use Rattle.coordinator_rules.specs.Decision.{Rules, Decision, Asking, asking, asker_of, home_if_active, exchange, asked_decision, decide, end_of, is_in_fragment, made_or_null, open_chosen, open_existing, may_send, if_open, is_live, is_address, one, navigation, effective_domain, domain_set, task_decision}
use Rattle.coordinator_rules.specs.NextTask.{next_task}
use Rattle.single_agent.specs.Turns.{is_full}
use Rattle.desk.specs.Serving.{decided, full, needs_room}

abbrev pub is_full_outcome : ReplyOutcome → Bool
is_full_outcome (reply.Full len) = true
is_full_outcome _ = false

abbrev NeverFull : Decision → Type 0
NeverFull d = is_full_outcome d.outcome ≡ false

if_never : (b : Bool) (x y : Decision) → NeverFull x → NeverFull y → NeverFull (if b then x else y)
if_never true x y p q = p
if_never false x y p q = q

made_never : (b : Bool) (n : ℕ) → is_full_outcome (made_or_null b n) ≡ false
made_never true n = refl
made_never false n = refl

existing_never : (a : Asking) (f : ℕ → List ℕ → Bool) (n : ℕ) (url : Option (List ℕ)) → NeverFull (open_existing a f n url)
existing_never a f n None = made_never a.noopener n
existing_never a f n (Some url) = if_never (may_send a n) _ _ (made_never a.noopener n) refl

open_never : (a : Asking) (f : ℕ → List ℕ → Bool) (url : Option (List ℕ)) (name : List ℕ) (c : Choice) → NeverFull (open_chosen a f url name c)
open_never a f url name Nothing = refl
open_never a f url name New = made_never a.noopener a.tree.navs
open_never a f url name (Existing n) = existing_never a f n url

domain_never : (rules : Rules) (t : Tree) (r asker : ℕ) (value : List ℕ) (effective : Option (List ℕ)) → NeverFull (domain_set rules t r asker value effective)
domain_never rules t r asker value None = refl
domain_never rules t r asker value (Some effective) =
    if_never (fits value effective (is_address (origin_of t asker)) rules.suffixes) (one r asker (What.Domain asker value) reply.Done) (one r asker What.Sync (reply.Security 11)) refl refl

open_to_never : (t : Tree) (r asker doc : ℕ) (w : What) → NeverFull (if_open t r asker doc w)
open_to_never t r asker doc w =
    if_never (is_live t asker doc) (if same_domain t asker doc then one r asker w reply.Done else one r asker What.Sync (reply.Security 8)) (one r asker What.Sync reply.Done)
    (if_never (same_domain t asker doc) (one r asker w reply.Done) (one r asker What.Sync (reply.Security 8)) refl refl) refl

decide_never : (rules : Rules) (t : Tree) (f : ℕ → List ℕ → Bool) (r : ℕ) (q : Request) → NeverFull (decide rules t f r q)
unfolding decide
decide_never rules t f r (ask.Open asker url name noopener user) = open_never (asking rules t r asker noopener user) f url name (choice t (nav_of t asker) name noopener user)
decide_never rules t f r (ask.Go asker doc url user) =
    if_never (is_live t asker doc)
    (if may_navigate t (nav_of t asker) (nav_of t doc) user then one r asker (navigation rules t (f (nav_of t doc) url) asker (nav_of t doc) url) reply.Done else one r asker What.Sync (reply.Security 7))
    (one r asker What.Sync reply.Done)
    (if_never (may_navigate t (nav_of t asker) (nav_of t doc) user) (one r asker (navigation rules t (f (nav_of t doc) url) asker (nav_of t doc) url) reply.Done) (one r asker What.Sync (reply.Security 7)) refl refl) refl
decide_never rules t f r (ask.Name asker doc name) = open_to_never t r asker doc (What.Name (nav_of t doc) name)
decide_never rules t f r (ask.Disown asker doc) = open_to_never t r asker doc (What.Opener (nav_of t doc) None)
decide_never rules t f r (ask.Domain asker value) =
    if_never (has_domain (flags_in t (nav_of t asker))) (one r asker What.Sync (reply.Security 9)) (domain_set rules t r asker (map to_ascii_lowercase value) (effective_domain (origin_of t asker) (domain_of t asker))) refl
    (domain_never rules t r asker (map to_ascii_lowercase value) (effective_domain (origin_of t asker) (domain_of t asker)))
decide_never rules t f r ask.Next = refl
decide_never rules t f r (ask.Sync asker) = refl
decide_never rules t f r (ask.Frame asker name flags url) = refl
decide_never rules t f r (ask.Drop asker nav) = refl
decide_never rules t f r (ask.Link asker url name noopener user) = refl
decide_never rules t f r (ask.Close asker doc user) = refl
decide_never rules t f r (ask.Post asker doc target body) = refl
decide_never rules t f r ask.More = refl

asked_never : (rules : Rules) (log : List Entry) (r : ℕ) (q : Request) → NeverFull (asked_decision rules log r q)
unfolding asked_decision
asked_never rules log r q = if_never (is_active (tree_of log) (asker_of q)) (decide rules (tree_of log) (is_in_fragment (tree_of log) (url_of log)) r q) (record { entries = []; outcome = reply.Unloaded (end_of log (asker_of q)) }) (decide_never rules (tree_of log) (is_in_fragment (tree_of log) (url_of log)) r q) refl

task_never : (r place : ℕ) (what : Option What) → NeverFull (task_decision r place what)
task_never r place None = refl
task_never r place (Some w) = refl

-- an exchange never says that the log is full
pub exchange_never : (rules : Rules) (log : List Entry) (r : ℕ) (q : Request) → is_full_outcome (exchange rules log r q).outcome ≡ false
unfolding exchange
exchange_never rules log r ask.Next = task_never r (length log) (next_task log r)
exchange_never rules log r ask.More = refl
exchange_never rules log r (ask.Sync asker) = if_never (is (home_if_active (tree_of log) asker) r) (asked_decision rules log r (ask.Sync asker)) (record { entries = []; outcome = reply.NotYours asker (home_if_active (tree_of log) asker) }) (asked_never rules log r (ask.Sync asker)) refl
exchange_never rules log r (ask.Frame asker name flags url) = if_never (is (home_if_active (tree_of log) asker) r) (asked_decision rules log r (ask.Frame asker name flags url)) (record { entries = []; outcome = reply.NotYours asker (home_if_active (tree_of log) asker) }) (asked_never rules log r (ask.Frame asker name flags url)) refl
exchange_never rules log r (ask.Drop asker nav) = if_never (is (home_if_active (tree_of log) asker) r) (asked_decision rules log r (ask.Drop asker nav)) (record { entries = []; outcome = reply.NotYours asker (home_if_active (tree_of log) asker) }) (asked_never rules log r (ask.Drop asker nav)) refl
exchange_never rules log r (ask.Open asker url name noopener user) = if_never (is (home_if_active (tree_of log) asker) r) (asked_decision rules log r (ask.Open asker url name noopener user)) (record { entries = []; outcome = reply.NotYours asker (home_if_active (tree_of log) asker) }) (asked_never rules log r (ask.Open asker url name noopener user)) refl
exchange_never rules log r (ask.Link asker url name noopener user) = if_never (is (home_if_active (tree_of log) asker) r) (asked_decision rules log r (ask.Link asker url name noopener user)) (record { entries = []; outcome = reply.NotYours asker (home_if_active (tree_of log) asker) }) (asked_never rules log r (ask.Link asker url name noopener user)) refl
exchange_never rules log r (ask.Go asker doc url user) = if_never (is (home_if_active (tree_of log) asker) r) (asked_decision rules log r (ask.Go asker doc url user)) (record { entries = []; outcome = reply.NotYours asker (home_if_active (tree_of log) asker) }) (asked_never rules log r (ask.Go asker doc url user)) refl
exchange_never rules log r (ask.Name asker doc name) = if_never (is (home_if_active (tree_of log) asker) r) (asked_decision rules log r (ask.Name asker doc name)) (record { entries = []; outcome = reply.NotYours asker (home_if_active (tree_of log) asker) }) (asked_never rules log r (ask.Name asker doc name)) refl
exchange_never rules log r (ask.Disown asker doc) = if_never (is (home_if_active (tree_of log) asker) r) (asked_decision rules log r (ask.Disown asker doc)) (record { entries = []; outcome = reply.NotYours asker (home_if_active (tree_of log) asker) }) (asked_never rules log r (ask.Disown asker doc)) refl
exchange_never rules log r (ask.Close asker doc user) = if_never (is (home_if_active (tree_of log) asker) r) (asked_decision rules log r (ask.Close asker doc user)) (record { entries = []; outcome = reply.NotYours asker (home_if_active (tree_of log) asker) }) (asked_never rules log r (ask.Close asker doc user)) refl
exchange_never rules log r (ask.Post asker doc target body) = if_never (is (home_if_active (tree_of log) asker) r) (asked_decision rules log r (ask.Post asker doc target body)) (record { entries = []; outcome = reply.NotYours asker (home_if_active (tree_of log) asker) }) (asked_never rules log r (ask.Post asker doc target body)) refl
exchange_never rules log r (ask.Domain asker value) = if_never (is (home_if_active (tree_of log) asker) r) (asked_decision rules log r (ask.Domain asker value)) (record { entries = []; outcome = reply.NotYours asker (home_if_active (tree_of log) asker) }) (asked_never rules log r (ask.Domain asker value)) refl

-- WHERE THE LOG IS FULL

-- a decision is that the log is full, where it is and room is needed; or else it is the exchange
pub data IsDecided (rules : Rules) (log : List Entry) (r : ℕ) (q : Request) : Type 0 where
  Full_log : is_full log ≡ true → needs_room (tree_of log) r q ≡ true → decided rules log r q ≡ full log → IsDecided rules log r q
  Decides : (is_full log && needs_room (tree_of log) r q) ≡ false → decided rules log r q ≡ exchange rules log r q → IsDecided rules log r q

both : (a b : Bool) → (a && b) ≡ true → (a ≡ true) × (b ≡ true)
both true true h = (refl, refl)
both true false h = absurd cc
both false b h = absurd cc

pub decided_by : (rules : Rules) (log : List Entry) (r : ℕ) (q : Request) → IsDecided rules log r q
unfolding decided
decided_by rules log r q = by (is_full log && needs_room (tree_of log) r q) refl
  where
    by : (b : Bool) → (is_full log && needs_room (tree_of log) r q) ≡ b → IsDecided rules log r q
    by true e = let two = both (is_full log) (needs_room (tree_of log) r q) e in Full_log two.0 two.1 (ap (λ (x : Bool). if x then full log else exchange rules log r q) e)
    by false e = Decides e (ap (λ (x : Bool). if x then full log else exchange rules log r q) e)

full_clash : (o p : ReplyOutcome) → o ≡ p → is_full_outcome o ≡ true → is_full_outcome p ≡ false → ⊥
full_clash o p e is other = let clash : true ≡ false = sym is ∙ ap is_full_outcome e ∙ other in absurd cc

-- it says so only then
pub says_full : (rules : Rules) (log : List Entry) (r : ℕ) (q : Request) → is_full_outcome (decided rules log r q).outcome ≡ true → (is_full log ≡ true) × (needs_room (tree_of log) r q ≡ true) × (decided rules log r q ≡ full log)
says_full rules log r q h = by (decided_by rules log r q)
  where
    by : IsDecided rules log r q → (is_full log ≡ true) × (needs_room (tree_of log) r q ≡ true) × (decided rules log r q ≡ full log)
    by (Full_log f n e) = (f, n, e)
    by (Decides e d) = absurd (full_clash _ _ (ap (λ (x : Decision). x.outcome) d) h (exchange_never rules log r q))

-- and else the exchange is made, and there is room where it is needed
pub says_other : (rules : Rules) (log : List Entry) (r : ℕ) (q : Request) → is_full_outcome (decided rules log r q).outcome ≡ false → ((is_full log && needs_room (tree_of log) r q) ≡ false) × (decided rules log r q ≡ exchange rules log r q)
says_other rules log r q h = by (decided_by rules log r q)
  where
    by : IsDecided rules log r q → ((is_full log && needs_room (tree_of log) r q) ≡ false) × (decided rules log r q ≡ exchange rules log r q)
    by (Full_log f n e) = let clash : true ≡ false = sym (ap (λ (x : Decision). is_full_outcome x.outcome) e) ∙ h in absurd cc
    by (Decides e d) = (e, d)

-- a refused exchange adds nothing
if_adds : (b : Bool) (x y : Decision) → b ≡ false → y.entries ≡ [] → (if b then x else y).entries ≡ []
if_adds true x y h e = absurd cc
if_adds false x y h e = e

home_adds : (home active : Bool) (x y z : Decision) → (home && active) ≡ false → y.entries ≡ [] → z.entries ≡ [] → (if home then (if active then x else y) else z).entries ≡ []
home_adds true true x y z h ey ez = absurd cc
home_adds true false x y z h ey ez = ey
home_adds false active x y z h ey ez = ez

refused : Tree → ℕ → Decision
refused t asker = record { entries = []; outcome = reply.NotYours asker (home_if_active t asker) }

exchange_of : (rules : Rules) (log : List Entry) (r : ℕ) (q : Request) → has_no_asker q ≡ false
    → exchange rules log r q ≡ (if is (home_if_active (tree_of log) (asker_of q)) r then asked_decision rules log r q else refused (tree_of log) (asker_of q))
unfolding exchange has_no_asker refused
exchange_of rules log r ask.Next h = absurd cc
exchange_of rules log r ask.More h = absurd cc
exchange_of rules log r (ask.Sync asker) h = refl
exchange_of rules log r (ask.Frame asker name flags url) h = refl
exchange_of rules log r (ask.Drop asker nav) h = refl
exchange_of rules log r (ask.Open asker url name noopener user) h = refl
exchange_of rules log r (ask.Link asker url name noopener user) h = refl
exchange_of rules log r (ask.Go asker doc url user) h = refl
exchange_of rules log r (ask.Name asker doc name) h = refl
exchange_of rules log r (ask.Disown asker doc) h = refl
exchange_of rules log r (ask.Close asker doc user) h = refl
exchange_of rules log r (ask.Post asker doc target body) h = refl
exchange_of rules log r (ask.Domain asker value) h = refl

pub roomless_adds : (rules : Rules) (log : List Entry) (r : ℕ) (q : Request) → has_no_asker q ≡ false → (is (home_if_active (tree_of log) (asker_of q)) r && is_active (tree_of log) (asker_of q)) ≡ false → (exchange rules log r q).entries ≡ []
unfolding asked_decision refused
roomless_adds rules log r q h n =
    ap (λ (d : Decision). d.entries) (exchange_of rules log r q h)
    ∙ home_adds (is (home_if_active (tree_of log) (asker_of q)) r) (is_active (tree_of log) (asker_of q)) (decide rules (tree_of log) (is_in_fragment (tree_of log) (url_of log)) r q)
    (record { entries = []; outcome = reply.Unloaded (end_of log (asker_of q)) }) (refused (tree_of log) (asker_of q)) n refl refl

-- a document's request needs room where it is an active document of the renderer
pub room_needed : (t : Tree) (r : ℕ) (q : Request) → has_no_asker q ≡ false → needs_room t r q ≡ (is (home_if_active t (asker_of q)) r && is_active t (asker_of q))
unfolding has_no_asker
room_needed t r ask.Next h = absurd cc
room_needed t r ask.More h = absurd cc
room_needed t r (ask.Sync asker) h = refl
room_needed t r (ask.Frame asker name flags url) h = refl
room_needed t r (ask.Drop asker nav) h = refl
room_needed t r (ask.Open asker url name noopener user) h = refl
room_needed t r (ask.Link asker url name noopener user) h = refl
room_needed t r (ask.Go asker doc url user) h = refl
room_needed t r (ask.Name asker doc name) h = refl
room_needed t r (ask.Disown asker doc) h = refl
room_needed t r (ask.Close asker doc user) h = refl
room_needed t r (ask.Post asker doc target body) h = refl
room_needed t r (ask.Domain asker value) h = refl
