-- What the coordinator decides on a request that steps make.
use Rattle.std.proofs.Common.{◌≡◌, ℕ, ◌+◌, ◌<◌, ◌≤◌, ◌^◌, List, [], ◌∷◌, length, drop, Some, None, Bool, true, false, zero, suc, refl, sym, ap, subst, ◌∙◌, arith}
use Rattle.std.specs.Prelude.{slice_get, ◌==◌, ◌||◌, if◌then◌else◌}
use Rattle.tree_log.specs.declared.entry.Entry.{Entry}
use Rattle.tree_log.specs.declared.entry.What.{What}
use Rattle.tree_log.specs.declared.entry.What.TheVariants.{Frame, Drop, Sync}
use Rattle.tree_log.specs.Tree.{Tree, tree_of, is, home_of, is_active, nav_of, children_of}
use Rattle.tree_log.specs.Urls.{url_of}
use Rattle.tree_log.specs.Admits.{admits, AreAdmitted}
use Rattle.tree_log.proofs.Admitted.{few_of}
use Rattle.origin_core.specs.Flags.{union}
use Rattle.agent_terms.specs.declared.request.Request.{Request}
use Rattle.agent_terms.specs.declared.request.Request.TheVariants as ask
use Rattle.agent_terms.specs.declared.request.ReplyOutcome.TheVariants as outcome
use Rattle.coordinator_rules.specs.Navigation.{flags_in, is_in}
use Rattle.coordinator_rules.specs.Decision.{Rules, Decision, by, decide, is_in_fragment, asker_of, end_of, home_if_active, asked_decision}
use Rattle.single_agent.proofs.Admitted.{sync_admitted, drop_admitted, frame_admitted}
use Rattle.agent_laws.proofs.Groups.Well.{admitted_well}
use Rattle.session_player.specs.declared.requests.Replied.{Replied}
use Rattle.session_player.specs.Serves.{Replies, Decides}

-- WHOSE A DOCUMENT IS

never_active : (t : Tree) (d r : ℕ) (b : Bool) → b ≡ false → is (if b then Some (home_of t d) else None) r ≡ false
never_active t d r true h = absurd cc
never_active t d r false h = refl

pub not_been : (t : Tree) (d r : ℕ) → (t.doc d).been_active ≡ false → is (home_if_active t d) r ≡ false
not_been t d r h = never_active t d r (t.doc d).been_active h

been_then : (t : Tree) (d r : ℕ) (b : Bool) → b ≡ true → is (if b then Some (home_of t d) else None) r ≡ (home_of t d == r)
been_then t d r true h = refl
been_then t d r false h = absurd cc

pub has_been : (t : Tree) (d r : ℕ) → (t.doc d).been_active ≡ true → is (home_if_active t d) r ≡ (home_of t d == r)
has_been t d r h = been_then t d r (t.doc d).been_active h

-- a document that wasn't made was never active
pub not_there : (log : List Entry) (d r : ℕ) → AreAdmitted log → (tree_of log).docs ≤ d → is (home_if_active (tree_of log) d) r ≡ false
not_there log d r all far = not_been (tree_of log) d r (never ((tree_of log).doc d).been_active refl) where
  never : (b : Bool) → ((tree_of log).doc d).been_active ≡ b → b ≡ false
  never true h = let lt : d < (tree_of log).docs = (admitted_well log all).shown d h in absurd (omega arith)
  never false h = refl

pub few_docs : (log : List Entry) → length log < 2 ^ 30 → (tree_of log).docs < 2 ^ 31
few_docs log h = let few = (few_of log).docs in omega arith

-- CHILDREN BY INDEX

pub rest_at : (xs : List ℕ) (i c : ℕ) → slice_get xs i ≡ Some c → drop i xs ≡ c ∷ drop (i + 1) xs
rest_at [] i c h = absurd cc
rest_at (x ∷ xs) zero c h = let same : x ≡ c = cc in ap (λ y. y ∷ xs) same
rest_at (x ∷ xs) (suc i) c h = let more : suc (i + 1) ≡ suc i + 1 = omega arith in rest_at xs i c h ∙ ap (λ k. c ∷ drop k (x ∷ xs)) more

pub none_at : (xs : List ℕ) (i : ℕ) → slice_get xs i ≡ None → drop i xs ≡ []
none_at [] i h = nothing i where
  nothing : (k : ℕ) → drop k (let none : List ℕ = [] in none) ≡ []
  nothing zero = refl
  nothing (suc k) = refl
none_at (x ∷ xs) zero h = absurd cc
none_at (x ∷ xs) (suc i) h = none_at xs i h

pub found_in : (xs : List ℕ) (i c nav : ℕ) → slice_get xs i ≡ Some c → (c == nav) ≡ true → is_in nav (drop i xs) ≡ is_in nav xs → true ≡ is_in nav xs
found_in xs i c nav h same rest = sym (ap (is_in nav) (rest_at xs i c h) ∙ ap (λ b. b || is_in nav (drop (i + 1) xs)) same) ∙ rest

pub not_in : (xs : List ℕ) (i nav : ℕ) → slice_get xs i ≡ None → is_in nav (drop i xs) ≡ is_in nav xs → false ≡ is_in nav xs
not_in xs i nav h rest = sym (ap (is_in nav) (none_at xs i h)) ∙ rest

pub past_in : (xs : List ℕ) (i c nav : ℕ) → slice_get xs i ≡ Some c → (c == nav) ≡ false → is_in nav (drop i xs) ≡ is_in nav xs → is_in nav (drop (i + 1) xs) ≡ is_in nav xs
past_in xs i c nav h other rest = sym (ap (is_in nav) (rest_at xs i c h) ∙ ap (λ b. b || is_in nav (drop (i + 1) xs)) other) ∙ rest

-- THE DECISION

if_no : {A : Type 0} (b : Bool) (x y : A) → b ≡ false → (if b then x else y) ≡ y
if_no true x y h = absurd cc
if_no false x y h = refl

if_yes : {A : Type 0} (b : Bool) (x y : A) → b ≡ true → (if b then x else y) ≡ x
if_yes true x y h = refl
if_yes false x y h = absurd cc

pub asked_ended : (rules : Rules) (log : List Entry) (r : ℕ) (q : Request) → is_active (tree_of log) (asker_of q) ≡ false → asked_decision rules log r q ≡ record { entries = []; outcome = outcome.Unloaded (end_of log (asker_of q)) }
unfolding asked_decision
asked_ended rules log r q h = if_no (is_active (tree_of log) (asker_of q)) _ _ h

pub asked_active : (rules : Rules) (log : List Entry) (r : ℕ) (q : Request) → is_active (tree_of log) (asker_of q) ≡ true → asked_decision rules log r q ≡ decide rules (tree_of log) (is_in_fragment (tree_of log) (url_of log)) r q
unfolding asked_decision
asked_active rules log r q h = if_yes (is_active (tree_of log) (asker_of q)) _ _ h

pub record IsDecided (d : Decision) (r asker : ℕ) (w : What) (reply : Replied) : Type 0 where
  pub entries : d.entries ≡ by r asker w ∷ []
  pub replies : Replies reply d.outcome

decided : (rules : Rules) (t : Tree) (f : ℕ → List ℕ → Bool) (r : ℕ) (q : Request) (w : What) (reply : Replied) → Decides rules t q w reply → IsDecided (decide rules t f r q) r (asker_of q) w reply
unfolding decide
decided rules t f r (ask.Sync asker) w reply h =
    record { entries = ap (λ x. by r asker x ∷ []) (sym h.0); replies = subst (λ (p : Replied). Replies p outcome.Done) (sym h.1) refl }
decided rules t f r (ask.Frame asker name flags url) w reply h =
    record { entries = ap (λ x. by r asker x ∷ []) (sym h.0); replies = subst (λ (p : Replied). Replies p (outcome.Made t.navs)) (sym h.1) refl }
decided rules t f r (ask.Drop asker nav) w reply h =
    record { entries = ap (λ x. by r asker x ∷ []) (sym h.0); replies = subst (λ (p : Replied). Replies p outcome.Done) (sym h.1) refl }
decided rules t f r _ w reply h = absurd h

pub asked_decided : (rules : Rules) (log : List Entry) (r : ℕ) (q : Request) (w : What) (reply : Replied) → is_active (tree_of log) (asker_of q) ≡ true → Decides rules (tree_of log) q w reply
    → IsDecided (asked_decision rules log r q) r (asker_of q) w reply
asked_decided rules log r q w reply active h =
    subst (λ (d : Decision). IsDecided d r (asker_of q) w reply) (sym (asked_active rules log r q active)) (decided rules (tree_of log) (is_in_fragment (tree_of log) (url_of log)) r q w reply h)

drop_or_sync : (log : List Entry) (r asker nav : ℕ) (b : Bool) → length log < 2 ^ 30 → asker < (tree_of log).docs → is_active (tree_of log) asker ≡ true → (b ≡ true → nav < (tree_of log).navs)
    → admits (tree_of log) (by r asker (if b then Drop nav else Sync)) ≡ true
drop_or_sync log r asker nav true few there active below = drop_admitted log r asker few there active nav (below refl)
drop_or_sync log r asker nav false few there active below = sync_admitted log r asker few there active

pub decided_admitted : (rules : Rules) (log : List Entry) (r : ℕ) (q : Request) (w : What) (reply : Replied) → length log < 2 ^ 30 → asker_of q < (tree_of log).docs → is_active (tree_of log) (asker_of q) ≡ true
    → Decides rules (tree_of log) q w reply → admits (tree_of log) (by r (asker_of q) w) ≡ true
decided_admitted rules log r (ask.Sync asker) w reply few there active h =
    subst (λ (x : What). admits (tree_of log) (by r asker x) ≡ true) (sym h.0) (sync_admitted log r asker few there active)
decided_admitted rules log r (ask.Frame asker name flags url) w reply few there active h =
    subst (λ (x : What). admits (tree_of log) (by r asker x) ≡ true) (sym h.0) (frame_admitted log r asker few there active rules name (union flags (flags_in (tree_of log) (nav_of (tree_of log) asker))) url)
decided_admitted rules log r (ask.Drop asker nav) w reply few there active h =
    subst (λ (x : What). admits (tree_of log) (by r asker x) ≡ true) (sym h.0) (drop_or_sync log r asker nav (is_in nav (children_of (tree_of log) asker)) few there active h.2)
decided_admitted rules log r _ w reply few there active h = absurd h
