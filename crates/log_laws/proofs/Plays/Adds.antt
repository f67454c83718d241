-- A request of an active document, at its home, makes an entry.
use Rattle.std.proofs.Common.{◌≡◌, ℕ, ◌<◌, List, [], ◌∷◌, ◌++◌, length, Option, Some, None, Bool, true, false, sym, ap, subst, ◌∙◌, if◌then◌else◌, arith}
use Rattle.std.specs.Prelude.{◌||◌, ◌==◌, map}
use Rattle.std.specs.Char.{to_ascii_lowercase}
use Rattle.std.proofs.lemmas.Bool.{false≢true}
use Rattle.tree_log.specs.declared.entry.Entry.{Entry}
use Rattle.tree_log.specs.declared.entry.What.{What}
use Rattle.tree_log.specs.declared.entry.What.TheVariants as what
use Rattle.tree_log.specs.Tree.{Tree, tree_of, nav_of, is_active, is, same_domain}
use Rattle.tree_log.specs.Urls.{url_of}
use Rattle.agent_terms.specs.declared.request.Request.{Request}
use Rattle.agent_terms.specs.declared.request.Request.TheVariants as ask
use Rattle.agent_terms.specs.declared.request.ReplyOutcome.{ReplyOutcome}
use Rattle.agent_terms.specs.declared.request.ReplyOutcome.TheVariants as reply
use Rattle.coordinator_rules.specs.Navigation.{may_navigate, Choice, Existing, New, Nothing, choice}
use Rattle.coordinator_rules.specs.Decision.{asking, domain_decision, Rules, Decision, decide, is_in_fragment, exchange, asked_decision, asker_of, end_of, home_if_active, by, one, navigation, made_or_null, opener_entry, or_sync, open_chosen, is_live}
use Rattle.agent_laws.specs.Actors.{has_no_asker}
use Rattle.agent_laws.proofs.Logs.Exchanges.{exchange-asked, asked-decided, not_yours, unloaded, domain_cases}

Adds : Decision → Type 0
Adds d = 0 < length d.entries

one_adds : (r asker : ℕ) (w : What) (o : ReplyOutcome) → Adds (one r asker w o)
unfolding Adds
one_adds r asker w o = omega arith

adds_if : (test : Bool) (c d : Decision) → Adds c → Adds d → Adds (if test then c else d)
adds_if true c d h k = h
adds_if false c d h k = k

front_adds : (r asker to n : ℕ) (test : Bool) (w : What) → 0 < length ((if test then [] else by r asker (what.Opener n (Some to)) ∷ []) ++ by r asker w ∷ [])
front_adds r asker to n true w = omega arith
front_adds r asker to n false w = omega arith

sync_adds : (r asker to n : ℕ) (test : Bool) → 0 < length (or_sync r asker (if test then [] else by r asker (what.Opener n (Some to)) ∷ []))
sync_adds r asker to n true = omega arith
sync_adds r asker to n false = omega arith

opened_adds : (rules : Rules) (t : Tree) (f : ℕ → List ℕ → Bool) (r asker : ℕ) (url : Option (List ℕ)) (name : List ℕ) (noopener user : Bool) (c : Choice) → Adds (open_chosen (asking rules t r asker noopener user) f url name c)
unfolding Adds
opened_adds rules t f r asker url name noopener user Nothing = omega arith
opened_adds rules t f r asker url name noopener user New = omega arith
opened_adds rules t f r asker None name noopener user (Existing n) = sync_adds r asker (nav_of t asker) n (noopener || n == nav_of t asker)
opened_adds rules t f r asker (Some url) name noopener user (Existing n) =
    adds_if (may_navigate t (nav_of t asker) n user) (record { entries = opener_entry t r asker noopener n ++ by r asker (navigation rules t (f n url) asker n url) ∷ []; outcome = made_or_null noopener n }) (one r asker what.Sync (reply.Security 7))
    (front_adds r asker (nav_of t asker) n (noopener || n == nav_of t asker) (navigation rules t (f n url) asker n url)) (one_adds r asker what.Sync (reply.Security 7))

twice_adds : (r asker : ℕ) (a b : Bool) (w : What) (o p q : ReplyOutcome) → Adds (if a then if b then one r asker w o else one r asker what.Sync p else one r asker what.Sync q)
twice_adds r asker true true w o p q = one_adds r asker w o
twice_adds r asker true false w o p q = one_adds r asker what.Sync p
twice_adds r asker false b w o p q = one_adds r asker what.Sync q

domain_adds : (rules : Rules) (t : Tree) (r asker : ℕ) (value : List ℕ) → Adds (domain_decision rules t r asker value)
domain_adds rules t r asker value = domain_cases Adds rules t r asker value (λ n. one_adds r asker what.Sync (reply.Security n)) (λ effective e f. one_adds r asker (what.Domain asker value) reply.Done)

decide_adds : (rules : Rules) (t : Tree) (f : ℕ → List ℕ → Bool) (r : ℕ) (q : Request) → has_no_asker q ≡ false → Adds (decide rules t f r q)
unfolding decide Adds has_no_asker
decide_adds rules t f r ask.Next h = absurd (false≢true (sym h))
decide_adds rules t f r (ask.Open asker url name noopener user) h = opened_adds rules t f r asker url name noopener user (choice t (nav_of t asker) name noopener user)
decide_adds rules t f r (ask.Go asker doc url user) h =
    twice_adds r asker (is_live t asker doc) (may_navigate t (nav_of t asker) (nav_of t doc) user) (navigation rules t (f (nav_of t doc) url) asker (nav_of t doc) url) reply.Done (reply.Security 7) reply.Done
decide_adds rules t f r (ask.Name asker doc name) h = twice_adds r asker (is_live t asker doc) (same_domain t asker doc) (what.Name (nav_of t doc) name) reply.Done (reply.Security 8) reply.Done
decide_adds rules t f r (ask.Disown asker doc) h = twice_adds r asker (is_live t asker doc) (same_domain t asker doc) (what.Opener (nav_of t doc) None) reply.Done (reply.Security 8) reply.Done
decide_adds rules t f r (ask.Domain asker value) h = domain_adds rules t r asker (map to_ascii_lowercase value)
decide_adds rules t f r ask.More h = absurd (false≢true (sym h))
decide_adds rules t f r q h = omega arith

decided : (rules : Rules) (log : List Entry) (r : ℕ) (q : Request) → has_no_asker q ≡ false → is (home_if_active (tree_of log) (asker_of q)) r ≡ true → is_active (tree_of log) (asker_of q) ≡ true
    → exchange rules log r q ≡ decide rules (tree_of log) (is_in_fragment (tree_of log) (url_of log)) r q
decided rules log r q other home active =
    exchange-asked rules log r q other
    ∙ ap (λ (b : Bool). if b then asked_decision rules log r q else not_yours (tree_of log) (asker_of q)) home
    ∙ asked-decided rules log r q
    ∙ ap (λ (b : Bool). if b then decide rules (tree_of log) (is_in_fragment (tree_of log) (url_of log)) r q else unloaded (end_of log (asker_of q))) active

pub request_adds : (rules : Rules) (log : List Entry) (r : ℕ) (q : Request) → has_no_asker q ≡ false → is (home_if_active (tree_of log) (asker_of q)) r ≡ true → is_active (tree_of log) (asker_of q) ≡ true
    → 0 < length (exchange rules log r q).entries
unfolding Adds
request_adds rules log r q other home active =
    subst Adds (sym (decided rules log r q other home active)) (decide_adds rules (tree_of log) (is_in_fragment (tree_of log) (url_of log)) r q other)
