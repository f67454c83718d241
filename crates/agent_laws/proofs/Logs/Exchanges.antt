-- An exchange by its cases.
use Rattle.std.proofs.Common.{◌≡◌, ℕ, List, [], Option, Some, None, Bool, true, false, refl}
use Rattle.std.specs.Prelude.{if◌then◌else◌}
use Rattle.std.proofs.lemmas.Bool.{false≢true, eqb-true}
use Rattle.tree_log.specs.declared.entry.Entry.{Entry}
use Rattle.origin_core.specs.Flags.{has_domain}
use Rattle.origin_core.specs.Site.{fits}
use Rattle.tree_log.specs.declared.entry.What.TheVariants.{Sync, Domain}
use Rattle.tree_log.specs.Tree.{Tree, tree_of, home_of, nav_of, origin_of, domain_of, is_active, is}
use Rattle.tree_log.specs.Urls.{url_of}
use Rattle.agent_terms.specs.declared.request.Request.{Request}
use Rattle.agent_terms.specs.declared.request.Request.TheVariants as ask
use Rattle.agent_terms.specs.declared.request.ReplyOutcome.TheVariants as reply
use Rattle.coordinator_rules.specs.Navigation.{flags_in}
use Rattle.coordinator_rules.specs.Decision.{Rules, Decision, one, is_address, effective_domain, domain_set, domain_decision, decide, asked_decision, exchange, end_of, is_in_fragment, asker_of, home_if_active}
use Rattle.agent_laws.specs.Actors.{has_no_asker}

abbrev pub not_yours : Tree → ℕ → Decision
not_yours t asker = record { entries = []; outcome = reply.NotYours asker (home_if_active t asker) }

abbrev pub unloaded : ℕ → Decision
unloaded place = record { entries = []; outcome = reply.Unloaded place }

pub exchange-asked : (rules : Rules) (log : List Entry) (r : ℕ) (q : Request) → has_no_asker q ≡ false
    → exchange rules log r q ≡ (if is (home_if_active (tree_of log) (asker_of q)) r then asked_decision rules log r q else not_yours (tree_of log) (asker_of q))
unfolding exchange has_no_asker
exchange-asked rules log r ask.Next h = absurd cc
exchange-asked rules log r ask.More h = absurd cc
exchange-asked rules log r _ h = refl

pub asked-decided : (rules : Rules) (log : List Entry) (r : ℕ) (q : Request)
    → asked_decision rules log r q ≡ (if is_active (tree_of log) (asker_of q) then decide rules (tree_of log) (is_in_fragment (tree_of log) (url_of log)) r q else unloaded (end_of log (asker_of q)))
unfolding asked_decision
asked-decided rules log r q = refl

-- a document that was active at home r
pub at_home : (t : Tree) (d r : ℕ) → is (home_if_active t d) r ≡ true → ((t.doc d).been_active ≡ true) × (home_of t d ≡ r)
at_home t d r h = active_case (t.doc d).been_active refl h
  where
    active_case : (b : Bool) → (t.doc d).been_active ≡ b → is (if b then Some (home_of t d) else None) r ≡ true → ((t.doc d).been_active ≡ true) × (home_of t d ≡ r)
    active_case true e k = (e, eqb-true (home_of t d) r k)
    active_case false e k = absurd (false≢true k)

-- what an exchange other than for the next task gives, where each case has it
pub decided_or_none : (P : Decision → Type 0) (rules : Rules) (log : List Entry) (r : ℕ) (q : Request) → has_no_asker q ≡ false
    → P (not_yours (tree_of log) (asker_of q)) → P (unloaded (end_of log (asker_of q)))
    → (((tree_of log).doc (asker_of q)).been_active ≡ true → home_of (tree_of log) (asker_of q) ≡ r → is_active (tree_of log) (asker_of q) ≡ true
    → P (decide rules (tree_of log) (is_in_fragment (tree_of log) (url_of log)) r q))
    → P (exchange rules log r q)
decided_or_none P rules log r q other none ended decided =
    rw (exchange-asked rules log r q other) (home_case (is (home_if_active (tree_of log) (asker_of q)) r) refl)
  where
    active_case : (b : Bool) → is_active (tree_of log) (asker_of q) ≡ b → is (home_if_active (tree_of log) (asker_of q)) r ≡ true
        → P (if b then decide rules (tree_of log) (is_in_fragment (tree_of log) (url_of log)) r q else unloaded (end_of log (asker_of q)))
    active_case true e h = let at = at_home (tree_of log) (asker_of q) r h in decided at.0 at.1 e
    active_case false e h = ended

    home_case : (b : Bool) → is (home_if_active (tree_of log) (asker_of q)) r ≡ b → P (if b then asked_decision rules log r q else not_yours (tree_of log) (asker_of q))
    home_case true e = rw (asked-decided rules log r q) (active_case (is_active (tree_of log) (asker_of q)) refl e)
    home_case false e = none

-- what a request for the rest of a reply gives
abbrev pub rest_told : Decision
rest_told = record { entries = []; outcome = reply.Done }

pub more_gives : (rules : Rules) (log : List Entry) (r : ℕ) → exchange rules log r ask.More ≡ rest_told
unfolding exchange
more_gives rules log r = refl

-- what requests that no document makes give, where each case has it
pub without_asker : (P : Decision → Type 0) (rules : Rules) (log : List Entry) (r : ℕ) (q : Request) → has_no_asker q ≡ true
    → P (exchange rules log r ask.Next) → P rest_told → P (exchange rules log r q)
unfolding has_no_asker
without_asker P rules log r ask.Next h next rest = next
without_asker P rules log r ask.More h next rest = rw (more_gives rules log r) rest
without_asker P rules log r q h next rest = absurd (false≢true h)

-- A DOMAIN

-- what is decided on a request to set a domain, where each case has it
pub domain_cases : (P : Decision → Type 0) (rules : Rules) (t : Tree) (r asker : ℕ) (value : List ℕ) → ((n : ℕ) → P (one r asker Sync (reply.Security n)))
    → ((effective : List ℕ) → effective_domain (origin_of t asker) (domain_of t asker) ≡ Some effective → fits value effective (is_address (origin_of t asker)) rules.suffixes ≡ true → P (one r asker (Domain asker value) reply.Done))
    → P (domain_decision rules t r asker value)
domain_cases P rules t r asker value refused set = by_flag (has_domain (flags_in t (nav_of t asker)))
  where
    by_fit : (effective : List ℕ) → effective_domain (origin_of t asker) (domain_of t asker) ≡ Some effective → (b : Bool) → fits value effective (is_address (origin_of t asker)) rules.suffixes ≡ b
        → P (if b then one r asker (Domain asker value) reply.Done else one r asker Sync (reply.Security 11))
    by_fit effective e true f = set effective e f
    by_fit effective e false f = refused 11

    by_effective : (o : Option (List ℕ)) → effective_domain (origin_of t asker) (domain_of t asker) ≡ o → P (domain_set rules t r asker value o)
    by_effective None e = refused 10
    by_effective (Some effective) e = by_fit effective e (fits value effective (is_address (origin_of t asker)) rules.suffixes) refl

    by_flag : (b : Bool) → P (if b then one r asker Sync (reply.Security 9) else domain_set rules t r asker value (effective_domain (origin_of t asker) (domain_of t asker)))
    by_flag true = refused 9
    by_flag false = by_effective (effective_domain (origin_of t asker) (domain_of t asker)) refl
