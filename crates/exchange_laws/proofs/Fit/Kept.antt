-- Domains that documents have set stay hosts, as entries are added.
use Rattle.std.proofs.Common.{◌≡◌, ◌⊎◌, ℕ, ◌<◌, ◌≤◌, List, [], ◌∷◌, ◌++◌, Option, Some, None, Bool, true, false, refl, sym, ap, subst, ◌∙◌, inl, inr, ⊎_elim, arith}
use Rattle.std.specs.Prelude.{◌==◌, map, unwrap_or, if◌then◌else◌}
use Rattle.std.specs.Char.{to_ascii_lowercase}
use Rattle.std.specs.List.{AllByRecursion}
use Rattle.std.proofs.lemmas.Bool.{eqb-true}
use Rattle.origin_core.specs.declared.origin.Origin.{Origin}
use Rattle.tree_log.specs.declared.entry.Entry.{Entry}
use Rattle.tree_log.specs.declared.entry.What.{What}
use Rattle.tree_log.specs.declared.entry.What.TheVariants.{Domain, Opener}
use Rattle.tree_log.specs.Facts.{Birth, says_domain}
use Rattle.tree_log.specs.Admits.{AreAdmitted}
use Rattle.tree_log.specs.Tree.{Tree, tree_of, tree_of_step, origin_of, domain_of}
use Rattle.tree_log.proofs.Admitted.{what_admitted, docs_grow, born_stays}
use Rattle.agent_terms.specs.declared.request.Request.{Request}
use Rattle.agent_laws.proofs.Logs.Admitted.{IsTask, Commits, Fires, Lapses, Closes as Gones}
use Rattle.coordinator_rules.specs.Decision.{Rules, asker_of, is_address}
use Rattle.link_fields.specs.Origins.{host}
use Rattle.exchange_laws.specs.Fit.{IsFitLog, HasHostDomains}
use Rattle.exchange_laws.proofs.Made.{IsMade, Syncs, Frames, Drops, Windows, Begins, Fragments, Openers, Names, Closes, Posts, Relaxes, IsAsked, AreFew}
use Rattle.exchange_laws.proofs.Fit.Brought.{relaxed_fits}
use Rattle.exchange_laws.proofs.Fit.Named.{IsNamed, named}

-- a document has the domain that an entry sets, or that it had before
set_or_had : (d : ℕ) (w : What) (old : Option (List ℕ)) (x : List ℕ) → unwrap_or (says_domain d w) old ≡ Some x → (old ≡ Some x) ⊎ (w ≡ Domain d x)
set_or_had d (Domain doc domain) old x h = by_test (doc == d) refl h
  where
    by_test : (b : Bool) → (doc == d) ≡ b → unwrap_or (if b then Some (Some domain) else None) old ≡ Some x → (old ≡ Some x) ⊎ (Domain doc domain ≡ Domain d x)
    by_test true e k = let same : doc ≡ d = eqb-true doc d e in inr cc
    by_test false e k = inl k
set_or_had d _ old x h = inl h

-- a document that has set its domain is there
pub domain_made : (log : List Entry) (d : ℕ) (x : List ℕ) → AreAdmitted log → domain_of (tree_of log) d ≡ Some x → d < (tree_of log).docs
unfolding tree_of
domain_made [] d x all h = absurd cc
domain_made (e ∷ older) d x all h =
    let t : Tree = tree_of older in
    let grown : t.docs ≤ (tree_of (e ∷ older)).docs = docs_grow e.what t.docs in
    ⊎_elim
    (λ had. let lt : d < t.docs = domain_made older d x all.1 had in omega arith)
    (λ is. let lt : d < t.docs = subst (IsNamed t) is (named t e.by e.actor e.what (what_admitted t e all.0)) in omega arith)
    (set_or_had d e.what (domain_of t d) x h)

origin_stays : (log : List Entry) (e : Entry) (d : ℕ) → AreAdmitted (e ∷ log) → d < (tree_of log).docs → origin_of (tree_of (e ∷ log)) d ≡ origin_of (tree_of log) d
origin_stays log e d all there = ap (λ (t : Tree). origin_of t d) (tree_of_step e log) ∙ ap (λ (b : Birth). b.origin) (born_stays (tree_of log) e d all.0 there)

split_domain : (log : List Entry) (e : Entry) (d : ℕ) (x : List ℕ) → domain_of (tree_of (e ∷ log)) d ≡ Some x → (domain_of (tree_of log) d ≡ Some x) ⊎ (e.what ≡ Domain d x)
unfolding tree_of
split_domain log e d x h = set_or_had d e.what (domain_of (tree_of log) d) x h

-- one entry more, where a domain that it sets is a host
pub kept_by : (log : List Entry) (e : Entry) → AreAdmitted (e ∷ log) → HasHostDomains log
    → ((d : ℕ) (x : List ℕ) → e.what ≡ Domain d x → (host (is_address (origin_of (tree_of log) d))).Fits x) → HasHostDomains (e ∷ log)
kept_by log e all had set d x h =
    let t : Tree = tree_of log in
    let P : Origin → Type 0 = λ o. (host (is_address o)).Fits x in
    ⊎_elim
    (λ old. subst P (sym (origin_stays log e d all (domain_made log d x all.1 old))) (had d x old))
    (λ is.
    let there : d < t.docs = subst (IsNamed t) is (named t e.by e.actor e.what (what_admitted t e all.0)) in
    subst P (sym (origin_stays log e d all there)) (set d x is))
    (split_domain log e d x h)

-- a request sets the domain of its asker alone
made_domain : (rules : Rules) (log : List Entry) (q : Request) (w : What) → IsFitLog rules log → asker_of q < (tree_of log).docs → IsMade rules (tree_of log) q w
    → (d : ℕ) (x : List ℕ) → w ≡ Domain d x → (host (is_address (origin_of (tree_of log) d))).Fits x
made_domain rules log q w f there (Syncs _) d x e = absurd cc
made_domain rules log q w f there (Frames asker name fl page) d x e = absurd cc
made_domain rules log q w f there (Drops _ nav) d x e = absurd cc
made_domain rules log q w f there (Windows _ noopener) d x e = absurd cc
made_domain rules log q w f there (Begins _ nav page u) d x e = absurd cc
made_domain rules log q w f there (Fragments _ nav doc page u) d x e = absurd cc
made_domain rules log q w f there (Openers _ nav to) d x e = absurd cc
made_domain rules log q w f there (Names _ nav) d x e = absurd cc
made_domain rules log q w f there (Closes _ nav) d x e = absurd cc
made_domain rules log q w f there (Posts asker doc target body) d x e = absurd cc
made_domain rules log q w f there (Relaxes asker value effective is fit) d x e =
    let doc : asker ≡ d = cc in
    let set : map to_ascii_lowercase value ≡ x = cc in
    let o : ℕ → Origin = origin_of (tree_of log) in
    let P : ℕ → List ℕ → Type 0 = λ n l. (host (is_address (o n))).Fits l in
    subst (λ (n : ℕ). P n x) doc (subst (P asker) set (relaxed_fits rules log asker value effective f there is fit))

pub asked_keep : (rules : Rules) (log : List Entry) (r : ℕ) (q : Request) (es : List Entry) → IsFitLog rules log → asker_of q < (tree_of log).docs → AreFew es → AreAdmitted (es ++ log)
    → AllByRecursion (IsAsked rules (tree_of log) r q) es → HasHostDomains (es ++ log)
asked_keep rules log r q [] f there few all h = f.domains
asked_keep rules log r q (e ∷ []) f there few all h = kept_by log e all f.domains (made_domain rules log q e.what f there h.0.made)
asked_keep rules log r q (e ∷ first ∷ []) f there few all h =
    kept_by (first ∷ log) e all (kept_by log first all.1 f.domains (made_domain rules log q first.what f there h.1.0.made))
    (λ d x is. let other : Opener few.0 few.1 ≡ Domain d x = sym few.2 ∙ is in absurd cc)
asked_keep rules log r q (e ∷ first ∷ d ∷ es) f there few all h = absurd few

no_domain : (w : What) → IsTask w → (d : ℕ) (x : List ℕ) → w ≡ Domain d x → ⊥
no_domain w (Commits nav doc begin) d x e = cc
no_domain w (Fires doc post) d x e = cc
no_domain w (Lapses doc post cause) d x e = cc
no_domain w (Gones nav) d x e = cc

pub task_keeps : (log : List Entry) (e : Entry) → AreAdmitted (e ∷ log) → HasHostDomains log → IsTask e.what → HasHostDomains (e ∷ log)
task_keeps log e all had task = kept_by log e all had (λ d x is. absurd (no_domain e.what task d x is))
