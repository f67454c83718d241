-- A new document has no domain.
use Rattle.std.proofs.Common.{◌≡◌, ℕ, ◌<◌, ◌≤◌, List, [], ◌∷◌, Option, Some, None, true, refl, sym, ap, subst, ◌∙◌, arith}
use Rattle.std.specs.Prelude.{unwrap_or}
use Rattle.std.proofs.lemmas.Bool.{ne_eqb}
use Rattle.tree_log.specs.declared.entry.Entry.{Entry}
use Rattle.tree_log.specs.declared.entry.What.{What}
use Rattle.tree_log.specs.declared.entry.What.TheVariants.{Domain}
use Rattle.tree_log.specs.Facts.{at, says_domain}
use Rattle.tree_log.specs.Tree.{Tree, tree_of, tree_after, tree_of_step, domain_of}
use Rattle.tree_log.specs.Admits.{is_documents, has, admits_what, admits, AreAdmitted}
use Rattle.tree_log.proofs.Admitted.{both, lt_of, what_admitted}
use Rattle.agent_laws.proofs.Groups.Well.{more_docs}

at_another : (asked number : ℕ) (domain : Option (List ℕ)) → number < asked → at asked number domain ≡ None
at_another asked number domain lt = rw (ne_eqb number asked (λ e. absurd (omega (arith, e, lt)))) refl

-- an entry sets the domain of a document that is there
says_none : (t : Tree) (by actor : Option ℕ) (w : What) (d : ℕ) → admits_what t by actor w ≡ true → t.docs ≤ d → says_domain d w ≡ None
says_none t by actor (Domain doc domain) d h le =
    let there = lt_of doc t.docs (both (is_documents t by actor) (has t.docs doc) h).1 in at_another d doc (Some domain) (omega (arith, there, le))
says_none t by actor w d h le = refl

step_none : (t : Tree) (e : Entry) (d : ℕ) → admits t e ≡ true → t.docs ≤ d → domain_of t d ≡ None → domain_of (tree_after t e) d ≡ None
unfolding tree_after
step_none t e d h le none = ap (λ (o : Option (Option (List ℕ))). unwrap_or o (domain_of t d)) (says_none t e.by e.actor e.what d (what_admitted t e h) le) ∙ none

pub unmade_none : (log : List Entry) (d : ℕ) → AreAdmitted log → (tree_of log).docs ≤ d → domain_of (tree_of log) d ≡ None
unfolding tree_of
unmade_none [] d all le = refl
unmade_none (e ∷ older) d all le =
    let grows = more_docs (tree_of older) e in
    let docs : (tree_of (e ∷ older)).docs ≡ (tree_after (tree_of older) e).docs = ap (λ (t : Tree). t.docs) (tree_of_step e older) in
    let before : (tree_of older).docs ≤ d = omega (arith, grows, docs, le) in
    ap (λ (t : Tree). domain_of t d) (tree_of_step e older) ∙ step_none (tree_of older) e d all.0 before (unmade_none older d all.1 before)

pub made_none : (log : List Entry) (e : Entry) (d : ℕ) → AreAdmitted (e ∷ log) → (tree_of log).docs ≤ d → domain_of (tree_of (e ∷ log)) d ≡ None
made_none log e d all le = ap (λ (t : Tree). domain_of t d) (tree_of_step e log) ∙ step_none (tree_of log) e d all.0 le (unmade_none log d all.1 le)
