-- Messages to one document end in the order in which they were posted.
use Rattle.std.proofs.Common.{◌≡◌, ℕ, ◌<◌, List, Some, None, true, ap, sym, subst, ◌∙◌, arith, inl, inr}
use Rattle.std.proofs.lemmas.Bool.{cases_lt}
use Rattle.tree_log.specs.declared.entry.Entry.{Entry}
use Rattle.tree_log.specs.declared.entry.What.{What}
use Rattle.tree_log.specs.declared.entry.What.TheVariants.{Post}
use Rattle.tree_log.specs.Log.{entry_at, prefix}
use Rattle.tree_log.specs.Tree.{tree_of}
use Rattle.tree_log.proofs.Places.{prefix_length, entry_below}
use Rattle.agent_terms.specs.declared.session.Session.{Session}
use Rattle.single_agent.specs.LegalLog.{IsLegalLog}
use Rattle.coordinator_rules.specs.NextTask.{ends, is_over, task_of}
use Rattle.log_laws.proofs.Messages.Endings.{AreTaken, legal_taken}
use Rattle.log_laws.proofs.Messages.FirstTasks.{message_over, delivery_ends}
use Rattle.log_laws.proofs.Messages.MessageEnds.{entry_before, over_by, ended, not_again}

-- a message doesn't wait while a later one to the same document ends: it would have been the renderer's next task
not_before : (log : List Entry) (q u d p x : ℕ) (e f : Entry) → AreTaken log → entry_at log q ≡ Some e → entry_at log u ≡ Some f → ends d p e.what ≡ true → ends d x f.what ≡ true → p < x → u < q → ⊥
not_before log q u d p x e f taken at other end later lt before =
    let first = ended log q d p e at end taken in
    let second = ended log u d x f other later taken in
    let none : task_of (tree_of (prefix u log)) (is_over (prefix u log)) second.renderer p (Post d first.from first.origin first.target first.body) ≡ None =
    subst (λ (w : What). task_of (tree_of (prefix u log)) (is_over (prefix u log)) second.renderer p w ≡ None) first.posted (second.none_before p first.message lt first.stands) in
    let over : is_over (prefix u log) d p ≡ true = message_over (tree_of (prefix u log)) (is_over (prefix u log)) second.renderer p d first.target second.home none in
    let by_it = over_by (prefix u log) d p over in
    let k : ℕ = by_it.0 in
    let below = entry_below (prefix u log) k by_it.1 by_it.2 in
    let there = entry_below log u f other in
    let long = prefix_length log u (omega arith) in
    let earlier : k < u = omega arith in
    not_again log k q d d p by_it.1 e taken (sym (entry_before log u k earlier) ∙ by_it.2) at by_it.3 end (omega arith)

-- one entry ends one message
not_at_once : (log : List Entry) (q u d p x : ℕ) (e f : Entry) → AreTaken log → entry_at log q ≡ Some e → entry_at log u ≡ Some f → ends d p e.what ≡ true → ends d x f.what ≡ true → p < x → q ≡ u → ⊥
not_at_once log q u d p x e f taken at other end later lt same =
    let one : Some f ≡ Some e = sym other ∙ ap (entry_at log) (sym same) ∙ at in
    let it : f ≡ e = cc in
    let first = ended log q d p e at end taken in
    let place : p ≡ x = (delivery_ends (tree_of (prefix q log)) p d first.target d x (subst (λ (w : What). ends d x w ≡ true) (ap (λ (y : Entry). y.what) it ∙ sym first.delivers) later)).1 in
    omega arith

pub end_in_order : (s : Session) (log : List Entry) (q u d p x : ℕ) (e f : Entry) → IsLegalLog s log → entry_at log q ≡ Some e → entry_at log u ≡ Some f → ends d p e.what ≡ true → ends d x f.what ≡ true → p < x → q < u
end_in_order s log q u d p x e f legal at other end later lt =
    let taken = legal_taken s log legal in
    elim (cases_lt q u) as (λ _. q < u) [
      | inl before ↦ before
      | inr le ↦ elim (cases_lt u q) as (λ _. q < u) [
        | inl after ↦ absurd (not_before log q u d p x e f taken at other end later lt after)
        | inr ge ↦ absurd (not_at_once log q u d p x e f taken at other end later lt (omega arith))
      ]
    ]
