-- The log of two documents that set their domain is legal: each of its entries is what an exchange on the log before it gives.
use Rattle.std.proofs.Common.{◌≡◌, ℕ, List, [], ◌∷◌, ◌++◌, Some, codes, refl, subst, arith}
use Rattle.url.proofs.OnLiterals.{url_on_literals}
use Rattle.tree_log.specs.declared.entry.Entry.{Entry}
use Rattle.tree_log.specs.declared.entry.What.{What}
use Rattle.tree_log.specs.declared.entry.What.TheVariants as what
use Rattle.tree_log.specs.Homes.{home_for}
use Rattle.tree_log.specs.Tree.{tree_of, is_active, is_discarded, chain, group_of}
use Rattle.agent_terms.specs.declared.request.Request.{Request}
use Rattle.agent_terms.specs.declared.request.Request.TheVariants as ask
use Rattle.agent_terms.specs.declared.request.ReplyOutcome.TheVariants as reply
use Rattle.single_agent.specs.LegalLog.{IsLegalLog, Started, Exchanged}
use Rattle.coordinator_rules.specs.NextTask.{task_entry}
use Rattle.coordinator_rules.specs.Decision.{Decision, one}
use Rattle.tree_log.specs.Log.{entry_at, prefix}
use Rattle.tree_log.specs.Urls.{url_of}
use Rattle.window_props.specs.declared.value.Value.TheVariants as value
use Rattle.agent_terms.specs.declared.act.Act.{Act}
use Rattle.agent_terms.specs.declared.act.Act.TheVariants.{Step as StepAct, Task}
use Rattle.agent_terms.specs.declared.act.Answer.TheVariants as answer
use Rattle.agent_terms.specs.declared.act.Move.{Move}
use Rattle.agent_terms.specs.declared.act.Move.TheVariants.{Asks}
use Rattle.agent_terms.specs.declared.act.Point.TheVariants.{Script}
use Rattle.agent_terms.specs.declared.act.TaskKind.TheVariants as kind
use Rattle.agent_terms.specs.declared.outcome.Outcome.TheVariants as outcome
use Rattle.agent_terms.specs.declared.step.OpName.TheVariants as op
use Rattle.object_access.specs.Values.{undefined}
use Rattle.object_access.specs.StepAnswer.{perform}
use Rattle.single_agent.specs.NextMove.{next_move}
use Rattle.single_agent.specs.Running.{step_left, running}
use Rattle.single_agent.specs.Session.{starts_of, steps_of, steps_at}
use Rattle.agent_rows.specs.Logs.{load}
use Rattle.agent_rows.specs.Domains.{pages, y_url, x_test, y_test, opened, with_x, framed_y, x_has_set, with_y, both_have_set, answered, x_sets, y_sets}

abbrev taken : ℕ → What → Decision
taken place w = record { entries = task_entry 0 w ∷ []; outcome = reply.Task place }

-- THE EXCHANGES

starts : starts_of pages ≡ opened
unfolding starts_of home_for tree_of chain group_of url_on_literals
starts = refl

loads_x : answered opened ask.Next ≡ taken 1 (what.Commit 0 1 0)
unfolding answered
loads_x = refl

frames_y : answered with_x (ask.Frame 1 [] 0 (Some y_url)) ≡ one 0 1 (what.Frame 1 2 0 x_test [] 0 (Some (load 3 0 y_test y_url))) (reply.Made 1)
unfolding answered home_for url_on_literals
frames_y = refl

loads_y : answered x_has_set ask.Next ≡ taken 4 (what.Commit 1 3 2)
unfolding answered
loads_y = refl

-- THE MOVES

-- the acts before each document's step, the newest first
abbrev x_acts : List Act
x_acts = StepAct 3 1 (Script 0) op.Frame (answer.Outcome (outcome.Value (value.Window 1))) ∷ Task 2 kind.Commit 1 ∷ []

abbrev y_acts : List Act
y_acts = Task 5 kind.Commit 4 ∷ StepAct 4 1 (Script 1) op.Domain (answer.Outcome (outcome.Value undefined)) ∷ x_acts

-- what the renderer does next on a log, after its acts
unfoldable next : List Entry → List Act → Move
unfolding next_move step_left running steps_of steps_at perform prefix entry_at tree_of is_active is_discarded chain url_of url_on_literals
next log acts = next_move pages log acts

x_asks : next framed_y x_acts ≡ Asks 1 (Script 1) op.Domain (ask.Domain 1 (codes "a.test"))
unfolding next
x_asks = refl

y_asks : next with_y y_acts ≡ Asks 3 (Script 0) op.Domain (ask.Domain 3 (codes "A.test"))
unfolding next
y_asks = refl

-- THE LOG

-- one exchange more
follows : (log : List Entry) (q : Request) (d : Decision) → answered log q ≡ d → IsLegalLog pages log → IsLegalLog pages (d.entries ++ log)
unfolding answered
follows log q d is legal = subst (λ (x : Decision). IsLegalLog pages (x.entries ++ log)) is (Exchanged log 0 q legal (omega arith))

pub both_is_legal : IsLegalLog pages both_have_set
both_is_legal =
    let first : IsLegalLog pages opened = subst (IsLegalLog pages) starts Started in
    let shown = follows _ _ _ loads_x first in
    let framed = follows _ _ _ frames_y shown in
    let set = follows _ _ _ x_sets framed in
    let loaded = follows _ _ _ loads_y set in
    follows _ _ _ y_sets loaded
