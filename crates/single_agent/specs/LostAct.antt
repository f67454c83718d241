-- Acts whose exchange with the coordinator fails. Renderers, and their losses, are this project's own.
use Rattle.std.specs.Prelude.{ℕ, ◌≡◌, ◌⊎◌, ◌≤◌, List, [], length, Option, Some, None}
use Rattle.single_agent.specs.Names.{Session, Act, Move, Asks, Takes, Request, Entry}
use Rattle.agent_terms.specs.declared.act.Act.TheVariants.{Step as StepAct, LostTask}
use Rattle.agent_terms.specs.declared.act.Answer.TheVariants as answer
use Rattle.coordinator_rules.specs.Decision.{Rules, rules_of, exchange}
use Rattle.coordinator_rules.specs.NextTask.{next_task}
use Rattle.tree_log.specs.Log.{prefix}
use Rattle.single_agent.specs.Lengths.{newest_length}
use Rattle.agent_terms.specs.declared.request.Request.TheVariants as request
use Rattle.single_agent.specs.Heard.{MayHear}
use Rattle.single_agent.specs.NextMove.{next_move, move_request}

-- Lost acts: that of a move whose exchange fails. A step has the length of the act before, a task how much the renderer had heard
abbrev pub lost_act : ℕ → ℕ → Move → Option Act
lost_act newest heard (Asks doc point op q) = Some (StepAct newest doc point op answer.Lost)
lost_act newest heard Takes = Some (LostTask heard)
lost_act newest heard _ = None

-- the entries of a move's exchange
abbrev pub exchanged : Rules → List Entry → ℕ → Option Request → List Entry
exchanged rules log r None = []
exchanged rules log r (Some q) = (exchange rules log r q).entries

-- since its newest act, the renderer had an exchange on the log of a length, which found no task, and had heard so much after it
pub record FoundNone (rules : Rules) (r : ℕ) (log : List Entry) (from heard : ℕ) : Type 0 where
  pub place : ℕ
  pub later : from ≤ place
  pub idle : next_task (prefix place log) r ≡ None
  pub hears : MayHear rules r (prefix place log) from (Some request.Next) place heard

-- how much a renderer had heard when its exchange failed: what its newest act had, or what an exchange since then left it that
-- found no task
abbrev pub HasHeard : Rules → ℕ → List Entry → List Act → ℕ → Type 0
HasHeard rules r log older heard = (heard ≡ newest_length older) ⊎ FoundNone rules r log (newest_length older) heard

-- on the whole log as it stands, the exchange of the next act fails, whether or not it was served
pub record IsLostOn (s : Session) (r : ℕ) (log : List Entry) (older : List Act) (act : Act) (own : List Entry) : Type 0 where
  pub heard : ℕ
  pub later : newest_length older ≤ heard
  pub within : heard ≤ length log
  pub hears : HasHeard (rules_of s) r log older heard
  pub lost : lost_act (newest_length older) heard (next_move s log older) ≡ Some act
  pub served : (own ≡ []) ⊎ (own ≡ exchanged (rules_of s) log r (move_request (next_move s log older)))
