-- The act that a renderer's next move comes to on the whole log, and the entries that it makes. Renderers are this project's own.
use Rattle.std.specs.Prelude.{ℕ, ◌≡◌, ◌⊎◌, ◌+◌, ◌≤◌, List, [], ◌∷◌, length, true, ◌==◌, ◌||◌, Option, Some, None, if◌then◌else◌}
use Rattle.std.specs.Option.{option_map}
use Rattle.single_agent.specs.Names.{Value, Session, Act, Answer as AnswerOf, Move, Answers, Asks, Takes, Stays, Rule, S1, S2, S3, S4, S5, S6, S7, S8, S9, S10, S11, ReplyOutcome, Entry, What, Commit, Fire, Lapse, Gone}
use Rattle.agent_terms.specs.declared.step.OpName.{OpName}
use Rattle.agent_terms.specs.declared.step.OpName.TheVariants as op
use Rattle.agent_terms.specs.declared.act.Act.TheVariants.{Step as StepAct, Task}
use Rattle.agent_terms.specs.declared.act.Answer.TheVariants as answer
use Rattle.agent_terms.specs.declared.act.TaskKind.{TaskKind}
use Rattle.agent_terms.specs.declared.act.TaskKind.TheVariants as kind
use Rattle.agent_terms.specs.declared.outcome.Outcome.TheVariants as outcome
use Rattle.agent_terms.specs.declared.request.ReplyOutcome.TheVariants as reply
use Rattle.window_props.specs.declared.value.Value.TheVariants as value
use Rattle.object_access.specs.Values.{undefined, null}
use Rattle.coordinator_rules.specs.NextTask.{next_task, task_entry}
use Rattle.coordinator_rules.specs.Decision.{Rules, rules_of, exchange}
use Rattle.single_agent.specs.Lengths.{newest_length}
use Rattle.single_agent.specs.NextMove.{next_move}

-- The act: the kind of a task
abbrev pub kind_of : What → TaskKind
kind_of (Fire doc post) = kind.Fire
kind_of (Lapse doc post cause) = kind.Lapse
kind_of (Gone nav) = kind.Gone
kind_of _ = kind.Commit

-- the rule with a number
unfoldable pub rule_of : ℕ → Rule
rule_of n =
    if n == 1 then S1 else if n == 2 then S2 else if n == 3 then S3 else if n == 4 then S4
    else if n == 5 then S5 else if n == 6 then S6 else if n == 7 then S7 else if n == 8 then S8
    else if n == 9 then S9 else if n == 10 then S10 else S11

abbrev pub done_of : OpName → AnswerOf
done_of op.Set = answer.Outcome (outcome.Truth true)
done_of _ = answer.Outcome (outcome.Value undefined)

-- what a step answers by the coordinator's outcome: nothing by those that are for no request of a renderer's own document
abbrev pub answer_of : OpName → ReplyOutcome → Option AnswerOf
answer_of o reply.Done = Some (done_of o)
answer_of o (reply.Security n) = Some (answer.Outcome (outcome.Security (rule_of n)))
answer_of o reply.Null = Some (answer.Outcome (outcome.Value null))
answer_of o (reply.Made nav) = Some (answer.Outcome (outcome.Value (value.Window nav)))
answer_of o (reply.Unloaded place) = Some answer.Unloaded
answer_of o _ = None

-- a move of renderer r, on the whole log as it stands, comes to this act and makes these entries
abbrev pub MovesTo : Rules → ℕ → List Entry → List Act → Move → Act → List Entry → Type 0
MovesTo rules r log older (Answers doc point op outcome) act own =
    (act ≡ StepAct (newest_length older) doc point op (answer.Outcome outcome)) × (own ≡ [])
MovesTo rules r log older (Asks doc point op q) act own =
    (own ≡ (exchange rules log r q).entries)
    × (Some act ≡ option_map (StepAct (length own + length log) doc point op) (answer_of op (exchange rules log r q).outcome))
MovesTo rules r log older Takes act own =
    (what : What) × (next_task log r ≡ Some what) × (own ≡ task_entry r what ∷ [])
    × (act ≡ Task (length log + 1) (kind_of what) (length log))
MovesTo rules r log older Stays act own = ⊥

-- on the whole log as it stands, after its older acts, the next act of renderer r is this one and makes these entries
abbrev pub IsActOn : Session → ℕ → List Entry → List Act → Act → List Entry → Type 0
IsActOn s r log older act own = MovesTo (rules_of s) r log older (next_move s log older) act own
