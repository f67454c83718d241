-- What registers hold: the newest write to each, by an answer or by a message. Registers are this project's own; they belong
-- to a document.
use Rattle.std.specs.Prelude.{ℕ, List, Option, Some, None, ◌==◌, ◌&&◌, bytes_eq, codes, if◌then◌else◌}
use Rattle.std.specs.Option.{option_map_or}
use Rattle.origin_core.specs.Origin.{origin_text}
use Rattle.object_access.specs.Names.{Value, Step, Answer, Entry, What, Post, Fire}
use Rattle.tree_log.specs.Log.{entry_at}
use Rattle.window_props.specs.declared.value.Value.TheVariants as value
use Rattle.agent_terms.specs.declared.step.Step.TheVariants as step
use Rattle.agent_terms.specs.declared.act.Answer.TheVariants as answer
use Rattle.agent_terms.specs.declared.outcome.Outcome.TheVariants as outcome
use Rattle.object_access.specs.Values.{undefined, text}

-- nothing was written yet
abbrev pub unset : ℕ → List ℕ → Value
unset d name = undefined

-- a write to one register
unfoldable pub written : ℕ → List ℕ → Value → (ℕ → List ℕ → Value) → ℕ → List ℕ → Value
written d name v registers e other = if (e == d) && bytes_eq other name then v else registers e other

-- the register that a step's answer goes to
abbrev pub to_of : Step → Option (List ℕ)
to_of (step.Let to given) = to
to_of (step.Get of key to) = to
to_of (step.Call of key args to user) = to
to_of (step.Frame text name sandbox to) = to
to_of (step.Open text target noopener user to) = to
to_of _ = None

-- what is written of an answer: undefined, where it isn't a value
abbrev pub value_in : Answer → Value
value_in (answer.Outcome (outcome.Value v)) = v
value_in _ = undefined

abbrev pub written_to : ℕ → Option (List ℕ) → Value → (ℕ → List ℕ → Value) → ℕ → List ℕ → Value
written_to d None v registers = registers
written_to d (Some name) v registers = written d name v registers

-- what a message writes (HTML Standard, 9.3.3: the event's data, origin and source)
abbrev pub message_written : ℕ → What → (ℕ → List ℕ → Value) → ℕ → List ℕ → Value
message_written d (Post to from origin target body) registers =
    written d (codes "data") (value.Plain body) (written d (codes "origin") (text (origin_text origin)) (written d (codes "source") (value.Window from) registers))
message_written d _ registers = registers

-- what the task with this entry writes, on a log: a message that fires is that at its place
abbrev pub task_written : List Entry → What → (ℕ → List ℕ → Value) → ℕ → List ℕ → Value
task_written log (Fire doc post) registers = option_map_or (λ (e : Entry). message_written doc e.what registers) (entry_at log post) registers
task_written log _ registers = registers
