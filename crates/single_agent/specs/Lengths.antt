-- How much of the log a renderer had heard at its acts, newest first, and whether it was lost. Renderers are this project's own.
use Rattle.std.specs.Prelude.{ℕ, ◌≡◌, ◌⊎◌, ◌+◌, ◌≤◌, List, [], ◌∷◌, Bool, true, false, ◌==◌, ◌||◌, if◌then◌else◌}
use Rattle.single_agent.specs.Names.{Act}
use Rattle.agent_terms.specs.declared.step.OpName.TheVariants as op
use Rattle.agent_terms.specs.declared.act.Act.TheVariants.{Step as StepAct, Task, LostTask}
use Rattle.agent_terms.specs.declared.act.Answer.TheVariants as answer
use Rattle.agent_terms.specs.declared.act.TaskKind.TheVariants as kind

-- how much of the log the renderer had heard once it had made the act
abbrev pub length_of : Act → ℕ
length_of (StepAct at doc point op answer) = at
length_of (Task at kind place) = at
length_of (LostTask at) = at

abbrev pub newest_length : List Act → ℕ
newest_length [] = 0
newest_length (a ∷ older) = length_of a

-- whether an act was lost: its exchange with the coordinator failed
abbrev pub is_lost : Act → Bool
is_lost (StepAct at doc point op answer.Lost) = true
is_lost (LostTask at) = true
is_lost _ = false

-- a renderer whose newest act was lost has stopped for good
abbrev pub has_stopped : List Act → Bool
has_stopped [] = false
has_stopped (a ∷ older) = is_lost a
