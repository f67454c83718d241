-- The registers and the properties of objects after a renderer's acts, and what a document goes by. Renderers are this project's own.
use Rattle.std.specs.Prelude.{ℕ, ◌≡◌, ◌⊎◌, ◌+◌, ◌≤◌, List, [], ◌∷◌, ◌==◌, ◌||◌, Option, Some, None, if◌then◌else◌}
use Rattle.std.specs.Option.{option_map_or}
use Rattle.single_agent.specs.Names.{Value, Object, Session, Act, Answer as AnswerOf, Entry}
use Rattle.window_props.specs.History.{Store}
use Rattle.tree_log.specs.Log.{entry_at, prefix}
use Rattle.tree_log.specs.Tree.{tree_of}
use Rattle.tree_log.specs.Urls.{url_of}
use Rattle.agent_terms.specs.declared.step.Step.TheVariants as step
use Rattle.agent_terms.specs.declared.step.OpName.TheVariants as op
use Rattle.agent_terms.specs.declared.act.Act.TheVariants.{Step as StepAct, Task, LostTask}
use Rattle.agent_terms.specs.declared.act.Answer.TheVariants as answer
use Rattle.agent_terms.specs.declared.act.TaskKind.TheVariants as kind
use Rattle.object_access.specs.Registers.{unset, to_of, value_in, written_to, task_written}
use Rattle.object_access.specs.StepAnswer.{Sight, step_stores, first_stores}
use Rattle.single_agent.specs.Lengths.{newest_length}
use Rattle.single_agent.specs.Running.{Left, step_left}
use Rattle.single_agent.specs.Shown.{shown_to, shown_stores}

-- what the registers hold after the acts
abbrev pub registers_after : Option Left → AnswerOf → (ℕ → List ℕ → Value) → ℕ → List ℕ → Value
registers_after None given registers = registers
registers_after (Some left) given registers = written_to left.doc (to_of left.step) (value_in given) registers

unfoldable pub registers : Session → List Entry → List Act → ℕ → List ℕ → Value
registers s log [] = unset
registers s log (Task at kind place ∷ older) =
    option_map_or (λ (e : Entry). task_written (prefix at log) e.what (registers s log older)) (entry_at (prefix at log) place) (registers s log older)
registers s log (LostTask at ∷ older) = registers s log older
registers s log (StepAct at doc point op answer ∷ older) = registers_after (step_left s log older) answer (registers s log older)

abbrev pub sight_on : List Entry → (ℕ → List ℕ → Value) → (Object → Store) → ℕ → Sight
sight_on log registers stores doc =
    record { tree = tree_of (shown_to doc log); urls = url_of (shown_to doc log); registers = registers; stores = shown_stores (tree_of log) doc stores }

-- the properties of objects after the acts: a step changes those that there are
abbrev pub stores_after : Option Left → List Entry → (ℕ → List ℕ → Value) → (Object → Store) → Object → Store
stores_after None log registers stores = stores
stores_after (Some left) log registers stores = step_stores (record (sight_on log registers stores left.doc) { stores = stores }) left.doc left.step

unfoldable pub stores : Session → List Entry → List Act → Object → Store
stores s log [] = first_stores
stores s log (Task at kind place ∷ older) = stores s log older
stores s log (LostTask at ∷ older) = stores s log older
stores s log (StepAct at doc point op answer ∷ older) =
    stores_after (step_left s log older) (prefix (newest_length older) log) (registers s log older) (stores s log older)

-- what a document of the renderer goes by after the acts: the log heard at the newest one, as the document may see it
abbrev pub sight : Session → List Entry → List Act → ℕ → Sight
sight s log acts doc = sight_on (prefix (newest_length acts) log) (registers s log acts) (stores s log acts) doc
