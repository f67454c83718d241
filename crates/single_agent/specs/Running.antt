-- What runs on a renderer after its acts, and the step that is left of it (HTML Standard, 8.1.4.4, calling scripts: a script runs
-- to its end, or until its document is no longer active).
use Rattle.std.specs.Prelude.{ℕ, ◌≡◌, ◌⊎◌, ◌+◌, ◌≤◌, List, [], ◌∷◌, slice_get, ◌==◌, ◌||◌, Option, Some, None, option_and_then, if◌then◌else◌}
use Rattle.std.specs.Option.{option_map}
use Rattle.single_agent.specs.Names.{Session, Step, Act, Point, Script, Handler, Entry, What, Commit, Fire}
use Rattle.tree_log.specs.Log.{entry_at, prefix}
use Rattle.tree_log.specs.Tree.{Tree, tree_of, is_active}
use Rattle.tree_log.specs.Urls.{url_of}
use Rattle.agent_terms.specs.declared.step.Step.TheVariants as step
use Rattle.agent_terms.specs.declared.step.OpName.TheVariants as op
use Rattle.agent_terms.specs.declared.act.Act.TheVariants.{Step as StepAct, Task, LostTask}
use Rattle.agent_terms.specs.declared.act.Answer.TheVariants as answer
use Rattle.agent_terms.specs.declared.act.TaskKind.TheVariants as kind
use Rattle.agent_terms.specs.declared.act.Running.{Running}
use Rattle.single_agent.specs.Session.{steps_of}
use Rattle.single_agent.specs.Lengths.{newest_length}

-- The steps that run: a commit starts the script of its document, and a message that fires at a place the handler of its document
abbrev pub starts : ℕ → What → Option Running
starts place (Commit nav doc begin) = Some (record { doc = doc; point = Script 0 })
starts place (Fire doc post) = Some (record { doc = doc; point = Handler place 0 })
starts place _ = None

-- what the task whose entry stands at a place starts
abbrev pub started_at : List Entry → ℕ → Option Running
started_at log place = option_and_then (λ (e : Entry). starts place e.what) (entry_at log place)

-- how many steps were made before a point
abbrev pub made_before : Point → ℕ
made_before (Script made) = made
made_before (Handler place made) = made

abbrev pub next_point : Point → Point
next_point (Script made) = Script (made + 1)
next_point (Handler place made) = Handler place (made + 1)

abbrev pub one_more : Running → Running
one_more run = record { doc = run.doc; point = next_point run.point }

-- what runs: the newest task started it, and each act since then was one of its steps
unfoldable pub running : List Entry → List Act → Option Running
running log [] = None
running log (Task at kind place ∷ older) = started_at (prefix at log) place
running log (StepAct at doc point op answer ∷ older) = option_map one_more (running log older)
running log (LostTask at ∷ older) = None

-- a step that is left: its document, where it stands, and what it does
pub record Left : Type 0 where
  pub doc : ℕ
  pub point : Point
  pub step : Step

abbrev pub left_at : Running → Step → Left
left_at run step = record { doc = run.doc; point = run.point; step = step }

-- the step that is left of what runs: none after the last one, and none once its document isn't active
abbrev pub left_on : Session → Tree → (ℕ → List ℕ) → Running → Option Left
left_on s t urls run =
    if is_active t run.doc then option_map (left_at run) (slice_get (steps_of s t urls run.doc run.point) (made_before run.point)) else None

-- on the log that the renderer had heard at its newest act
unfoldable pub step_left : Session → List Entry → List Act → Option Left
step_left s log acts =
    option_and_then (left_on s (tree_of (prefix (newest_length acts) log)) (url_of (prefix (newest_length acts) log))) (running log acts)
