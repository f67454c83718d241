-- What a renderer holds, and what its acts make of it. Renderers are this project's own.
use Rattle.std.specs.Prelude.{ℕ, List, [], ◌∷◌, length, Option, Some, None, option_and_then, if◌then◌else◌}
use Rattle.std.specs.Option.{option_map}
use Rattle.window_props.specs.declared.value.Value.{Value}
use Rattle.window_props.specs.declared.platform.Object.{Object}
use Rattle.window_props.specs.History.{Store}
use Rattle.tree_log.specs.declared.entry.Entry.{Entry}
use Rattle.tree_log.specs.Tree.{tree_of}
use Rattle.tree_log.specs.Urls.{url_of}
use Rattle.agent_terms.specs.declared.act.Act.{Act}
use Rattle.agent_terms.specs.declared.act.Act.TheVariants.{Step as StepAct, Task}
use Rattle.agent_terms.specs.declared.act.Answer.{Answer as AnswerOf}
use Rattle.agent_terms.specs.declared.act.Move.{Move}
use Rattle.agent_terms.specs.declared.act.Move.TheVariants.{Stays}
use Rattle.agent_terms.specs.declared.act.Point.{Point}
use Rattle.agent_terms.specs.declared.act.Running.{Running}
use Rattle.agent_terms.specs.declared.session.Page.{Page}
use Rattle.agent_terms.specs.declared.session.Session.{Session}
use Rattle.agent_terms.specs.declared.step.OpName.{OpName}
use Rattle.agent_laws.specs.Sights.{sight_of}
use Rattle.object_access.specs.Registers.{unset, task_written}
use Rattle.object_access.specs.StepAnswer.{Sight, step_stores, first_stores}
use Rattle.single_agent.specs.Lengths.{has_stopped}
use Rattle.single_agent.specs.NextAct.{kind_of}
use Rattle.single_agent.specs.NextMove.{move_of}
use Rattle.single_agent.specs.Running.{Left, left_on, one_more, starts}
use Rattle.single_agent.specs.Sights.{registers_after}

pub record Holds : Type 0 where
  pub renderer : ℕ
  pub pages : List Page
  pub acts : List Act  -- newest first
  pub len : ℕ  -- how many entries it has heard
  pub heard : List Entry  -- newest first
  pub run : Option Running  -- the script or handler that runs
  pub registers : ℕ → List ℕ → Value
  pub stores : Object → Store

-- before anything was heard
abbrev pub fresh : ℕ → List Page → Holds
fresh renderer pages =
    record { renderer = renderer; pages = pages; acts = []; len = 0; heard = []; run = None; registers = unset; stores = first_stores }

-- WHAT IT DOES NEXT

-- a session that has these pages
abbrev pub with_pages : List Page → Session
with_pages pages = record { renderers = 1; suffixes = []; start = []; order = []; lose = []; pages = pages }

-- what its documents go by: all that was heard
abbrev pub sight_in : Holds → Sight
sight_in w = sight_of w.heard w.registers w.stores

-- the step that is left of what runs
abbrev pub left_in : Holds → Option Left
left_in w = option_and_then (left_on (with_pages w.pages) (tree_of w.heard) (url_of w.heard)) w.run

abbrev pub move_in : Holds → Move
move_in w = if has_stopped w.acts then Stays else move_of (λ doc. sight_in w) (left_in w)

-- WHAT AN ACT MAKES OF IT

-- all of these were heard
abbrev pub hearing : List Entry → Holds → Holds
hearing heard w = record w { len = length heard; heard = heard }

-- properties after a step that is left
abbrev pub stores_by : Option Left → Holds → Object → Store
stores_by None w = w.stores
stores_by (Some left) w = step_stores (sight_in w) left.doc left.step

-- the step that is left was made, and answered this: that is written to its register, and the next step is due
abbrev pub stepped : ℕ → Point → OpName → AnswerOf → Option Left → Holds → Holds
stepped doc point op given left w =
    record w {
      acts = StepAct w.len doc point op given ∷ w.acts;
      run = option_map one_more w.run;
      registers = registers_after left given w.registers;
    }

-- the task was taken that stands at the place: what it starts runs, and a message is written to registers
abbrev pub taken : ℕ → Entry → Holds → Holds
taken place entry w =
    record w {
      acts = Task w.len (kind_of entry.what) place ∷ w.acts;
      run = starts place entry.what;
      registers = task_written w.heard entry.what w.registers;
    }

-- nothing runs
abbrev pub resting : Holds → Holds
resting w = record w { run = None }
