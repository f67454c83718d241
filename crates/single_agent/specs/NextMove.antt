-- What a renderer does next, as the agent does it on what its document may see. Renderers are this project's own.
use Rattle.std.specs.Prelude.{ℕ, ◌≡◌, ◌⊎◌, ◌+◌, ◌≤◌, List, [], ◌∷◌, ◌==◌, ◌||◌, Option, Some, None, if◌then◌else◌}
use Rattle.single_agent.specs.Names.{Session, Step, Act, Performed, Point, Move, Answers, Asks, Takes, Stays, Request, Entry}
use Rattle.agent_terms.specs.declared.step.Step.TheVariants as step
use Rattle.agent_terms.specs.declared.step.OpName.{OpName}
use Rattle.agent_terms.specs.declared.step.OpName.TheVariants as op
use Rattle.agent_terms.specs.declared.act.Performed.TheVariants.{Answer, Ask}
use Rattle.agent_terms.specs.declared.request.Request.TheVariants as request
use Rattle.object_access.specs.StepAnswer.{Sight, perform}
use Rattle.single_agent.specs.Lengths.{has_stopped}
use Rattle.single_agent.specs.Running.{Left, step_left}
use Rattle.single_agent.specs.Sights.{sight}

-- The next move: the operation of a step
abbrev pub op_of : Step → OpName
op_of (step.Let to given) = op.Let
op_of (step.Get of key to) = op.Get
op_of (step.Has of key) = op.Has
op_of (step.Describe of key) = op.Describe
op_of (step.Keys of) = op.Keys
op_of (step.Proto of) = op.Proto
op_of (step.SetProto of) = op.SetProto
op_of (step.Extensible of) = op.Extensible
op_of (step.Prevent of) = op.Prevent
op_of (step.Set of key given user) = op.Set
op_of (step.Define of key given writable enumerable configurable) = op.Define
op_of (step.Delete of key) = op.Delete
op_of (step.Call of key args to user) = op.Call
op_of step.Sync = op.Sync
op_of (step.Frame text name sandbox to) = op.Frame
op_of (step.Drop index) = op.Drop
op_of (step.Open text target noopener user to) = op.Open
op_of (step.Link text target rel user) = op.Link
op_of (step.Domain value) = op.Domain

abbrev pub move_by : ℕ → Point → OpName → Performed → Move
move_by doc point op (Answer o) = Answers doc point op o
move_by doc point op (Ask q) = Asks doc point op q

abbrev pub move_of : (ℕ → Sight) → Option Left → Move
move_of sees None = Takes
move_of sees (Some left) = move_by left.doc left.point (op_of left.step) (perform (sees left.doc) left.doc left.step)

-- the step that is left, as the agent does it on what its document may see; or else a task
unfoldable pub next_move : Session → List Entry → List Act → Move
next_move s log acts = if has_stopped acts then Stays else move_of (sight s log acts) (step_left s log acts)

-- what a move asks of the coordinator
abbrev pub move_request : Move → Option Request
move_request (Asks doc point op q) = Some q
move_request Takes = Some request.Next
move_request _ = None
