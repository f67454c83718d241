-- How an exchange ends, by its outcome.
use Rattle.std.proofs.Common.{◌≡◌, ℕ, List, Option, Some, None, Bool, true, false, refl, sym, subst}
use Rattle.std.specs.Prelude.{◌&&◌}
use Rattle.tree_log.specs.declared.entry.Entry.{Entry}
use Rattle.tree_log.specs.Log.{entry_at}
use Rattle.agent_terms.specs.declared.act.Answer.{Answer as AnswerOf}
use Rattle.agent_terms.specs.declared.act.Answer.TheVariants as answer
use Rattle.agent_terms.specs.declared.act.Point.{Point}
use Rattle.agent_terms.specs.declared.outcome.Outcome.TheVariants as outcome
use Rattle.agent_terms.specs.declared.request.Request.{Request}
use Rattle.agent_terms.specs.declared.request.Request.TheVariants as ask
use Rattle.agent_terms.specs.declared.request.ReplyOutcome.{ReplyOutcome}
use Rattle.agent_terms.specs.declared.request.ReplyOutcome.TheVariants as reply
use Rattle.agent_terms.specs.declared.step.OpName.{OpName}
use Rattle.window_props.specs.declared.value.Value.TheVariants as value
use Rattle.object_access.specs.Values.{null}
use Rattle.agent_laws.specs.Actors.{has_no_asker}
use Rattle.single_agent.specs.NextAct.{answer_of, done_of, rule_of}
use Rattle.single_agent.specs.Running.{Left}
use Rattle.link_wire.specs.declared.link.Link.{Ghosts}
use Rattle.link_wire.specs.Links.{answers, is_some_task, names_what_is_there}
use Rattle.link_exchange.specs.Calls.{Knows}
use Rattle.renderer.specs.declared.turn.Turn.{Turn}
use Rattle.renderer.specs.declared.turn.Turn.TheVariants.{Acted, Idle, Stopped, Full, BadReply}
use Rattle.renderer.specs.Calls.{IsHonest, StopsByFault, is_calm}
use Rattle.renderer.specs.Holding.{Holds, hearing, resting, stepped}
use Rattle.renderer.specs.Turning.{IsTaken, StepEnds, TaskEnds, is_step_outcome, is_task_outcome}

-- OUTCOMES

-- a document's request has an outcome of such a request
pub step_outcome : (q : Request) (o : ReplyOutcome) → has_no_asker q ≡ false → answers q o ≡ true → is_step_outcome o ≡ true
unfolding has_no_asker
step_outcome ask.Next o h a = absurd cc
step_outcome ask.More o h a = absurd cc
step_outcome q reply.Done h a = refl
step_outcome q (reply.Security rule) h a = refl
step_outcome q reply.Null h a = refl
step_outcome q (reply.Made nav) h a = refl
step_outcome q (reply.Unloaded place) h a = refl
step_outcome q (reply.Full len) h a = refl
step_outcome (ask.Sync asker) _ h a = absurd cc
step_outcome (ask.Frame asker name flags url) _ h a = absurd cc
step_outcome (ask.Drop asker nav) _ h a = absurd cc
step_outcome (ask.Open asker url target noopener user) _ h a = absurd cc
step_outcome (ask.Link asker url target noopener user) _ h a = absurd cc
step_outcome (ask.Go asker doc url user) _ h a = absurd cc
step_outcome (ask.Name asker doc name) _ h a = absurd cc
step_outcome (ask.Disown asker doc) _ h a = absurd cc
step_outcome (ask.Close asker doc user) _ h a = absurd cc
step_outcome (ask.Post asker doc target body) _ h a = absurd cc
step_outcome (ask.Domain asker text) _ h a = absurd cc

-- and so has a question for a task
pub task_outcome : (o : ReplyOutcome) → answers ask.Next o ≡ true → is_task_outcome o ≡ true
task_outcome (reply.Task place) a = refl
task_outcome reply.Nothing a = refl
task_outcome (reply.Full len) a = refl
task_outcome _ a = absurd cc

-- a task that is named is there
pub task_there : (r : ℕ) (heard : List Entry) (older : ℕ) (o : ReplyOutcome) → names_what_is_there r heard older o ≡ true → (place : ℕ) → o ≡ reply.Task place → is_some_task r heard (entry_at heard place) ≡ true
task_there r heard older o there place is = both _ _ (subst (λ x. names_what_is_there r heard older x ≡ true) is there)
  where
    both : (a b : Bool) → (a && b) ≡ true → b ≡ true
    both true b h = h
    both false b h = absurd cc

-- WHAT BECOMES OF A STEP

pub step_ends : (w v : Holds) (doc : ℕ) (point : Point) (op : OpName) (left : Option Left) (heard : List Entry) (o : ReplyOutcome) (turn : Turn) → is_step_outcome o ≡ true
    → ((len : ℕ) → o ≡ reply.Full len → (turn ≡ Full len) × (v ≡ hearing heard w))
    → ((given : AnswerOf) → answer_of op o ≡ Some given → (turn ≡ Acted) × (v ≡ stepped doc point op given left (hearing heard w)))
    → StepEnds w doc point op left heard o turn v
step_ends w v doc point op left heard (reply.Full len) turn is full answered = full len refl
step_ends w v doc point op left heard reply.Done turn is full answered =
    let a = answered (done_of op) refl in (a.0, record { given = done_of op; is = refl; now = a.1 })
step_ends w v doc point op left heard (reply.Security rule) turn is full answered =
    let given = answer.Outcome (outcome.Security (rule_of rule)) in let a = answered given refl in (a.0, record { given = given; is = refl; now = a.1 })
step_ends w v doc point op left heard reply.Null turn is full answered =
    let given = answer.Outcome (outcome.Value null) in let a = answered given refl in (a.0, record { given = given; is = refl; now = a.1 })
step_ends w v doc point op left heard (reply.Made nav) turn is full answered =
    let given = answer.Outcome (outcome.Value (value.Window nav)) in let a = answered given refl in (a.0, record { given = given; is = refl; now = a.1 })
step_ends w v doc point op left heard (reply.Unloaded place) turn is full answered =
    let a = answered answer.Unloaded refl in (a.0, record { given = answer.Unloaded; is = refl; now = a.1 })
step_ends w v doc point op left heard _ turn is full answered = absurd cc

pub task_ends : (w v : Holds) (heard : List Entry) (o : ReplyOutcome) (turn : Turn) → is_task_outcome o ≡ true
    → ((len : ℕ) → o ≡ reply.Full len → (turn ≡ Full len) × (v ≡ hearing heard w))
    → (o ≡ reply.Nothing → (turn ≡ Idle) × (v ≡ resting (hearing heard w)))
    → ((place : ℕ) → o ≡ reply.Task place → (turn ≡ Acted) × IsTaken w heard place v)
    → TaskEnds w heard o turn v
task_ends w v heard (reply.Full len) turn is full nothing task = full len refl
task_ends w v heard reply.Nothing turn is full nothing task = nothing refl
task_ends w v heard (reply.Task place) turn is full nothing task = task place refl
task_ends w v heard _ turn is full nothing task = absurd cc

-- WHAT A TURN SAYS OF THE LINK

calm : (turn is : Turn) → turn ≡ is → is_calm is ≡ true → is_calm turn ≡ true
calm turn is e h = subst (λ t. is_calm t ≡ true) (sym e) h

pub step_calm : (w v : Holds) (doc : ℕ) (point : Point) (op : OpName) (left : Option Left) (heard : List Entry) (o : ReplyOutcome) (turn : Turn) → StepEnds w doc point op left heard o turn v → is_calm turn ≡ true
step_calm w v doc point op left heard (reply.Full len) turn ends = calm turn (Full len) ends.0 refl
step_calm w v doc point op left heard reply.Done turn ends = calm turn Acted ends.0 refl
step_calm w v doc point op left heard (reply.Security rule) turn ends = calm turn Acted ends.0 refl
step_calm w v doc point op left heard reply.Null turn ends = calm turn Acted ends.0 refl
step_calm w v doc point op left heard (reply.Made nav) turn ends = calm turn Acted ends.0 refl
step_calm w v doc point op left heard (reply.Unloaded place) turn ends = calm turn Acted ends.0 refl
step_calm w v doc point op left heard (reply.Task place) turn ends = calm turn Acted ends.0 refl
step_calm w v doc point op left heard reply.Nothing turn ends = calm turn Acted ends.0 refl
step_calm w v doc point op left heard (reply.NotYours d home) turn ends = calm turn Acted ends.0 refl
step_calm w v doc point op left heard (reply.BadFrame place why) turn ends = calm turn Acted ends.0 refl

pub task_calm : (w v : Holds) (heard : List Entry) (o : ReplyOutcome) (turn : Turn) → TaskEnds w heard o turn v → is_calm turn ≡ true
task_calm w v heard (reply.Task place) turn ends = calm turn Acted ends.0 refl
task_calm w v heard reply.Nothing turn ends = calm turn Idle ends.0 refl
task_calm w v heard (reply.Full len) turn ends = calm turn (Full len) ends.0 refl
task_calm w v heard _ turn ends = absurd ends

pub calm_stops : {L : Type 0} (link : Ghosts L) (w : Holds) (l : L) (turn : Turn) (m : L) → is_calm turn ≡ true → StopsByFault link w l turn m
calm_stops link w l Stopped m h = absurd cc
calm_stops link w l _ m h = tt

pub calm_honest : {L : Type 0} (link : Ghosts L) (l : L) (turn : Turn) (m : L) → is_calm turn ≡ true → IsHonest link l turn m
calm_honest link l (BadReply place) m h = absurd cc
calm_honest link l _ m h = tt

-- what is known of the link
pub known_still : {L : Type 0} (link : Ghosts L) (r now : ℕ) (m : L) (heard after : List Entry) → now ≡ r → after ≡ heard → Knows link r m heard None → Knows link now m after None
known_still link r now m heard after same all knows = subst (λ x. Knows link x m after None) (sym same) (subst (λ x. Knows link r m x None) (sym all) knows)
