-- What a step of a worker does.
use Rattle.std.specs.Prelude.{◌≡◌, ℕ, ◌+◌, ◌<◌, ◌≤◌, List, ◌∷◌, ◌++◌, length, reverse, get_or, slice_set, Option, Some, None, true, IsTrue, option_and_then}
use Rattle.std.specs.Option.{option_map}
use Rattle.window_props.specs.declared.value.Value.{Value}
use Rattle.window_props.specs.declared.platform.Object.{Object}
use Rattle.window_props.specs.History.{Store}
use Rattle.tree_log.specs.declared.entry.What.{What}
use Rattle.tree_log.specs.Log.{prefix}
use Rattle.tree_log.specs.Tree.{Tree, tree_of}
use Rattle.tree_log.specs.Urls.{url_of}
use Rattle.tree_log.specs.Admits.{AreAdmitted}
use Rattle.agent_terms.specs.declared.session.Session.{Session}
use Rattle.agent_terms.specs.declared.act.Act.{Act}
use Rattle.agent_terms.specs.declared.act.Act.TheVariants.{Step as StepAct, Task}
use Rattle.agent_terms.specs.declared.act.Answer.{Answer}
use Rattle.agent_terms.specs.declared.act.Answer.TheVariants as answer
use Rattle.agent_terms.specs.declared.act.Move.{Move}
use Rattle.agent_terms.specs.declared.act.Move.TheVariants.{Answers, Asks, Takes, Stays}
use Rattle.agent_terms.specs.declared.act.Running.{Running}
use Rattle.agent_terms.specs.declared.act.Point.{Point}
use Rattle.agent_terms.specs.declared.outcome.Outcome.{Outcome}
use Rattle.agent_terms.specs.declared.request.Request.{Request}
use Rattle.agent_terms.specs.declared.step.OpName.{OpName}
use Rattle.coordinator_rules.specs.Decision.{rules_of, exchange}
use Rattle.object_access.specs.StepAnswer.{Sight, step_stores}
use Rattle.coordinator_rules.specs.NextTask.{next_task, task_entry}
use Rattle.single_agent.specs.Running.{Left, left_on, one_more, starts}
use Rattle.single_agent.specs.Sights.{registers_after}
use Rattle.single_agent.specs.NextMove.{move_of}
use Rattle.single_agent.specs.NextAct.{kind_of, answer_of}
use Rattle.single_agent.specs.Turns.{HasRoom, IsFull, needs_room}
use Rattle.agent_terms.specs.Limits.{most_acts, most_entries}
use Rattle.single_agent.specs.Mine.{IsMine}
use Rattle.agent_laws.specs.Belonging.{RegistersBelong, StoresBelong, IsClosed}
use Rattle.session_player.specs.Quiet.{is_commit}
use Rattle.session_player.specs.Serves.{Ledger}
use Rattle.session_player.specs.declared.worker.Turn.{Turn}
use Rattle.session_player.specs.declared.worker.Turn.TheVariants.{Acted, Idle, Full, ActsFull, BadReply}

-- what a worker holds; its acts stand newest first
pub record Holds : Type 0 where
  pub acts : List Act
  pub heard : ℕ
  pub tree : Tree
  pub urls : ℕ → List ℕ
  pub run : Option Running
  pub registers : ℕ → List ℕ → Value
  pub stores : Object → Store

abbrev pub holds : List Act → ℕ → Tree → (ℕ → List ℕ) → Option Running → (ℕ → List ℕ → Value) → (Object → Store) → Holds
holds acts heard tree urls run registers stores =
    record { acts = reverse acts; heard = heard; tree = tree; urls = urls; run = run; registers = registers; stores = stores }

-- what its documents go by: all that it heard
abbrev pub sight_in : Holds → Sight
sight_in w = record { tree = w.tree; urls = w.urls; registers = w.registers; stores = w.stores }

-- registers and properties lead to windows and documents of their group alone
pub record IsSound (w : Holds) : Type 0 where
  pub closed : IsClosed w.tree
  pub registers : RegistersBelong w.tree w.registers
  pub stores : StoresBelong w.tree w.stores

-- the document of what runs is there, homed at the renderer, and has been active
abbrev pub IsOwnRun : ℕ → Tree → Option Running → Type 0
IsOwnRun r t None = Unit {0}
IsOwnRun r t (Some run) = IsMine r t run.doc

-- the worker has heard just what its renderer was told of an admitted log
pub record IsTied (r : ℕ) (w : Holds) (l : Ledger) : Type 0 where
  pub heard : w.heard ≡ get_or l.told r 0
  pub within : w.heard ≤ length l.log
  pub tree : w.tree ≡ tree_of (prefix w.heard l.log)
  pub urls : w.urls ≡ url_of (prefix w.heard l.log)
  pub admitted : AreAdmitted l.log
  pub own : IsOwnRun r w.tree w.run
  pub sound : IsSound w

-- the worker has heard the whole log, and its renderer was told so
pub record HeardAll (r : ℕ) (old : Ledger) (w : Holds) (l : Ledger) : Type 0 where
  pub heard : w.heard ≡ length l.log
  pub tree : w.tree ≡ tree_of l.log
  pub urls : w.urls ≡ url_of l.log
  pub told : l.told ≡ slice_set old.told r (length l.log)

abbrev pub left_now : Session → Holds → Option Left
left_now s w = option_and_then (left_on s w.tree w.urls) w.run

abbrev pub move_now : Session → Holds → Move
move_now s w = move_of (λ doc. sight_in w) (left_now s w)

-- the properties of objects after the step that is left
abbrev pub stores_then : Option Left → Holds → Object → Store
stores_then None w = w.stores
stores_then (Some left) w = step_stores (sight_in w) left.doc left.step

-- a step that answered
pub record ActsLocally (s : Session) (doc : ℕ) (point : Point) (op : OpName) (outcome : Outcome) (w : Holds) (l : Ledger) (v : Holds) (m : Ledger) : Type 0 where
  pub acts : v.acts ≡ StepAct w.heard doc point op (answer.Outcome outcome) ∷ w.acts
  pub heard : v.heard ≡ w.heard
  pub tree : v.tree ≡ w.tree
  pub urls : v.urls ≡ w.urls
  pub run : v.run ≡ option_map one_more w.run
  pub registers : v.registers ≡ registers_after (left_now s w) (answer.Outcome outcome) w.registers
  pub stores : v.stores ≡ stores_then (left_now s w) w
  pub ledger : m ≡ l

-- a step that asked
pub record ActsByAsking (s : Session) (r doc : ℕ) (point : Point) (op : OpName) (q : Request) (w : Holds) (l : Ledger) (v : Holds) (m : Ledger) : Type 0 where
  pub log : m.log ≡ (exchange (rules_of s) l.log r q).entries ++ l.log
  pub few : length l.log ≤ most_entries → length m.log ≤ most_entries
  pub given : Answer
  pub gives : Some given ≡ answer_of op (exchange (rules_of s) l.log r q).outcome
  pub acts : v.acts ≡ StepAct (length m.log) doc point op given ∷ w.acts
  pub run : v.run ≡ option_map one_more w.run
  pub registers : v.registers ≡ registers_after (left_now s w) given w.registers
  pub stores : v.stores ≡ w.stores
  pub same : stores_then (left_now s w) w ≡ w.stores  -- a step that asks changes no property
  pub all : HeardAll r l v m

-- a task that was taken: so far a commit, which writes no register
pub record ActsByTask (r : ℕ) (w : Holds) (l : Ledger) (v : Holds) (m : Ledger) : Type 0 where
  pub what : What
  pub next : next_task l.log r ≡ Some what
  pub commits : is_commit what ≡ true
  pub acts : v.acts ≡ Task (length l.log + 1) (kind_of what) (length l.log) ∷ w.acts
  pub run : v.run ≡ starts (length l.log) what
  pub registers : v.registers ≡ w.registers
  pub stores : v.stores ≡ w.stores
  pub log : m.log ≡ task_entry r what ∷ l.log
  pub all : HeardAll r l v m

abbrev pub ActsBy : Session → ℕ → Move → Holds → Ledger → Holds → Ledger → Type 0
ActsBy s r (Answers doc point op outcome) w l v m = ActsLocally s doc point op outcome w l v m
ActsBy s r (Asks doc point op q) w l v m = ActsByAsking s r doc point op q w l v m
ActsBy s r Takes w l v m = ActsByTask r w l v m
ActsBy s r Stays w l v m = ⊥

-- nothing was left to do
pub record IsIdle (r : ℕ) (w : Holds) (l : Ledger) (v : Holds) (m : Ledger) : Type 0 where
  pub none : next_task l.log r ≡ None
  pub acts : v.acts ≡ w.acts
  pub run : v.run ≡ None
  pub registers : v.registers ≡ w.registers
  pub stores : v.stores ≡ w.stores
  pub log : m.log ≡ l.log
  pub all : HeardAll r l v m

-- the worker of renderer r takes its next task, or is idle
abbrev pub TakeEnds : ℕ → Holds → Ledger → Turn → Holds → Ledger → Type 0
TakeEnds r w l Acted v m = HasRoom l.log × ActsByTask r w l v m
TakeEnds r w l Idle v m = HasRoom l.log × IsIdle r w l v m
TakeEnds r w l Full v m = IsFull l.log × (v ≡ w) × (m ≡ l)
TakeEnds r w l ActsFull v m = ⊥
TakeEnds r w l BadReply v m = ⊥

-- a step of the worker of renderer r asks
abbrev pub AskEnds : Session → ℕ → ℕ → Point → OpName → Request → Holds → Ledger → Turn → Holds → Ledger → Type 0
AskEnds s r doc point op q w l Acted v m = (IsTrue (needs_room (tree_of l.log) r (Asks doc point op q)) → HasRoom l.log) × ActsByAsking s r doc point op q w l v m
AskEnds s r doc point op q w l Full v m = IsTrue (needs_room (tree_of l.log) r (Asks doc point op q)) × IsFull l.log × (v ≡ w) × (m ≡ l)
AskEnds s r doc point op q w l _ v m = ⊥

-- the worker of renderer r steps from one state to another
abbrev pub StepsTo : Session → ℕ → Holds → Ledger → Turn → Holds → Ledger → Type 0
StepsTo s r w l Acted v m = (length w.acts < most_acts) × (IsTrue (needs_room (tree_of l.log) r (move_now s w)) → HasRoom l.log) × ActsBy s r (move_now s w) w l v m
StepsTo s r w l Idle v m = (length w.acts < most_acts) × HasRoom l.log × (move_now s w ≡ Takes) × IsIdle r w l v m
StepsTo s r w l Full v m = (length w.acts < most_acts) × IsTrue (needs_room (tree_of l.log) r (move_now s w)) × IsFull l.log × (v ≡ w) × (m ≡ l)
StepsTo s r w l ActsFull v m = (most_acts ≤ length w.acts) × (v ≡ w) × (m ≡ l)
StepsTo s r w l BadReply v m = ⊥
