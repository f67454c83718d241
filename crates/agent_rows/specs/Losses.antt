-- Renderers whose link to the coordinator fails: which exchange it is, and what it leaves.
use Rattle.std.specs.Prelude.{◌≡◌, refl, ℕ, List, [], ◌∷◌, Bool, true, false, Some, codes}
use Rattle.tree_log.specs.declared.entry.Entry.{Entry}
use Rattle.tree_log.specs.declared.entry.What.TheVariants as what
use Rattle.tree_log.specs.Tree.{tree_of, is_active, is_discarded, chain}
use Rattle.agent_terms.specs.declared.act.Act.{Act}
use Rattle.agent_terms.specs.declared.act.Act.TheVariants.{Task, LostTask}
use Rattle.agent_terms.specs.declared.act.Move.TheVariants.{Takes, Stays}
use Rattle.agent_terms.specs.declared.act.TaskKind.TheVariants as kind
use Rattle.agent_terms.specs.declared.session.Session.{Session}
use Rattle.tree_log.specs.Log.{entry_at, prefix}
use Rattle.single_agent.specs.Session.{steps_of, steps_at}
use Rattle.single_agent.specs.LegalLog.{lost_entry}
use Rattle.coordinator_rules.specs.NextTask.{next_task, task_entry}
use Rattle.single_agent.specs.NextMove.{next_move}
use Rattle.single_agent.specs.LostAct.{lost_act}
use Rattle.single_agent.specs.Running.{running, step_left}
use Rattle.coordinator_rules.specs.Decision.{exchange}
use Rattle.single_agent.specs.Turns.{calls_of, is_losing, lost_entries}
use Rattle.agent_rows.specs.Logs.{frame, started, framed}

-- renderer 1 is to be lost at this exchange, served or not
abbrev pub losing_at : ℕ → Bool → Session
losing_at call served = record {
  renderers = 3;
  suffixes = [];
  start = codes "https://a.test/" ∷ [];
  order = [];
  lose = record { renderer = 1; call = call; served = served } ∷ [];
  pages = [];
}

-- whether renderer r's next exchange is lost, on a log and after its acts
unfoldable pub loses : ℕ → Bool → ℕ → List Entry → List Act → Bool
unfolding is_losing calls_of next_move step_left running steps_of steps_at entry_at prefix next_task tree_of is_active is_discarded chain
loses call served r log acts = is_losing (losing_at call served) r log acts

-- the frame's document waits at renderer 1
abbrev pub waiting : List Entry
waiting = frame (codes "f") 0 ∷ started

-- an exchange that isn't served fails even where it would have found no task
pub fails_at_once : loses 1 false 1 started [] ≡ true
unfolding loses
fails_at_once = refl

-- one that is served has to find one
pub nothing_to_serve : loses 1 true 1 started [] ≡ false
unfolding loses
nothing_to_serve = refl

pub fails_when_served : loses 1 true 1 waiting [] ≡ true
unfolding loses
fails_when_served = refl

-- no other renderer fails, and no other exchange
pub goes_on_elsewhere : loses 1 false 0 started [] ≡ false
unfolding loses
goes_on_elsewhere = refl

pub first_goes_through : loses 2 true 1 waiting [] ≡ false
unfolding loses
first_goes_through = refl

-- the task that renderer 1 took counts
pub second_fails : loses 2 false 1 framed (Task 4 kind.Commit 3 ∷ []) ≡ true
unfolding loses
second_fails = refl

-- WHAT IT LEAVES

-- what the log has of it, the newest entry first
unfoldable pub left : Bool → List Entry
unfolding exchange next_move step_left running next_task tree_of is_active is_discarded chain
left served = lost_entries (losing_at 1 served) 1 waiting []

-- where it was served, the commit stands in the log before the loss
pub served_leaves : left true ≡ lost_entry 1 ∷ task_entry 1 (what.Commit 1 3 2) ∷ []
unfolding left
served_leaves = refl

pub else_leaves : left false ≡ lost_entry 1 ∷ []
unfolding left
else_leaves = refl

-- the act is lost, with what the renderer had been told, and the renderer does nothing any more
pub act_is_lost : lost_act 0 2 Takes ≡ Some (LostTask 2)
act_is_lost = refl

pub stays : (s : Session) (log : List Entry) → next_move s log (LostTask 2 ∷ []) ≡ Stays
unfolding next_move
stays s log = refl
