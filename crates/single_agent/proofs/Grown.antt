-- What the acts so far say does not change when the log grows.
use Rattle.std.proofs.Common.{◌≡◌, ℕ, ◌≤◌, Option, List, [], ◌∷◌, ◌++◌, length, refl, ap, ◌∙◌, arith}
use Rattle.std.specs.Prelude.{option_and_then, if◌then◌else◌}
use Rattle.std.specs.Option.{option_map, option_map_or}
use Rattle.tree_log.specs.declared.entry.Entry.{Entry}
use Rattle.tree_log.specs.Log.{prefix, entry_at}
use Rattle.tree_log.specs.Tree.{tree_of}
use Rattle.tree_log.specs.Urls.{url_of}
use Rattle.tree_log.proofs.Places.{prefix_more}
use Rattle.agent_terms.specs.declared.session.Session.{Session}
use Rattle.agent_terms.specs.declared.act.Act.{Act}
use Rattle.agent_terms.specs.declared.act.Act.TheVariants.{Step, Task, LostTask}
use Rattle.window_props.specs.declared.value.Value.{Value}
use Rattle.window_props.specs.declared.platform.Object.{Object}
use Rattle.window_props.specs.History.{Store}
use Rattle.object_access.specs.Registers.{task_written}
use Rattle.agent_terms.specs.declared.act.Move.{Move}
use Rattle.agent_terms.specs.declared.act.Move.TheVariants.{Stays}
use Rattle.single_agent.specs.Lengths.{length_of, newest_length, has_stopped}
use Rattle.single_agent.specs.Running.{running, started_at, one_more, Left, left_on, step_left}
use Rattle.single_agent.specs.Sights.{registers_after, registers, stores_after, stores, sight_on, sight}
use Rattle.single_agent.specs.NextMove.{move_of, next_move}

-- no act had heard of more than n entries
abbrev pub Within : ℕ → List Act → Type 0
Within n [] = Unit {0}
Within n (a ∷ older) = (length_of a ≤ n) × Within n older

pub newest_within : (n : ℕ) (acts : List Act) → Within n acts → newest_length acts ≤ n
newest_within n [] h = omega arith
newest_within n (a ∷ acts) h = h.0

pub prefix_grown : (more log : List Entry) (acts : List Act) → Within (length log) acts → prefix (newest_length acts) (more ++ log) ≡ prefix (newest_length acts) log
prefix_grown more log acts h = prefix_more more log (newest_length acts) (newest_within (length log) acts h)

pub running_grown : (more log : List Entry) (acts : List Act) → Within (length log) acts → running (more ++ log) acts ≡ running log acts
unfolding running
running_grown more log [] h = refl
running_grown more log (Task at kind place ∷ older) h = ap (λ (l : List Entry). started_at l place) (prefix_more more log at h.0)
running_grown more log (LostTask at ∷ older) h = refl
running_grown more log (Step at doc point op answer ∷ older) h = ap (option_map one_more) (running_grown more log older h.1)

pub left_grown : (s : Session) (more log : List Entry) (acts : List Act) → Within (length log) acts → step_left s (more ++ log) acts ≡ step_left s log acts
unfolding step_left
left_grown s more log acts h =
    ap (λ (p : List Entry). option_and_then (left_on s (tree_of p) (url_of p)) (running (more ++ log) acts)) (prefix_grown more log acts h)
    ∙ ap (option_and_then (left_on s (tree_of (prefix (newest_length acts) log)) (url_of (prefix (newest_length acts) log)))) (running_grown more log acts h)

pub registers_grown : (s : Session) (more log : List Entry) (acts : List Act) → Within (length log) acts → registers s (more ++ log) acts ≡ registers s log acts
unfolding registers
registers_grown s more log [] h = refl
registers_grown s more log (Task at kind place ∷ older) h =
    ap (λ (p : List Entry). option_map_or (λ (e : Entry). task_written p e.what (registers s (more ++ log) older)) (entry_at p place) (registers s (more ++ log) older)) (prefix_more more log at h.0)
    ∙ ap (λ (r : ℕ → List ℕ → Value). option_map_or (λ (e : Entry). task_written (prefix at log) e.what r) (entry_at (prefix at log) place) r) (registers_grown s more log older h.1)
registers_grown s more log (LostTask at ∷ older) h = registers_grown s more log older h.1
registers_grown s more log (Step at doc point op answer ∷ older) h =
    ap (λ (l : Option Left). registers_after l answer (registers s (more ++ log) older)) (left_grown s more log older h.1)
    ∙ ap (registers_after (step_left s log older) answer) (registers_grown s more log older h.1)

pub stores_grown : (s : Session) (more log : List Entry) (acts : List Act) → Within (length log) acts → stores s (more ++ log) acts ≡ stores s log acts
unfolding stores
stores_grown s more log [] h = refl
stores_grown s more log (Task at kind place ∷ older) h = stores_grown s more log older h.1
stores_grown s more log (LostTask at ∷ older) h = stores_grown s more log older h.1
stores_grown s more log (Step at doc point op answer ∷ older) h =
    ap (λ (l : Option Left). stores_after l (prefix (newest_length older) (more ++ log)) (registers s (more ++ log) older) (stores s (more ++ log) older)) (left_grown s more log older h.1)
    ∙ ap (λ (p : List Entry). stores_after (step_left s log older) p (registers s (more ++ log) older) (stores s (more ++ log) older)) (prefix_grown more log older h.1)
    ∙ ap (λ (r : ℕ → List ℕ → Value). stores_after (step_left s log older) (prefix (newest_length older) log) r (stores s (more ++ log) older)) (registers_grown s more log older h.1)
    ∙ ap (stores_after (step_left s log older) (prefix (newest_length older) log) (registers s log older)) (stores_grown s more log older h.1)

moved_grown : (s : Session) (more log : List Entry) (acts : List Act) → Within (length log) acts → move_of (sight s (more ++ log) acts) (step_left s (more ++ log) acts) ≡ move_of (sight s log acts) (step_left s log acts)
moved_grown s more log acts h =
    ap (move_of (sight s (more ++ log) acts)) (left_grown s more log acts h)
    ∙ ap (λ (p : List Entry). move_of (sight_on p (registers s (more ++ log) acts) (stores s (more ++ log) acts)) (step_left s log acts)) (prefix_grown more log acts h)
    ∙ ap (λ (r : ℕ → List ℕ → Value). move_of (sight_on (prefix (newest_length acts) log) r (stores s (more ++ log) acts)) (step_left s log acts)) (registers_grown s more log acts h)
    ∙ ap (λ (o : Object → Store). move_of (sight_on (prefix (newest_length acts) log) (registers s log acts) o) (step_left s log acts)) (stores_grown s more log acts h)

pub move_grown : (s : Session) (more log : List Entry) (acts : List Act) → Within (length log) acts → next_move s (more ++ log) acts ≡ next_move s log acts
unfolding next_move
move_grown s more log acts h = ap (λ (m : Move). if has_stopped acts then Stays else m) (moved_grown s more log acts h)
