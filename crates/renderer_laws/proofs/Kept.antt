-- What a renderer holds keeps fitting the log and its acts: one lemma for each kind of turn, and one for the turns of others.
use Rattle.std.proofs.Common.{◌≡◌, ℕ, ◌+◌, ◌<◌, List, [], ◌∷◌, ◌++◌, length, Option, Some, None, true, false, refl, sym, ap, subst, ◌∙◌, arith, length-append}
use Rattle.std.specs.Prelude.{option_and_then, if◌then◌else◌}
use Rattle.std.specs.Option.{option_map, option_map_or}
use Rattle.window_props.specs.declared.value.Value.{Value}
use Rattle.tree_log.specs.declared.entry.Entry.{Entry}
use Rattle.tree_log.specs.declared.entry.What.{What}
use Rattle.tree_log.specs.declared.entry.What.TheVariants.{Commit, Fire, Lapse, Gone}
use Rattle.tree_log.specs.Admits.{AreAdmitted}
use Rattle.tree_log.specs.Log.{entry_at, prefix}
use Rattle.tree_log.specs.Tree.{Tree, tree_of, tree_after, tree_of_step, nav_of, is_active}
use Rattle.tree_log.specs.Urls.{url_of}
use Rattle.tree_log.proofs.Places.{prefix_more, prefix_none, prefix_whole, entry_newest}
use Rattle.agent_terms.specs.declared.session.Session.{Session}
use Rattle.agent_terms.specs.declared.act.Act.{Act}
use Rattle.agent_terms.specs.declared.act.Act.TheVariants.{Step as StepAct, Task}
use Rattle.agent_terms.specs.declared.act.Answer.{Answer as AnswerOf}
use Rattle.agent_terms.specs.declared.act.Answer.TheVariants as answer
use Rattle.agent_terms.specs.declared.act.Move.{Move}
use Rattle.agent_terms.specs.declared.act.Move.TheVariants.{Answers, Asks, Takes, Stays}
use Rattle.agent_terms.specs.declared.act.Performed.{Performed}
use Rattle.agent_terms.specs.declared.act.Performed.TheVariants.{Answer, Ask}
use Rattle.agent_terms.specs.declared.act.Point.{Point}
use Rattle.agent_terms.specs.declared.act.Running.{Running}
use Rattle.agent_terms.specs.declared.outcome.Outcome.{Outcome}
use Rattle.agent_terms.specs.declared.request.Request.{Request}
use Rattle.agent_terms.specs.declared.step.OpName.{OpName}
use Rattle.coordinator_rules.specs.Decision.{rules_of, exchange}
use Rattle.coordinator_rules.specs.NextTask.{next_task, task_entry}
use Rattle.coordinator_rules.specs.Told.{told_log}
use Rattle.object_access.specs.Registers.{task_written}
use Rattle.object_access.specs.StepAnswer.{Sight, perform, step_stores}
use Rattle.single_agent.specs.Lengths.{newest_length, is_lost, has_stopped}
use Rattle.single_agent.specs.Mine.{IsMine}
use Rattle.single_agent.specs.NextAct.{kind_of, answer_of}
use Rattle.single_agent.specs.NextMove.{op_of, move_by, move_of, next_move}
use Rattle.single_agent.specs.Running.{Left, left_on, step_left, running, started_at, starts, one_more}
use Rattle.single_agent.specs.Sights.{registers, registers_after, stores_after, stores, sight}
use Rattle.single_agent.proofs.Grown.{Within, newest_within, prefix_grown, running_grown, left_grown, registers_grown, stores_grown}
use Rattle.single_agent.proofs.Legal.{act_kept}
use Rattle.single_agent.proofs.Mine.{mine_now, mine_grown, commit_mine}
use Rattle.agent_laws.proofs.Groups.Well.{admitted_well}
use Rattle.agent_laws.proofs.Logs.Discarded.{seated_of, shown_active}
use Rattle.step_ranges.proofs.Asking.{unchanged_by_asking}
use Rattle.renderer.specs.Holding.{Holds, fresh, hearing, left_in, move_in, resting, sight_in, stepped, stores_by, taken}
use Rattle.renderer_laws.specs.Keeping.{FitsRun, IsOwnRun, Keeps}
use Rattle.renderer_laws.proofs.ToldTasks.{told_length, told_more, told_whole, IsPosted, IsTaken, next_taken, told_entry, told_written, message_there}

-- WHAT THE ACTS SAY, ONE ACT LATER

running_more : (log : List Entry) (acts : List Act) (at doc : ℕ) (point : Point) (op : OpName) (given : AnswerOf) → running log (StepAct at doc point op given ∷ acts) ≡ option_map one_more (running log acts)
unfolding running
running_more log acts at doc point op given = refl

running_task : (log : List Entry) (acts : List Act) (e : Entry) → running (e ∷ log) (Task (length log + 1) (kind_of e.what) (length log) ∷ acts) ≡ starts (length log) e.what
unfolding running
running_task log acts e =
    ap (λ (g : List Entry). started_at g (length log)) (prefix_whole (e ∷ log) (length log + 1) (omega arith)) ∙ ap (option_and_then (λ (x : Entry). starts (length log) x.what)) (entry_newest e log)

registers_more : (s : Session) (log : List Entry) (acts : List Act) (at doc : ℕ) (point : Point) (op : OpName) (given : AnswerOf)
    → registers s log (StepAct at doc point op given ∷ acts) ≡ registers_after (step_left s log acts) given (registers s log acts)
unfolding registers
registers_more s log acts at doc point op given = refl

-- a task writes what its message says
registers_task : (s : Session) (log : List Entry) (acts : List Act) (e : Entry)
    → registers s (e ∷ log) (Task (length log + 1) (kind_of e.what) (length log) ∷ acts) ≡ task_written (e ∷ log) e.what (registers s (e ∷ log) acts)
unfolding registers
registers_task s log acts e =
    let before = registers s (e ∷ log) acts in
    ap (λ (g : List Entry). option_map_or (λ (x : Entry). task_written g x.what before) (entry_at g (length log)) before) (prefix_whole (e ∷ log) (length log + 1) (omega arith))
    ∙ ap (λ (o : Option Entry). option_map_or (λ (x : Entry). task_written (e ∷ log) x.what before) o before) (entry_newest e log)

stores_more : (s : Session) (log : List Entry) (acts : List Act) (at doc : ℕ) (point : Point) (op : OpName) (given : AnswerOf)
    → stores s log (StepAct at doc point op given ∷ acts) ≡ stores_after (step_left s log acts) (prefix (newest_length acts) log) (registers s log acts) (stores s log acts)
unfolding stores
stores_more s log acts at doc point op given = refl

stores_task : (s : Session) (log : List Entry) (acts : List Act) (at place : ℕ) (what : What) → stores s log (Task at (kind_of what) place ∷ acts) ≡ stores s log acts
unfolding stores
stores_task s log acts at place what = refl

stores_before : (s : Session) (own log : List Entry) (acts : List Act) → Within (length log) acts
    → stores_after (step_left s (own ++ log) acts) (prefix (newest_length acts) (own ++ log)) (registers s (own ++ log) acts) (stores s (own ++ log) acts)
    ≡ stores_after (step_left s log acts) (prefix (newest_length acts) log) (registers s log acts) (stores s log acts)
stores_before s own log acts within =
    ap (λ (o : Option Left). stores_after o (prefix (newest_length acts) (own ++ log)) (registers s (own ++ log) acts) (stores s (own ++ log) acts)) (left_grown s own log acts within)
    ∙ ap (λ (g : List Entry). stores_after (step_left s log acts) g (registers s (own ++ log) acts) (stores s (own ++ log) acts)) (prefix_grown own log acts within)
    ∙ ap (λ (f : ℕ → List ℕ → Value). stores_after (step_left s log acts) (prefix (newest_length acts) log) f (stores s (own ++ log) acts)) (registers_grown s own log acts within)
    ∙ ap (stores_after (step_left s log acts) (prefix (newest_length acts) log) (registers s log acts)) (stores_grown s own log acts within)

-- WHETHER A STEP IS LEFT

-- what hasn't stopped goes on
going_on : (s : Session) (log : List Entry) (acts : List Act) → has_stopped acts ≡ false → next_move s log acts ≡ move_of (sight s log acts) (step_left s log acts)
unfolding next_move
going_on s log acts h = ap (λ b. if b then Stays else move_of (sight s log acts) (step_left s log acts)) h

-- a move that takes no task has a step left
some_left : (s : Session) (log : List Entry) (acts : List Act) (m : Move) → has_stopped acts ≡ false → next_move s log acts ≡ m → (m ≡ Takes → ⊥) → step_left s log acts ≡ None → ⊥
some_left s log acts m goes is other none = other (sym is ∙ going_on s log acts goes ∙ ap (move_of (sight s log acts)) none)

no_takes : (doc : ℕ) (point : Point) (op : OpName) (p : Performed) → move_by doc point op p ≡ Takes → ⊥
no_takes doc point op (Answer o) h = absurd cc
no_takes doc point op (Ask q) h = absurd cc

none_of : (see : ℕ → Sight) (left : Option Left) → move_of see left ≡ Takes → left ≡ None
none_of see None h = refl
none_of see (Some l) h = absurd (no_takes l.doc l.point (op_of l.step) (perform (see l.doc) l.doc l.step) h)

none_left : (s : Session) (log : List Entry) (acts : List Act) → has_stopped acts ≡ false → next_move s log acts ≡ Takes → step_left s log acts ≡ None
none_left s log acts goes h = none_of (sight s log acts) (step_left s log acts) (sym (going_on s log acts goes) ∙ h)

-- what has a step left has heard just to the newest act
level : (s : Session) (log : List Entry) (acts : List Act) (told : ℕ) (run : Option Running) → FitsRun s log acts told run → (step_left s log acts ≡ None → ⊥) → told ≡ newest_length acts
level s log acts told None fits some = absurd (some fits)
level s log acts told (Some run) fits some = fits.0

-- the run after a step: one more step was made, and all was heard to the new act
step_fits : (s : Session) (more log : List Entry) (acts : List Act) (told at doc : ℕ) (point : Point) (op : OpName) (given : AnswerOf) (run : Option Running) → FitsRun s log acts told run
    → (step_left s log acts ≡ None → ⊥) → running (more ++ log) acts ≡ running log acts → FitsRun s (more ++ log) (StepAct at doc point op given ∷ acts) at (option_map one_more run)
step_fits s more log acts told at doc point op given None fits some same = absurd (some fits)
step_fits s more log acts told at doc point op given (Some run) fits some same = (refl, running_more (more ++ log) acts at doc point op given ∙ ap (option_map one_more) (same ∙ fits.1))

task_fits : (s : Session) (log : List Entry) (acts : List Act) (at : ℕ) (run : Option Running) → running log acts ≡ run → newest_length acts ≡ at → FitsRun s log acts at run
unfolding step_left
task_fits s log acts at None is n = ap (option_and_then (left_on s (tree_of (prefix (newest_length acts) log)) (url_of (prefix (newest_length acts) log)))) is
task_fits s log acts at (Some run) is n = (sym n, is)

run_grown : (s : Session) (more log : List Entry) (acts : List Act) (told : ℕ) (run : Option Running) → Within (length log) acts → FitsRun s log acts told run → FitsRun s (more ++ log) acts told run
run_grown s more log acts told None within fits = left_grown s more log acts within ∙ fits
run_grown s more log acts told (Some run) within fits = (fits.0, running_grown more log acts within ∙ fits.1)

-- WHOSE IT IS

own_more : (r : ℕ) (t : Tree) (run : Option Running) → IsOwnRun r t run → IsOwnRun r t (option_map one_more run)
own_more r t None h = h
own_more r t (Some run) h = h

own_grown : (r : ℕ) (more log : List Entry) (told : ℕ) (run : Option Running) → AreAdmitted log → AreAdmitted (more ++ log) → IsOwnRun r (tree_of (prefix told log)) run → IsOwnRun r (tree_of (more ++ log)) run
own_grown r more log told None old all h = h
own_grown r more log told (Some run) old all h = mine_grown r more log run.doc all (mine_now r told log run.doc old h)

-- the entry of a message that fires leaves its document as it was
mine_fired : (r : ℕ) (t : Tree) (doc post : ℕ) → IsMine r t doc → IsMine r (tree_after t (task_entry r (Fire doc post))) doc
unfolding tree_after
mine_fired r t doc post m = record { there = m.there; been = m.been; home = m.home }

-- a message that fires does so at a document of its renderer, which is active
fire_mine : (r : ℕ) (log : List Entry) (doc post : ℕ) → AreAdmitted log → IsPosted r log doc post → is_active (tree_of log) doc ≡ true → IsMine r (tree_of (task_entry r (Fire doc post) ∷ log)) doc
fire_mine r log doc post all m active =
    let t : Tree = tree_of log in
    let there : doc < t.docs = message_there r log doc post all m in
    let been : (t.doc doc).been_active ≡ true = subst (λ (x : ℕ). (t.doc x).been_active ≡ true) (shown_active t doc active) ((seated_of log all).actives (nav_of t doc) ((admitted_well log all).below doc there)) in
    subst (λ (u : Tree). IsMine r u doc) (sym (tree_of_step (task_entry r (Fire doc post)) log)) (mine_fired r t doc post (record { there = there; been = been; home = m.home }))

own_started : (r place : ℕ) (log : List Entry) (what : What) → AreAdmitted log → next_task log r ≡ Some what → IsTaken r log what → IsOwnRun r (tree_of (task_entry r what ∷ log)) (starts place what)
own_started r place log (Commit nav doc begin) all next taken = commit_mine r log nav doc begin all next
own_started r place log (Fire doc post) all next taken = fire_mine r log doc post all taken.0 taken.1
own_started r place log (Lapse doc post cause) all next taken = tt
own_started r place log (Gone nav) all next taken = tt
own_started r place log _ all next taken = absurd taken

-- PROPERTIES THAT A STEP LEAVES

asked_by : (w : Holds) (doc : ℕ) (point : Point) (op : OpName) (q : Request) (left : Left) (p : Performed) → perform (sight_in w) left.doc left.step ≡ p → move_by left.doc left.point (op_of left.step) p ≡ Asks doc point op q
    → step_stores (sight_in w) left.doc left.step ≡ w.stores
asked_by w doc point op q left (Answer o) e h = absurd cc
asked_by w doc point op q left (Ask a) e h = unchanged_by_asking (sight_in w) left.doc left.step a e

-- a step that asks leaves all as it was
asked_same : (w : Holds) (doc : ℕ) (point : Point) (op : OpName) (q : Request) (left : Option Left) → move_of (λ d. sight_in w) left ≡ Asks doc point op q → stores_by left w ≡ w.stores
asked_same w doc point op q None h = refl
asked_same w doc point op q (Some left) h = asked_by w doc point op q left (perform (sight_in w) left.doc left.step) refl h

going_in : (w : Holds) → has_stopped w.acts ≡ false → move_in w ≡ move_of (λ doc. sight_in w) (left_in w)
going_in w h = ap (λ b. if b then Stays else move_of (λ doc. sight_in w) (left_in w)) h

-- ONE LEMMA A KIND

pub kept_fresh : (s : Session) (r : ℕ) (log : List Entry) → Keeps s r log [] 0 (fresh r s.pages)
unfolding step_left running registers stores
kept_fresh s r log = record {
  renderer = refl;
  pages = refl;
  acts_are = refl;
  goes_on = refl;
  within = omega arith;
  heard = sym (prefix_none (told_log r log));
  len = refl;
  newest = omega arith;
  registers = refl;
  stores = refl;
  run = refl;
  own = tt;
}

-- a step that answered
pub kept_local : (s : Session) (r : ℕ) (log : List Entry) (acts : List Act) (told doc : ℕ) (point : Point) (op : OpName) (o : Outcome) (w v : Holds) → Keeps s r log acts told w
    → left_in w ≡ step_left s log acts
    → stores_by (left_in w) w ≡ stores_after (step_left s log acts) (prefix (newest_length acts) log) (registers s log acts) (stores s log acts)
    → next_move s log acts ≡ Answers doc point op o
    → v ≡ record (stepped doc point op (answer.Outcome o) (left_in w) w) { stores = stores_by (left_in w) w }
    → Keeps s r log (StepAct (newest_length acts) doc point op (answer.Outcome o) ∷ acts) told v
kept_local s r log acts told doc point op o w v k left props next is =
    let some = some_left s log acts (Answers doc point op o) k.goes_on next (λ e. absurd cc) in
    let given : AnswerOf = answer.Outcome o in
    let at : ℕ = newest_length acts in
    let act : Act = StepAct at doc point op given in
    let here : told ≡ at = level s log acts told w.run k.run some in
    subst (λ (x : Holds). Keeps s r log (act ∷ acts) told x) (sym is)
    (record {
      renderer = k.renderer;
      pages = k.pages;
      acts_are = ap (λ n. StepAct n doc point op given ∷ w.acts) (k.len ∙ here) ∙ ap (λ xs. act ∷ xs) k.acts_are;
      goes_on = refl;
      within = k.within;
      heard = k.heard;
      len = k.len;
      newest = k.newest;
      registers = ap (λ (l : Option Left). registers_after l given w.registers) left
          ∙ ap (registers_after (step_left s log acts) given) k.registers ∙ sym (registers_more s log acts at doc point op given);
      stores = props ∙ sym (stores_more s log acts at doc point op given);
      run = subst (λ n. FitsRun s log (act ∷ acts) n (option_map one_more w.run)) (sym here) (step_fits s [] log acts told at doc point op given w.run k.run some refl);
      own = own_more r (tree_of (prefix told log)) w.run k.own;
    })

-- a step that asked
pub kept_asking : (s : Session) (r : ℕ) (log own : List Entry) (acts : List Act) (told doc : ℕ) (point : Point) (op : OpName) (q : Request) (given : AnswerOf) (w v : Holds)
    → AreAdmitted log → AreAdmitted (own ++ log) → Within (length log) acts → Keeps s r log acts told w
    → left_in w ≡ step_left s log acts
    → move_in w ≡ next_move s log acts
    → stores_by (left_in w) w ≡ stores_after (step_left s log acts) (prefix (newest_length acts) log) (registers s log acts) (stores s log acts)
    → next_move s log acts ≡ Asks doc point op q
    → own ≡ (exchange (rules_of s) log r q).entries
    → answer_of op (exchange (rules_of s) log r q).outcome ≡ Some given
    → v ≡ stepped doc point op given (left_in w) (hearing (told_log r (own ++ log)) w)
    → Keeps s r (own ++ log) (StepAct (length (own ++ log)) doc point op given ∷ acts) (length (own ++ log)) v
kept_asking s r log own acts told doc point op q given w v old all within k left moves props next entries gives is =
    let some = some_left s log acts (Asks doc point op q) k.goes_on next (λ e. absurd cc) in
    let n : ℕ = length (own ++ log) in
    let act : Act = StepAct n doc point op given in
    let long : length (told_log r (own ++ log)) ≡ n = told_length r (own ++ log) in
    let whole : prefix n (own ++ log) ≡ own ++ log = prefix_whole (own ++ log) n (omega arith) in
    let goes : has_stopped w.acts ≡ false = ap has_stopped k.acts_are ∙ k.goes_on in
    let asks : move_of (λ d. sight_in w) (left_in w) ≡ Asks doc point op q = sym (going_in w goes) ∙ moves ∙ next in
    subst (λ (x : Holds). Keeps s r (own ++ log) (act ∷ acts) n x) (sym is)
    (record {
      renderer = k.renderer;
      pages = k.pages;
      acts_are = ap (λ m. StepAct m doc point op given ∷ w.acts) long ∙ ap (λ xs. act ∷ xs) k.acts_are;
      goes_on = ap (λ m. is_lost (StepAct m doc point op given)) (length-append own log)
          ∙ act_kept (rules_of s) r log acts (Asks doc point op q) (StepAct (length own + length log) doc point op given) own (entries, ap (option_map (StepAct (length own + length log) doc point op)) (sym gives));
      within = omega arith;
      heard = sym (told_whole r (own ++ log) n (omega arith));
      len = long;
      newest = omega arith;
      registers = ap (λ (l : Option Left). registers_after l given w.registers) left
          ∙ ap (registers_after (step_left s log acts) given) k.registers
          ∙ sym (registers_more s (own ++ log) acts n doc point op given ∙ ap (λ (l : Option Left). registers_after l given (registers s (own ++ log) acts)) (left_grown s own log acts within)
          ∙ ap (registers_after (step_left s log acts) given) (registers_grown s own log acts within));
      stores = sym (asked_same w doc point op q (left_in w) asks) ∙ props
          ∙ sym (stores_more s (own ++ log) acts n doc point op given ∙ stores_before s own log acts within);
      run = step_fits s own log acts told n doc point op given w.run k.run some (running_grown own log acts within);
      own = subst (λ (l : List Entry). IsOwnRun r (tree_of l) (option_map one_more w.run)) (sym whole)
          (own_more r (tree_of (own ++ log)) w.run (own_grown r own log told w.run old all k.own));
    })

-- a task that was taken
pub kept_task : (s : Session) (r : ℕ) (log : List Entry) (acts : List Act) (told : ℕ) (what : What) (entry : Entry) (w v : Holds)
    → AreAdmitted log → Within (length log) acts → Keeps s r log acts told w
    → next_task log r ≡ Some what
    → entry_at (told_log r (task_entry r what ∷ log)) (length log) ≡ Some entry
    → v ≡ taken (length log) entry (hearing (told_log r (task_entry r what ∷ log)) w)
    → Keeps s r (task_entry r what ∷ log) (Task (length log + 1) (kind_of what) (length log) ∷ acts) (length log + 1) v
kept_task s r log acts told what entry w v all within k next at is =
    let e : Entry = task_entry r what in
    let n : ℕ = length log + 1 in
    let after : List Act = Task n (kind_of what) (length log) ∷ acts in
    let task : IsTaken r log what = next_taken r log what next in
    let one : Some entry ≡ Some e = sym at ∙ told_entry r log what task in
    let same : entry ≡ e = cc in
    let long : length (told_log r (e ∷ log)) ≡ n = told_length r (e ∷ log) ∙ omega arith in
    let whole : prefix n (e ∷ log) ≡ e ∷ log = prefix_whole (e ∷ log) n (omega arith) in
    subst (λ (x : Holds). Keeps s r (e ∷ log) after n x) (sym (is ∙ ap (λ (x : Entry). taken (length log) x (hearing (told_log r (e ∷ log)) w)) same))
    (record {
      renderer = k.renderer;
      pages = k.pages;
      acts_are = ap (λ m. Task m (kind_of what) (length log) ∷ w.acts) long ∙ ap (λ xs. Task n (kind_of what) (length log) ∷ xs) k.acts_are;
      goes_on = refl;
      within = omega arith;
      heard = sym (told_whole r (e ∷ log) n (omega arith));
      len = long;
      newest = omega arith;
      registers = told_written r log what w.registers all task
          ∙ ap (task_written (e ∷ log) what) (k.registers ∙ sym (registers_grown s (e ∷ []) log acts within))
          ∙ sym (registers_task s log acts e);
      stores = k.stores ∙ sym (stores_task s (e ∷ log) acts n (length log) what ∙ stores_grown s (e ∷ []) log acts within);
      run = task_fits s (e ∷ log) after n (starts (length log) what) (running_task log acts e) refl;
      own = subst (λ (l : List Entry). IsOwnRun r (tree_of l) (starts (length log) what)) (sym whole) (own_started r (length log) log what all next task);
    })

-- nothing was left to do
pub kept_idle : (s : Session) (r : ℕ) (log : List Entry) (acts : List Act) (told : ℕ) (w v : Holds) → Within (length log) acts → Keeps s r log acts told w
    → next_move s log acts ≡ Takes
    → v ≡ resting (hearing (told_log r log) w)
    → Keeps s r log acts (length log) v
kept_idle s r log acts told w v within k takes is =
    subst (λ (x : Holds). Keeps s r log acts (length log) x) (sym is)
    (record {
      renderer = k.renderer;
      pages = k.pages;
      acts_are = k.acts_are;
      goes_on = k.goes_on;
      within = omega arith;
      heard = sym (told_whole r log (length log) (omega arith));
      len = told_length r log;
      newest = newest_within (length log) acts within;
      registers = k.registers;
      stores = k.stores;
      run = none_left s log acts k.goes_on takes;
      own = tt;
    })

-- another renderer's turn
pub kept_other : (s : Session) (r : ℕ) (more log : List Entry) (acts : List Act) (told : ℕ) (w : Holds) → Within (length log) acts → Keeps s r log acts told w → Keeps s r (more ++ log) acts told w
kept_other s r more log acts told w within k = record {
  renderer = k.renderer;
  pages = k.pages;
  acts_are = k.acts_are;
  goes_on = k.goes_on;
  within = omega (arith, k.within, length-append more log);
  heard = k.heard ∙ sym (told_more r more log told k.within);
  len = k.len;
  newest = k.newest;
  registers = k.registers ∙ sym (registers_grown s more log acts within);
  stores = k.stores ∙ sym (stores_grown s more log acts within);
  run = run_grown s more log acts told w.run within k.run;
  own = subst (λ (l : List Entry). IsOwnRun r (tree_of l) w.run) (sym (prefix_more more log told k.within)) k.own;
}
