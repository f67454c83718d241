-- What a worker holds keeps fitting the log and its acts: one lemma for each kind of step, and one for the steps of others.
use Rattle.std.proofs.Common.{◌≡◌, ℕ, ◌+◌, ◌<◌, List, [], ◌∷◌, ◌++◌, length, Option, Some, None, refl, sym, ap, subst, ◌∙◌, arith, length-append}
use Rattle.std.specs.Prelude.{Bool, true, false, nat_le, option_and_then, if◌then◌else◌}
use Rattle.std.specs.Option.{option_map, option_map_or}
use Rattle.window_props.specs.declared.value.Value.{Value}
use Rattle.window_props.specs.declared.platform.Object.{Object}
use Rattle.window_props.specs.History.{Store}
use Rattle.tree_log.specs.declared.entry.Entry.{Entry}
use Rattle.tree_log.specs.declared.entry.What.{What}
use Rattle.tree_log.specs.declared.entry.What.TheVariants.{Commit}
use Rattle.tree_log.specs.Log.{entry_at, prefix}
use Rattle.tree_log.specs.Tree.{Tree, tree_of}
use Rattle.tree_log.specs.Urls.{url_of}
use Rattle.tree_log.specs.Admits.{AreAdmitted}
use Rattle.tree_log.proofs.Places.{prefix_more, prefix_whole, entry_newest}
use Rattle.agent_terms.specs.declared.session.Session.{Session}
use Rattle.agent_terms.specs.declared.act.Act.{Act}
use Rattle.agent_terms.specs.declared.act.Act.TheVariants.{Step as StepAct, Task}
use Rattle.agent_terms.specs.declared.act.Answer.{Answer}
use Rattle.agent_terms.specs.declared.act.Answer.TheVariants as answer
use Rattle.agent_terms.specs.declared.act.Move.TheVariants.{Asks, Takes, Stays}
use Rattle.agent_terms.specs.declared.act.Point.{Point}
use Rattle.agent_terms.specs.declared.act.Running.{Running}
use Rattle.agent_terms.specs.declared.outcome.Outcome.{Outcome}
use Rattle.agent_terms.specs.declared.request.Request.{Request}
use Rattle.agent_terms.specs.declared.step.OpName.{OpName}
use Rattle.coordinator_rules.specs.Decision.{rules_of, exchange}
use Rattle.object_access.specs.StepAnswer.{Sight, perform, step_stores}
use Rattle.agent_terms.specs.declared.step.Step.{Step}
use Rattle.coordinator_rules.specs.NextTask.{next_task, task_entry}
use Rattle.object_access.specs.Registers.{task_written}
use Rattle.single_agent.specs.Lengths.{newest_length, is_lost, has_stopped}
use Rattle.single_agent.specs.Running.{Left, left_on, step_left, running, started_at, starts, one_more}
use Rattle.single_agent.specs.NextMove.{op_of, move_by, move_of, next_move}
use Rattle.single_agent.specs.Sights.{registers, registers_after, sight_on, stores_after, stores, sight}
use Rattle.single_agent.specs.Shown.{is_seen_by, shown_to, document_of, shown_stores}
use Rattle.single_agent.specs.NextAct.{kind_of, answer_of}
use Rattle.single_agent.proofs.Grown.{Within, newest_within, prefix_grown, running_grown, left_grown, registers_grown, stores_grown}
use Rattle.single_agent.proofs.Legal.{act_kept}
use Rattle.single_agent.proofs.Mine.{mine_now, mine_grown, commit_mine}
use Rattle.tree_log.proofs.BlankLaws.{tree_of-blanked}
use Rattle.agent_laws.specs.Belonging.{RegistersBelong, IsClosed}
use Rattle.agent_laws.proofs.Blanked.BlankedSteps.{sight_with, changed_same}
use Rattle.agent_laws.proofs.Blanked.KeptStores.{perform_in_group}
use Rattle.session_player.specs.Quiet.{is_commit}
use Rattle.session_player.specs.Serves.{Ledger}
use Rattle.session_player.specs.Steps.{Holds, IsOwnRun, IsSound, ActsLocally, ActsByAsking, ActsByTask, IsIdle, sight_in, left_now, move_now, stores_then}
use Rattle.session_player.specs.Underway.{FitsRun, Keeps}
use Rattle.session_player.proofs.Quiet.{commit_writes}
use Rattle.session_player.proofs.Sound.{left_there, held_group}
use Rattle.session_player.proofs.Stepping.{no_takes}

-- THE WORKER'S OWN NEXT MOVE IS THAT OF THE DEFINITIONS

left_fits : (s : Session) (log : List Entry) (acts : List Act) (told : ℕ) (run : Option Running) → FitsRun s log acts told run
    → option_and_then (left_on s (tree_of (prefix told log)) (url_of (prefix told log))) run ≡ step_left s log acts
unfolding step_left
left_fits s log acts told None fits = sym fits
left_fits s log acts told (Some run) fits =
    ap (λ k. left_on s (tree_of (prefix k log)) (url_of (prefix k log)) run) fits.0
    ∙ ap (option_and_then (left_on s (tree_of (prefix (newest_length acts) log)) (url_of (prefix (newest_length acts) log)))) (sym fits.1)

pub left_is : (s : Session) (r : ℕ) (log : List Entry) (acts : List Act) (told : ℕ) (w : Holds) → Keeps s r log acts told w → left_now s w ≡ step_left s log acts
left_is s r log acts told w k =
    ap (λ (t : Tree). option_and_then (left_on s t w.urls) w.run) k.tree ∙ ap (λ u. option_and_then (left_on s (tree_of (prefix told log)) u) w.run) k.urls
    ∙ left_fits s log acts told w.run k.run

-- what has a step left has heard just to the newest act
pub level : (s : Session) (log : List Entry) (acts : List Act) (told : ℕ) (run : Option Running) → FitsRun s log acts told run → (step_left s log acts ≡ None → ⊥) → told ≡ newest_length acts
level s log acts told None fits some = absurd (some fits)
level s log acts told (Some run) fits some = fits.0

-- what a document may see decides its steps
agrees : (log : List Entry) (stores : Object → Store) (d : ℕ) (o : Object) → is_seen_by (tree_of log) d (document_of o) ≡ true → stores o ≡ shown_stores (tree_of log) d stores o
agrees log stores d o seen = rw seen refl

perform_shown : (log : List Entry) (registers : ℕ → List ℕ → Value) (stores : Object → Store) (d : ℕ) (st : Step) → AreAdmitted log → IsClosed (tree_of log) → d < (tree_of log).docs → RegistersBelong (tree_of log) registers
    → perform (sight_on log registers stores d) d st ≡ perform (sight_with (tree_of log) (url_of log) registers stores) d st
perform_shown log registers stores d st all closed lt belong =
    perform_in_group (is_seen_by (tree_of log) d) log registers stores (shown_stores (tree_of log) d stores) d st all (λ e seen. seen) (held_group log registers stores d closed lt belong) (agrees log stores d)

changed_shown : (log : List Entry) (registers : ℕ → List ℕ → Value) (stores : Object → Store) (d : ℕ) (st : Step)
    → step_stores (record (sight_on log registers stores d) { stores = stores }) d st ≡ step_stores (sight_with (tree_of log) (url_of log) registers stores) d st
changed_shown log registers stores d st =
    ap (λ (t : Tree). step_stores (sight_with t (url_of (shown_to d log)) registers stores) d st) (tree_of-blanked (is_seen_by (tree_of log) d) log)
    ∙ changed_same (tree_of log) (url_of (shown_to d log)) (url_of log) registers stores d st

prefix_admitted : (k : ℕ) (log : List Entry) → AreAdmitted log → AreAdmitted (prefix k log)
unfolding prefix
prefix_admitted k [] all = tt
prefix_admitted k (e ∷ older) all = by (nat_le k (length older)) (prefix_admitted k older all.1) where
  by : (b : Bool) → AreAdmitted (prefix k older) → AreAdmitted (if b then prefix k older else e ∷ older)
  by true shorter = shorter
  by false shorter = all

-- what the worker goes by, where it has heard just to the newest act
sight_is : (s : Session) (log : List Entry) (acts : List Act) (w : Holds) → w.tree ≡ tree_of (prefix (newest_length acts) log) → w.urls ≡ url_of (prefix (newest_length acts) log)
    → w.registers ≡ registers s log acts → w.stores ≡ stores s log acts
    → sight_in w ≡ sight_with (tree_of (prefix (newest_length acts) log)) (url_of (prefix (newest_length acts) log)) (registers s log acts) (stores s log acts)
sight_is s log acts w tree urls regs props = λ i. sight_with (tree i) (urls i) (regs i) (props i)

-- a step that is left, on the log that was heard at the newest act
pub record IsAtStep (s : Session) (log : List Entry) (acts : List Act) (w : Holds) (left : Left) : Type 0 where
  pub tree : w.tree ≡ tree_of (prefix (newest_length acts) log)
  pub urls : w.urls ≡ url_of (prefix (newest_length acts) log)
  pub there : left.doc < w.tree.docs

pub at_step : (s : Session) (r : ℕ) (log : List Entry) (acts : List Act) (told : ℕ) (w : Holds) → Keeps s r log acts told w → (left : Left) → step_left s log acts ≡ Some left → IsAtStep s log acts w left
at_step s r log acts told w k left e =
    let at : told ≡ newest_length acts = level s log acts told w.run k.run (λ none. (let clash : None ≡ Some left = sym none ∙ e in absurd cc)) in
    record {
      tree = k.tree ∙ ap (λ n. tree_of (prefix n log)) at;
      urls = k.urls ∙ ap (λ n. url_of (prefix n log)) at;
      there = left_there s r w left k.own (left_is s r log acts told w k ∙ e);
    }

perform_at : (s : Session) (r : ℕ) (log : List Entry) (acts : List Act) (told : ℕ) (w : Holds) → AreAdmitted log → Keeps s r log acts told w → (left : Left) → IsAtStep s log acts w left
    → perform (sight_in w) left.doc left.step ≡ perform (sight s log acts left.doc) left.doc left.step
perform_at s r log acts told w all k left h =
    let p : List Entry = prefix (newest_length acts) log in
    ap (λ (see : Sight). perform see left.doc left.step) (sight_is s log acts w h.tree h.urls k.registers k.stores)
    ∙ sym (perform_shown p (registers s log acts) (stores s log acts) left.doc left.step (prefix_admitted (newest_length acts) log all)
    (subst IsClosed h.tree k.sound.closed) (subst (λ (t : Tree). left.doc < t.docs) h.tree h.there)
    (subst (λ (t : Tree). RegistersBelong t (registers s log acts)) h.tree (subst (RegistersBelong w.tree) k.registers k.sound.registers)))

move_at : (s : Session) (r : ℕ) (log : List Entry) (acts : List Act) (told : ℕ) (w : Holds) → AreAdmitted log → Keeps s r log acts told w → (left : Option Left) → step_left s log acts ≡ left
    → move_of (λ doc. sight_in w) left ≡ move_of (sight s log acts) left
move_at s r log acts told w all k None e = refl
move_at s r log acts told w all k (Some left) e = ap (move_by left.doc left.point (op_of left.step)) (perform_at s r log acts told w all k left (at_step s r log acts told w k left e))

-- what hasn't stopped goes on
pub going_on : (s : Session) (log : List Entry) (acts : List Act) → has_stopped acts ≡ false → next_move s log acts ≡ move_of (sight s log acts) (step_left s log acts)
unfolding next_move
going_on s log acts h = ap (λ b. if b then Stays else move_of (sight s log acts) (step_left s log acts)) h

pub move_is : (s : Session) (r : ℕ) (log : List Entry) (acts : List Act) (told : ℕ) (w : Holds) → AreAdmitted log → Keeps s r log acts told w → move_now s w ≡ next_move s log acts
move_is s r log acts told w all k =
    ap (move_of (λ doc. sight_in w)) (left_is s r log acts told w k) ∙ move_at s r log acts told w all k (step_left s log acts) refl ∙ sym (going_on s log acts k.goes_on)

-- the properties of objects after the step that is left
stores_at : (s : Session) (r : ℕ) (log : List Entry) (acts : List Act) (told : ℕ) (w : Holds) → Keeps s r log acts told w → (left : Option Left) → step_left s log acts ≡ left
    → stores_then left w ≡ stores_after left (prefix (newest_length acts) log) (registers s log acts) (stores s log acts)
stores_at s r log acts told w k None e = k.stores
stores_at s r log acts told w k (Some left) e =
    let h = at_step s r log acts told w k left e in
    let p : List Entry = prefix (newest_length acts) log in
    ap (λ (see : Sight). step_stores see left.doc left.step) (sight_is s log acts w h.tree h.urls k.registers k.stores)
    ∙ sym (changed_shown p (registers s log acts) (stores s log acts) left.doc left.step)

stores_are : (s : Session) (r : ℕ) (log : List Entry) (acts : List Act) (told : ℕ) (w : Holds) → Keeps s r log acts told w
    → stores_then (left_now s w) w ≡ stores_after (step_left s log acts) (prefix (newest_length acts) log) (registers s log acts) (stores s log acts)
stores_are s r log acts told w k = ap (λ (o : Option Left). stores_then o w) (left_is s r log acts told w k) ∙ stores_at s r log acts told w k (step_left s log acts) refl

stores_more : (s : Session) (log : List Entry) (acts : List Act) (at doc : ℕ) (point : Point) (op : OpName) (given : Answer)
    → stores s log (StepAct at doc point op given ∷ acts) ≡ stores_after (step_left s log acts) (prefix (newest_length acts) log) (registers s log acts) (stores s log acts)
unfolding stores
stores_more s log acts at doc point op given = refl

stores_before : (s : Session) (own log : List Entry) (acts : List Act) → Within (length log) acts
    → stores_after (step_left s (own ++ log) acts) (prefix (newest_length acts) (own ++ log)) (registers s (own ++ log) acts) (stores s (own ++ log) acts)
    ≡ stores_after (step_left s log acts) (prefix (newest_length acts) log) (registers s log acts) (stores s log acts)
stores_before s own log acts within =
    ap (λ (o : Option Left). stores_after o (prefix (newest_length acts) (own ++ log)) (registers s (own ++ log) acts) (stores s (own ++ log) acts)) (left_grown s own log acts within)
    ∙ ap (λ (g : List Entry). stores_after (step_left s log acts) g (registers s (own ++ log) acts) (stores s (own ++ log) acts)) (prefix_grown own log acts within)
    ∙ ap (λ (f : ℕ → List ℕ → Value). stores_after (step_left s log acts) (prefix (newest_length acts) log) f (stores s (own ++ log) acts)) (registers_grown s own log acts within)
    ∙ ap (stores_after (step_left s log acts) (prefix (newest_length acts) log) (registers s log acts)) (stores_grown s own log acts within)

stores_task : (s : Session) (log : List Entry) (acts : List Act) (act : Act) (at place : ℕ) (what : What) → act ≡ Task at (kind_of what) place → stores s log (act ∷ acts) ≡ stores s log acts
unfolding stores
stores_task s log acts act at place what e = ap (λ a. stores s log (a ∷ acts)) e

-- a move that is no task has a step left
no_left : (s : Session) (log : List Entry) (acts : List Act) (left : Option Left) → move_of (sight s log acts) left ≡ Takes → left ≡ None
no_left s log acts None h = refl
no_left s log acts (Some l) h = absurd (no_takes l.doc l.point (op_of l.step) (perform (sight s log acts l.doc) l.doc l.step) h)

none_left : (s : Session) (log : List Entry) (acts : List Act) → has_stopped acts ≡ false → next_move s log acts ≡ Takes → step_left s log acts ≡ None
none_left s log acts goes h = no_left s log acts (step_left s log acts) (sym (going_on s log acts goes) ∙ h)

-- ONE LEMMA A KIND

-- the run after a step: it still fits, with one more step made, and all heard to the new act
step_fits : (s : Session) (log : List Entry) (acts : List Act) (act : Act) (told at : ℕ) (run : Option Running) → FitsRun s log acts told run → (step_left s log acts ≡ None → ⊥)
    → ((r : Option Running) → running log acts ≡ r → running log (act ∷ acts) ≡ option_map one_more r) → newest_length (act ∷ acts) ≡ at → FitsRun s log (act ∷ acts) at (option_map one_more run)
step_fits s log acts act told at None fits some next e = absurd (some fits)
step_fits s log acts act told at (Some run) fits some next e = (sym e, next (Some run) fits.1)

step_more : (log : List Entry) (acts : List Act) (at doc : ℕ) (point : Point) (op : OpName) (given : Answer) (r : Option Running) → running log acts ≡ r
    → running log (StepAct at doc point op given ∷ acts) ≡ option_map one_more r
unfolding running
step_more log acts at doc point op given r e = ap (option_map one_more) e

registers_more : (s : Session) (log : List Entry) (acts : List Act) (at doc : ℕ) (point : Point) (op : OpName) (given : Answer)
    → registers s log (StepAct at doc point op given ∷ acts) ≡ registers_after (step_left s log acts) given (registers s log acts)
unfolding registers
registers_more s log acts at doc point op given = refl

-- a task writes what its message says
registers_task : (s : Session) (log : List Entry) (acts : List Act) (e : Entry)
    → registers s (e ∷ log) (Task (length log + 1) (kind_of e.what) (length log) ∷ acts) ≡ task_written (e ∷ log) e.what (registers s (e ∷ log) acts)
unfolding registers
registers_task s log acts e =
    let before = registers s (e ∷ log) acts in
    ap (λ (g : List Entry). option_map_or (λ (x : Entry). task_written g x.what before) (entry_at g (length log)) before) (prefix_whole (e ∷ log) (length log + 1) (omega arith))
    ∙ ap (λ (o : Option Entry). option_map_or (λ (x : Entry). task_written (e ∷ log) x.what before) o before) (entry_newest e log)

own_more : (r : ℕ) (t : Tree) (run : Option Running) → IsOwnRun r t run → IsOwnRun r t (option_map one_more run)
own_more r t None h = h
own_more r t (Some run) h = h

pub kept_local : (s : Session) (r : ℕ) (log : List Entry) (acts : List Act) (told doc : ℕ) (point : Point) (op : OpName) (outcome : Outcome) (w v : Holds) (l m : Ledger) → Keeps s r log acts told w → IsSound v
    → (step_left s log acts ≡ None → ⊥) → ActsLocally s doc point op outcome w l v m → Keeps s r log (StepAct told doc point op (answer.Outcome outcome) ∷ acts) told v
kept_local s r log acts told doc point op outcome w v l m k sound some a =
    let act : Act = StepAct told doc point op (answer.Outcome outcome) in
    record {
      acts_are = a.acts ∙ ap (λ h. StepAct h doc point op (answer.Outcome outcome) ∷ w.acts) k.heard ∙ ap (λ xs. act ∷ xs) k.acts_are;
      goes_on = refl;
      heard = a.heard ∙ k.heard;
      within = k.within;
      tree = a.tree ∙ k.tree;
      urls = a.urls ∙ k.urls;
      newest = omega arith;
      registers = a.registers ∙ ap (λ (o : Option Left). registers_after o (answer.Outcome outcome) w.registers) (left_is s r log acts told w k)
          ∙ ap (registers_after (step_left s log acts) (answer.Outcome outcome)) k.registers ∙ sym (registers_more s log acts told doc point op (answer.Outcome outcome));
      stores = a.stores ∙ stores_are s r log acts told w k ∙ sym (stores_more s log acts told doc point op (answer.Outcome outcome));
      sound = sound;
      run = subst (FitsRun s log (act ∷ acts) told) (sym a.run) (step_fits s log acts act told told w.run k.run some (λ q e. step_more log acts told doc point op (answer.Outcome outcome) q e) refl);
      own = subst (λ (t : Tree). IsOwnRun r t v.run) (sym a.tree) (subst (IsOwnRun r w.tree) (sym a.run) (own_more r w.tree w.run k.own));
    }

asking_fits : (s : Session) (more log : List Entry) (acts : List Act) (act : Act) (told at : ℕ) (run : Option Running) → FitsRun s log acts told run → (step_left s log acts ≡ None → ⊥) → Within (length log) acts
    → ((q : Option Running) → running (more ++ log) acts ≡ q → running (more ++ log) (act ∷ acts) ≡ option_map one_more q) → newest_length (act ∷ acts) ≡ at → FitsRun s (more ++ log) (act ∷ acts) at (option_map one_more run)
asking_fits s more log acts act told at None fits some within next e = absurd (some fits)
asking_fits s more log acts act told at (Some run) fits some within next e = (sym e, next (Some run) (running_grown more log acts within ∙ fits.1))

own_grown : (r : ℕ) (more log : List Entry) (told : ℕ) (run : Option Running) → AreAdmitted log → AreAdmitted (more ++ log) → IsOwnRun r (tree_of (prefix told log)) run → IsOwnRun r (tree_of (more ++ log)) run
own_grown r more log told None old all h = h
own_grown r more log told (Some run) old all h = mine_grown r more log run.doc all (mine_now r told log run.doc old h)

pub kept_asking : (s : Session) (r : ℕ) (log : List Entry) (acts : List Act) (told doc : ℕ) (point : Point) (op : OpName) (q : Request) (w v : Holds) (l m : Ledger) → Keeps s r log acts told w → IsSound v
    → AreAdmitted log → AreAdmitted m.log → Within (length log) acts → l.log ≡ log → (step_left s log acts ≡ None → ⊥) → (a : ActsByAsking s r doc point op q w l v m)
    → Keeps s r ((exchange (rules_of s) log r q).entries ++ log)
    (StepAct (length ((exchange (rules_of s) log r q).entries ++ log)) doc point op a.given ∷ acts)
    (length ((exchange (rules_of s) log r q).entries ++ log)) v
kept_asking s r log acts told doc point op q w v l m k sound old all within same some a =
    let own : List Entry = (exchange (rules_of s) log r q).entries in
    let given : Answer = a.given in
    let gives : Some given ≡ answer_of op (exchange (rules_of s) log r q).outcome = a.gives ∙ ap (λ (g : List Entry). answer_of op (exchange (rules_of s) g r q).outcome) same in
    let n : ℕ = length (own ++ log) in
    let act : Act = StepAct n doc point op given in
    let grown : m.log ≡ own ++ log = a.log ∙ ap (λ (g : List Entry). (exchange (rules_of s) g r q).entries ++ g) same in
    let whole : prefix n (own ++ log) ≡ own ++ log = prefix_whole (own ++ log) n (omega arith) in
    record {
      acts_are = a.acts ∙ ap (λ (g : List Entry). StepAct (length g) doc point op given ∷ w.acts) grown ∙ ap (λ xs. act ∷ xs) k.acts_are;
      goes_on = ap (λ k. is_lost (StepAct k doc point op given)) (length-append own log)
          ∙ act_kept (rules_of s) r log acts (Asks doc point op q) (StepAct (length own + length log) doc point op given) own (refl, ap (option_map (StepAct (length own + length log) doc point op)) gives);
      heard = a.all.heard ∙ ap length grown;
      within = omega arith;
      tree = a.all.tree ∙ ap tree_of grown ∙ ap tree_of (sym whole);
      urls = a.all.urls ∙ ap url_of grown ∙ ap url_of (sym whole);
      newest = omega arith;
      registers = a.registers ∙ ap (λ (o : Option Left). registers_after o given w.registers) (left_is s r log acts told w k)
          ∙ ap (registers_after (step_left s log acts) given) k.registers
          ∙ sym (registers_more s (own ++ log) acts n doc point op given ∙ ap (λ (o : Option Left). registers_after o given (registers s (own ++ log) acts)) (left_grown s own log acts within)
          ∙ ap (registers_after (step_left s log acts) given) (registers_grown s own log acts within));
      stores = a.stores ∙ sym a.same ∙ stores_are s r log acts told w k
          ∙ sym (stores_more s (own ++ log) acts n doc point op given ∙ stores_before s own log acts within);
      sound = sound;
      run = subst (FitsRun s (own ++ log) (act ∷ acts) n) (sym a.run) (asking_fits s own log acts act told n w.run k.run some within (λ o e. step_more (own ++ log) acts n doc point op given o e) refl);
      own = subst (λ (t : Tree). IsOwnRun r t v.run) (sym (a.all.tree ∙ ap tree_of grown)) (subst (IsOwnRun r (tree_of (own ++ log))) (sym a.run)
          (own_more r (tree_of (own ++ log)) w.run (own_grown r own log told w.run old (subst AreAdmitted grown all) (subst (λ (t : Tree). IsOwnRun r t w.run) k.tree k.own))));
    }

task_fits : (s : Session) (log : List Entry) (acts : List Act) (at : ℕ) (run : Option Running) → running log acts ≡ run → newest_length acts ≡ at → FitsRun s log acts at run
unfolding step_left
task_fits s log acts at None e n = ap (option_and_then (left_on s (tree_of (prefix (newest_length acts) log)) (url_of (prefix (newest_length acts) log)))) e
task_fits s log acts at (Some run) e n = (sym n, e)

started_here : (log : List Entry) (acts : List Act) (e : Entry) → running (e ∷ log) (Task (length log + 1) (kind_of e.what) (length log) ∷ acts) ≡ starts (length log) e.what
unfolding running
started_here log acts e =
    ap (λ (g : List Entry). started_at g (length log)) (prefix_whole (e ∷ log) (length log + 1) (omega arith)) ∙ ap (option_and_then (λ (x : Entry). starts (length log) x.what)) (entry_newest e log)

own_started : (r place : ℕ) (log : List Entry) (what : What) (run : Option Running) → AreAdmitted log → next_task log r ≡ Some what → is_commit what ≡ true → starts place what ≡ run
    → IsOwnRun r (tree_of (task_entry r what ∷ log)) run
own_started r place log (Commit nav doc begin) run all next commits e = subst (IsOwnRun r (tree_of (task_entry r (Commit nav doc begin) ∷ log))) e (commit_mine r log nav doc begin all next)
own_started r place log _ run all next commits e = absurd cc

pub kept_task : (s : Session) (r : ℕ) (log : List Entry) (acts : List Act) (told : ℕ) (w v : Holds) (l m : Ledger) → Keeps s r log acts told w → IsSound v → AreAdmitted log → Within (length log) acts → l.log ≡ log
    → (a : ActsByTask r w l v m) → Keeps s r (task_entry r a.what ∷ log) (Task (length log + 1) (kind_of a.what) (length log) ∷ acts) (length log + 1) v
kept_task s r log acts told w v l m k sound old within same a =
    let e : Entry = task_entry r a.what in
    let grown : m.log ≡ e ∷ log = a.log ∙ ap (λ g. e ∷ g) same in
    let long : length m.log ≡ length log + 1 = ap length grown ∙ (omega arith) in
    let whole : prefix (length log + 1) (e ∷ log) ≡ e ∷ log = prefix_whole (e ∷ log) (length log + 1) (omega arith) in
    let run_is : v.run ≡ starts (length log) a.what = a.run ∙ ap (λ (g : List Entry). starts (length g) a.what) same in
    record {
      acts_are = a.acts ∙ ap (λ n. Task (n + 1) (kind_of a.what) n ∷ w.acts) (ap length same) ∙ ap (λ xs. Task (length log + 1) (kind_of a.what) (length log) ∷ xs) k.acts_are;
      goes_on = refl;
      heard = a.all.heard ∙ long;
      within = omega arith;
      tree = a.all.tree ∙ ap tree_of grown ∙ ap tree_of (sym whole);
      urls = a.all.urls ∙ ap url_of grown ∙ ap url_of (sym whole);
      newest = omega arith;
      registers = a.registers ∙ k.registers ∙ sym (registers_task s log acts e ∙ commit_writes (e ∷ log) a.what (registers s (e ∷ log) acts) a.commits ∙ registers_grown s (e ∷ []) log acts within);
      stores = a.stores ∙ k.stores ∙ sym (stores_task s (e ∷ log) acts (Task (length log + 1) (kind_of a.what) (length log)) (length log + 1) (length log) a.what refl ∙ stores_grown s (e ∷ []) log acts within);
      sound = sound;
      own = subst (λ (t : Tree). IsOwnRun r t v.run) (sym (a.all.tree ∙ ap tree_of grown)) (own_started r (length log) log a.what v.run old (subst (λ (g : List Entry). next_task g r ≡ Some a.what) same a.next) a.commits (sym run_is));
      run = task_fits s (e ∷ log) (Task (length log + 1) (kind_of a.what) (length log) ∷ acts) (length log + 1) v.run (started_here log acts e ∙ sym run_is) refl;
    }

pub kept_idle : (s : Session) (r : ℕ) (log : List Entry) (acts : List Act) (told : ℕ) (w v : Holds) (l m : Ledger) → Keeps s r log acts told w → IsSound v → Within (length log) acts → l.log ≡ log → next_move s log acts ≡ Takes
    → IsIdle r w l v m → Keeps s r log acts (length log) v
kept_idle s r log acts told w v l m k sound within same takes a =
    let grown : m.log ≡ log = a.log ∙ same in
    let whole : prefix (length log) log ≡ log = prefix_whole log (length log) (omega arith) in
    record {
      acts_are = a.acts ∙ k.acts_are;
      goes_on = k.goes_on;
      heard = a.all.heard ∙ ap length grown;
      within = omega arith;
      tree = a.all.tree ∙ ap tree_of grown ∙ ap tree_of (sym whole);
      urls = a.all.urls ∙ ap url_of grown ∙ ap url_of (sym whole);
      newest = newest_within (length log) acts within;
      registers = a.registers ∙ k.registers;
      stores = a.stores ∙ k.stores;
      sound = sound;
      own = subst (IsOwnRun r v.tree) (sym a.run) tt;
      run = subst (FitsRun s log acts (length log)) (sym a.run) (none_left s log acts k.goes_on takes);
    }

-- another renderer's turn
run_grown : (s : Session) (more log : List Entry) (acts : List Act) (told : ℕ) (run : Option Running) → Within (length log) acts → FitsRun s log acts told run → FitsRun s (more ++ log) acts told run
run_grown s more log acts told None within fits = left_grown s more log acts within ∙ fits
run_grown s more log acts told (Some run) within fits = (fits.0, running_grown more log acts within ∙ fits.1)

pub kept_other : (s : Session) (r : ℕ) (more log : List Entry) (acts : List Act) (told : ℕ) (w : Holds) → Keeps s r log acts told w → Within (length log) acts → Keeps s r (more ++ log) acts told w
kept_other s r more log acts told w k within = record {
  acts_are = k.acts_are;
  goes_on = k.goes_on;
  heard = k.heard;
  within = omega (arith, k.within, length-append more log);
  tree = k.tree ∙ ap tree_of (sym (prefix_more more log told k.within));
  urls = k.urls ∙ ap url_of (sym (prefix_more more log told k.within));
  newest = k.newest;
  registers = k.registers ∙ sym (registers_grown s more log acts within);
  stores = k.stores ∙ sym (stores_grown s more log acts within);
  sound = k.sound;
  own = k.own;
  run = run_grown s more log acts told w.run within k.run;
}
