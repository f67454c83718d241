-- What a worker holds leads to windows and documents of their group alone, and stays so.
use Rattle.std.proofs.Common.{◌≡◌, ℕ, ◌<◌, ◌^◌, List, [], ◌∷◌, ◌++◌, length, Option, Some, None, Bool, true, false, refl, sym, ap, subst, ◌∙◌}
use Rattle.std.specs.Prelude.{nat_le, option_and_then, if◌then◌else◌}
use Rattle.window_props.specs.declared.value.Value.{Value}
use Rattle.window_props.specs.declared.value.Value.TheVariants as value
use Rattle.window_props.specs.declared.platform.Object.{Object}
use Rattle.window_props.specs.History.{Store}
use Rattle.tree_log.specs.declared.entry.Entry.{Entry}
use Rattle.tree_log.specs.Log.{prefix}
use Rattle.tree_log.specs.Tree.{Tree, tree_of}
use Rattle.tree_log.specs.Urls.{url_of}
use Rattle.tree_log.specs.Admits.{AreAdmitted}
use Rattle.agent_terms.specs.declared.session.Session.{Session}
use Rattle.agent_terms.specs.declared.step.Step.{Step}
use Rattle.agent_terms.specs.declared.act.Answer.{Answer as AnswerOf}
use Rattle.agent_terms.specs.declared.act.Answer.TheVariants as answer
use Rattle.agent_terms.specs.declared.act.Performed.{Performed}
use Rattle.agent_terms.specs.declared.act.Performed.TheVariants.{Answer, Ask}
use Rattle.agent_terms.specs.declared.act.Move.TheVariants.{Answers, Asks}
use Rattle.agent_terms.specs.declared.act.Point.{Point}
use Rattle.agent_terms.specs.declared.act.Running.{Running}
use Rattle.agent_terms.specs.declared.outcome.Outcome.{Outcome}
use Rattle.agent_terms.specs.declared.outcome.Outcome.TheVariants as outcome
use Rattle.tree_log.specs.declared.entry.What.{What}
use Rattle.agent_terms.specs.declared.request.Request.{Request}
use Rattle.agent_terms.specs.declared.request.Request.TheVariants as ask
use Rattle.agent_terms.specs.declared.step.OpName.{OpName}
use Rattle.object_access.specs.Registers.{to_of, value_in}
use Rattle.coordinator_rules.specs.NextTask.{next_task, task_entry}
use Rattle.coordinator_rules.specs.Decision.{Rules, rules_of, Decision, task_decision, exchange, asker_of}
use Rattle.object_access.specs.StepAnswer.{Sight, perform}
use Rattle.single_agent.specs.Running.{Left, left_on}
use Rattle.single_agent.specs.Sights.{registers_after}
use Rattle.single_agent.specs.NextAct.{answer_of}
use Rattle.single_agent.specs.NextMove.{op_of, move_by, move_of}
use Rattle.single_agent.proofs.Made.{next_gives}
use Rattle.agent_laws.specs.Belonging.{Belongs, RegistersBelong, StoresBelong, IsClosed}
use Rattle.agent_laws.specs.Sights.{HoldsGroup}
use Rattle.agent_laws.proofs.Groups.Grouped.{registers_grown, stores_grown}
use Rattle.agent_laws.proofs.Groups.Reached.{held_belongs}
use Rattle.agent_laws.proofs.Groups.Changed.{answer_belongs, changed_belongs}
use Rattle.agent_laws.proofs.Groups.Closed.{closed_exchange}
use Rattle.agent_laws.proofs.Groups.Written.{left_doc, to_belongs, reply_belongs}
use Rattle.agent_laws.proofs.Logs.Asked.{IsAskedBy, asked_by}
use Rattle.script_steps.specs.Reached.{IsValueThere}
use Rattle.session_player.specs.Steps.{Holds, IsSound, IsOwnRun, ActsLocally, ActsByAsking, sight_in, left_now, move_now, stores_then}
use Rattle.session_player.specs.Serves.{Ledger}

-- WHOSE STEP IT IS

doc_there : (s : Session) (r : ℕ) (t : Tree) (urls : ℕ → List ℕ) (run : Option Running) (left : Left) → IsOwnRun r t run → option_and_then (left_on s t urls) run ≡ Some left → left.doc < t.docs
doc_there s r t urls None left own h = absurd cc
doc_there s r t urls (Some run) left own h = subst (λ d. d < t.docs) (left_doc s t urls run left h) own.there

-- the document whose step is left is there
pub left_there : (s : Session) (r : ℕ) (w : Holds) (left : Left) → IsOwnRun r w.tree w.run → left_now s w ≡ Some left → left.doc < w.tree.docs
left_there s r w left own h = doc_there s r w.tree w.urls w.run left own h

-- REGISTERS

-- they hold objects of a document's group alone
pub held_group : (log : List Entry) (registers : ℕ → List ℕ → Value) (stores : Object → Store) (d : ℕ) → IsClosed (tree_of log) → d < (tree_of log).docs → RegistersBelong (tree_of log) registers
    → HoldsGroup (record { tree = tree_of log; urls = url_of log; registers = registers; stores = stores }) d
held_group log registers stores d closed lt all =
    let t : Tree = tree_of log in
    let s : Sight = record { tree = t; urls = url_of log; registers = registers; stores = stores } in
    record {
      there = λ name n is. (subst (Belongs t d) is (held_belongs t (url_of log) registers stores d closed lt all name)).1;
      windows = λ name n is. (subst (Belongs t d) is (held_belongs t (url_of log) registers stores d closed lt all name)).2;
      locations = λ name e is. (subst (Belongs t d) is (held_belongs t (url_of log) registers stores d closed lt all name)).2;
    }

-- what belongs is there
pub belongs_there : (t : Tree) (d : ℕ) (v : Value) → Belongs t d v → IsValueThere t v
belongs_there t d (value.Window n) h = h.1
belongs_there t d (value.Location e) h = h.1
belongs_there t d _ h = tt

-- A STEP THAT ANSWERS

answered : (w : Holds) (d : ℕ) (st : Step) → IsSound w → d < w.tree.docs → (o : Outcome) → perform (sight_in w) d st ≡ Answer o → Belongs w.tree d (value_in (answer.Outcome o))
answered w d st sound lt (outcome.Value v) h = answer_belongs w.tree w.urls w.registers w.stores d sound.closed lt sound.registers sound.stores st v h
answered w d st sound lt _ h = tt

pub answer_there : (w : Holds) (d : ℕ) (st : Step) (o : Outcome) → IsSound w → d < w.tree.docs → perform (sight_in w) d st ≡ Answer o → IsValueThere w.tree (value_in (answer.Outcome o))
answer_there w d st o sound lt h = belongs_there w.tree d (value_in (answer.Outcome o)) (answered w d st sound lt o h)

pub sound_local : (w v : Holds) (left : Left) (o : Outcome) → IsSound w → left.doc < w.tree.docs → perform (sight_in w) left.doc left.step ≡ Answer o
    → v.tree ≡ w.tree → v.registers ≡ registers_after (Some left) (answer.Outcome o) w.registers → v.stores ≡ stores_then (Some left) w → IsSound v
sound_local w v left o sound lt h tree registers stores = record {
  closed = subst IsClosed (sym tree) sound.closed;
  registers = subst (λ (t : Tree). RegistersBelong t v.registers) (sym tree)
      (subst (RegistersBelong w.tree) (sym registers) (to_belongs w.tree w.registers left.doc (to_of left.step) (value_in (answer.Outcome o)) sound.registers (answered w left.doc left.step sound lt o h)));
  stores = subst (λ (t : Tree). StoresBelong t v.stores) (sym tree)
      (subst (StoresBelong w.tree) (sym stores) (changed_belongs w.tree w.urls w.registers w.stores left.doc sound.closed lt sound.registers sound.stores left.step));
}

-- A LONGER LOG

front : (b : Bool) (e : Entry) (older before : List Entry) → ((more : List Entry) × (older ≡ more ++ before)) → (more : List Entry) × (e ∷ older ≡ more ++ (if b then before else e ∷ older))
front true e older before rest = (e ∷ rest.0, ap (λ xs. e ∷ xs) rest.1)
front false e older before rest = ([], refl)

-- a log is a prefix of it with more entries in front
prefix_front : (k : ℕ) (log : List Entry) → (more : List Entry) × (log ≡ more ++ prefix k log)
unfolding prefix
prefix_front k [] = ([], refl)
prefix_front k (e ∷ older) = front (nat_le k (length older)) e older (prefix k older) (prefix_front k older)

append_front : (own more before log : List Entry) → log ≡ more ++ before → own ++ log ≡ (own ++ more) ++ before
append_front [] more before log e = e
append_front (x ∷ own) more before log e = ap (λ xs. x ∷ xs) (append_front own more before log e)

-- what was heard of a log is the front of a longer one
heard_front : (own log : List Entry) (k : ℕ) → (more : List Entry) × (own ++ log ≡ more ++ prefix k log)
heard_front own log k = let cut = prefix_front k log in (own ++ cut.0, append_front own cut.0 (prefix k log) log cut.1)

registers_heard : (own log : List Entry) (k : ℕ) (registers : ℕ → List ℕ → Value) → AreAdmitted (own ++ log) → RegistersBelong (tree_of (prefix k log)) registers → RegistersBelong (tree_of (own ++ log)) registers
registers_heard own log k registers all h =
    let cut = heard_front own log k in
    subst (λ (g : List Entry). RegistersBelong (tree_of g) registers) (sym cut.1) (registers_grown cut.0 (prefix k log) registers (subst AreAdmitted cut.1 all) h)

stores_heard : (own log : List Entry) (k : ℕ) (stores : Object → Store) → AreAdmitted (own ++ log) → StoresBelong (tree_of (prefix k log)) stores → StoresBelong (tree_of (own ++ log)) stores
stores_heard own log k stores all h =
    let cut = heard_front own log k in
    subst (λ (g : List Entry). StoresBelong (tree_of g) stores) (sym cut.1) (stores_grown cut.0 (prefix k log) stores (subst AreAdmitted cut.1 all) h)

-- a worker that heard more, and whose registers and properties are as before
pub sound_heard : (own log : List Entry) (k : ℕ) (w v : Holds) → AreAdmitted (own ++ log) → IsClosed (tree_of (own ++ log)) → IsSound w → w.tree ≡ tree_of (prefix k log)
    → v.tree ≡ tree_of (own ++ log) → v.registers ≡ w.registers → v.stores ≡ w.stores → IsSound v
sound_heard own log k w v all closed sound at tree registers stores = record {
  closed = subst IsClosed (sym tree) closed;
  registers = subst (λ (t : Tree). RegistersBelong t v.registers) (sym tree) (subst (RegistersBelong (tree_of (own ++ log))) (sym registers)
      (registers_heard own log k w.registers all (subst (λ (t : Tree). RegistersBelong t w.registers) at sound.registers)));
  stores = subst (λ (t : Tree). StoresBelong t v.stores) (sym tree) (subst (StoresBelong (tree_of (own ++ log))) (sym stores)
      (stores_heard own log k w.stores all (subst (λ (t : Tree). StoresBelong t w.stores) at sound.stores)));
}

-- A STEP THAT ASKS

pub sound_asking : (rules : Rules) (log : List Entry) (k r : ℕ) (q : Request) (w v : Holds) (left : Left) (o : OpName) (given : AnswerOf) → AreAdmitted log → length log < 2 ^ 30 → IsClosed (tree_of log)
    → AreAdmitted ((exchange rules log r q).entries ++ log) → asker_of q ≡ left.doc → IsSound w → w.tree ≡ tree_of (prefix k log) → v.tree ≡ tree_of ((exchange rules log r q).entries ++ log)
    → Some given ≡ answer_of o (exchange rules log r q).outcome → v.registers ≡ registers_after (Some left) given w.registers → v.stores ≡ w.stores → IsSound v
sound_asking rules log k r q w v left o given old short closed all asker sound at tree gives registers stores =
    let own : List Entry = (exchange rules log r q).entries in
    let t : Tree = tree_of (own ++ log) in
    record {
      closed = subst IsClosed (sym tree) (closed_exchange rules log r q old short closed);
      registers = subst (λ (x : Tree). RegistersBelong x v.registers) (sym tree) (subst (RegistersBelong t) (sym registers)
          (to_belongs t w.registers left.doc (to_of left.step) (value_in given)
          (registers_heard own log k w.registers all (subst (λ (x : Tree). RegistersBelong x w.registers) at sound.registers))
          (reply_belongs rules log r q left.doc o given old short closed asker gives)));
      stores = subst (λ (x : Tree). StoresBelong x v.stores) (sym tree) (subst (StoresBelong t) (sym stores) (stores_heard own log k w.stores all (subst (λ (x : Tree). StoresBelong x w.stores) at sound.stores)));
    }

-- MOVES

answers_sound : (s : Session) (r : ℕ) (w v : Holds) (l m : Ledger) → IsOwnRun r w.tree w.run → IsSound w → (doc : ℕ) (point : Point) (o : OpName) (outcome : Outcome) (left : Option Left) → left_now s w ≡ left
    → move_of (λ d. sight_in w) left ≡ Answers doc point o outcome → ActsLocally s doc point o outcome w l v m → IsSound v
answers_sound s r w v l m own sound doc point o outcome None is h a = absurd cc
answers_sound s r w v l m own sound doc point o outcome (Some left) is h a = by (perform (sight_in w) left.doc left.step) refl h where
  by : (p : Performed) → perform (sight_in w) left.doc left.step ≡ p → move_by left.doc left.point (op_of left.step) p ≡ Answers doc point o outcome → IsSound v
  by (Answer given) e moved =
      let same : given ≡ outcome = cc in
      sound_local w v left outcome sound (left_there s r w left own is) (e ∙ ap Answer same) a.tree
      (a.registers ∙ ap (λ (x : Option Left). registers_after x (answer.Outcome outcome) w.registers) is) (a.stores ∙ ap (λ (x : Option Left). stores_then x w) is)
  by (Ask q) e moved = absurd cc

-- after a step that answered
pub sound_answers : (s : Session) (r : ℕ) (w v : Holds) (l m : Ledger) → IsOwnRun r w.tree w.run → IsSound w → (doc : ℕ) (point : Point) (o : OpName) (outcome : Outcome)
    → move_now s w ≡ Answers doc point o outcome → ActsLocally s doc point o outcome w l v m → IsSound v
sound_answers s r w v l m own sound doc point o outcome h a = answers_sound s r w v l m own sound doc point o outcome (left_now s w) refl h a

asks_sound : (s : Session) (r k : ℕ) (w v : Holds) (l m : Ledger) → IsOwnRun r w.tree w.run → IsSound w → (doc : ℕ) (point : Point) (o : OpName) (q : Request) (left : Option Left) → left_now s w ≡ left
    → move_of (λ d. sight_in w) left ≡ Asks doc point o q → ActsByAsking s r doc point o q w l v m → AreAdmitted l.log → length l.log < 2 ^ 30 → IsClosed (tree_of l.log)
    → AreAdmitted ((exchange (rules_of s) l.log r q).entries ++ l.log) → w.tree ≡ tree_of (prefix k l.log) → IsSound v
asks_sound s r k w v l m own sound doc point o q None is h a old short closed all at = absurd cc
asks_sound s r k w v l m own sound doc point o q (Some left) is h a old short closed all at =
    let asker : asker_of q ≡ left.doc = asks_by (perform (sight_in w) left.doc left.step) refl h in
    sound_asking (rules_of s) l.log k r q w v left o a.given old short closed all asker sound at (a.all.tree ∙ ap tree_of a.log) a.gives
    (a.registers ∙ ap (λ (x : Option Left). registers_after x a.given w.registers) is) a.stores
  where
    asks_by : (p : Performed) → perform (sight_in w) left.doc left.step ≡ p → move_by left.doc left.point (op_of left.step) p ≡ Asks doc point o q → asker_of q ≡ left.doc
    asks_by (Answer x) e moved = absurd cc
    asks_by (Ask asked) e moved =
        let same : asked ≡ q = cc in
        subst (λ (x : Request). asker_of x ≡ left.doc) same (subst (IsAskedBy left.doc) e (asked_by (sight_in w) left.doc left.step)).asker

-- after a step that asked
pub sound_asks : (s : Session) (r k : ℕ) (w v : Holds) (l m : Ledger) → IsOwnRun r w.tree w.run → IsSound w → (doc : ℕ) (point : Point) (o : OpName) (q : Request)
    → move_now s w ≡ Asks doc point o q → ActsByAsking s r doc point o q w l v m → AreAdmitted l.log → length l.log < 2 ^ 30 → IsClosed (tree_of l.log)
    → AreAdmitted ((exchange (rules_of s) l.log r q).entries ++ l.log) → w.tree ≡ tree_of (prefix k l.log) → IsSound v
sound_asks s r k w v l m own sound doc point o q h a old short closed all at = asks_sound s r k w v l m own sound doc point o q (left_now s w) refl h a old short closed all at

-- a task leaves the tree closed
pub closed_task : (rules : Rules) (log : List Entry) (r : ℕ) (what : What) → AreAdmitted log → length log < 2 ^ 30 → IsClosed (tree_of log) → next_task log r ≡ Some what → IsClosed (tree_of (task_entry r what ∷ log))
closed_task rules log r what all short closed next =
    let same : (exchange rules log r ask.Next).entries ≡ task_entry r what ∷ [] = ap (λ (d : Decision). d.entries) (next_gives rules log r ∙ ap (task_decision r (length log)) next) in
    subst (λ (es : List Entry). IsClosed (tree_of (es ++ log))) same (closed_exchange rules log r ask.Next all short closed)
