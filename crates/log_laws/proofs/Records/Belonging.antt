-- What a legal record's acts leave in registers and properties: objects of their document's group alone.
use Rattle.std.proofs.Common.{◌≡◌, ℕ, ◌+◌, ◌<◌, ◌≤◌, ◌^◌, List, [], ◌∷◌, ◌++◌, length, Option, Some, None, Bool, true, false, refl, sym, ap, subst, ◌∙◌, arith, inl, inr, length-append}
use Rattle.std.specs.Prelude.{◌⊎◌, nat_le, option_and_then, if◌then◌else◌}
use Rattle.std.specs.Option.{option_map, option_map_or}
use Rattle.window_props.specs.declared.value.Value.{Value}
use Rattle.window_props.specs.declared.platform.Object.{Object}
use Rattle.window_props.specs.History.{Store}
use Rattle.tree_log.specs.declared.entry.Entry.{Entry}
use Rattle.tree_log.specs.declared.entry.What.{What}
use Rattle.tree_log.specs.declared.entry.What.TheVariants.{Commit, Fire}
use Rattle.tree_log.specs.Log.{entry_at, prefix}
use Rattle.tree_log.specs.Tree.{Tree, tree_of}
use Rattle.tree_log.specs.Urls.{url_of}
use Rattle.tree_log.specs.Admits.{has, admits, AreAdmitted}
use Rattle.tree_log.proofs.Admitted.{both, lt_of, what_admitted}
use Rattle.tree_log.proofs.BlankLaws.{tree_of-blanked}
use Rattle.tree_log.proofs.Places.{prefix_more, prefix_length, prefix_next}
use Rattle.agent_terms.specs.declared.session.Session.{Session}
use Rattle.agent_terms.specs.declared.step.Step.{Step}
use Rattle.agent_terms.specs.declared.step.OpName.{OpName}
use Rattle.agent_terms.specs.declared.act.Act.{Act}
use Rattle.agent_terms.specs.declared.act.Act.TheVariants.{Step as StepAct, Task, LostTask}
use Rattle.agent_terms.specs.declared.act.Answer.{Answer as AnswerOf}
use Rattle.agent_terms.specs.declared.act.Answer.TheVariants as answer
use Rattle.agent_terms.specs.declared.act.Move.{Move}
use Rattle.agent_terms.specs.declared.act.Move.TheVariants.{Answers, Asks, Takes, Stays}
use Rattle.agent_terms.specs.declared.act.Performed.{Performed}
use Rattle.agent_terms.specs.declared.act.Performed.TheVariants.{Answer, Ask}
use Rattle.agent_terms.specs.declared.act.Point.{Point}
use Rattle.agent_terms.specs.declared.act.Running.{Running}
use Rattle.agent_terms.specs.declared.act.TaskKind.{TaskKind}
use Rattle.agent_terms.specs.declared.outcome.Outcome.{Outcome}
use Rattle.agent_terms.specs.declared.outcome.Outcome.TheVariants as outcome
use Rattle.object_access.specs.Registers.{to_of, value_in, task_written}
use Rattle.object_access.specs.StepAnswer.{perform, step_stores, first_stores}
use Rattle.coordinator_rules.specs.Decision.{Rules, rules_of, exchange, asker_of}
use Rattle.single_agent.specs.Lengths.{length_of, newest_length, has_stopped}
use Rattle.single_agent.specs.Running.{starts, one_more, running, Left, left_on, step_left}
use Rattle.single_agent.specs.Shown.{is_seen_by, shown_to, document_of, shown_stores}
use Rattle.single_agent.specs.Sights.{registers_after, registers, stores_after, stores, sight}
use Rattle.single_agent.specs.NextMove.{op_of, move_by, move_of, next_move, move_request}
use Rattle.single_agent.specs.NextAct.{answer_of, MovesTo, IsActOn}
use Rattle.single_agent.specs.LostAct.{lost_act, IsLostOn}
use Rattle.single_agent.specs.LegalLog.{IsLegalLog}
use Rattle.agent_terms.specs.declared.request.Request.{Request}
use Rattle.single_agent.specs.Heard.{heard_at, MayHear}
use Rattle.single_agent.specs.LegalRecord.{IsMadeOn, StandsIn, LegalActs, IsLegalRecord}
use Rattle.single_agent.proofs.Grown.{Within, prefix_grown, running_grown, left_grown, registers_grown as registers_kept, stores_grown as stores_kept}
use Rattle.agent_laws.specs.Belonging.{Belongs, RegistersBelong, PropertyBelongs, StoresBelong, IsClosed}
use Rattle.agent_laws.proofs.Groups.Grouped.{belongs_grown, registers_grown, stores_grown, no_registers, platform_stores}
use Rattle.agent_laws.proofs.Groups.Changed.{answer_belongs, changed_belongs}
use Rattle.agent_laws.proofs.Groups.ClosedLogs.{closed_before_legal}
use Rattle.agent_laws.proofs.Groups.Written.{left_doc, to_belongs, reply_belongs}
use Rattle.agent_laws.proofs.Logs.Admitted.{legal_admitted}
use Rattle.agent_laws.proofs.Logs.Asked.{IsAskedBy, asked_by}
use Rattle.log_laws.proofs.Messages.MessageGroups.{more_docs_there, admitted_before, registers_taken}

-- A LONGER PREFIX

cut_front : (b : Bool) (e : Entry) (older before : List Entry) → ((more : List Entry) × (older ≡ more ++ before)) → (more : List Entry) × (e ∷ older ≡ more ++ (if b then before else e ∷ older))
cut_front true e older before rest = (e ∷ rest.0, ap (λ xs. e ∷ xs) rest.1)
cut_front false e older before rest = ([], refl)

-- a log is a prefix of it with more entries in front
front : (k : ℕ) (log : List Entry) → (more : List Entry) × (log ≡ more ++ prefix k log)
unfolding prefix
front k [] = ([], refl)
front k (e ∷ older) = cut_front (nat_le k (length older)) e older (prefix k older) (front k older)

-- and so is a longer prefix
prefix_front : (k n : ℕ) (log : List Entry) → k ≤ n → n ≤ length log → (more : List Entry) × (prefix n log ≡ more ++ prefix k log)
prefix_front k n log le within =
    let whole = front n log in
    let cut = front k (prefix n log) in
    let long : length (prefix n log) ≡ n = prefix_length log n within in
    let same : prefix k log ≡ prefix k (prefix n log) = ap (prefix k) whole.1 ∙ prefix_more whole.0 (prefix n log) k (omega (arith, long)) in
    (cut.0, cut.1 ∙ ap (λ (l : List Entry). cut.0 ++ l) (sym same))

registers_later : (k n : ℕ) (log : List Entry) (held : ℕ → List ℕ → Value) → k ≤ n → n ≤ length log → AreAdmitted log → RegistersBelong (tree_of (prefix k log)) held → RegistersBelong (tree_of (prefix n log)) held
registers_later k n log held le within all h =
    let cut = prefix_front k n log le within in
    subst (λ (l : List Entry). RegistersBelong (tree_of l) held) (sym cut.1) (registers_grown cut.0 (prefix k log) held (subst AreAdmitted cut.1 (admitted_before n log all)) h)

stores_later : (k n : ℕ) (log : List Entry) (held : Object → Store) → k ≤ n → n ≤ length log → AreAdmitted log → StoresBelong (tree_of (prefix k log)) held → StoresBelong (tree_of (prefix n log)) held
stores_later k n log held le within all h =
    let cut = prefix_front k n log le within in
    subst (λ (l : List Entry). StoresBelong (tree_of l) held) (sym cut.1) (stores_grown cut.0 (prefix k log) held (subst AreAdmitted cut.1 (admitted_before n log all)) h)

belongs_later : (k n : ℕ) (log : List Entry) (d : ℕ) (v : Value) → k ≤ n → n ≤ length log → AreAdmitted log → Belongs (tree_of (prefix k log)) d v → Belongs (tree_of (prefix n log)) d v
belongs_later k n log d v le within all h =
    let cut = prefix_front k n log le within in
    subst (λ (l : List Entry). Belongs (tree_of l) d v) (sym cut.1) (belongs_grown cut.0 (prefix k log) d v (subst AreAdmitted cut.1 (admitted_before n log all)) h)

docs_later : (k n : ℕ) (log : List Entry) (d : ℕ) → k ≤ n → n ≤ length log → d < (tree_of (prefix k log)).docs → d < (tree_of (prefix n log)).docs
docs_later k n log d le within h =
    let cut = prefix_front k n log le within in
    subst (λ (l : List Entry). d < (tree_of l).docs) (sym cut.1) (let more = more_docs_there cut.0 (prefix k log) in omega (arith, more, h))

-- WHAT RUNS

same_doc : (x run : Running) → Some x ≡ Some run → x.doc ≡ run.doc
same_doc x run h = let same : x ≡ run = cc in ap (λ (r : Running). r.doc) same

starts_there : (t : Tree) (b a : Option ℕ) (w : What) (place : ℕ) (run : Running) → admits t (record { by = b; actor = a; what = w }) ≡ true → starts place w ≡ Some run → run.doc < t.docs
starts_there t b a (Commit nav doc begin) place run h e =
    let four = both _ _ (what_admitted t (record { by = b; actor = a; what = Commit nav doc begin }) h) in
    let three = both _ _ four.0 in
    let two = both _ (has t.docs doc) three.0 in
    let there : doc < t.docs = lt_of doc t.docs two.1 in
    subst (λ d. d < t.docs) (same_doc _ run e) there
starts_there t b a (Fire doc post) place run h e =
    let there : doc < t.docs = lt_of doc t.docs (both _ (has t.docs doc) (what_admitted t (record { by = b; actor = a; what = Fire doc post }) h)).1 in
    subst (λ d. d < t.docs) (same_doc _ run e) there
starts_there t b a _ place run h e = absurd cc

entry_starts : (log : List Entry) (place : ℕ) (run : Running) (found : Option Entry) → AreAdmitted log → entry_at log place ≡ found → option_and_then (λ (e : Entry). starts place e.what) found ≡ Some run → run.doc < (tree_of log).docs
entry_starts log place run None all at h = absurd cc
entry_starts log place run (Some e) all at h =
    let upto : AreAdmitted (e ∷ prefix place log) = subst AreAdmitted (prefix_next log place e at) (admitted_before (place + 1) log all) in
    let there : run.doc < (tree_of (prefix place log)).docs = starts_there (tree_of (prefix place log)) e.by e.actor e.what place run upto.0 h in
    let cut = front place log in
    let more = more_docs_there cut.0 (prefix place log) in
    subst (λ (l : List Entry). run.doc < (tree_of l).docs) (sym cut.1) (omega (arith, more, there))

-- what acts leave, on the log that the renderer had heard at the newest one
record Leaves (s : Session) (log : List Entry) (acts : List Act) : Type 0 where
  pub registers_are : RegistersBelong (tree_of (prefix (newest_length acts) log)) (registers s log acts)
  pub stores_are : StoresBelong (tree_of (prefix (newest_length acts) log)) (stores s log acts)
  pub runs : (run : Running) → running log acts ≡ Some run → run.doc < (tree_of (prefix (newest_length acts) log)).docs

map_one_more : (d n : ℕ) (o : Option Running) (run : Running) → ((r : Running) → o ≡ Some r → r.doc < n) → option_map one_more o ≡ Some run → run.doc < n
map_one_more d n None run before h = absurd cc
map_one_more d n (Some r) run before h = let same : one_more r ≡ run = cc in subst (λ (x : Running). x.doc < n) same (before r refl)

runs_task : (log : List Entry) (older : List Act) (at place : ℕ) (kind : TaskKind) (run : Running) → AreAdmitted log → running log (Task at kind place ∷ older) ≡ Some run → run.doc < (tree_of (prefix at log)).docs
unfolding running
runs_task log older at place kind run all h = entry_starts (prefix at log) place run (entry_at (prefix at log) place) (admitted_before at log all) refl h

runs_step : (log : List Entry) (older : List Act) (at doc : ℕ) (point : Point) (op : OpName) (given : AnswerOf) (run : Running) → newest_length older ≤ at → at ≤ length log
    → ((r : Running) → running log older ≡ Some r → r.doc < (tree_of (prefix (newest_length older) log)).docs) → running log (StepAct at doc point op given ∷ older) ≡ Some run → run.doc < (tree_of (prefix at log)).docs
unfolding running
runs_step log older at doc point op given run le within before h =
    map_one_more run.doc (tree_of (prefix at log)).docs (running log older) run (λ r is. docs_later (newest_length older) at log r.doc le within (before r is)) h

runs_lost : (log : List Entry) (older : List Act) (at n : ℕ) (run : Running) → running log (LostTask at ∷ older) ≡ Some run → run.doc < n
unfolding running
runs_lost log older at n run h = absurd cc

-- the document whose step is left is there
left_of : (s : Session) (t : Tree) (urls : ℕ → List ℕ) (n : ℕ) (o : Option Running) (left : Left) → ((r : Running) → o ≡ Some r → r.doc < n) → option_and_then (left_on s t urls) o ≡ Some left → left.doc < n
left_of s t urls n None left before h = absurd cc
left_of s t urls n (Some run) left before h = subst (λ d. d < n) (left_doc s t urls run left h) (before run refl)

left_there : (s : Session) (log : List Entry) (older : List Act) (left : Left) → Leaves s log older → step_left s log older ≡ Some left → left.doc < (tree_of (prefix (newest_length older) log)).docs
unfolding step_left
left_there s log older left h is = let p : List Entry = prefix (newest_length older) log in left_of s (tree_of p) (url_of p) (tree_of p).docs (running log older) left h.runs is

-- A STEP ON WHAT ITS DOCUMENT SEES

shown_belong : (t : Tree) (d : ℕ) (held : Object → Store) → StoresBelong t held → StoresBelong t (shown_stores t d held)
shown_belong t d held h o key = by_sight (is_seen_by t d (document_of o))
  where
    by_sight : (b : Bool) → PropertyBelongs t (document_of o) ((if b then held o else first_stores o).at key)
    by_sight true = h o key
    by_sight false = platform_stores t o key

answer_on : (p : List Entry) (t : Tree) (urls : ℕ → List ℕ) (held : ℕ → List ℕ → Value) (kept : Object → Store) (d : ℕ) → tree_of p ≡ t → IsClosed (tree_of p) → d < (tree_of p).docs → RegistersBelong (tree_of p) held → StoresBelong (tree_of p) kept
    → (step : Step) (v : Value) → perform (record { tree = t; urls = urls; registers = held; stores = kept }) d step ≡ Answer (outcome.Value v) → Belongs (tree_of p) d v
answer_on p t urls held kept d same closed there holds keeps step v h =
    answer_belongs (tree_of p) urls held kept d closed there holds keeps step v
    (subst (λ (x : Tree). perform (record { tree = x; urls = urls; registers = held; stores = kept }) d step ≡ Answer (outcome.Value v)) (sym same) h)

changed_on : (p : List Entry) (t : Tree) (urls : ℕ → List ℕ) (held : ℕ → List ℕ → Value) (kept : Object → Store) (d : ℕ) → tree_of p ≡ t → IsClosed (tree_of p) → d < (tree_of p).docs → RegistersBelong (tree_of p) held → StoresBelong (tree_of p) kept
    → (step : Step) → StoresBelong (tree_of p) (step_stores (record { tree = t; urls = urls; registers = held; stores = kept }) d step)
changed_on p t urls held kept d same closed there holds keeps step =
    subst (λ (x : Tree). StoresBelong (tree_of p) (step_stores (record { tree = x; urls = urls; registers = held; stores = kept }) d step)) same
    (changed_belongs (tree_of p) urls held kept d closed there holds keeps step)

-- what a step answers belongs to its document
answered : (s : Session) (log : List Entry) (older : List Act) (left : Left) (o : Outcome) → IsClosed (tree_of (prefix (newest_length older) log)) → Leaves s log older → left.doc < (tree_of (prefix (newest_length older) log)).docs
    → perform (sight s log older left.doc) left.doc left.step ≡ Answer o → Belongs (tree_of (prefix (newest_length older) log)) left.doc (value_in (answer.Outcome o))
answered s log older left (outcome.Value v) closed h there is =
    let p : List Entry = prefix (newest_length older) log in
    answer_on p (tree_of (shown_to left.doc p)) (url_of (shown_to left.doc p)) (registers s log older) (shown_stores (tree_of p) left.doc (stores s log older)) left.doc
    (sym (tree_of-blanked (is_seen_by (tree_of p) left.doc) p)) closed there h.registers_are (shown_belong (tree_of p) left.doc (stores s log older) h.stores_are) left.step v is
answered s log older left _ closed h there is = tt

-- WHAT AN ACT ANSWERED

-- the parts of two steps that are one
same_given : (at n doc e : ℕ) (point q : Point) (op o : OpName) (a b : AnswerOf) → StepAct at doc point op a ≡ StepAct n e q o b → (at ≡ n) × (a ≡ b)
same_given at n doc e point q op o a b h = let x : at ≡ n = cc in let y : a ≡ b = cc in (x, y)

lost_given : (at doc newest heard : ℕ) (point : Point) (op : OpName) (given : AnswerOf) (m : Move) → lost_act newest heard m ≡ Some (StepAct at doc point op given) → given ≡ answer.Lost
lost_given at doc newest heard point op given (Answers d q o x) h = absurd cc
lost_given at doc newest heard point op given (Asks d q o x) h = let same : StepAct newest d q o answer.Lost ≡ StepAct at doc point op given = cc in sym (same_given newest at d doc q point o op answer.Lost given same).1
lost_given at doc newest heard point op given Takes h = absurd cc
lost_given at doc newest heard point op given Stays h = absurd cc

asked_given : (at n doc e : ℕ) (point q : Point) (op o : OpName) (given : AnswerOf) (gives : Option AnswerOf) → Some (StepAct at doc point op given) ≡ option_map (StepAct n e q o) gives → (at ≡ n) × (gives ≡ Some given)
asked_given at n doc e point q op o given None h = absurd cc
asked_given at n doc e point q op o given (Some b) h =
    let same : StepAct at doc point op given ≡ StepAct n e q o b = cc in
    let two = same_given at n doc e point q op o given b same in (two.0, ap Some (sym two.1))

-- what is known of an act that stands in a legal log
record IsSet (s : Session) (r : ℕ) (g : List Entry) (older : List Act) (left : Left) : Type 0 where
  pub admitted : AreAdmitted g
  pub short : length g < 2 ^ 30
  pub closed : IsClosed (tree_of g)
  pub closed_then : IsClosed (tree_of (prefix (newest_length older) g))
  pub leaves : Leaves s g older
  pub there : left.doc < (tree_of (prefix (newest_length older) g)).docs

moved_given : (s : Session) (r : ℕ) (g : List Entry) (older : List Act) (left : Left) (at doc : ℕ) (point : Point) (op : OpName) (given : AnswerOf) (own : List Entry) → IsSet s r g older left
    → (p : Performed) → perform (sight s g older left.doc) left.doc left.step ≡ p
    → MovesTo (rules_of s) r g older (move_by left.doc left.point (op_of left.step) p) (StepAct at doc point op given) own
    → ((at ≡ newest_length older) × Belongs (tree_of (prefix (newest_length older) g)) left.doc (value_in given)) ⊎ ((at ≡ length own + length g) × Belongs (tree_of (own ++ g)) left.doc (value_in given))
moved_given s r g older left at doc point op given own k (Answer o) is h =
    let two = same_given at (newest_length older) doc left.doc point left.point op (op_of left.step) given (answer.Outcome o) h.0 in
    inl (two.0, subst (λ (a : AnswerOf). Belongs (tree_of (prefix (newest_length older) g)) left.doc (value_in a)) (sym two.1) (answered s g older left o k.closed_then k.leaves k.there is))
moved_given s r g older left at doc point op given own k (Ask q) is h =
    let two = asked_given at (length own + length g) doc left.doc point left.point op (op_of left.step) given (answer_of (op_of left.step) (exchange (rules_of s) g r q).outcome) h.1 in
    let asker : asker_of q ≡ left.doc = (subst (IsAskedBy left.doc) is (asked_by (sight s g older left.doc) left.doc left.step)).asker in
    inr (
      two.0,
      subst (λ (es : List Entry). Belongs (tree_of (es ++ g)) left.doc (value_in given)) (sym h.0)
          (reply_belongs (rules_of s) g r q left.doc (op_of left.step) given k.admitted k.short k.closed asker (sym two.1)),
    )

act_given : (s : Session) (r : ℕ) (g : List Entry) (older : List Act) (left : Left) (at doc : ℕ) (point : Point) (op : OpName) (given : AnswerOf) (own : List Entry) → IsSet s r g older left → step_left s g older ≡ Some left
    → (b : Bool) → MovesTo (rules_of s) r g older (if b then Stays else move_of (sight s g older) (step_left s g older)) (StepAct at doc point op given) own
    → ((at ≡ newest_length older) × Belongs (tree_of (prefix (newest_length older) g)) left.doc (value_in given)) ⊎ ((at ≡ length own + length g) × Belongs (tree_of (own ++ g)) left.doc (value_in given))
act_given s r g older left at doc point op given own k is true h = absurd h
act_given s r g older left at doc point op given own k is false h =
    moved_given s r g older left at doc point op given own k (perform (sight s g older left.doc) left.doc left.step) refl
    (subst (λ (o : Option Left). MovesTo (rules_of s) r g older (move_of (sight s g older) o) (StepAct at doc point op given) own) is h)

acted : (s : Session) (r : ℕ) (g : List Entry) (older : List Act) (left : Left) (at doc : ℕ) (point : Point) (op : OpName) (given : AnswerOf) (own : List Entry) → IsSet s r g older left → step_left s g older ≡ Some left
    → IsActOn s r g older (StepAct at doc point op given) own
    → ((at ≡ newest_length older) × Belongs (tree_of (prefix (newest_length older) g)) left.doc (value_in given)) ⊎ ((at ≡ length own + length g) × Belongs (tree_of (own ++ g)) left.doc (value_in given))
unfolding next_move
acted s r g older left at doc point op given own k is h = act_given s r g older left at doc point op given own k is (has_stopped older) h

-- A RECORD

acts_below : (s : Session) (r : ℕ) (log : List Entry) (acts : List Act) (mine : List Entry) (n : ℕ) → LegalActs s r log acts mine → newest_length acts ≤ n → Within n acts
acts_below s r log [] mine n h le = tt
acts_below s r log (a ∷ older) mine n h le = let rises = h.2.never_falls in (le, acts_below s r log older h.1 n h.3 (omega (arith, rises, le)))

-- what acts leave is the same on a prefix that holds all that they had heard
leaves_back : (s : Session) (more g : List Entry) (older : List Act) → Within (length g) older → Leaves s (more ++ g) older → Leaves s g older
leaves_back s more g older within h =
    let same = prefix_grown more g older within in
    record {
      registers_are = subst (λ (p : List Entry). RegistersBelong (tree_of p) (registers s g older)) same
          (subst (RegistersBelong (tree_of (prefix (newest_length older) (more ++ g)))) (registers_kept s more g older within) h.registers_are);
      stores_are = subst (λ (p : List Entry). StoresBelong (tree_of p) (stores s g older)) same
          (subst (StoresBelong (tree_of (prefix (newest_length older) (more ++ g)))) (stores_kept s more g older within) h.stores_are);
      runs = λ run e. subst (λ (p : List Entry). run.doc < (tree_of p).docs) same (h.runs run (running_grown more g older within ∙ e));
    }

-- a step's answer, where its act stands
given_belongs : (s : Session) (r : ℕ) (more g : List Entry) (older : List Act) (left : Left) (at doc : ℕ) (point : Point) (op : OpName) (given : AnswerOf) (own : List Entry)
    → IsLegalLog s (more ++ g) → length (more ++ g) < 2 ^ 30 → IsClosed (tree_of g) → IsClosed (tree_of (prefix (newest_length older) g)) → AreAdmitted g → Within (length g) older → Leaves s (more ++ g) older
    → prefix (length g + length own) (more ++ g) ≡ own ++ g → step_left s (more ++ g) older ≡ Some left
    → IsActOn s r g older (StepAct at doc point op given) own ⊎ IsLostOn s r g older (StepAct at doc point op given) own
    → Belongs (tree_of (prefix at (more ++ g))) left.doc (value_in given)
given_belongs s r more g older left at doc point op given own legal short closed closed_then all within h follow is (inr lost) =
    let none = lost_given at doc (newest_length older) lost.heard point op given (next_move s g older) lost.lost in
    subst (λ (a : AnswerOf). Belongs (tree_of (prefix at (more ++ g))) left.doc (value_in a)) (sym none) tt
given_belongs s r more g older left at doc point op given own legal short closed closed_then all within h follow is (inl made) =
    let back : Leaves s g older = leaves_back s more g older within h in
    let left_is : step_left s g older ≡ Some left = sym (left_grown s more g older within) ∙ is in
    let shorter : length g < 2 ^ 30 = (let whole = length-append more g in omega (arith, whole, short)) in
    let k : IsSet s r g older left =
    record { admitted = all; short = shorter; closed = closed; closed_then = closed_then; leaves = back; there = left_there s g older left back left_is } in
    elim (acted s r g older left at doc point op given own k left_is made) as (λ _. Belongs (tree_of (prefix at (more ++ g))) left.doc (value_in given)) [
      | inl before ↦ subst (λ n. Belongs (tree_of (prefix n (more ++ g))) left.doc (value_in given)) (sym before.0)
          (subst (λ (p : List Entry). Belongs (tree_of p) left.doc (value_in given)) (sym (prefix_grown more g older within)) before.1)
      | inr after ↦
          let place : length g + length own ≡ at = omega (arith, after.0) in
          subst (λ n. Belongs (tree_of (prefix n (more ++ g))) left.doc (value_in given)) place
          (subst (λ (p : List Entry). Belongs (tree_of p) left.doc (value_in given)) (sym follow) after.1)
    ]

-- the same, as the act stands in the log
placed_belongs : (s : Session) (r : ℕ) (log : List Entry) (older : List Act) (rest : List Entry) (left : Left) (act : Act) (at doc : ℕ) (point : Point) (op : OpName) (given : AnswerOf) (own : List Entry)
    → IsLegalLog s log → length log < 2 ^ 30 → LegalActs s r log older rest → Leaves s log older → step_left s log older ≡ Some left → (stands : StandsIn s r log older act own)
    → IsActOn s r (prefix stands.before log) older (StepAct at doc point op given) own ⊎ IsLostOn s r (prefix stands.before log) older (StepAct at doc point op given) own → Belongs (tree_of (prefix at log)) left.doc (value_in given)
placed_belongs s r log older rest left act at doc point op given own legal short acts h is stands made =
    let cut = front stands.before log in
    let g : List Entry = prefix stands.before log in
    let inside = stands.within in
    let long : length g ≡ stands.before = prefix_length log stands.before (omega (arith, inside)) in
    let later = stands.later in
    let within : Within (length g) older = acts_below s r log older rest (length g) acts (omega (arith, long, later)) in
    let same : prefix (newest_length older) g ≡ prefix (newest_length older) log =
    sym (ap (prefix (newest_length older)) cut.1 ∙ prefix_more cut.0 g (newest_length older) (omega (arith, long, later))) in
    subst (λ (l : List Entry). Belongs (tree_of (prefix at l)) left.doc (value_in given)) (sym cut.1)
    (given_belongs s r cut.0 g older left at doc point op given own (subst (IsLegalLog s) cut.1 legal) (subst (λ (l : List Entry). length l < 2 ^ 30) cut.1 short)
    (closed_before_legal s log stands.before legal short) (subst (λ (p : List Entry). IsClosed (tree_of p)) (sym same) (closed_before_legal s log (newest_length older) legal short))
    (admitted_before stands.before log (legal_admitted s log legal short)) within (subst (λ (l : List Entry). Leaves s l older) cut.1 h)
    (ap (λ n. prefix (n + length own) (cut.0 ++ g)) long ∙ sym (ap (prefix (stands.before + length own)) cut.1) ∙ stands.follow)
    (sym (ap (λ (l : List Entry). step_left s l older) cut.1) ∙ is) made)

may_hear_more : (rules : Rules) (r : ℕ) (log : List Entry) (from : ℕ) (q : Option Request) (at heard : ℕ) → MayHear rules r log from q at heard → at ≤ heard
may_hear_more rules r log from None at heard h = omega (arith, h)
may_hear_more rules r log from (Some q) at heard h = h.0

-- the same, where the renderer had heard more by the end of its exchange
heard_belongs : (log : List Entry) (d : ℕ) (exact : Act) (at doc : ℕ) (point : Point) (op : OpName) (given : AnswerOf) → AreAdmitted log → StepAct at doc point op given ≡ heard_at at exact → length_of exact ≤ at → at ≤ length log
    → ((a e : ℕ) (p : Point) (o : OpName) (answered : AnswerOf) → exact ≡ StepAct a e p o answered → Belongs (tree_of (prefix a log)) d (value_in answered)) → Belongs (tree_of (prefix at log)) d (value_in given)
heard_belongs log d (StepAct a e p o answered) at doc point op given all same le within h =
    let is : given ≡ answered = cc in
    belongs_later a at log d (value_in given) le within all (subst (λ (x : AnswerOf). Belongs (tree_of (prefix a log)) d (value_in x)) (sym is) (h a e p o answered refl))
heard_belongs log d (Task a kind place) at doc point op given all same le within h = absurd cc
heard_belongs log d (LostTask a) at doc point op given all same le within h = absurd cc

stands_belongs : (s : Session) (r : ℕ) (log : List Entry) (older : List Act) (rest : List Entry) (left : Left) (at doc : ℕ) (point : Point) (op : OpName) (given : AnswerOf) (own : List Entry)
    → IsLegalLog s log → length log < 2 ^ 30 → LegalActs s r log older rest → Leaves s log older → step_left s log older ≡ Some left → StandsIn s r log older (StepAct at doc point op given) own
    → Belongs (tree_of (prefix at log)) left.doc (value_in given)
stands_belongs s r log older rest left at doc point op given own legal short acts h is stands = by_made stands.made
  where
    by_made : IsMadeOn s r (prefix stands.before log) older (StepAct at doc point op given) own ⊎ IsLostOn s r (prefix stands.before log) older (StepAct at doc point op given) own
        → Belongs (tree_of (prefix at log)) left.doc (value_in given)
    by_made (inl made) =
        let le = may_hear_more (rules_of s) r (prefix stands.before log) (newest_length older) (move_request (next_move s (prefix stands.before log) older)) (length_of made.exact) at made.hears in
        heard_belongs log left.doc made.exact at doc point op given (legal_admitted s log legal short) made.same le stands.no_longer
        (λ a e p o answered same. placed_belongs s r log older rest left (StepAct at doc point op given) a e p o answered own legal short acts h is stands
        (inl (subst (λ (x : Act). IsActOn s r (prefix stands.before log) older x own) same made.is)))
    by_made (inr lost) = placed_belongs s r log older rest left (StepAct at doc point op given) at doc point op given own legal short acts h is stands (inr lost)

-- one act more
leaves_more : (s : Session) (r : ℕ) (log : List Entry) (older : List Act) (rest : List Entry) (act : Act) (own : List Entry) → IsLegalLog s log → length log < 2 ^ 30 → LegalActs s r log older rest → Leaves s log older
    → StandsIn s r log older act own → Leaves s log (act ∷ older)
unfolding registers stores
leaves_more s r log older rest (Task at kind place) own legal short acts h stands =
    let all = legal_admitted s log legal short in
    let later = registers_later (newest_length older) at log (registers s log older) stands.never_falls stands.no_longer all h.registers_are in
    record {
      registers_are = by_entry later (entry_at (prefix at log) place) refl;
      stores_are = stores_later (newest_length older) at log (stores s log older) stands.never_falls stands.no_longer all h.stores_are;
      runs = λ run e. runs_task log older at place kind run all e;
    }
  where
    by_entry : RegistersBelong (tree_of (prefix at log)) (registers s log older) → (found : Option Entry) → entry_at (prefix at log) place ≡ found
        → RegistersBelong (tree_of (prefix at log)) (option_map_or (λ (e : Entry). task_written (prefix at log) e.what (registers s log older)) found (registers s log older))
    by_entry later None is = later
    by_entry later (Some e) is = registers_taken s log at place e (registers s log older) legal short is later
leaves_more s r log older rest (LostTask at) own legal short acts h stands =
    let all = legal_admitted s log legal short in
    record {
      registers_are = registers_later (newest_length older) at log (registers s log older) stands.never_falls stands.no_longer all h.registers_are;
      stores_are = stores_later (newest_length older) at log (stores s log older) stands.never_falls stands.no_longer all h.stores_are;
      runs = λ run e. runs_lost log older at (tree_of (prefix at log)).docs run e;
    }
leaves_more s r log older rest (StepAct at doc point op given) own legal short acts h stands =
    let all = legal_admitted s log legal short in
    record {
      registers_are = registers_by (registers_later (newest_length older) at log (registers s log older) stands.never_falls stands.no_longer all h.registers_are) (step_left s log older) refl;
      stores_are = stores_later (newest_length older) at log (stores_after (step_left s log older) (prefix (newest_length older) log) (registers s log older) (stores s log older)) stands.never_falls stands.no_longer all
          (stores_by (step_left s log older) refl);
      runs = λ run e. runs_step log older at doc point op given run stands.never_falls stands.no_longer h.runs e;
    }
  where
    registers_by : RegistersBelong (tree_of (prefix at log)) (registers s log older) → (o : Option Left) → step_left s log older ≡ o → RegistersBelong (tree_of (prefix at log)) (registers_after o given (registers s log older))
    registers_by later None is = later
    registers_by later (Some left) is =
        to_belongs (tree_of (prefix at log)) (registers s log older) left.doc (to_of left.step) (value_in given) later
        (stands_belongs s r log older rest left at doc point op given own legal short acts h is stands)

    stores_by : (o : Option Left) → step_left s log older ≡ o → StoresBelong (tree_of (prefix (newest_length older) log)) (stores_after o (prefix (newest_length older) log) (registers s log older) (stores s log older))
    stores_by None is = h.stores_are
    stores_by (Some left) is =
        let p : List Entry = prefix (newest_length older) log in
        changed_on p (tree_of (shown_to left.doc p)) (url_of (shown_to left.doc p)) (registers s log older) (stores s log older) left.doc (sym (tree_of-blanked (is_seen_by (tree_of p) left.doc) p))
        (closed_before_legal s log (newest_length older) legal short) (left_there s log older left h is) h.registers_are h.stores_are left.step

leaves : (s : Session) (r : ℕ) (log : List Entry) (acts : List Act) (mine : List Entry) → IsLegalLog s log → length log < 2 ^ 30 → LegalActs s r log acts mine → Leaves s log acts
unfolding registers stores running
leaves s r log [] mine legal short h =
    record { registers_are = no_registers (tree_of (prefix 0 log)); stores_are = platform_stores (tree_of (prefix 0 log)); runs = λ run e. absurd cc }
leaves s r log (a ∷ older) mine legal short h = leaves_more s r log older h.1 a h.0 legal short h.3 (leaves s r log older h.1 legal short h.3) h.2

-- the registers of a legal record's documents hold objects of their group alone, on the log that its newest act had heard
pub record_registers : (s : Session) (r : ℕ) (log : List Entry) (acts : List Act) → IsLegalLog s log → length log < 2 ^ 30 → IsLegalRecord s r log acts → RegistersBelong (tree_of (prefix (newest_length acts) log)) (registers s log acts)
record_registers s r log acts legal short h = (leaves s r log acts h.0 legal short h.1).registers_are

-- and so do the properties of their objects
pub record_stores : (s : Session) (r : ℕ) (log : List Entry) (acts : List Act) → IsLegalLog s log → length log < 2 ^ 30 → IsLegalRecord s r log acts → StoresBelong (tree_of (prefix (newest_length acts) log)) (stores s log acts)
record_stores s r log acts legal short h = (leaves s r log acts h.0 legal short h.1).stores_are
