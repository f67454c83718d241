-- A step of a renderer over a link to the coordinator is its turn.
use Rattle.std.proofs.Common.{◌≡◌, ℕ, ◌+◌, ◌<◌, List, [], ◌∷◌, ◌++◌, length, Option, Some, None, Bool, true, false, refl, sym, ap, subst, ◌∙◌, arith, inr, length-append, eq-eqb}
use Rattle.std.specs.Prelude.{IsTrue, not, nat_le, ◌&&◌, ◌||◌, is_some, if◌then◌else◌}
use Rattle.std.specs.Option.{option_map}
use Rattle.std.proofs.lemmas.Bool.{ltb-false, ltb-true, leb-false, leb-true}
use Rattle.tree_log.specs.declared.entry.Entry.{Entry}
use Rattle.tree_log.specs.declared.entry.What.{What}
use Rattle.tree_log.specs.Log.{entry_at}
use Rattle.tree_log.specs.Tree.{tree_of, is}
use Rattle.agent_laws.specs.Actors.{has_no_asker}
use Rattle.agent_laws.proofs.Logs.Asked.{IsAskedBy, asked_by}
use Rattle.agent_terms.specs.Limits.{most_acts, most_entries}
use Rattle.agent_terms.specs.declared.act.Act.{Act}
use Rattle.agent_terms.specs.declared.act.Act.TheVariants.{Step as StepAct, Task, LostTask}
use Rattle.agent_terms.specs.declared.act.Answer.TheVariants as answer
use Rattle.agent_terms.specs.declared.act.Move.{Move}
use Rattle.agent_terms.specs.declared.act.Move.TheVariants.{Answers, Asks, Takes, Stays}
use Rattle.agent_terms.specs.declared.act.Performed.{Performed}
use Rattle.agent_terms.specs.declared.act.Performed.TheVariants.{Answer, Ask}
use Rattle.agent_terms.specs.declared.act.Point.{Point}
use Rattle.agent_terms.specs.declared.outcome.Outcome.{Outcome}
use Rattle.agent_terms.specs.declared.request.Request.{Request}
use Rattle.agent_terms.specs.declared.request.Request.TheVariants as ask
use Rattle.agent_terms.specs.declared.request.ReplyOutcome.{ReplyOutcome}
use Rattle.agent_terms.specs.declared.request.ReplyOutcome.TheVariants as reply
use Rattle.agent_terms.specs.declared.session.Session.{Session}
use Rattle.agent_terms.specs.declared.step.OpName.{OpName}
use Rattle.coordinator_rules.specs.Decision.{Rules, Decision, rules_of, exchange, task_decision}
use Rattle.coordinator_rules.specs.NextTask.{next_task, task_entry}
use Rattle.coordinator_rules.specs.Told.{told_log}
use Rattle.object_access.specs.StepAnswer.{Sight, perform}
use Rattle.single_agent.specs.LegalLog.{lost_entry}
use Rattle.single_agent.specs.Lengths.{newest_length, has_stopped, is_lost}
use Rattle.single_agent.specs.LostAct.{lost_act, exchanged}
use Rattle.single_agent.specs.NextAct.{kind_of, answer_of, MovesTo, IsActOn}
use Rattle.single_agent.specs.NextMove.{next_move, move_of, move_by, move_request, op_of}
use Rattle.single_agent.specs.Running.{Left, step_left}
use Rattle.single_agent.specs.Sights.{sight}
use Rattle.single_agent.specs.Session.{lose_of}
use Rattle.single_agent.specs.Turns.{Turned, log_of, with_act, record_of, is_exchange, calls_of, counts, is_named, is_losing, is_served, lost_entries, told_length, next_renderer, needs_room, is_some_act, HasRoom, IsFull, is_full, Does, Plays, ArePlayed}
use Rattle.single_agent.proofs.Grown.{Within, move_grown}
use Rattle.single_agent.proofs.Legal.{acts_within}
use Rattle.single_agent.proofs.Made.{next_gives}
use Rattle.single_agent.proofs.Played.{record_own}
use Rattle.desk.specs.History as desk
use Rattle.desk.specs.Serving.{Coordinator, decided, needs_room as desk_needs}
use Rattle.link_exchange.specs.Calls.{Course}
use Rattle.link_laws.specs.Talking as talking
use Rattle.link_laws.specs.Talking.{Talks, Refused, Dropped, Heard, Starved, HasHeard, IsAnswered as IsServedSo, calls_by}
use Rattle.renderer.specs.declared.turn.Turn.{Turn}
use Rattle.renderer.specs.declared.turn.Turn.TheVariants.{Acted, Idle, Stopped, Full}
use Rattle.renderer.specs.Holding.{Holds, hearing, left_in, resting, stepped, taken}
use Rattle.renderer.specs.Turning.{AnswersAlone, Ends, IsAnswered, IsTaken, Loses, StepEnds, TaskEnds}
use Rattle.renderer_laws.specs.Keeping.{IsLegal, Keeps}
use Rattle.turn_laws.specs.Playing.{Goes, HasTurned, IsAfter, IsLost, MovesOver, Seat, StepsIfRoom, StepsOver, TurnIs, number_of}
use Rattle.renderer_laws.proofs.Moving.{move_is}
use Rattle.turn_laws.proofs.Legal.{kept_local, kept_asking, kept_task, kept_idle, level}
use Rattle.turn_laws.proofs.Deciding.{IsDecided, Full_log, Decides, decided_by, says_full, says_other, is_full_outcome, roomless_adds, room_needed}
use Rattle.turn_laws.proofs.Losing.{refused_named, dropped_named, heard_unnamed}

-- COUNTS

pub calls_grown : (s : Session) (more log : List Entry) (acts : List Act) → Within (length log) acts → calls_of s (more ++ log) acts ≡ calls_of s log acts
unfolding calls_of
calls_grown s more log [] h = refl
calls_grown s more log (a ∷ older) h =
    ap (λ (m : Move). if is_exchange m then calls_of s (more ++ log) older + 1 else calls_of s (more ++ log) older) (move_grown s more log older h.1)
    ∙ ap (λ (n : ℕ). if is_exchange (next_move s log older) then n + 1 else n) (calls_grown s more log older h.1)

calls_more : (s : Session) (own log : List Entry) (a : Act) (acts : List Act) (m : Move) → Within (length log) acts → next_move s log acts ≡ m
    → calls_of s (own ++ log) (a ∷ acts) ≡ (if is_exchange m then calls_of s log acts + 1 else calls_of s log acts)
unfolding calls_of
calls_more s own log a acts m h e =
    ap (λ (k : Move). if is_exchange k then calls_of s (own ++ log) acts + 1 else calls_of s (own ++ log) acts) (move_grown s own log acts h ∙ e)
    ∙ ap (λ (n : ℕ). if is_exchange m then n + 1 else n) (calls_grown s own log acts h)

losing_by : (s : Session) (r : ℕ) (log : List Entry) (acts : List Act) (m : Move) → next_move s log acts ≡ m
    → is_losing s r log acts ≡ (is_named (lose_of s r) (calls_of s log acts) (counts log r m) && is_exchange m)
unfolding is_losing
losing_by s r log acts m e = ap (λ (k : Move). is_named (lose_of s r) (calls_of s log acts) (counts log r k) && is_exchange k) e

and_false : (b : Bool) → (b && false) ≡ false
and_false true = refl
and_false false = refl

and_true : (b : Bool) → (b && true) ≡ b
and_true true = refl
and_true false = refl

-- WHAT WAS TOLD

heard_if : {A : Type 0} (b lost : Bool) (x y : A) → lost ≡ false → (if b && not lost then x else y) ≡ (if b then x else y)
heard_if true true x y h = absurd cc
heard_if true false x y h = refl
heard_if false lost x y h = refl

told_own : (s : Session) (r : ℕ) (act : Option Act) (own : List Entry) (older : List Turned) (m : Move) → next_move s (log_of s older) (record_of r older) ≡ m → is_losing s r (log_of s older) (record_of r older) ≡ false
    → told_length s r (record { renderer = r; act = act; own = own } ∷ older) ≡ (if is_exchange m then length (own ++ log_of s older) else told_length s r older)
unfolding told_length
told_own s r act own older m e none =
    ap (λ b. if b && is_exchange (next_move s (log_of s older) (record_of r older)) && not (is_losing s r (log_of s older) (record_of r older)) then length (own ++ log_of s older) else told_length s r older) (eq-eqb r r refl)
    ∙ heard_if (is_exchange (next_move s (log_of s older) (record_of r older))) (is_losing s r (log_of s older) (record_of r older)) (length (own ++ log_of s older)) (told_length s r older) none
    ∙ ap (λ (k : Move). if is_exchange k then length (own ++ log_of s older) else told_length s r older) e

pub log_more : (s : Session) (t : Turned) (older : List Turned) → log_of s (t ∷ older) ≡ t.own ++ log_of s older
unfolding log_of
log_more s t older = refl

-- A DOCUMENT ASKS

asks_by : (s : Sight) (d : ℕ) (point : Point) (st : _) (doc : ℕ) (p : Point) (op : OpName) (q : Request) → move_by d point (op_of st) (perform s d st) ≡ Asks doc p op q → has_no_asker q ≡ false
asks_by s d point st doc p op q e = by (perform s d st) (asked_by s d st) e
  where
    by : (done : Performed) → IsAskedBy d done → move_by d point (op_of st) done ≡ Asks doc p op q → has_no_asker q ≡ false
    by (Answer o) h e = absurd cc
    by (Ask x) h e = let same : x ≡ q = cc in subst (λ (y : Request). has_no_asker y ≡ false) same h.other

left_asks : (sees : ℕ → Sight) (left : Option Left) (doc : ℕ) (p : Point) (op : OpName) (q : Request) → move_of sees left ≡ Asks doc p op q → has_no_asker q ≡ false
left_asks sees None doc p op q e = absurd cc
left_asks sees (Some l) doc p op q e = asks_by (sees l.doc) l.doc l.point l.step doc p op q e

move_asks : (s : Session) (log : List Entry) (acts : List Act) (doc : ℕ) (p : Point) (op : OpName) (q : Request) → next_move s log acts ≡ Asks doc p op q → has_no_asker q ≡ false
unfolding next_move
move_asks s log acts doc p op q e = by (has_stopped acts) e
  where
    by : (b : Bool) → (if b then Stays else move_of (sight s log acts) (step_left s log acts)) ≡ Asks doc p op q → has_no_asker q ≡ false
    by true h = absurd cc
    by false h = left_asks (sight s log acts) (step_left s log acts) doc p op q h

-- ROOM

has_room : (log : List Entry) → is_full log ≡ false → HasRoom log
has_room log h = let le = ltb-false most_entries (length log + 4) h in omega (arith, le)

is_full_log : (log : List Entry) → is_full log ≡ true → IsFull log
is_full_log log h = let lt = ltb-true most_entries (length log + 4) h in omega (arith, lt)

second : (a b : Bool) → (a && b) ≡ false → b ≡ true → a ≡ false
second true true h k = absurd cc
second true false h k = absurd cc
second false b h k = refl

not_and : (a b : Bool) → a ≡ false → (a && b) ≡ false
not_and true b h = absurd cc
not_and false b h = refl

-- a lost act is lost
lost_is_lost : (newest heard : ℕ) (m : Move) (act : Act) → lost_act newest heard m ≡ Some act → is_lost act ≡ true
lost_is_lost newest heard (Asks doc point op q) act h = let same : StepAct newest doc point op answer.Lost ≡ act = cc in subst (λ (a : Act). is_lost a ≡ true) same refl
lost_is_lost newest heard Takes act h = let same : LostTask heard ≡ act = cc in subst (λ (a : Act). is_lost a ≡ true) same refl
lost_is_lost newest heard (Answers doc point op o) act h = absurd cc
lost_is_lost newest heard Stays act h = absurd cc

-- what a lost exchange leaves, besides the loss
left_by : (served : Bool) (rules : Rules) (log : List Entry) (r : ℕ) (m : Move) → List Entry
left_by served rules log r m = if served && not (is_full log) then exchanged rules log r (move_request m) else []

unfull : (rules : Rules) (log : List Entry) (r : ℕ) (q : Request) → IsDecided rules log r q → is_full log ≡ false → decided rules log r q ≡ exchange rules log r q
unfull rules log r q (Full_log f n e) h = let clash : true ≡ false = sym f ∙ h in absurd cc
unfull rules log r q (Decides e d) h = d

unserved_leaves : (served : Bool) (rules : Rules) (log : List Entry) (r : ℕ) (m : Move) → served ≡ false → left_by served rules log r m ≡ []
unfolding left_by
unserved_leaves true rules log r m h = absurd cc
unserved_leaves false rules log r m h = refl

-- what the coordinator adds where it is full: nothing
full_adds : (rules : Rules) (log : List Entry) (r : ℕ) (q : Request) → ((d : Decision) → d ≡ exchange rules log r q → (is_full log && desk_needs (tree_of log) r q) ≡ false → is_full log ≡ true → d.entries ≡ []) → is_full log ≡ true → (decided rules log r q).entries ≡ []
full_adds rules log r q roomless h = by (decided_by rules log r q)
  where
    by : IsDecided rules log r q → (decided rules log r q).entries ≡ []
    by (Full_log f n e) = ap (λ (d : Decision). d.entries) e
    by (Decides e d) = roomless (decided rules log r q) d e h

served_leaves : (served : Bool) (rules : Rules) (log : List Entry) (r : ℕ) (m : Move) (q : Request) → served ≡ true → move_request m ≡ Some q
    → ((d : Decision) → d ≡ exchange rules log r q → (is_full log && desk_needs (tree_of log) r q) ≡ false → is_full log ≡ true → d.entries ≡ []) → left_by served rules log r m ≡ (decided rules log r q).entries
unfolding left_by
served_leaves false rules log r m q h asks roomless = absurd cc
served_leaves true rules log r m q h asks roomless = by (is_full log) refl
  where
    by : (b : Bool) → is_full log ≡ b → (if not b then exchanged rules log r (move_request m) else []) ≡ (decided rules log r q).entries
    by true e = sym (full_adds rules log r q roomless e)
    by false e = ap (exchanged rules log r) asks ∙ sym (ap (λ (d : Decision). d.entries) (unfull rules log r q (decided_by rules log r q) e))

-- a document's request that needs no room adds nothing, and a question for a task always needs it
asks_roomless : (rules : Rules) (log : List Entry) (r : ℕ) (q : Request) → has_no_asker q ≡ false → (d : Decision) → d ≡ exchange rules log r q → (is_full log && desk_needs (tree_of log) r q) ≡ false → is_full log ≡ true → d.entries ≡ []
asks_roomless rules log r q asker d e h full_is =
    ap (λ (x : Decision). x.entries) e ∙ roomless_adds rules log r q asker (sym (room_needed (tree_of log) r q asker) ∙ first (is_full log) (desk_needs (tree_of log) r q) h full_is)
  where
    first : (a b : Bool) → (a && b) ≡ false → a ≡ true → b ≡ false
    first true b k l = k
    first false b k l = absurd cc

takes_roomless : (rules : Rules) (log : List Entry) (r : ℕ) (d : Decision) → d ≡ exchange rules log r ask.Next → (is_full log && desk_needs (tree_of log) r ask.Next) ≡ false → is_full log ≡ true → d.entries ≡ []
takes_roomless rules log r d e h full_is = let clash : true ≡ false = sym (second' (is_full log) full_is) ∙ h in absurd cc
  where
    second' : (a : Bool) → a ≡ true → (a && true) ≡ true
    second' true k = refl
    second' false k = absurd cc

or_true : (a b : Bool) → b ≡ true → (a || b) ≡ true
or_true true b h = refl
or_true false b h = h

true_or : (a b : Bool) → a ≡ true → (a || b) ≡ true
true_or true b h = refl
true_or false b h = absurd cc

-- a renderer that goes on doesn't stay
some_move : (sees : ℕ → Sight) (left : Option Left) → move_of sees left ≡ Stays → ⊥
some_move sees None h = absurd cc
some_move sees (Some l) h = by (perform (sees l.doc) l.doc l.step) h
  where
    by : (p : Performed) → move_by l.doc l.point (op_of l.step) p ≡ Stays → ⊥
    by (Answer o) k = absurd cc
    by (Ask q) k = absurd cc

moves_on : (s : Session) (log : List Entry) (acts : List Act) → has_stopped acts ≡ false → next_move s log acts ≡ Stays → ⊥
unfolding next_move
moves_on s log acts goes h = some_move (sight s log acts) (step_left s log acts) (sym (ap (λ b. if b then Stays else move_of (sight s log acts) (step_left s log acts)) goes) ∙ h)

-- THE TURN

module _ (s : Session) (turns : List Turned) (r : ℕ) (x y : Seat) (before after : Coordinator) (calls : ℕ) (played : ArePlayed s turns) (due : next_renderer s turns ≡ Some r) (there : r < s.renderers)
    (legal : IsLegal s r (log_of s turns) (record_of r turns)) (now : IsAfter s turns before) (goes : Goes s turns before r x) (more_calls : y.calls ≡ x.calls + calls) (fewer : length x.holds.acts < most_acts) where
  log : List Entry
  log = log_of s turns

  acts : List Act
  acts = record_of r turns

  told : ℕ
  told = told_length s r turns

  within : Within (length (log_of s turns)) (record_of r turns)
  within = acts_within s r (log_of s turns) (record_of r turns) legal.record_is.0 legal.record_is.1

  fewer_acts : length (record_of r turns) < most_acts
  fewer_acts = omega (arith, fewer, ap length goes.keeps.acts_are)

  -- a turn at which no exchange is lost
  turned : (acted : Bool) (m : Move) (act : Option Act) (own : List Entry) (told' : ℕ) → next_move s (log_of s turns) (record_of r turns) ≡ m → is_some_act act ≡ acted
      → is_losing s r (log_of s turns) (record_of r turns) ≡ false → (IsTrue (needs_room (tree_of (log_of s turns)) r m) → HasRoom (log_of s turns)) → Does s r (log_of s turns) (record_of r turns) (told_length s r turns) act own
      → after.rules ≡ rules_of s → desk.log_of after.history ≡ own ++ log_of s turns → after.spent ≡ false → desk.told_of after.history r ≡ told' → told' ≡ (if is_exchange m then length (own ++ log_of s turns) else told_length s r turns)
      → Keeps s r (own ++ log_of s turns) (with_act act (record_of r turns)) told' y.holds → y.calls ≡ calls_of s (own ++ log_of s turns) (with_act act (record_of r turns)) → HasTurned acted s turns r after y
  turned acted m act own told' e some none room plays rules grown serves told_here told_is keeps counted =
      let t : Turned = record { renderer = r; act = act; own = own } in
      let longer : log_of s (t ∷ turns) ≡ own ++ log_of s turns = log_more s t turns in
      let told_new : told' ≡ told_length s r (t ∷ turns) = told_is ∙ sym (told_own s r act own turns m e none) in
      let acts_new : with_act act (record_of r turns) ≡ record_of r (t ∷ turns) = sym (record_own t turns) in
      record {
        turn = t;
        renderer = refl;
        acts = some;
        is = record {
          due = due;
          there = there;
          fewer = λ h. fewer_acts;
          room = λ h. room (subst (λ (k : Move). IsTrue (needs_room (tree_of (log_of s turns)) r k)) e h.1);
          plays = subst (λ b. Plays b s r (log_of s turns) (record_of r turns) (told_length s r turns) act own) (sym none) plays;
        };
        now = record { rules = rules; log = grown ∙ sym longer; serves = serves };
        goes = record {
          told = told_here ∙ told_new;
          keeps = subst (λ (g : List Entry). Keeps s r g (record_of r (t ∷ turns)) (told_length s r (t ∷ turns)) y.holds) (sym longer)
              (subst (λ k. Keeps s r (own ++ log_of s turns) (record_of r (t ∷ turns)) k y.holds) told_new
              (subst (λ (a : List Act). Keeps s r (own ++ log_of s turns) a told' y.holds) acts_new keeps));
          calls = counted ∙ ap (calls_of s (own ++ log_of s turns)) acts_new ∙ ap (λ (g : List Entry). calls_of s g (record_of r (t ∷ turns))) (sym longer);
        };
      }

  -- the renderer was lost
  lost : (m : Move) (act : Act) (own : List Entry) → next_move s (log_of s turns) (record_of r turns) ≡ m → is_losing s r (log_of s turns) (record_of r turns) ≡ true
      → lost_act (newest_length (record_of r turns)) (told_length s r turns) m ≡ Some act → lost_entries s r (log_of s turns) (record_of r turns) ≡ lost_entry r ∷ own → is_lost act ≡ true
      → after.rules ≡ rules_of s → desk.log_of after.history ≡ own ++ log_of s turns → after.spent ≡ false → y.holds.acts ≡ act ∷ record_of r turns → IsLost s turns r after y
  lost m act own e losing is made lost_is rules grown serves acts_are =
      let t : Turned = record { renderer = r; act = Some act; own = lost_entry r ∷ own } in
      let acts_new : act ∷ record_of r turns ≡ record_of r (t ∷ turns) = sym (record_own t turns) in
      record {
        turn = t;
        renderer = refl;
        acts = refl;
        is = record {
          due = due;
          there = there;
          fewer = λ h. fewer_acts;
          room = λ h. (let clash : true ≡ false = sym losing ∙ h.0 in absurd cc);
          plays = subst (λ b. Plays b s r (log_of s turns) (record_of r turns) (told_length s r turns) (Some act) (lost_entry r ∷ own)) (sym losing)
              (sym is ∙ ap (lost_act (newest_length (record_of r turns)) (told_length s r turns)) (sym e), sym made);
        };
        rules = rules;
        log = log_more s t turns ∙ ap (λ (g : List Entry). lost_entry r ∷ g) (sym grown);
        serves = serves;
        rests = record { stopped = subst (λ (a : List Act). has_stopped a ≡ true) acts_new lost_is; acts = acts_are ∙ acts_new };
      }

  -- what the coordinator decided, on the log of the turns
  decision_is : (q : Request) → talking.decision r before q ≡ decided (rules_of s) (log_of s turns) r q
  decision_is q = λ i. decided (now.rules i) (now.log i) r q

  unlost : (m : Move) (outcome : ReplyOutcome) → next_move s (log_of s turns) (record_of r turns) ≡ m → counts (log_of s turns) r m ≡ talking.counts outcome
      → (number_of (lose_of s r) x.calls ≡ 1 → (is_served (lose_of s r) ≡ true) × (talking.counts outcome ≡ false)) → is_losing s r (log_of s turns) (record_of r turns) ≡ false
  unlost m outcome e same cond =
      losing_by s r (log_of s turns) (record_of r turns) m e
      ∙ not_and _ (is_exchange m) (heard_unnamed (lose_of s r) (calls_of s (log_of s turns) (record_of r turns)) (counts (log_of s turns) r m) (λ n. (let k = cond (ap (number_of (lose_of s r)) goes.calls ∙ n) in (k.0, same ∙ k.1))))

  -- a step that answers
  local : (doc : ℕ) (point : Point) (op : OpName) (o : Outcome) (turn : Turn) → next_move s (log_of s turns) (record_of r turns) ≡ Answers doc point op o
      → AnswersAlone x.holds doc point op (left_in x.holds) (answer.Outcome o) turn y.holds → after ≡ before → calls ≡ 0 → TurnIs s turns r turn after y
  local doc point op o turn e a same zero_calls =
      let act : Act = StepAct (newest_length (record_of r turns)) doc point op (answer.Outcome o) in
      let level_is : told_length s r turns ≡ newest_length (record_of r turns) =
      level s r (log_of s turns) (record_of r turns) (told_length s r turns) x.holds legal goes.keeps (λ h. (let clash : Answers doc point op o ≡ Takes = sym e ∙ h in absurd cc)) in
      let moves : IsActOn s r (log_of s turns) (record_of r turns) act [] = subst (λ (k : Move). MovesTo (rules_of s) r (log_of s turns) (record_of r turns) k act []) (sym e) (refl, refl) in
      subst (λ (t : Turn). TurnIs s turns r t after y) (sym a.0)
      (turned true (Answers doc point op o) (Some act) [] (told_length s r turns) e refl (losing_by s r (log_of s turns) (record_of r turns) (Answers doc point op o) e ∙ and_false _) (λ h. absurd cc)
      (moves, omega (arith, level_is)) (ap (λ (c : Coordinator). c.rules) same ∙ now.rules) (ap (λ (c : Coordinator). desk.log_of c.history) same ∙ now.log) (ap (λ (c : Coordinator). c.spent) same ∙ now.serves)
      (ap (λ (c : Coordinator). desk.told_of c.history r) same ∙ goes.told) refl
      (kept_local s r (log_of s turns) (record_of r turns) (told_length s r turns) x.holds y.holds doc point op o legal goes.keeps e a.1)
      (more_calls ∙ ap (λ n. x.calls + n) zero_calls ∙ (omega arith) ∙ goes.calls ∙ sym (calls_more s [] (log_of s turns) act (record_of r turns) (Answers doc point op o) within e)))

  -- a step that asked and was answered
  answered : (doc : ℕ) (point : Point) (op : OpName) (q : Request) (heard : List Entry) (outcome : ReplyOutcome) (turn : Turn) → next_move s (log_of s turns) (record_of r turns) ≡ Asks doc point op q
      → is_full_outcome outcome ≡ false → talking.counts outcome ≡ true → calls_by outcome ≡ 1 → HasHeard r before after q heard outcome → calls ≡ calls_by outcome
      → (number_of (lose_of s r) x.calls ≡ 1 → (is_served (lose_of s r) ≡ true) × (talking.counts outcome ≡ false))
      → (turn ≡ Acted) × IsAnswered x.holds doc point op (left_in x.holds) heard outcome y.holds → TurnIs s turns r turn after y
  answered doc point op q heard outcome turn e unfull_is counted_is one hh calls_are cond ends =
      let asker = move_asks s (log_of s turns) (record_of r turns) doc point op q e in
      let a = ends.1 in
      let rules = rules_of s in
      let own : List Entry = (exchange rules (log_of s turns) r q).entries in
      let outcome_is : outcome ≡ (decided rules (log_of s turns) r q).outcome = hh.outcome_is ∙ ap (λ (d : Decision). d.outcome) (decision_is q) in
      let other = says_other rules (log_of s turns) r q (sym (ap is_full_outcome outcome_is) ∙ unfull_is) in
      let decision : talking.decision r before q ≡ exchange rules (log_of s turns) r q = decision_is q ∙ other.1 in
      let grown : desk.log_of after.history ≡ own ++ log_of s turns = hh.answered.log ∙ (λ i. (decision i).entries ++ now.log i) in
      let heard_are : heard ≡ told_log r (own ++ log_of s turns) = hh.heard_is ∙ ap (told_log r) grown in
      let gives : answer_of op (exchange rules (log_of s turns) r q).outcome ≡ Some a.given = ap (answer_of op) (sym (outcome_is ∙ ap (λ (d : Decision). d.outcome) other.1)) ∙ a.is in
      let act : Act = StepAct (length (own ++ log_of s turns)) doc point op a.given in
      let longer : length (own ++ log_of s turns) ≡ length own + length (log_of s turns) = length-append own (log_of s turns) in
      let moves : IsActOn s r (log_of s turns) (record_of r turns) act own =
      subst (λ (k : Move). MovesTo rules r (log_of s turns) (record_of r turns) k act own) (sym e)
      (refl, ap (λ k. Some (StepAct k doc point op a.given)) longer ∙ ap (option_map (StepAct (length own + length (log_of s turns)) doc point op)) (sym gives)) in
      subst (λ (t : Turn). TurnIs s turns r t after y) (sym ends.0)
      (turned true (Asks doc point op q) (Some act) own (length (own ++ log_of s turns)) e refl (unlost (Asks doc point op q) outcome e (sym counted_is) cond)
      (λ h. has_room (log_of s turns) (second (is_full (log_of s turns)) (desk_needs (tree_of (log_of s turns)) r q) other.0 (room_needed (tree_of (log_of s turns)) r q asker ∙ h)))
      (moves, omega (arith, goes.keeps.within, longer)) (hh.answered.rules ∙ now.rules) grown hh.answered.serves (hh.all ∙ ap length grown) refl
      (kept_asking s r (log_of s turns) (record_of r turns) (told_length s r turns) x.holds y.holds doc point op q a.given legal goes.keeps e gives
      (a.now ∙ ap (λ (h : List Entry). stepped doc point op a.given (left_in x.holds) (hearing h x.holds)) heard_are))
      (more_calls ∙ ap (λ n. x.calls + n) (calls_are ∙ one) ∙ ap (λ n. n + 1) goes.calls ∙ sym (calls_more s own (log_of s turns) act (record_of r turns) (Asks doc point op q) within e)))

  -- there was no room
  no_room : (m : Move) (q : Request) (heard : List Entry) (len : ℕ) (turn : Turn) → next_move s (log_of s turns) (record_of r turns) ≡ m
      → ((is_full (log_of s turns) ≡ true) → counts (log_of s turns) r m ≡ true) → (desk_needs (tree_of (log_of s turns)) r q ≡ true → IsTrue (needs_room (tree_of (log_of s turns)) r m))
      → HasHeard r before after q heard (reply.Full len) → (number_of (lose_of s r) x.calls ≡ 1 → (is_served (lose_of s r) ≡ true) × (talking.counts (reply.Full len) ≡ false))
      → (turn ≡ Full len) × (y.holds ≡ hearing heard x.holds) → TurnIs s turns r turn after y
  no_room m q heard len turn e counted needs hh cond ends =
      let rules = rules_of s in
      let outcome_is : reply.Full len ≡ (decided rules (log_of s turns) r q).outcome = hh.outcome_is ∙ ap (λ (d : Decision). d.outcome) (decision_is q) in
      let so = says_full rules (log_of s turns) r q (sym (ap is_full_outcome outcome_is)) in
      let none : is_losing s r (log_of s turns) (record_of r turns) ≡ false = unlost m (reply.Full len) e (counted so.0) cond in
      let grown : desk.log_of after.history ≡ log_of s turns = hh.answered.log ∙ (λ i. ((decision_is q ∙ so.2) i).entries ++ now.log i) in
      subst (λ (t : Turn). TurnIs s turns r t after y) (sym ends.0) (
        record { due = due; goes_on = goes.keeps.goes_on; fewer = fewer_acts; needs = (none, subst (λ (k : Move). IsTrue (needs_room (tree_of (log_of s turns)) r k)) (sym e) (needs so.1)); full = is_full_log (log_of s turns) so.0 },
        record { rules = hh.answered.rules ∙ now.rules; log = grown; serves = hh.answered.serves },
        ap (λ (h : Holds). h.acts) ends.1 ∙ goes.keeps.acts_are,
      )

  asked : (doc : ℕ) (point : Point) (op : OpName) (q : Request) (heard : List Entry) (outcome : ReplyOutcome) (turn : Turn) → next_move s (log_of s turns) (record_of r turns) ≡ Asks doc point op q
      → HasHeard r before after q heard outcome → calls ≡ calls_by outcome → (number_of (lose_of s r) x.calls ≡ 1 → (is_served (lose_of s r) ≡ true) × (talking.counts outcome ≡ false))
      → StepEnds x.holds doc point op (left_in x.holds) heard outcome turn y.holds → TurnIs s turns r turn after y
  asked doc point op q heard (reply.Full len) turn e hh calls_are cond ends =
      no_room (Asks doc point op q) q heard len turn e (λ h. refl) (λ h. sym (room_needed (tree_of (log_of s turns)) r q (move_asks s (log_of s turns) (record_of r turns) doc point op q e)) ∙ h) hh cond ends
  asked doc point op q heard reply.Done turn e hh calls_are cond ends = answered doc point op q heard reply.Done turn e refl refl refl hh calls_are cond ends
  asked doc point op q heard (reply.Security rule) turn e hh calls_are cond ends = answered doc point op q heard (reply.Security rule) turn e refl refl refl hh calls_are cond ends
  asked doc point op q heard reply.Null turn e hh calls_are cond ends = answered doc point op q heard reply.Null turn e refl refl refl hh calls_are cond ends
  asked doc point op q heard (reply.Made nav) turn e hh calls_are cond ends = answered doc point op q heard (reply.Made nav) turn e refl refl refl hh calls_are cond ends
  asked doc point op q heard (reply.Unloaded place) turn e hh calls_are cond ends = answered doc point op q heard (reply.Unloaded place) turn e refl refl refl hh calls_are cond ends
  asked doc point op q heard (reply.Task place) turn e hh calls_are cond ends = answered doc point op q heard (reply.Task place) turn e refl refl refl hh calls_are cond ends
  asked doc point op q heard (reply.NotYours d home) turn e hh calls_are cond ends = answered doc point op q heard (reply.NotYours d home) turn e refl refl refl hh calls_are cond ends
  asked doc point op q heard (reply.BadFrame place why) turn e hh calls_are cond ends = answered doc point op q heard (reply.BadFrame place why) turn e refl refl refl hh calls_are cond ends
  asked doc point op q heard reply.Nothing turn e hh calls_are cond ends = let clash : None ≡ Some ends.1.given = ends.1.is in absurd cc

  -- the exchange was lost
  was_lost : (m : Move) (q : Request) (turn : Turn) → next_move s (log_of s turns) (record_of r turns) ≡ m → is_exchange m ≡ true → move_request m ≡ Some q
      → is_named (lose_of s r) (calls_of s (log_of s turns) (record_of r turns)) (counts (log_of s turns) r m) ≡ true
      → (own : List Entry) → left_by (is_served (lose_of s r)) (rules_of s) (log_of s turns) r m ≡ own
      → after.rules ≡ rules_of s → desk.log_of after.history ≡ own ++ log_of s turns → after.spent ≡ false → (turn ≡ Stopped) × Loses x.holds m y.holds → TurnIs s turns r turn after y
  unfolding left_by
  was_lost m q turn e exchanges asks named own own_is rules grown serves ends =
      let l = ends.1 in
      let made : lost_act (newest_length (record_of r turns)) (told_length s r turns) m ≡ Some l.lost =
      (λ i. lost_act (newest_length (sym goes.keeps.acts_are i)) (sym goes.keeps.len i) m) ∙ l.is in
      let losing : is_losing s r (log_of s turns) (record_of r turns) ≡ true = losing_by s r (log_of s turns) (record_of r turns) m e ∙ (λ i. named i && exchanges i) in
      subst (λ (t : Turn). TurnIs s turns r t after y) (sym ends.0)
      (lost m l.lost own e losing made
      (ap (λ (k : Move). lost_entry r ∷ (if is_served (lose_of s r) && not (is_full (log_of s turns)) then exchanged (rules_of s) (log_of s turns) r (move_request k) else [])) e ∙ ap (λ (g : List Entry). lost_entry r ∷ g) own_is)
      (lost_is_lost (newest_length (record_of r turns)) (told_length s r turns) m l.lost made) rules grown serves (ap (λ (h : Holds). h.acts) l.now ∙ ap (λ (a : List Act). l.lost ∷ a) goes.keeps.acts_are))

  -- WHAT A QUESTION FOR A TASK COMES TO

  next_is : exchange (rules_of s) (log_of s turns) r ask.Next ≡ task_decision r (length (log_of s turns)) (next_task (log_of s turns) r)
  next_is = next_gives (rules_of s) (log_of s turns) r

  -- the task that a reply names is the next one
  named_task : (place : ℕ) (next : Option What) → reply.Task place ≡ (task_decision r (length (log_of s turns)) next).outcome → (what : What) × (next ≡ Some what) × (place ≡ length (log_of s turns))
  named_task place None h = absurd cc
  named_task place (Some what) h = let same : place ≡ length (log_of s turns) = cc in (what, refl, same)

  no_task : (next : Option What) → reply.Nothing ≡ (task_decision r (length (log_of s turns)) next).outcome → next ≡ None
  no_task None h = refl
  no_task (Some what) h = absurd cc

  took : (heard : List Entry) (place : ℕ) (turn : Turn) → next_move s (log_of s turns) (record_of r turns) ≡ Takes → HasHeard r before after ask.Next heard (reply.Task place) → calls ≡ 1
      → (number_of (lose_of s r) x.calls ≡ 1 → (is_served (lose_of s r) ≡ true) × (talking.counts (reply.Task place) ≡ false)) → (turn ≡ Acted) × IsTaken x.holds heard place y.holds → TurnIs s turns r turn after y
  took heard place turn e hh one cond ends =
      let rules = rules_of s in
      let t = ends.1 in
      let outcome_is : reply.Task place ≡ (decided rules (log_of s turns) r ask.Next).outcome = hh.outcome_is ∙ ap (λ (d : Decision). d.outcome) (decision_is ask.Next) in
      let other = says_other rules (log_of s turns) r ask.Next (sym (ap is_full_outcome outcome_is)) in
      let named = named_task place (next_task (log_of s turns) r) (outcome_is ∙ ap (λ (d : Decision). d.outcome) (other.1 ∙ next_is)) in
      let what : What = named.0 in
      let next : next_task (log_of s turns) r ≡ Some what = named.1 in
      let own : List Entry = task_entry r what ∷ [] in
      let decision : talking.decision r before ask.Next ≡ task_decision r (length (log_of s turns)) (Some what) = decision_is ask.Next ∙ other.1 ∙ next_is ∙ ap (task_decision r (length (log_of s turns))) next in
      let grown : desk.log_of after.history ≡ task_entry r what ∷ log_of s turns = hh.answered.log ∙ (λ i. (decision i).entries ++ now.log i) in
      let heard_are : heard ≡ told_log r (task_entry r what ∷ log_of s turns) = hh.heard_is ∙ ap (told_log r) grown in
      let act : Act = Task (length (log_of s turns) + 1) (kind_of what) (length (log_of s turns)) in
      let moves : IsActOn s r (log_of s turns) (record_of r turns) act own = subst (λ (k : Move). MovesTo rules r (log_of s turns) (record_of r turns) k act own) (sym e) (what, next, refl, refl) in
      let counted : counts (log_of s turns) r Takes ≡ true = rw next refl in
      let at : entry_at (told_log r (task_entry r what ∷ log_of s turns)) (length (log_of s turns)) ≡ Some t.entry = (λ i. entry_at (sym heard_are i) (sym named.2 i)) ∙ t.is in
      subst (λ (k : Turn). TurnIs s turns r k after y) (sym ends.0)
      (turned true Takes (Some act) own (length (log_of s turns) + 1) e refl (unlost Takes (reply.Task place) e counted cond) (λ h. has_room (log_of s turns) (second (is_full (log_of s turns)) true other.0 refl))
      (moves, omega (arith, goes.keeps.within)) (hh.answered.rules ∙ now.rules) grown hh.answered.serves (hh.all ∙ ap length grown ∙ (omega arith)) (omega arith)
      (kept_task s r (log_of s turns) (record_of r turns) (told_length s r turns) x.holds y.holds what t.entry legal goes.keeps next at
      (t.now ∙ (λ i. taken (named.2 i) t.entry (hearing (heard_are i) x.holds))))
      (more_calls ∙ ap (λ n. x.calls + n) one ∙ ap (λ n. n + 1) goes.calls ∙ sym (calls_more s own (log_of s turns) act (record_of r turns) Takes within e)))

  rested : (heard : List Entry) (turn : Turn) → next_move s (log_of s turns) (record_of r turns) ≡ Takes → HasHeard r before after ask.Next heard reply.Nothing → calls ≡ 0
      → (number_of (lose_of s r) x.calls ≡ 1 → (is_served (lose_of s r) ≡ true) × (talking.counts reply.Nothing ≡ false)) → (turn ≡ Idle) × (y.holds ≡ resting (hearing heard x.holds)) → TurnIs s turns r turn after y
  rested heard turn e hh zero_calls cond ends =
      let rules = rules_of s in
      let outcome_is : reply.Nothing ≡ (decided rules (log_of s turns) r ask.Next).outcome = hh.outcome_is ∙ ap (λ (d : Decision). d.outcome) (decision_is ask.Next) in
      let other = says_other rules (log_of s turns) r ask.Next (sym (ap is_full_outcome outcome_is)) in
      let none : next_task (log_of s turns) r ≡ None = no_task (next_task (log_of s turns) r) (outcome_is ∙ ap (λ (d : Decision). d.outcome) (other.1 ∙ next_is)) in
      let decision : talking.decision r before ask.Next ≡ task_decision r (length (log_of s turns)) None = decision_is ask.Next ∙ other.1 ∙ next_is ∙ ap (task_decision r (length (log_of s turns))) none in
      let grown : desk.log_of after.history ≡ log_of s turns = hh.answered.log ∙ (λ i. (decision i).entries ++ now.log i) in
      let empty : is_full (log_of s turns) ≡ false = second (is_full (log_of s turns)) true other.0 refl in
      let uncounted : counts (log_of s turns) r Takes ≡ false = rw (none, empty) refl in
      subst (λ (k : Turn). TurnIs s turns r k after y) (sym ends.0)
      (turned false Takes None [] (length (log_of s turns)) e refl (unlost Takes reply.Nothing e uncounted cond) (λ h. has_room (log_of s turns) empty)
      (inr (e, none), refl) (hh.answered.rules ∙ now.rules) grown hh.answered.serves (hh.all ∙ ap length grown) refl
      (kept_idle s r (log_of s turns) (record_of r turns) (told_length s r turns) x.holds y.holds legal goes.keeps e (ends.1 ∙ ap (λ (h : List Entry). resting (hearing h x.holds)) (hh.heard_is ∙ ap (told_log r) grown)))
      (more_calls ∙ ap (λ n. x.calls + n) zero_calls ∙ (omega arith) ∙ goes.calls))

  questioned : (heard : List Entry) (outcome : ReplyOutcome) (turn : Turn) → next_move s (log_of s turns) (record_of r turns) ≡ Takes → HasHeard r before after ask.Next heard outcome → calls ≡ calls_by outcome
      → (number_of (lose_of s r) x.calls ≡ 1 → (is_served (lose_of s r) ≡ true) × (talking.counts outcome ≡ false)) → TaskEnds x.holds heard outcome turn y.holds → TurnIs s turns r turn after y
  questioned heard (reply.Task place) turn e hh calls_are cond ends = took heard place turn e hh calls_are cond ends
  questioned heard reply.Nothing turn e hh calls_are cond ends = rested heard turn e hh calls_are cond ends
  questioned heard (reply.Full len) turn e hh calls_are cond ends = no_room Takes ask.Next heard len turn e (λ h. full_counts h) (λ h. refl) hh cond ends
    where
      full_counts : is_full (log_of s turns) ≡ true → counts (log_of s turns) r Takes ≡ true
      full_counts h = or_true (is_some (next_task (log_of s turns) r)) (is_full (log_of s turns)) h
  questioned heard _ turn e hh calls_are cond ends = absurd ends

  -- WHAT AN EXCHANGE COMES TO

  -- an exchange that was lost where it was served, of a question for a task
  counts_task : talking.counts (decided (rules_of s) (log_of s turns) r ask.Next).outcome ≡ true → counts (log_of s turns) r Takes ≡ true
  counts_task h = by (decided_by (rules_of s) (log_of s turns) r ask.Next)
    where
      some_task : (next : Option What) → talking.counts (task_decision r (length (log_of s turns)) next).outcome ≡ true → is_some next ≡ true
      some_task None k = absurd cc
      some_task (Some w) k = refl

      by : IsDecided (rules_of s) (log_of s turns) r ask.Next → counts (log_of s turns) r Takes ≡ true
      by (Full_log f n d) = or_true (is_some (next_task (log_of s turns) r)) (is_full (log_of s turns)) f
      by (Decides b d) = true_or (is_some (next_task (log_of s turns) r)) (is_full (log_of s turns)) (some_task (next_task (log_of s turns) r) (sym (ap (λ (x : Decision). talking.counts x.outcome) (d ∙ next_is)) ∙ h))

  asks_over : (doc : ℕ) (point : Point) (op : OpName) (q : Request) (turn : Turn) (course : Course) → next_move s (log_of s turns) (record_of r turns) ≡ Asks doc point op q
      → Talks r (number_of (lose_of s r) x.calls) (is_served (lose_of s r)) before after q calls course → Ends x.holds (left_in x.holds) (Asks doc point op q) course turn y.holds → TurnIs s turns r turn after y
  asks_over doc point op q turn _ e (Refused one unserved same) ends =
      was_lost (Asks doc point op q) q turn e refl refl (refused_named (lose_of s r) (calls_of s (log_of s turns) (record_of r turns)) true (ap (number_of (lose_of s r)) (sym goes.calls) ∙ one) unserved) []
      (unserved_leaves (is_served (lose_of s r)) (rules_of s) (log_of s turns) r (Asks doc point op q) unserved)
      (ap (λ (c : Coordinator). c.rules) same ∙ now.rules) (ap (λ (c : Coordinator). desk.log_of c.history) same ∙ now.log) (ap (λ (c : Coordinator). c.spent) same ∙ now.serves) ends
  asks_over doc point op q turn _ e (Dropped one served counted so) ends =
      was_lost (Asks doc point op q) q turn e refl refl (dropped_named (lose_of s r) (calls_of s (log_of s turns) (record_of r turns)) true (ap (number_of (lose_of s r)) (sym goes.calls) ∙ one) refl) (decided (rules_of s) (log_of s turns) r q).entries
      (served_leaves (is_served (lose_of s r)) (rules_of s) (log_of s turns) r (Asks doc point op q) q served refl (asks_roomless (rules_of s) (log_of s turns) r q (move_asks s (log_of s turns) (record_of r turns) doc point op q e)))
      (so.rules ∙ now.rules) (so.log ∙ (λ i. (decision_is q i).entries ++ now.log i)) so.serves ends
  asks_over doc point op q turn _ e (Heard heard outcome hh calls_are cond) ends = asked doc point op q heard outcome turn e hh calls_are cond ends.1
  asks_over doc point op q turn _ e Starved ends = absurd ends

  takes_over : (turn : Turn) (course : Course) → next_move s (log_of s turns) (record_of r turns) ≡ Takes
      → Talks r (number_of (lose_of s r) x.calls) (is_served (lose_of s r)) before after ask.Next calls course → Ends x.holds None Takes course turn y.holds → TurnIs s turns r turn after y
  takes_over turn _ e (Refused one unserved same) ends =
      was_lost Takes ask.Next turn e refl refl (refused_named (lose_of s r) (calls_of s (log_of s turns) (record_of r turns)) (counts (log_of s turns) r Takes) (ap (number_of (lose_of s r)) (sym goes.calls) ∙ one) unserved) []
      (unserved_leaves (is_served (lose_of s r)) (rules_of s) (log_of s turns) r Takes unserved)
      (ap (λ (c : Coordinator). c.rules) same ∙ now.rules) (ap (λ (c : Coordinator). desk.log_of c.history) same ∙ now.log) (ap (λ (c : Coordinator). c.spent) same ∙ now.serves) ends
  takes_over turn _ e (Dropped one served counted so) ends =
      was_lost Takes ask.Next turn e refl refl
      (dropped_named (lose_of s r) (calls_of s (log_of s turns) (record_of r turns)) (counts (log_of s turns) r Takes) (ap (number_of (lose_of s r)) (sym goes.calls) ∙ one) (counts_task (sym (ap (λ (d : Decision). talking.counts d.outcome) (decision_is ask.Next)) ∙ counted)))
      (decided (rules_of s) (log_of s turns) r ask.Next).entries
      (served_leaves (is_served (lose_of s r)) (rules_of s) (log_of s turns) r Takes ask.Next served refl (takes_roomless (rules_of s) (log_of s turns) r))
      (so.rules ∙ now.rules) (so.log ∙ (λ i. (decision_is ask.Next i).entries ++ now.log i)) so.serves ends
  takes_over turn _ e (Heard heard outcome hh calls_are cond) ends = questioned heard outcome turn e hh calls_are cond ends.1
  takes_over turn _ e Starved ends = absurd ends

  pub moved : (m : Move) (turn : Turn) → next_move s (log_of s turns) (record_of r turns) ≡ m
      → MovesOver r (number_of (lose_of s r) x.calls) (is_served (lose_of s r)) (left_in x.holds) m x.holds before turn y.holds after calls → TurnIs s turns r turn after y
  moved (Answers doc point op o) turn e h = local doc point op o turn e h.0 h.1 h.2
  moved (Asks doc point op q) turn e h = asks_over doc point op q turn h.course e h.talks h.ends
  moved Takes turn e h = takes_over turn h.course e h.talks h.ends
  moved Stays turn e h = absurd (never_stays e)
    where
      never_stays : next_move s (log_of s turns) (record_of r turns) ≡ Stays → ⊥
      never_stays k = moves_on s (log_of s turns) (record_of r turns) goes.keeps.goes_on k

-- A STEP IS A TURN

pub step_is_turn : (s : Session) (turns : List Turned) (r : ℕ) (x y : Seat) (before after : Coordinator) (turn : Turn) (calls : ℕ)
    → ArePlayed s turns → next_renderer s turns ≡ Some r → r < s.renderers → IsLegal s r (log_of s turns) (record_of r turns) → IsAfter s turns before → Goes s turns before r x → y.calls ≡ x.calls + calls
    → StepsOver r (number_of (lose_of s r) x.calls) (is_served (lose_of s r)) x.holds before turn y.holds after calls → TurnIs s turns r turn after y
step_is_turn s turns r x y before after turn calls played due there legal now goes more_calls step = by (nat_le most_acts (length x.holds.acts)) refl step
  where
    by : (b : Bool) → nat_le most_acts (length x.holds.acts) ≡ b → StepsIfRoom b r (number_of (lose_of s r) x.calls) (is_served (lose_of s r)) x.holds before turn y.holds after calls → TurnIs s turns r turn after y
    by true e h = subst (λ (k : Turn). TurnIs s turns r k after y) (sym h.0.0) (
      record { due = due; goes_on = goes.keeps.goes_on; many = let le = leb-true most_acts (length x.holds.acts) e in omega (arith, le, ap length goes.keeps.acts_are) },
      record { rules = ap (λ (c : Coordinator). c.rules) h.0.2 ∙ now.rules; log = ap (λ (c : Coordinator). desk.log_of c.history) h.0.2 ∙ now.log; serves = ap (λ (c : Coordinator). c.spent) h.0.2 ∙ now.serves },
      ap (λ (v : Holds). v.acts) h.0.1 ∙ goes.keeps.acts_are,
    )
    by false e h =
        let fewer : length x.holds.acts < most_acts = let lt = leb-false most_acts (length x.holds.acts) e in omega (arith, lt) in
        moved s turns r x y before after calls played due there legal now goes more_calls fewer (next_move s (log_of s turns) (record_of r turns)) turn refl
        (subst (λ (m : Move). MovesOver r (number_of (lose_of s r) x.calls) (is_served (lose_of s r)) (left_in x.holds) m x.holds before turn y.holds after calls)
        (move_is s r (log_of s turns) (record_of r turns) (told_length s r turns) x.holds legal goes.keeps) h)
