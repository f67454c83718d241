-- What a turn leaves.
use Rattle.std.proofs.Common.{◌≡◌, ◌≢◌, ℕ, zero, suc, ◌+◌, ◌-◌, ◌^◌, ◌<◌, ◌≤◌, List, [], ◌∷◌, ◌++◌, length, get_or, Option, Some, None, refl, sym, ap, subst, ◌∙◌, arith, inl, inr, length-append, eq-eqb}
use Rattle.std.specs.Prelude.{Bool, true, false, not, ◌&&◌, ◌==◌, IsTrue, find, slice_get, slice_set, if◌then◌else◌}
use Rattle.std.specs.Option.{option_map}
use Rattle.std.proofs.lemmas.Bool.Decides.{eqb_tells}
use Rattle.tree_log.specs.declared.entry.Entry.{Entry}
use Rattle.tree_log.specs.Log.{prefix}
use Rattle.tree_log.specs.Tree.{tree_of}
use Rattle.tree_log.specs.Urls.{url_of}
use Rattle.agent_terms.specs.declared.session.Session.{Session}
use Rattle.agent_terms.specs.declared.session.Lose.{Lose}
use Rattle.agent_terms.specs.declared.act.Act.{Act}
use Rattle.agent_terms.specs.declared.act.Act.TheVariants.{Step as StepAct, Task}
use Rattle.agent_terms.specs.declared.act.Answer.TheVariants as answer
use Rattle.agent_terms.specs.declared.act.Move.{Move}
use Rattle.agent_terms.specs.declared.act.Move.TheVariants.{Answers, Asks, Takes, Stays}
use Rattle.coordinator_rules.specs.NextTask.{task_entry}
use Rattle.tree_log.specs.Admits.{AreAdmitted}
use Rattle.coordinator_rules.specs.Decision.{rules_of, exchange}
use Rattle.single_agent.specs.Lengths.{newest_length, has_stopped}
use Rattle.single_agent.specs.Running.{step_left}
use Rattle.single_agent.specs.Sights.{sight}
use Rattle.single_agent.specs.NextMove.{move_of, next_move}
use Rattle.single_agent.specs.NextAct.{kind_of, MovesTo, IsActOn}
use Rattle.agent_terms.specs.declared.act.Point.{Point}
use Rattle.agent_terms.specs.declared.outcome.Outcome.{Outcome}
use Rattle.agent_terms.specs.declared.request.Request.{Request}
use Rattle.agent_terms.specs.declared.step.OpName.{OpName}
use Rattle.agent_laws.specs.Belonging.{IsClosed}
use Rattle.agent_laws.proofs.Groups.ClosedLogs.{closed_played}
use Rattle.single_agent.specs.Turns.{Turned, log_of, with_act, record_of, is_exchange, calls_of, counts, is_named, is_losing, told_length, next_renderer, needs_room, loses_next, HasRoom, Does, Plays}
use Rattle.agent_terms.specs.Limits.{most_acts}
use Rattle.single_agent.proofs.Grown.{Within}
use Rattle.single_agent.proofs.Legal.{acts_within}
use Rattle.single_agent.proofs.Played.{legal_record, record_own, record_not}
use Rattle.tree_view.specs.declared.view.View.{Ghosts}
use Rattle.session_player.specs.declared.worker.Worker.{Worker}
use Rattle.session_player.specs.declared.worker.Turn.{Turn}
use Rattle.session_player.specs.declared.worker.Turn.TheVariants.{Acted, Idle, Full, ActsFull, BadReply}
use Rattle.session_player.specs.Serves.{Ledger, ledger}
use Rattle.session_player.specs.Steps.{HeardAll, IsTied, IsSound, move_now, ActsBy, ActsByTask, IsIdle, StepsTo}
use Rattle.session_player.specs.Underway.{Keeps, Seat, AreNumbered, seats_of, seat_of, IsUnderway, acts_left, TurnEnds}
use Rattle.session_player.proofs.Leaves.{set_same, set_other, set_length, set_here, get_map, set_map, map_length, read_same, read_other}
use Rattle.session_player.proofs.Sound.{sound_answers, sound_asks, sound_heard, closed_task}
use Rattle.session_player.proofs.Keeping.{level, going_on, move_is, kept_local, kept_asking, kept_task, kept_idle, kept_other}

-- the workers stay by their numbers
pub still_numbered : (seats : List Seat) (n : ℕ) (x y : Seat) → AreNumbered seats → slice_get seats n ≡ Some x → n < length seats → y.renderer ≡ x.renderer → AreNumbered (slice_set seats n y)
still_numbered seats n x y numbered here within same r z at =
    elim (eqb_tells n r) [
      | inl p ↦
          let at_n : slice_get (slice_set seats n y) n ≡ Some z = subst (λ k. slice_get (slice_set seats n y) k ≡ Some z) (sym p.1) at in
          let e : Some y ≡ Some z = sym (set_same seats n y within) ∙ at_n in
          let z_is : y ≡ z = cc in
          ap (λ (q : Seat). q.renderer) (sym z_is) ∙ same ∙ numbered n x here ∙ p.1
      | inr p ↦ numbered r z (sym (set_other seats n r y p.1) ∙ at)
    ]

left_after : (seats : List Seat) (i : ℕ) (x y : Seat) → slice_get seats i ≡ Some x → acts_left (slice_set seats i y) + (40000 - length x.holds.acts) ≡ acts_left seats + (40000 - length y.holds.acts)
left_after [] i x y h = absurd cc
left_after (z ∷ seats) zero x y h = let e : z ≡ x = cc in let f = ap (λ (q : Seat). length q.holds.acts) e in omega arith
left_after (z ∷ seats) (suc i) x y h = omega (arith, left_after seats i x y h)

-- a session without losses loses no exchange
none_lost : (s : Session) (r : ℕ) (log : List Entry) (acts : List Act) → s.lose ≡ [] → is_losing s r log acts ≡ false
unfolding is_losing
none_lost s r log acts none =
    ap (λ (l : List Lose). is_named (find (λ (x : Lose). x.renderer == r) l) (calls_of s log acts) (counts log r (next_move s log acts)) && is_exchange (next_move s log acts)) none

pub loses_none : (s : Session) (turns : List Turned) (r : ℕ) → s.lose ≡ [] → loses_next s turns r ≡ false
loses_none s turns r none = none_lost s r (log_of s turns) (record_of r turns) none

heard_if : {A : Type 0} (b lost : Bool) (x y : A) → lost ≡ false → (if b && not lost then x else y) ≡ (if b then x else y)
heard_if true true x y h = absurd cc
heard_if true false x y h = refl
heard_if false lost x y h = refl

told_own : (s : Session) (t : Turned) (older : List Turned) → s.lose ≡ []
    → told_length s t.renderer (t ∷ older) ≡ (if is_exchange (next_move s (log_of s older) (record_of t.renderer older)) then length (t.own ++ log_of s older) else told_length s t.renderer older)
unfolding told_length
told_own s t older none =
    ap (λ b. if b && is_exchange (next_move s (log_of s older) (record_of t.renderer older)) && not (is_losing s t.renderer (log_of s older) (record_of t.renderer older))
    then length (t.own ++ log_of s older) else told_length s t.renderer older) (eq-eqb t.renderer t.renderer refl)
    ∙ heard_if (is_exchange (next_move s (log_of s older) (record_of t.renderer older))) (is_losing s t.renderer (log_of s older) (record_of t.renderer older)) (length (t.own ++ log_of s older)) (told_length s t.renderer older)
    (none_lost s t.renderer (log_of s older) (record_of t.renderer older) none)

told_not : (s : Session) (q : ℕ) (t : Turned) (older : List Turned) → t.renderer ≢ q → told_length s q (t ∷ older) ≡ told_length s q older
unfolding told_length
told_not s q t older other = elim (eqb_tells t.renderer q) [ inl p ↦ absurd (other p.1) | inr p ↦ rw p.0 refl ]

log_more : (s : Session) (t : Turned) (older : List Turned) → log_of s (t ∷ older) ≡ t.own ++ log_of s older
unfolding log_of
log_more s t older = refl

some_left : (s : Session) (log : List Entry) (acts : List Act) (mv : Move) → has_stopped acts ≡ false → next_move s log acts ≡ mv → (mv ≡ Takes → ⊥) → step_left s log acts ≡ None → ⊥
some_left s log acts mv goes e other none = other (sym e ∙ going_on s log acts goes ∙ ap (move_of (sight s log acts)) none)

module _ (s : Session) (turns : List Turned) (tl : List ℕ) (m : Ledger) (seats : List Seat) (n : ℕ) (x y : Seat) (here : slice_get seats n ≡ Some x) (within : n < length seats)
    (u : IsUnderway s turns (ledger (log_of s turns) tl) seats) (due : next_renderer s turns ≡ Some n) where
  keeps : Keeps s n (log_of s turns) (record_of n turns) (told_length s n turns) x.holds
  keeps = u.seated n x here

  there : n < s.renderers
  there = omega (arith, u.count)

  pub tied : IsTied n x.holds (ledger (log_of s turns) tl)
  tied = record {
    heard = keeps.heard ∙ sym (u.told n);
    within = omega (arith, keeps.heard, keeps.within);
    tree = keeps.tree ∙ ap (λ k. tree_of (prefix k (log_of s turns))) (sym keeps.heard);
    urls = keeps.urls ∙ ap (λ k. url_of (prefix k (log_of s turns))) (sym keeps.heard);
    admitted = u.admitted;
    own = keeps.own;
    sound = keeps.sound;
  }

-- what the new worker holds, and the log that it left
module _ (s : Session) (turns : List Turned) (tl : List ℕ) (m : Ledger) (seats : List Seat) (n : ℕ) (x y : Seat) (here : slice_get seats n ≡ Some x) (within : n < length seats)
    (u : IsUnderway s turns (ledger (log_of s turns) tl) seats) (due : next_renderer s turns ≡ Some n) (all : AreAdmitted m.log) where
  kept : Keeps s n (log_of s turns) (record_of n turns) (told_length s n turns) x.holds
  kept = u.seated n x here

  here_there : n < s.renderers
  here_there = omega (arith, u.count)

  all_within : Within (length (log_of s turns)) (record_of n turns)
  all_within = let legal = legal_record s n turns u.played in acts_within s n (log_of s turns) (record_of n turns) legal.0 legal.1

  move_at : move_now s x.holds ≡ next_move s (log_of s turns) (record_of n turns)
  move_at = move_is s n (log_of s turns) (record_of n turns) (told_length s n turns) x.holds u.admitted kept

  short : length (log_of s turns) < 2 ^ 30
  short = omega (arith, u.few)

  closed : IsClosed (tree_of (log_of s turns))
  closed = closed_played s turns u.played short

  local_sound : (doc : ℕ) (point : Point) (op : OpName) (outcome : Outcome) → next_move s (log_of s turns) (record_of n turns) ≡ Answers doc point op outcome
      → ActsBy s n (Answers doc point op outcome) x.holds (ledger (log_of s turns) tl) y.holds m → IsSound y.holds
  local_sound doc point op outcome e a = sound_answers s n x.holds y.holds (ledger (log_of s turns) tl) m kept.own kept.sound doc point op outcome (move_at ∙ e) a

  asking_sound : (doc : ℕ) (point : Point) (op : OpName) (q : Request) → next_move s (log_of s turns) (record_of n turns) ≡ Asks doc point op q
      → ActsBy s n (Asks doc point op q) x.holds (ledger (log_of s turns) tl) y.holds m → IsSound y.holds
  asking_sound doc point op q e a =
      sound_asks s n (told_length s n turns) x.holds y.holds (ledger (log_of s turns) tl) m kept.own kept.sound doc point op q (move_at ∙ e) a u.admitted short closed (subst AreAdmitted a.log all) kept.tree

  task_sound : ActsByTask n x.holds (ledger (log_of s turns) tl) y.holds m → IsSound y.holds
  task_sound a =
      sound_heard (task_entry n a.what ∷ []) (log_of s turns) (told_length s n turns) x.holds y.holds (subst AreAdmitted a.log all) (closed_task (rules_of s) (log_of s turns) n a.what u.admitted short closed a.next) kept.sound kept.tree
      (a.all.tree ∙ ap tree_of a.log) a.registers a.stores

  idle_sound : IsIdle n x.holds (ledger (log_of s turns) tl) y.holds m → IsSound y.holds
  idle_sound a = sound_heard [] (log_of s turns) (told_length s n turns) x.holds y.holds u.admitted closed kept.sound kept.tree (a.all.tree ∙ ap tree_of a.log) a.registers a.stores

  lossless : loses_next s turns n ≡ false
  lossless = loses_none s turns n u.lossless

  fewer_at : length x.holds.acts < most_acts → length (record_of n turns) < most_acts
  fewer_at h = omega (arith, ap length kept.acts_are)

  -- one more turn of n
  more : (act : Option Act) (own : List Entry) → length x.holds.acts < most_acts → (IsTrue (needs_room (tree_of (log_of s turns)) n (next_move s (log_of s turns) (record_of n turns))) → HasRoom (log_of s turns))
      → Does s n (log_of s turns) (record_of n turns) (told_length s n turns) act own
      → m.log ≡ own ++ log_of s turns → length m.log ≤ 40000 → (told' : ℕ) → told' ≡ (if is_exchange (next_move s (log_of s turns) (record_of n turns)) then length (own ++ log_of s turns) else told_length s n turns)
      → get_or m.told n 0 ≡ told' → ((r : ℕ) → n ≢ r → get_or m.told r 0 ≡ get_or tl r 0) → length m.told ≡ length tl
      → Keeps s n (own ++ log_of s turns) (with_act act (record_of n turns)) told' y.holds
      → IsUnderway s (record { renderer = n; act = act; own = own } ∷ turns) m (slice_set seats n y)
  more act own fewer room plays grown few told' told_is told_here told_there same_length keeps' =
      let t : Turned = record { renderer = n; act = act; own = own } in
      let told_new : told' ≡ told_length s n (t ∷ turns) = told_is ∙ sym (told_own s t turns u.lossless) in
      let log_new = log_more s t turns in
      record {
        lossless = u.lossless;
        played = (
          record {
            due = due;
            there = here_there;
            fewer = λ h. fewer_at fewer;
            room = λ h. room h.1;
            plays = subst (λ b. Plays b s n (log_of s turns) (record_of n turns) (told_length s n turns) act own) (sym lossless) plays;
          },
          u.played,
        );
        log = grown ∙ sym log_new;
        told = λ r. elim (eqb_tells n r) [
          | inl p ↦ subst (λ k. get_or m.told k 0 ≡ told_length s k (t ∷ turns)) p.1 (told_here ∙ told_new)
          | inr p ↦ told_there r p.1 ∙ u.told r ∙ sym (told_not s r t turns p.1)
        ];
        many = same_length ∙ u.many;
        count = set_length seats n y ∙ u.count;
        few = few;
        admitted = all;
        seated = λ r z at. subst (λ (g : List Entry). Keeps s r g (record_of r (t ∷ turns)) (told_length s r (t ∷ turns)) z.holds) (sym log_new) (elim (eqb_tells n r) [
          | inl p ↦
              let at_n : slice_get (slice_set seats n y) n ≡ Some z = subst (λ k. slice_get (slice_set seats n y) k ≡ Some z) (sym p.1) at in
              let same : Some y ≡ Some z = sym (set_same seats n y within) ∙ at_n in
              let z_is : y ≡ z = cc in
              subst (λ k. Keeps s k (own ++ log_of s turns) (record_of k (t ∷ turns)) (told_length s k (t ∷ turns)) z.holds) p.1
              (subst (λ (q : Seat). Keeps s n (own ++ log_of s turns) (record_of n (t ∷ turns)) (told_length s n (t ∷ turns)) q.holds) z_is
              (subst (λ k. Keeps s n (own ++ log_of s turns) (record_of n (t ∷ turns)) k y.holds) told_new
              (subst (λ (a : List Act). Keeps s n (own ++ log_of s turns) a told' y.holds) (sym (record_own t turns)) keeps')))
          | inr p ↦
              let k : Keeps s r (log_of s turns) (record_of r turns) (told_length s r turns) z.holds = u.seated r z (sym (set_other seats n r y p.1) ∙ at) in
              let legal = legal_record s r turns u.played in
              let w : Within (length (log_of s turns)) (record_of r turns) = acts_within s r (log_of s turns) (record_of r turns) legal.0 legal.1 in
              subst (λ j. Keeps s r (own ++ log_of s turns) (record_of r (t ∷ turns)) j z.holds) (sym (told_not s r t turns p.1))
              (subst (λ (a : List Act). Keeps s r (own ++ log_of s turns) a (told_length s r turns) z.holds) (sym (record_not r t turns p.1)) (kept_other s r own (log_of s turns) (record_of r turns) (told_length s r turns) z.holds k w))
        ]);
      }

  lesser : (a : Act) → length x.holds.acts < most_acts → y.holds.acts ≡ a ∷ x.holds.acts → acts_left (slice_set seats n y) < acts_left seats
  lesser a fewer e = omega (arith, left_after seats n x y here, ap length e)

  heard_here : HeardAll n (ledger (log_of s turns) tl) y.holds m → get_or m.told n 0 ≡ length m.log
  heard_here h = ap (λ (q : List ℕ). get_or q n 0) h.told ∙ read_same tl n (length m.log) (omega (arith, u.many, u.count))

  heard_there : HeardAll n (ledger (log_of s turns) tl) y.holds m → (r : ℕ) → n ≢ r → get_or m.told r 0 ≡ get_or tl r 0
  heard_there h r other = ap (λ (q : List ℕ). get_or q r 0) h.told ∙ read_other tl n r (length m.log) other

  heard_length : HeardAll n (ledger (log_of s turns) tl) y.holds m → length m.told ≡ length tl
  heard_length h = ap length h.told ∙ set_length tl n (length m.log)

  acted : (mv : Move) → next_move s (log_of s turns) (record_of n turns) ≡ mv → length x.holds.acts < most_acts → (IsTrue (needs_room (tree_of (log_of s turns)) n mv) → HasRoom (log_of s turns))
      → ActsBy s n mv x.holds (ledger (log_of s turns) tl) y.holds m → TurnEnds s turns n seats Acted m (slice_set seats n y)
  acted (Answers doc point op outcome) e fewer room a =
      let some : step_left s (log_of s turns) (record_of n turns) ≡ None → ⊥ = some_left s (log_of s turns) (record_of n turns) (Answers doc point op outcome) kept.goes_on e (λ h. cc) in
      let lev : told_length s n turns ≡ newest_length (record_of n turns) = level s (log_of s turns) (record_of n turns) (told_length s n turns) x.holds.run kept.run some in
      let act : Act = StepAct (told_length s n turns) doc point op (answer.Outcome outcome) in
      let moves : IsActOn s n (log_of s turns) (record_of n turns) act [] =
      subst (λ (k : Move). MovesTo (rules_of s) n (log_of s turns) (record_of n turns) k act []) (sym e) (ap (λ k. StepAct k doc point op (answer.Outcome outcome)) lev, refl) in (
        record { renderer = n; act = Some act; own = [] },
        refl,
        refl,
        more (Some act) [] fewer (λ h. room (subst (λ (k : Move). IsTrue (needs_room (tree_of (log_of s turns)) n k)) e h)) (moves, omega arith) (ap (λ (q : Ledger). q.log) a.ledger) (omega (arith, u.few, ap (λ (q : Ledger). length q.log) a.ledger))
            (told_length s n turns) (sym (ap (λ (k : Move). if is_exchange k then length (log_of s turns) else told_length s n turns) e))
            (ap (λ (q : Ledger). get_or q.told n 0) a.ledger ∙ u.told n) (λ r other. ap (λ (q : Ledger). get_or q.told r 0) a.ledger) (ap (λ (q : Ledger). length q.told) a.ledger)
            (kept_local s n (log_of s turns) (record_of n turns) (told_length s n turns) doc point op outcome x.holds y.holds (ledger (log_of s turns) tl) m kept (local_sound doc point op outcome e a) some a),
        lesser _ fewer a.acts,
      )
  acted (Asks doc point op q) e fewer room a =
      let some : step_left s (log_of s turns) (record_of n turns) ≡ None → ⊥ = some_left s (log_of s turns) (record_of n turns) (Asks doc point op q) kept.goes_on e (λ h. cc) in
      let own : List Entry = (exchange (rules_of s) (log_of s turns) n q).entries in
      let act : Act = StepAct (length (own ++ log_of s turns)) doc point op a.given in
      let longer : length (own ++ log_of s turns) ≡ length own + length (log_of s turns) = length-append own (log_of s turns) in
      let moves : IsActOn s n (log_of s turns) (record_of n turns) act own =
      subst (λ (k : Move). MovesTo (rules_of s) n (log_of s turns) (record_of n turns) k act own) (sym e)
      (refl, ap (λ k. Some (StepAct k doc point op a.given)) longer ∙ ap (option_map (StepAct (length own + length (log_of s turns)) doc point op)) a.gives) in (
        record { renderer = n; act = Some act; own = own },
        refl,
        refl,
        more (Some act) own fewer (λ h. room (subst (λ (k : Move). IsTrue (needs_room (tree_of (log_of s turns)) n k)) e h)) (moves, omega (arith, kept.within, longer)) a.log (a.few u.few) (length (own ++ log_of s turns))
            (sym (ap (λ (k : Move). if is_exchange k then length (own ++ log_of s turns) else told_length s n turns) e))
            (heard_here a.all ∙ ap length a.log) (heard_there a.all) (heard_length a.all)
            (kept_asking s n (log_of s turns) (record_of n turns) (told_length s n turns) doc point op q x.holds y.holds (ledger (log_of s turns) tl) m kept (asking_sound doc point op q e a) u.admitted all all_within refl some a),
        lesser _ fewer a.acts,
      )
  acted Stays e fewer room a = absurd a
  acted Takes e fewer room a =
      let own : List Entry = task_entry n a.what ∷ [] in
      let act : Act = Task (length (log_of s turns) + 1) (kind_of a.what) (length (log_of s turns)) in
      let longer : length m.log ≡ length (log_of s turns) + 1 = ap length a.log ∙ (omega arith) in
      let moves : IsActOn s n (log_of s turns) (record_of n turns) act own =
      subst (λ (k : Move). MovesTo (rules_of s) n (log_of s turns) (record_of n turns) k act own) (sym e) (a.what, a.next, refl, refl) in (
        record { renderer = n; act = Some act; own = own },
        refl,
        refl,
        more (Some act) own fewer (λ h. room refl) (moves, omega (arith, kept.within)) a.log (omega (arith, room refl)) (length (log_of s turns) + 1)
            (sym (ap (λ (k : Move). if is_exchange k then length (own ++ log_of s turns) else told_length s n turns) e ∙ (omega arith)))
            (heard_here a.all ∙ longer) (heard_there a.all) (heard_length a.all)
            (kept_task s n (log_of s turns) (record_of n turns) (told_length s n turns) x.holds y.holds (ledger (log_of s turns) tl) m kept (task_sound a) u.admitted all_within refl a),
        lesser _ fewer a.acts,
      )

  unchanged : y.holds ≡ x.holds → y.renderer ≡ x.renderer → m ≡ ledger (log_of s turns) tl → IsUnderway s turns m (slice_set seats n y)
  unchanged h r l =
      let y_is : y ≡ x = λ i. record { renderer = r i; holds = h i } in
      subst (λ (q : Ledger). IsUnderway s turns q (slice_set seats n y)) (sym l) (subst (IsUnderway s turns (ledger (log_of s turns) tl)) (sym (ap (slice_set seats n) y_is ∙ set_here seats n x here)) u)

  pub turned : (turn : Turn) → StepsTo s n x.holds (ledger (log_of s turns) tl) turn y.holds m → y.renderer ≡ x.renderer → TurnEnds s turns n seats turn m (slice_set seats n y)
  turned Acted step same =
      acted (next_move s (log_of s turns) (record_of n turns)) refl step.0 (subst (λ (k : Move). IsTrue (needs_room (tree_of (log_of s turns)) n k) → HasRoom (log_of s turns)) move_at step.1)
      (subst (λ (k : Move). ActsBy s n k x.holds (ledger (log_of s turns) tl) y.holds m) move_at step.2)
  turned Idle step same =
      let takes : next_move s (log_of s turns) (record_of n turns) ≡ Takes = sym move_at ∙ step.2 in
      let a = step.3 in (
        record { renderer = n; act = None; own = [] },
        refl,
        refl,
        more None [] step.0 (λ h. step.1) (inr (takes, a.none), refl) a.log (omega (arith, u.few, ap length a.log)) (length (log_of s turns))
            (sym (ap (λ (k : Move). if is_exchange k then length (log_of s turns) else told_length s n turns) takes))
            (heard_here a.all ∙ ap length a.log) (heard_there a.all) (heard_length a.all)
            (kept_idle s n (log_of s turns) (record_of n turns) (told_length s n turns) x.holds y.holds (ledger (log_of s turns) tl) m kept (idle_sound a) all_within refl takes a),
        omega (arith, left_after seats n x y here, ap length a.acts),
      )
  turned Full step same =
      (record { due = due; goes_on = kept.goes_on; fewer = fewer_at step.0; needs = (lossless, subst (λ (k : Move). IsTrue (needs_room (tree_of (log_of s turns)) n k)) move_at step.1); full = step.2 }, unchanged step.3 same step.4)
  turned ActsFull step same = (record { due = due; goes_on = kept.goes_on; many = omega (arith, step.0, ap length kept.acts_are) }, unchanged step.1 same step.2)
  turned BadReply step same = absurd step

-- a turn of a worker in its place
pub worker_turned : {V : Type 0} (view : Ghosts V) (s : Session) (turns : List Turned) (l m : Ledger) (workers : List (Worker V view)) (n : ℕ) (old new : Worker V view) (turn : Turn)
    → slice_get workers n ≡ Some old → n < length workers
    → IsUnderway s turns l (seats_of view workers) → next_renderer s turns ≡ Some n → AreAdmitted m.log → old.renderer ≡ n → new.renderer ≡ old.renderer
    → (IsTied old.renderer (seat_of view old).holds l → StepsTo s old.renderer (seat_of view old).holds l turn (seat_of view new).holds m)
    → TurnEnds s turns n (seats_of view workers) turn m (seats_of view (slice_set workers n new))
worker_turned view s turns l m workers n old new turn here within u due all number same steps =
    let seats = seats_of view workers in
    let at : slice_get seats n ≡ Some (seat_of view old) = get_map (seat_of view) workers n old here in
    let lt : n < length seats = omega (arith, map_length (seat_of view) workers) in
    let u' : IsUnderway s turns (ledger (log_of s turns) l.told) seats = subst (λ (g : List Entry). IsUnderway s turns (ledger g l.told) seats) u.log u in
    let tied' : IsTied n (seat_of view old).holds (ledger (log_of s turns) l.told) = tied s turns l.told m seats n (seat_of view old) (seat_of view new) at lt u' due in
    let tied_l : IsTied old.renderer (seat_of view old).holds l =
    subst (λ k. IsTied k (seat_of view old).holds l) (sym number) (subst (λ (g : List Entry). IsTied n (seat_of view old).holds (ledger g l.told)) (sym u.log) tied') in
    let step : StepsTo s n (seat_of view old).holds l turn (seat_of view new).holds m = subst (λ k. StepsTo s k (seat_of view old).holds l turn (seat_of view new).holds m) number (steps tied_l) in
    let step' : StepsTo s n (seat_of view old).holds (ledger (log_of s turns) l.told) turn (seat_of view new).holds m =
    subst (λ (g : List Entry). StepsTo s n (seat_of view old).holds (ledger g l.told) turn (seat_of view new).holds m) u.log step in
    subst (TurnEnds s turns n seats turn m) (sym (set_map (seat_of view) workers n new))
    (turned s turns l.told m seats n (seat_of view old) (seat_of view new) at lt u' due all turn step' same)
