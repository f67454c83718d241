-- What a turn leaves.
use Rattle.std.proofs.Common.{◌≡◌, ◌≢◌, ℕ, zero, suc, ◌+◌, ◌-◌, ◌^◌, ◌<◌, ◌≤◌, List, [], ◌∷◌, ◌++◌, length, Option, Some, None, Bool, true, false, refl, sym, ap, subst, ◌∙◌, arith, inl, inr}
use Rattle.std.specs.Prelude.{◌⊎◌, ◌&&◌, nat_le, min, slice_get, slice_set, if◌then◌else◌}
use Rattle.std.proofs.lemmas.Bool.Decides.{eqb_tells}
use Rattle.tree_log.specs.declared.entry.Entry.{Entry}
use Rattle.agent_terms.specs.Limits.{most_acts}
use Rattle.agent_terms.specs.declared.act.Act.{Act}
use Rattle.agent_terms.specs.declared.session.Session.{Session}
use Rattle.desk.specs.History as desk
use Rattle.desk.specs.Serving.{Coordinator}
use Rattle.desk.specs.declared.item.Item.{Item}
use Rattle.log_laws.proofs.Plays.Lengths.{played_bounded}
use Rattle.log_laws.proofs.Plays.Played.{played_admitted, played_actors}
use Rattle.single_agent.specs.Lengths.{has_stopped}
use Rattle.agent_terms.specs.declared.act.Move.{Move}
use Rattle.agent_terms.specs.declared.act.Move.TheVariants.{Stays}
use Rattle.single_agent.specs.NextMove.{next_move, move_of}
use Rattle.single_agent.specs.Running.{step_left}
use Rattle.single_agent.specs.Sights.{sight}
use Rattle.tree_log.specs.Tree.{tree_of}
use Rattle.single_agent.specs.Session.{lose_of}
use Rattle.single_agent.specs.Turns.{Turned, log_of, with_act, record_of, told_length, calls_of, is_exchange, is_served, next_renderer, has_act, is_some_act, ArePlayed, IsTurn, Plays, counts, is_losing, is_named, needs_room}
use Rattle.single_agent.proofs.Grown.{Within}
use Rattle.single_agent.proofs.Legal.{acts_within}
use Rattle.single_agent.proofs.Played.{legal_log, legal_record, record_own, record_not}
use Rattle.renderer.specs.declared.turn.Turn.{Turn}
use Rattle.renderer.specs.declared.turn.Turn.TheVariants.{Acted, Idle, Stopped, Full, ActsFull, BadReply}
use Rattle.renderer_laws.specs.Keeping.{IsLegal, Keeps}
use Rattle.renderer_laws.proofs.Kept.{kept_other}
use Rattle.turn_laws.specs.Playing.{Goes, HasTurned, IsAfter, IsLost, Rests, Seat, TurnIs, number_of}
use Rattle.turn_laws.proofs.Turning.{calls_grown, log_more, step_is_turn}
use Rattle.play_laws.specs.Stepping.{HasStepped, LosesIt}
use Rattle.play_laws.specs.Underway.{HasLeft, HasTurn, IsPlayable, IsSeated, IsUnderway, TurnEnds, acts_left}
use Rattle.play_laws.proofs.Leaves.{set_same, set_other, set_length}
use Rattle.play_laws.proofs.Stepping.{step_others}

-- CALLS

one_more_call : (b : Bool) (made count : ℕ) → made ≤ count → (if b then made + 1 else made) ≤ count + 1
one_more_call true made count h = omega (arith, h)
one_more_call false made count h = omega (arith, h)

calls_few : (s : Session) (log : List Entry) (acts : List Act) → calls_of s log acts ≤ length acts
unfolding calls_of
calls_few s log [] = omega arith
calls_few s log (a ∷ older) =
    let e : length older + 1 ≡ suc (length older) = omega arith in
    subst (λ k. (if is_exchange (next_move s log older) then calls_of s log older + 1 else calls_of s log older) ≤ k) e (one_more_call (is_exchange (next_move s log older)) (calls_of s log older) (length older) (calls_few s log older))

with_few : (a : Option Act) (acts : List Act) → length (with_act a acts) ≤ length acts + 1
with_few None acts = omega arith
with_few (Some a) acts = omega arith

with_one : (a : Option Act) (acts : List Act) → is_some_act a ≡ true → length (with_act a acts) ≡ length acts + 1
with_one None acts h = absurd cc
with_one (Some a) acts h = omega arith

with_none : (a : Option Act) (acts : List Act) → is_some_act a ≡ false → length (with_act a acts) ≡ length acts
with_none None acts h = refl
with_none (Some a) acts h = absurd cc

record_now : (t : Turned) (turns : List Turned) (n : ℕ) → t.renderer ≡ n → record_of n (t ∷ turns) ≡ with_act t.act (record_of n turns)
record_now t turns n e = subst (λ k. record_of k (t ∷ turns) ≡ with_act t.act (record_of k turns)) e (record_own t turns)

-- SEATS

left_after : (seats : List Seat) (i : ℕ) (x y : Seat) → slice_get seats i ≡ Some x → acts_left (slice_set seats i y) + (40000 - length x.holds.acts) ≡ acts_left seats + (40000 - length y.holds.acts)
left_after [] i x y h = absurd cc
left_after (z ∷ seats) zero x y h = let e : z ≡ x = cc in let f = ap (λ (q : Seat). length q.holds.acts) e in omega arith
left_after (z ∷ seats) (suc i) x y h = omega (arith, left_after seats i x y h)

told_not : (s : Session) (q : ℕ) (t : Turned) (older : List Turned) → t.renderer ≢ q → told_length s q (t ∷ older) ≡ told_length s q older
unfolding told_length
told_not s q t older other = elim (eqb_tells t.renderer q) [ inl p ↦ absurd (other p.1) | inr p ↦ rw p.0 refl ]

-- LEGAL

pub within_of : (s : Session) (r : ℕ) (turns : List Turned) → ArePlayed s turns → Within (length (log_of s turns)) (record_of r turns)
within_of s r turns played = let legal = legal_record s r turns played in acts_within s r (log_of s turns) (record_of r turns) legal.0 legal.1

pub legal_of : (s : Session) (r : ℕ) (turns : List Turned) → IsPlayable s → ArePlayed s turns → IsLegal s r (log_of s turns) (record_of r turns)
legal_of s r turns can played =
    let bound = played_bounded s turns played (omega (arith, can.starts)) (omega (arith, can.few)) in
    record {
      admitted = played_admitted s turns played bound;
      short = bound;
      log_is = legal_log s turns played;
      actors = played_actors s turns can.web played bound;
      record_is = legal_record s r turns played;
    }

-- a renderer that has stopped stays so
stays_still : (s : Session) (log : List Entry) (acts : List Act) → has_stopped acts ≡ true → next_move s log acts ≡ Stays
unfolding next_move
stays_still s log acts h = ap (λ b. if b then Stays else move_of (sight s log acts) (step_left s log acts)) h

and_false : (b : Bool) → (b && false) ≡ false
and_false true = refl
and_false false = refl

loses_nothing : (s : Session) (r : ℕ) (log : List Entry) (acts : List Act) → next_move s log acts ≡ Stays → is_losing s r log acts ≡ false
unfolding is_losing
loses_nothing s r log acts e =
    ap (λ (k : Move). is_named (lose_of s r) (calls_of s log acts) (counts log r k) && is_exchange k) e ∙ and_false (is_named (lose_of s r) (calls_of s log acts) (counts log r Stays))

-- A TURN OF RENDERER n

module _ (s : Session) (turns : List Turned) (before : Coordinator) (seats : List Seat) (n : ℕ) (x : Seat) (can : IsPlayable s) (u : IsUnderway s turns before seats) (due : next_renderer s turns ≡ Some n)
    (here : slice_get seats n ≡ Some x) (within : n < length seats) where
  mine : x.holds.renderer ≡ n
  mine = (u.seated n x here).0

  -- another renderer after the turn
  other_goes : (t : Turned) (after : Coordinator) → n ≡ t.renderer → ((q : ℕ) → (q ≡ n → ⊥) → desk.told_of after.history q ≡ desk.told_of before.history q) → (q : ℕ) (z : Seat) → n ≢ q → Goes s turns before q z → Goes s (t ∷ turns) after q z
  other_goes t after same others q z other g =
      let not_it : t.renderer ≢ q = λ e. other (same ∙ e) in
      let w = within_of s q turns u.played in
      record {
        told = others q (λ e. other (sym e)) ∙ g.told ∙ sym (told_not s q t turns not_it);
        keeps = subst (λ (g : List Entry). Keeps s q g (record_of q (t ∷ turns)) (told_length s q (t ∷ turns)) z.holds) (sym (log_more s t turns))
            (subst (λ k. Keeps s q (t.own ++ log_of s turns) (record_of q (t ∷ turns)) k z.holds) (sym (told_not s q t turns not_it))
            (subst (λ (a : List Act). Keeps s q (t.own ++ log_of s turns) a (told_length s q turns) z.holds) (sym (record_not q t turns not_it))
            (kept_other s q t.own (log_of s turns) (record_of q turns) (told_length s q turns) z.holds w g.keeps)));
        calls = g.calls ∙ sym (calls_grown s t.own (log_of s turns) (record_of q turns) w) ∙ ap (calls_of s (t.own ++ log_of s turns)) (sym (record_not q t turns not_it)) ∙ ap (λ (g : List Entry). calls_of s g (record_of q (t ∷ turns))) (sym (log_more s t turns));
      }

  other_rests : (t : Turned) → n ≡ t.renderer → (q : ℕ) (z : Seat) → n ≢ q → Rests turns q z → Rests (t ∷ turns) q z
  other_rests t same q z other r =
      let e = sym (record_not q t turns (λ k. other (same ∙ k))) in
      record { stopped = subst (λ (a : List Act). has_stopped a ≡ true) e r.stopped; acts = r.acts ∙ e }

  -- all seats after the turn, where the renderer's own is this one
  all_seated : (t : Turned) (after : Coordinator) (y : Seat) → n ≡ t.renderer → ((q : ℕ) → (q ≡ n → ⊥) → desk.told_of after.history q ≡ desk.told_of before.history q) → y.holds.renderer ≡ n
      → (Goes s (t ∷ turns) after n y ⊎ Rests (t ∷ turns) n y) → (q : ℕ) (z : Seat) → slice_get (slice_set seats n y) q ≡ Some z → IsSeated s (t ∷ turns) after q z
  all_seated t after y same others number own q z at = elim (eqb_tells n q) [
    | inl p ↦
        let at_n : slice_get (slice_set seats n y) n ≡ Some z = subst (λ k. slice_get (slice_set seats n y) k ≡ Some z) (sym p.1) at in
        let e : Some y ≡ Some z = sym (set_same seats n y within) ∙ at_n in
        let z_is : y ≡ z = cc in
        subst (λ k. IsSeated s (t ∷ turns) after k z) p.1 (subst (IsSeated s (t ∷ turns) after n) z_is (number, own))
    | inr p ↦
        let before_is = u.seated q z (sym (set_other seats n q y p.1) ∙ at) in
        (before_is.0, elim before_is.1 [ inl g ↦ inl (other_goes t after same others q z p.1 g) | inr r ↦ inr (other_rests t same q z p.1 r) ])
  ]

  more : (t : Turned) (after : Coordinator) (y : Seat) → t.renderer ≡ n → IsTurn s turns t → IsAfter s (t ∷ turns) after → ((q : ℕ) → (q ≡ n → ⊥) → desk.told_of after.history q ≡ desk.told_of before.history q) → y.holds.renderer ≡ n
      → (Goes s (t ∷ turns) after n y ⊎ Rests (t ∷ turns) n y) → IsUnderway s (t ∷ turns) after (slice_set seats n y)
  more t after y same is now others number own = record {
    played = (is, u.played);
    now = now;
    count = set_length seats n y ∙ u.count;
    seated = all_seated t after y (sym same) others number own;
  }

  -- what is left where a limit was met
  left : (after : Coordinator) (y : Seat) → IsAfter s turns after → y.holds.acts ≡ record_of n turns → y.holds.renderer ≡ n → HasLeft s turns (desk.log_of after.history) (slice_set seats n y)
  left after y now acts number = record {
    played = u.played;
    log_is = now.log;
    records_are = λ q z at. elim (eqb_tells n q) [
      | inl p ↦
          let at_n : slice_get (slice_set seats n y) n ≡ Some z = subst (λ k. slice_get (slice_set seats n y) k ≡ Some z) (sym p.1) at in
          let e : Some y ≡ Some z = sym (set_same seats n y within) ∙ at_n in
          let z_is : y ≡ z = cc in
          subst (λ k. z.holds.acts ≡ record_of k turns) p.1 (ap (λ (q : Seat). q.holds.acts) (sym z_is) ∙ acts)
      | inr p ↦ elim (u.seated q z (sym (set_other seats n q y p.1) ∙ at)).1 [ inl g ↦ g.keeps.acts_are | inr r ↦ r.acts ]
    ];
    numbered = λ q z at. elim (eqb_tells n q) [
      | inl p ↦
          let at_n : slice_get (slice_set seats n y) n ≡ Some z = subst (λ k. slice_get (slice_set seats n y) k ≡ Some z) (sym p.1) at in
          let e : Some y ≡ Some z = sym (set_same seats n y within) ∙ at_n in
          let z_is : y ≡ z = cc in
          ap (λ (q : Seat). q.holds.renderer) (sym z_is) ∙ number ∙ p.1
      | inr p ↦ (u.seated q z (sym (set_other seats n q y p.1) ∙ at)).0
    ];
    count = set_length seats n y ∙ u.count;
  }

  -- one that goes on
  goes : has_stopped x.holds.acts ≡ false → Goes s turns before n x
  goes on = elim (u.seated n x here).1 [ inl g ↦ g | inr r ↦ (let clash : true ≡ false = sym r.stopped ∙ ap has_stopped (sym r.acts) ∙ on in absurd cc) ]

  -- the seat after a step, with its calls counted in full
  abbrev counted_in : Seat → ℕ → Seat
  counted_in y calls = record y { calls = x.calls + calls }

  few_calls : (t : Turned) → t.renderer ≡ n → IsTurn s turns t → has_stopped (record_of n turns) ≡ false → (k : ℕ) → k ≡ calls_of s (log_of s (t ∷ turns)) (record_of n (t ∷ turns)) → k ≤ 40001
  few_calls t same is on k e =
      let few = calls_few s (log_of s (t ∷ turns)) (record_of n (t ∷ turns)) in
      let one = with_few t.act (record_of n turns) in
      let short : length (record_of n turns) < most_acts = subst (λ r. length (record_of r turns) < most_acts) same (is.fewer (subst (λ r. has_stopped (record_of r turns) ≡ false) (sym same) on)) in
      omega (arith, e, few, one, short, ap length (record_now t turns n same))

  module _ (y : Seat) (mid after : Coordinator) (calls : ℕ) (on : has_stopped x.holds.acts ≡ false) (number : y.holds.renderer ≡ n) (counted : y.calls ≡ min (x.calls + calls) (2 ^ 32 - 1))
      (others : (q : ℕ) → (q ≡ n → ⊥) → desk.told_of mid.history q ≡ desk.told_of before.history q) where
    on_record : has_stopped (record_of n turns) ≡ false
    on_record = ap has_stopped (sym (goes on).keeps.acts_are) ∙ on

    -- the calls that were counted
    exact : (t : Turned) → t.renderer ≡ n → IsTurn s turns t → Goes s (t ∷ turns) mid n (counted_in y calls) → Goes s (t ∷ turns) mid n y
    exact t same is g =
        let few = few_calls t same is on_record (x.calls + calls) g.calls in
        let all : y.calls ≡ x.calls + calls = omega (arith, counted, few) in
        record { told = g.told; keeps = g.keeps; calls = all ∙ g.calls }

    turn_of : (acted : Bool) → (h : HasTurned acted s turns n mid (counted_in y calls)) → after ≡ mid → HasTurn s turns n acted after (slice_set seats n y)
    turn_of acted h same =
        subst (λ (c : Coordinator). HasTurn s turns n acted c (slice_set seats n y)) (sym same)
        (record { turn = h.turn; renderer = h.renderer; acts = h.acts; underway = more h.turn mid y h.renderer h.is h.now others number (inl (exact h.turn h.renderer h.is h.goes)) })

    fewer_left : (t : Turned) → t.renderer ≡ n → IsTurn s turns t → has_act t ≡ true → y.holds.acts ≡ record_of n (t ∷ turns) → acts_left (slice_set seats n y) < acts_left seats
    fewer_left t same is some acts =
        let now = left_after seats n x y here in
        let one = with_one t.act (record_of n turns) some in
        let short : length (record_of n turns) < most_acts = subst (λ r. length (record_of r turns) < most_acts) same (is.fewer (subst (λ r. has_stopped (record_of r turns) ≡ false) (sym same) on_record)) in
        omega (arith, now, one, short, ap length acts, ap length (record_now t turns n same), ap length (goes on).keeps.acts_are)

    same_left : (t : Turned) → t.renderer ≡ n → has_act t ≡ false → y.holds.acts ≡ record_of n (t ∷ turns) → acts_left (slice_set seats n y) ≤ acts_left seats
    same_left t same none acts =
        let now = left_after seats n x y here in
        let one = with_none t.act (record_of n turns) none in
        omega (arith, now, one, ap length acts, ap length (record_now t turns n same), ap length (goes on).keeps.acts_are)

    lost_turn : IsLost s turns n mid (counted_in y calls) → LosesIt Stopped n mid after → HasTurn s turns n true after (slice_set seats n y)
    lost_turn h l = record {
      turn = h.turn;
      renderer = h.renderer;
      acts = h.acts;
      underway = more h.turn after y h.renderer h.is (record { rules = l.rules ∙ h.rules; log = ap desk.log_of l.history ∙ sym h.log; serves = l.serves })
          (λ q other. ap (λ (items : List Item). desk.told_of items q) l.history ∙ others q other) number (inr (record { stopped = h.rests.stopped; acts = h.rests.acts }));
    }

    ends : (turn : Turn) → TurnIs s turns n turn mid (counted_in y calls) → LosesIt turn n mid after → TurnEnds s turns n seats turn after (slice_set seats n y)
    ends Acted h l = (turn_of true h l, fewer_left h.turn h.renderer h.is h.acts h.goes.keeps.acts_are)
    ends Idle h l = (turn_of false h l, same_left h.turn h.renderer h.acts h.goes.keeps.acts_are)
    ends Stopped h l = (lost_turn h l, fewer_left h.turn h.renderer h.is h.acts h.rests.acts)
    ends (Full len) h l = (h.0, left after y (subst (IsAfter s turns) (sym l) h.1) h.2 number)
    ends ActsFull h l = (h.0, left after y (subst (IsAfter s turns) (sym l) h.1) h.2 number)
    ends (BadReply place) h l = absurd h

  pub stepped : (y : Seat) (after : Coordinator) (turn : Turn) → has_stopped x.holds.acts ≡ false → y.holds.renderer ≡ n → HasStepped n (lose_of s n) x before turn y after → TurnEnds s turns n seats turn after (slice_set seats n y)
  stepped y after turn on number h =
      let there : n < s.renderers = omega (arith, within, u.count) in
      let is = step_is_turn s turns n x (counted_in y h.calls) before h.mid turn h.calls u.played due there (legal_of s n turns can u.played) u.now (goes on) refl h.step in
      ends y h.mid after h.calls on number h.counted (step_others (nat_le most_acts (length x.holds.acts)) n (number_of (lose_of s n) x.calls) (is_served (lose_of s n)) x.holds before turn y.holds h.mid h.calls h.step) turn is h.lost

  -- one that has stopped
  pub rested : has_stopped x.holds.acts ≡ true → TurnEnds s turns n seats Idle before seats
  rested stopped =
      let t : Turned = record { renderer = n; act = None; own = [] } in
      let r : Rests turns n x = elim (u.seated n x here).1 [ inl g ↦ (let clash : true ≡ false = sym stopped ∙ ap has_stopped g.keeps.acts_are ∙ g.keeps.goes_on in absurd cc) | inr r ↦ r ] in
      let stays : next_move s (log_of s turns) (record_of n turns) ≡ Stays = stays_still s (log_of s turns) (record_of n turns) r.stopped in
      let unlost : is_losing s n (log_of s turns) (record_of n turns) ≡ false = loses_nothing s n (log_of s turns) (record_of n turns) stays in
      let is : IsTurn s turns t = record {
        due = due;
        there = omega (arith, within, u.count);
        fewer = λ on. (let clash : true ≡ false = sym r.stopped ∙ on in absurd cc);
        room = λ h. (let clash : false ≡ true = sym (ap (needs_room (tree_of (log_of s turns)) n) stays) ∙ h.1 in absurd cc);
        plays = subst (λ b. Plays b s n (log_of s turns) (record_of n turns) (told_length s n turns) None []) (sym unlost) (inl stays, refl);
      } in
      let rests : Rests (t ∷ turns) n x = record { stopped = subst (λ (a : List Act). has_stopped a ≡ true) (sym (record_own t turns)) r.stopped; acts = r.acts ∙ sym (record_own t turns) } in (
        record {
          turn = t;
          renderer = refl;
          acts = refl;
          underway = record {
            played = (is, u.played);
            now = record { rules = u.now.rules; log = u.now.log ∙ sym (log_more s t turns); serves = u.now.serves };
            count = u.count;
            seated = λ q z at. elim (eqb_tells n q) [
              | inl p ↦
                  let e : Some x ≡ Some z = sym here ∙ subst (λ k. slice_get seats k ≡ Some z) (sym p.1) at in
                  let z_is : x ≡ z = cc in
                  subst (λ k. IsSeated s (t ∷ turns) before k z) p.1 (subst (IsSeated s (t ∷ turns) before n) z_is (mine, inr rests))
              | inr p ↦
                  let was = u.seated q z at in
                  (was.0, elim was.1 [ inl g ↦ inl (other_goes t before refl (λ k other. refl) q z p.1 g) | inr r ↦ inr (other_rests t refl q z p.1 r) ])
            ];
          };
        },
        omega arith,
      )
