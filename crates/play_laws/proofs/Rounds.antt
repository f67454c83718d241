-- Whose turn is next.
use Rattle.std.proofs.Common.{◌≡◌, ℕ, suc, ◌+◌, ◌-◌, ◌*◌, ◌<◌, ◌≤◌, List, [], ◌∷◌, ◌++◌, length, take, Option, Some, None, Bool, true, false, not, refl, sym, ap, subst, ◌∙◌, arith, add-one, inl, inr}
use Rattle.std.specs.Prelude.{slice_get, nat_lt, ◌==◌, ◌&&◌, ◌||◌, if◌then◌else◌}
use Rattle.std.specs.List.{list_any}
use Rattle.std.proofs.lemmas.Bool.{cases_lt, ne_eqb}
use Rattle.std.proofs.lemmas.Bool.Decides.{nat_tests, eqb_tells}
use Rattle.std.proofs.lemmas.Nat.{mod-mul-add}
use Rattle.std.proofs.Math.Nat.{mul-mod_left}
use Rattle.tree_log.specs.declared.entry.Entry.{Entry}
use Rattle.agent_terms.specs.declared.session.Session.{Session}
use Rattle.agent_terms.specs.declared.act.Act.{Act}
use Rattle.agent_terms.specs.declared.act.Ending.TheVariants as ending
use Rattle.single_agent.specs.Turns.{Turned, has_act, is_some_act, next_renderer, next_in_rounds, log_of, record_of, told_length, with_act, is_losing, loses_next, HasNothing, Plays, IsTurn, Rests}
use Rattle.single_agent.specs.Lengths.{newest_length}
use Rattle.single_agent.specs.NextMove.{next_move}
use Rattle.renderer.specs.declared.turn.Turn.TheVariants.{Idle}
use Rattle.desk.specs.History as desk
use Rattle.desk.specs.Serving.{Coordinator}
use Rattle.turn_laws.specs.Playing.{Seat}
use Rattle.play_laws.specs.Underway.{GoesOn, HasEnded, HasLeft, HasTurn, IsUnderway, acts_left, TurnEnds, AtRound}
use Rattle.single_agent.proofs.Played.{lost_exchanges, no_lost_act}

lt_true : (a b : ℕ) → a < b → nat_lt a b ≡ true
lt_true a b h = grind (arith, nat_tests)

lt_false : (a b : ℕ) → b ≤ a → nat_lt a b ≡ false
lt_false a b h = grind (arith, nat_tests)

past_order : (s : Session) (turns : List Turned) (made : ℕ) → length turns ≡ length s.order + made → next_renderer s turns ≡ next_in_rounds s.renderers made turns
unfolding next_renderer
past_order s turns made e =
    let f : nat_lt (length turns) (length s.order) ≡ false = lt_false (length turns) (length s.order) (omega arith) in
    let g : length turns - length s.order ≡ made = omega arith in
    rw f (ap (λ k. next_in_rounds s.renderers k turns) g)

-- within a round
pub due_within : (s : Session) (turns : List Turned) (k j : ℕ) → length turns ≡ length s.order + (k * s.renderers + j) → 0 < j → j < s.renderers → next_renderer s turns ≡ Some j
due_within s turns k j e pos lt =
    past_order s turns (k * s.renderers + j) e
    ∙ ap (λ q. if (q == 0) && nat_lt 0 (k * s.renderers + j) && not (list_any has_act (take s.renderers turns)) then None else Some q) (mod-mul-add k s.renderers j lt)
    ∙ ap (λ b. if b && nat_lt 0 (k * s.renderers + j) && not (list_any has_act (take s.renderers turns)) then None else Some j) (ne_eqb j 0 (λ z. absurd (omega arith)))

-- after a round
after_round : (s : Session) (turns : List Turned) (k : ℕ) → 0 < s.renderers → length turns ≡ length s.order + suc k * s.renderers
    → next_renderer s turns ≡ (if not (list_any has_act (take s.renderers turns)) then None else Some 0)
after_round s turns k some e =
    let big : 0 < suc k * s.renderers = grind arith in
    past_order s turns (suc k * s.renderers) e
    ∙ ap (λ q. if (q == 0) && nat_lt 0 (suc k * s.renderers) && not (list_any has_act (take s.renderers turns)) then None else Some q) (mul-mod_left (suc k) s.renderers)
    ∙ ap (λ b. if b && not (list_any has_act (take s.renderers turns)) then None else Some 0) (lt_true 0 (suc k * s.renderers) big)

pub due_order : (s : Session) (turns : List Turned) (i n : ℕ) → length turns ≡ i → slice_get s.order i ≡ Some n → i < length s.order → next_renderer s turns ≡ Some n
unfolding next_renderer
due_order s turns i n e at lt =
    let f : nat_lt (length turns) (length s.order) ≡ true = lt_true (length turns) (length s.order) (omega arith) in
    rw f (ap (slice_get s.order) e ∙ at)

pub due_first : (s : Session) (turns : List Turned) → 0 < s.renderers → length turns ≡ length s.order → AtRound s turns
due_first s turns some e = record {
  rounds = 0;
  count = omega arith;
  due =
      past_order s turns (0 * s.renderers + 0) (omega arith)
      ∙ ap (λ q. if (q == 0) && nat_lt 0 (0 * s.renderers + 0) && not (list_any has_act (take s.renderers turns)) then None else Some q) (mod-mul-add 0 s.renderers 0 some)
      ∙ ap (λ b. if b && not (list_any has_act (take s.renderers turns)) then None else Some 0) (lt_false 0 (0 * s.renderers + 0) (omega arith));
}

-- the turns of a round so far
pub record InRound (s : Session) (old : List Seat) (number : ℕ) (acted : Bool) (c : Coordinator) (seats : List Seat) : Type 0 where
  pub turns : List Turned
  pub underway : IsUnderway s turns c seats
  pub rounds : ℕ
  pub count : length turns ≡ length s.order + (rounds * s.renderers + number)
  pub flag : list_any has_act (take number turns) ≡ acted
  pub due : number < s.renderers → next_renderer s turns ≡ Some number
  pub least : acts_left seats ≤ acts_left old
  pub less : acted ≡ true → acts_left seats < acts_left old
  pub rest : acted ≡ false → (r : ℕ) → r < number → Rests s turns r

flag_more : (number : ℕ) (t : Turned) (turns : List Turned) (b a : Bool) → has_act t ≡ b → list_any has_act (take number turns) ≡ a → list_any has_act (take (number + 1) (t ∷ turns)) ≡ (b || a)
flag_more number t turns b a p q =
    ap (λ k. list_any has_act (take k (t ∷ turns))) (add-one number) ∙ ap (λ x. x || list_any has_act (take number turns)) p ∙ ap (λ x. b || x) q

-- a turn without an act has nothing to do
idle_does : (lost : Bool) (s : Session) (r : ℕ) (log : List Entry) (acts : List Act) (told : ℕ) (act : Option Act) (own : List Entry) → is_losing s r log acts ≡ lost → Plays lost s r log acts told act own → is_some_act act ≡ false
    → HasNothing s r log acts × (own ≡ []) × (act ≡ None)
idle_does lost s r log acts told (Some a) own l h e = absurd cc
idle_does true s r log acts told None own l h e = absurd (no_lost_act (newest_length acts) told (next_move s log acts) (lost_exchanges s r log acts l) h.0)
idle_does false s r log acts told None own l h e = (h.0, h.1, refl)

idle_turn : (s : Session) (turns : List Turned) (t : Turned) → IsTurn s turns t → has_act t ≡ false → Rests s turns t.renderer × (t.own ≡ []) × (t.act ≡ None)
idle_turn s turns t h e =
    idle_does (loses_next s turns t.renderer) s t.renderer (log_of s turns) (record_of t.renderer turns) (told_length s t.renderer turns) t.act t.own refl h.plays e

same_record : (r : ℕ) (t : Turned) (turns : List Turned) → t.act ≡ None → record_of r turns ≡ record_of r (t ∷ turns)
unfolding record_of
same_record r t turns e = elim (eqb_tells t.renderer r) [ inl p ↦ rw p.0 (sym (ap (λ a. with_act a (record_of r turns)) e)) | inr p ↦ rw p.0 refl ]

same_log : (s : Session) (t : Turned) (turns : List Turned) → t.own ≡ [] → log_of s turns ≡ log_of s (t ∷ turns)
unfolding log_of
same_log s t turns e = sym (ap (λ (o : List Entry). o ++ log_of s turns) e)

still_rests : (s : Session) (turns : List Turned) (t : Turned) (r : ℕ) → t.own ≡ [] → t.act ≡ None → Rests s turns r → Rests s (t ∷ turns) r
still_rests s turns t r own act h =
    subst (λ (g : List Entry). HasNothing s r g (record_of r (t ∷ turns))) (same_log s t turns own) (subst (HasNothing s r (log_of s turns)) (same_record r t turns act) h)

-- what the renderers of a play under way have made
pub left_of : (s : Session) (turns : List Turned) (c : Coordinator) (seats : List Seat) → IsUnderway s turns c seats → HasLeft s turns (desk.log_of c.history) seats
left_of s turns c seats u = record {
  played = u.played;
  log_is = u.now.log;
  records_are = λ r x at. elim (u.seated r x at).1 [ inl g ↦ g.keeps.acts_are | inr k ↦ k.acts ];
  numbered = λ r x at. (u.seated r x at).0;
  count = u.count;
}

pub round_begins : (s : Session) (c : Coordinator) (seats : List Seat) → GoesOn s c seats → InRound s seats 0 false c seats
round_begins s c seats g = record {
  turns = g.turns;
  underway = g.underway;
  rounds = g.at.rounds;
  count = omega (arith, g.at.count);
  flag = refl;
  due = λ h. g.at.due;
  least = omega arith;
  less = λ e. absurd cc;
  rest = λ e r lt. absurd (omega arith);
}

pub round_acted : (s : Session) (old : List Seat) (number : ℕ) (acted : Bool) (c d : Coordinator) (seats seats' : List Seat) → (h : InRound s old number acted c seats) → HasTurn s h.turns number true d seats' × (acts_left seats' < acts_left seats)
    → InRound s old (number + 1) true d seats'
round_acted s old number acted c d seats seats' h e =
    let t = e.0.turn in
    let count : length (t ∷ h.turns) ≡ length s.order + (h.rounds * s.renderers + (number + 1)) = omega (arith, h.count) in
    record {
      turns = t ∷ h.turns;
      underway = e.0.underway;
      rounds = h.rounds;
      count = count;
      flag = flag_more number t h.turns true acted e.0.acts h.flag;
      due = λ lt. due_within s (t ∷ h.turns) h.rounds (number + 1) count (omega arith) lt;
      least = omega (arith, e.1, h.least);
      less = λ q. omega (arith, e.1, h.least);
      rest = λ q. absurd cc;
    }

pub round_idle : (s : Session) (old : List Seat) (number : ℕ) (acted : Bool) (c d : Coordinator) (seats seats' : List Seat) → (h : InRound s old number acted c seats) → TurnEnds s h.turns number seats Idle d seats'
    → InRound s old (number + 1) acted d seats'
round_idle s old number acted c d seats seats' h e =
    let t = e.0.turn in
    let count : length (t ∷ h.turns) ≡ length s.order + (h.rounds * s.renderers + (number + 1)) = omega (arith, h.count) in
    record {
      turns = t ∷ h.turns;
      underway = e.0.underway;
      rounds = h.rounds;
      count = count;
      flag = flag_more number t h.turns false acted e.0.acts h.flag;
      due = λ lt. due_within s (t ∷ h.turns) h.rounds (number + 1) count (omega arith) lt;
      least = omega (arith, e.1, h.least);
      less = λ q. omega (arith, e.1, h.less q);
      rest = λ q r lt.
          let idle = idle_turn s h.turns t e.0.underway.played.0 e.0.acts in
          still_rests s h.turns t r idle.1 idle.2 (elim (cases_lt r number) [
            | inl below ↦ h.rest q r below
            | inr above ↦
                let same : t.renderer ≡ r = omega (arith, e.0.renderer) in
                subst (Rests s h.turns) same idle.0
          ]);
    }

whole_round : (s : Session) (old : List Seat) (number : ℕ) (acted : Bool) (c : Coordinator) (seats : List Seat) → (h : InRound s old number acted c seats) → number ≡ s.renderers → 0 < s.renderers
    → next_renderer s h.turns ≡ (if not acted then None else Some 0)
whole_round s old number acted c seats h e some =
    after_round s h.turns h.rounds some (h.count ∙ ap (λ k. length s.order + (h.rounds * s.renderers + k)) e ∙ (grind arith))
    ∙ ap (λ b. if not b then None else Some 0) (ap (λ k. list_any has_act (take k h.turns)) (sym e) ∙ h.flag)

pub ends_quiet : (s : Session) (old : List Seat) (number : ℕ) (acted : Bool) (c : Coordinator) (seats : List Seat) → acted ≡ false → InRound s old number acted c seats → number ≡ s.renderers → 0 < s.renderers
    → HasEnded s ending.Done (desk.log_of c.history) seats
ends_quiet s old number true c seats e h n some = absurd cc
ends_quiet s old number false c seats e h n some = record { turns = h.turns; left = left_of s h.turns c seats h.underway; ends = (whole_round s old number false c seats h n some, λ r lt. h.rest refl r (omega arith)) }

pub ends_acted : (s : Session) (old : List Seat) (number : ℕ) (acted : Bool) (c : Coordinator) (seats : List Seat) → acted ≡ true → InRound s old number acted c seats → number ≡ s.renderers → 0 < s.renderers → GoesOn s c seats × (acts_left seats < acts_left old)
ends_acted s old number false c seats e h n some = absurd cc
ends_acted s old number true c seats e h n some = (
  record {
    turns = h.turns;
    underway = h.underway;
    at = record { rounds = suc h.rounds; count = h.count ∙ ap (λ k. length s.order + (h.rounds * s.renderers + k)) n ∙ (grind arith); due = whole_round s old number true c seats h n some };
  },
  h.less refl,
)

-- the turns of the order so far
pub record InOrder (s : Session) (i : ℕ) (c : Coordinator) (seats : List Seat) : Type 0 where
  pub turns : List Turned
  pub underway : IsUnderway s turns c seats
  pub count : length turns ≡ i

pub order_goes_on : (s : Session) (i r : ℕ) (acted : Bool) (old : List Seat) (c d : Coordinator) (seats : List Seat) → (h : InOrder s i c old) → HasTurn s h.turns r acted d seats → InOrder s (i + 1) d seats
order_goes_on s i r acted old c d seats h t = record { turns = t.turn ∷ h.turns; underway = t.underway; count = omega (arith, h.count) }

pub order_ends : (s : Session) (c : Coordinator) (seats : List Seat) (i : ℕ) → 0 < s.renderers → InOrder s i c seats → i ≡ length s.order → GoesOn s c seats
order_ends s c seats i some h e = record { turns = h.turns; underway = h.underway; at = due_first s h.turns some (h.count ∙ e) }
