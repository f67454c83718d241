-- A renderer that has stopped does nothing, and each loss stops one that went on.
use Rattle.std.proofs.Common.{◌≡◌, ℕ, zero, suc, ◌+◌, ◌<◌, ◌≤◌, List, ◌∷◌, Option, Some, None, Bool, true, false, refl, sym, ap, subst, ◌∙◌, arith, inl, inr}
use Rattle.std.proofs.lemmas.Bool.{false≢true, cases_lt}
use Rattle.std.proofs.lemmas.Bool.Decides.{eqb_tells}
use Rattle.tree_log.specs.declared.entry.Entry.{Entry}
use Rattle.tree_log.proofs.Admitted.{both}
use Rattle.agent_terms.specs.declared.session.Session.{Session}
use Rattle.agent_terms.specs.declared.act.Act.{Act}
use Rattle.agent_terms.specs.declared.act.Move.{Move}
use Rattle.agent_terms.specs.declared.act.Move.TheVariants.{Answers, Asks, Takes, Stays}
use Rattle.coordinator_rules.specs.Decision.{rules_of}
use Rattle.single_agent.specs.Session.{lose_of}
use Rattle.single_agent.specs.Lengths.{newest_length, has_stopped}
use Rattle.single_agent.specs.NextMove.{next_move}
use Rattle.single_agent.specs.LostAct.{lost_act}
use Rattle.single_agent.specs.NextAct.{MovesTo}
use Rattle.single_agent.specs.Turns.{Turned, log_of, with_act, record_of, is_exchange, calls_of, counts, is_named, is_losing, loses_next, told_length, Plays, IsTurn}
use Rattle.single_agent.proofs.Played.{record_own, record_not}

-- HOW MANY

abbrev one_if : Bool → ℕ
one_if true = 1
one_if false = 0

-- how many numbers below n are so
abbrev pub how_many : (ℕ → Bool) → ℕ → ℕ
how_many f zero = 0
how_many f (suc n) = one_if (f n) + how_many f n

one_at_most : (b : Bool) → one_if b ≤ 1
one_at_most true = omega arith
one_at_most false = omega arith

pub at_most_all : (f : ℕ → Bool) (n : ℕ) → how_many f n ≤ n
at_most_all f zero = omega arith
at_most_all f (suc n) =
    let one : one_if (f n) ≤ 1 = one_at_most (f n) in
    let rest : how_many f n ≤ n = at_most_all f n in
    omega arith

-- what is so the one way is so the other
abbrev Implies : (ℕ → Bool) → (ℕ → Bool) → Type 0
Implies f g = (k : ℕ) → f k ≡ true → g k ≡ true

one_implied : (a b : Bool) → (a ≡ true → b ≡ true) → one_if a ≤ one_if b
one_implied true true h = omega arith
one_implied true false h = absurd (false≢true (h refl))
one_implied false true h = omega arith
one_implied false false h = omega arith

no_fewer : (f g : ℕ → Bool) → Implies f g → (n : ℕ) → how_many f n ≤ how_many g n
no_fewer f g h zero = omega arith
no_fewer f g h (suc n) =
    let one : one_if (f n) ≤ one_if (g n) = one_implied (f n) (g n) (h n) in
    let rest : how_many f n ≤ how_many g n = no_fewer f g h n in
    omega arith

one_new : (f g : ℕ → Bool) → Implies f g → (r : ℕ) → f r ≡ false → g r ≡ true → (n : ℕ) → r < n → how_many f n + 1 ≤ how_many g n
one_new f g h r was is_now zero lt = absurd (omega arith)
one_new f g h r was is_now (suc n) lt =
    elim (cases_lt r n) as (λ _. one_if (f n) + how_many f n + 1 ≤ one_if (g n) + how_many g n) [
      | inl below ↦
          let one : one_if (f n) ≤ one_if (g n) = one_implied (f n) (g n) (h n) in
          let rest : how_many f n + 1 ≤ how_many g n = one_new f g h r was is_now n below in
          omega arith
      | inr above ↦
          let same : n ≡ r = omega arith in
          let none : one_if (f n) ≡ 0 = ap one_if (ap f same ∙ was) in
          let one : one_if (g n) ≡ 1 = ap one_if (ap g same ∙ is_now) in
          let rest : how_many f n ≤ how_many g n = no_fewer f g h n in
          omega arith
    ]

-- TURNS

-- whether renderer k has stopped
abbrev pub stopped : List Turned → ℕ → Bool
stopped turns k = has_stopped (record_of k turns)

stays : (s : Session) (log : List Entry) (acts : List Act) → has_stopped acts ≡ true → next_move s log acts ≡ Stays
unfolding next_move
stays s log acts h = rw h refl

nothing_done : (lost : Bool) (s : Session) (r : ℕ) (log : List Entry) (acts : List Act) (told : ℕ) (act : Option Act) (own : List Entry) → has_stopped acts ≡ true → Plays lost s r log acts told act own → act ≡ None
nothing_done true s r log acts told act own h p = p.0 ∙ ap (lost_act (newest_length acts) told) (stays s log acts h)
nothing_done false s r log acts told None own h p = refl
nothing_done false s r log acts told (Some act) own h p = absurd (subst (λ (m : Move). MovesTo (rules_of s) r log acts m act own) (stays s log acts h) p.0)

own_stays : (s : Session) (older : List Turned) (t : Turned) → IsTurn s older t → stopped older t.renderer ≡ true → stopped (t ∷ older) t.renderer ≡ true
own_stays s older t turn h =
    ap has_stopped (record_own t older)
    ∙ ap (λ (o : Option Act). has_stopped (with_act o (record_of t.renderer older)))
    (nothing_done (loses_next s older t.renderer) s t.renderer (log_of s older) (record_of t.renderer older) (told_length s t.renderer older) t.act t.own h turn.plays)
    ∙ h

-- who has stopped stays so
stopped_stays : (s : Session) (older : List Turned) (t : Turned) → IsTurn s older t → Implies (stopped older) (stopped (t ∷ older))
stopped_stays s older t turn k h =
    elim (eqb_tells t.renderer k) as (λ _. stopped (t ∷ older) k ≡ true) [
      | inl p ↦ subst (λ (x : ℕ). stopped older x ≡ true → stopped (t ∷ older) x ≡ true) p.1 (own_stays s older t turn) h
      | inr p ↦ ap has_stopped (record_not k t older p.1) ∙ h
    ]

pub none_starts : (s : Session) (older : List Turned) (t : Turned) → IsTurn s older t → (n : ℕ) → how_many (stopped older) n ≤ how_many (stopped (t ∷ older)) n
none_starts s older t turn n = no_fewer (stopped older) (stopped (t ∷ older)) (stopped_stays s older t turn) n

-- LOSSES

-- an exchange that is lost is one of a move that makes an exchange
lost_exchanges : (s : Session) (r : ℕ) (log : List Entry) (acts : List Act) → is_losing s r log acts ≡ true → is_exchange (next_move s log acts) ≡ true
unfolding is_losing
lost_exchanges s r log acts h = (both (is_named (lose_of s r) (calls_of s log acts) (counts log r (next_move s log acts))) (is_exchange (next_move s log acts)) h).1

went_on : (s : Session) (log : List Entry) (acts : List Act) → is_exchange (next_move s log acts) ≡ true → has_stopped acts ≡ false
went_on s log acts e = by_test (has_stopped acts) refl
  where
    by_test : (b : Bool) → has_stopped acts ≡ b → b ≡ false
    by_test false is = refl
    by_test true is = absurd (false≢true (sym (ap is_exchange (stays s log acts is)) ∙ e))

lost_stops : (m : Move) (newest told : ℕ) (acts : List Act) → is_exchange m ≡ true → has_stopped (with_act (lost_act newest told m) acts) ≡ true
lost_stops (Answers doc point op o) newest told acts e = absurd (false≢true e)
lost_stops (Asks doc point op q) newest told acts e = refl
lost_stops Takes newest told acts e = refl
lost_stops Stays newest told acts e = absurd (false≢true e)

-- a loss stops one that went on
pub one_stops : (s : Session) (older : List Turned) (t : Turned) → IsTurn s older t → loses_next s older t.renderer ≡ true → (n : ℕ) → t.renderer < n → how_many (stopped older) n + 1 ≤ how_many (stopped (t ∷ older)) n
one_stops s older t turn lost n lt =
    let r : ℕ = t.renderer in
    let log : List Entry = log_of s older in
    let acts : List Act = record_of t.renderer older in
    let e : is_exchange (next_move s log acts) ≡ true = lost_exchanges s r log acts lost in
    let plays : Plays true s r log acts (told_length s r older) t.act t.own = subst (λ (b : Bool). Plays b s r log acts (told_length s r older) t.act t.own) lost turn.plays in
    let now : stopped (t ∷ older) r ≡ true =
    ap has_stopped (record_own t older) ∙ ap (λ (o : Option Act). has_stopped (with_act o acts)) plays.0 ∙ lost_stops (next_move s log acts) (newest_length acts) (told_length s r older) acts e in
    one_new (stopped older) (stopped (t ∷ older)) (stopped_stays s older t turn) r (went_on s log acts e) now n lt
