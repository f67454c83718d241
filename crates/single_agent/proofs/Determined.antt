-- The turns of a play are determined.
use Rattle.std.proofs.Common.{◌≡◌, ℕ, ◌+◌, List, [], ◌∷◌, length, Option, Some, None, Bool, true, false, refl, inl, inr, sym, ap, subst, ◌∙◌, arith}
use Rattle.std.specs.Option.{option_map}
use Rattle.tree_log.specs.declared.entry.Entry.{Entry}
use Rattle.agent_terms.specs.declared.session.Session.{Session}
use Rattle.agent_terms.specs.declared.act.Act.{Act}
use Rattle.agent_terms.specs.declared.act.Act.TheVariants.{Step, Task}
use Rattle.agent_terms.specs.declared.act.Move.{Move}
use Rattle.agent_terms.specs.declared.act.Move.TheVariants.{Answers, Asks, Takes, Stays}
use Rattle.coordinator_rules.specs.NextTask.{next_task, task_entry}
use Rattle.coordinator_rules.specs.Decision.{Rules, rules_of, exchange}
use Rattle.single_agent.specs.NextMove.{next_move}
use Rattle.single_agent.specs.NextAct.{kind_of, answer_of, MovesTo, IsActOn}
use Rattle.single_agent.specs.Turns.{Turned, log_of, record_of, told_length, loses_next, HasNothing, Plays, IsTurn, ArePlayed}

moves_same : (rules : Rules) (r : ℕ) (log : List Entry) (acts : List Act) (m : Move) (a b : Act) (x y : List Entry) → MovesTo rules r log acts m a x → MovesTo rules r log acts m b y → (a ≡ b) × (x ≡ y)
moves_same rules r log acts (Answers doc point op answer) a b x y g h = (g.0 ∙ sym h.0, g.1 ∙ sym h.1)
moves_same rules r log acts (Asks doc point op q) a b x y g h =
    let same : x ≡ y = g.0 ∙ sym h.0 in
    let acts_same : Some a ≡ Some b =
    g.1 ∙ ap (λ (o : List Entry). option_map (Step (length o + length log) doc point op) (answer_of op (exchange rules log r q).outcome)) same ∙ sym h.1 in
    let act_same : a ≡ b = cc in
    (act_same, same)
moves_same rules r log acts Takes a b x y g h =
    let same : Some g.0 ≡ Some h.0 = sym g.1 ∙ h.1 in
    let what : g.0 ≡ h.0 = cc in (
      g.3 ∙ ap (λ w. Task (length log + 1) (kind_of w) (length log)) what ∙ sym h.3,
      g.2 ∙ ap (λ w. task_entry r w ∷ []) what ∙ sym h.2,
    )
moves_same rules r log acts Stays a b x y g h = absurd g

no_act : (s : Session) (r : ℕ) (log : List Entry) (acts : List Act) (a : Act) (x : List Entry) → next_move s log acts ≡ Takes → next_task log r ≡ None → IsActOn s r log acts a x → ⊥
no_act s r log acts a x takes none h =
    let g : MovesTo (rules_of s) r log acts Takes a x = subst (λ (m : Move). MovesTo (rules_of s) r log acts m a x) takes h in
    let clash : None ≡ Some g.0 = sym none ∙ g.1 in
    absurd cc

stays_put : (s : Session) (r : ℕ) (log : List Entry) (acts : List Act) (a : Act) (x : List Entry) → next_move s log acts ≡ Stays → IsActOn s r log acts a x → ⊥
stays_put s r log acts a x stays h = subst (λ (m : Move). MovesTo (rules_of s) r log acts m a x) stays h

nothing_done : (s : Session) (r : ℕ) (log : List Entry) (acts : List Act) (a : Act) (x : List Entry) → HasNothing s r log acts → IsActOn s r log acts a x → ⊥
nothing_done s r log acts a x (inl stays) h = stays_put s r log acts a x stays h
nothing_done s r log acts a x (inr rests) h = no_act s r log acts a x rests.0 rests.1 h

plays_same : (lost : Bool) (s : Session) (r : ℕ) (log : List Entry) (acts : List Act) (told : ℕ) (a b : Option Act) (x y : List Entry) → Plays lost s r log acts told a x → Plays lost s r log acts told b y → (a ≡ b) × (x ≡ y)
plays_same true s r log acts told a b x y g h = (g.0 ∙ sym h.0, g.1 ∙ sym h.1)
plays_same false s r log acts told None None x y g h = (refl, g.1 ∙ sym h.1)
plays_same false s r log acts told None (Some b) x y g h = absurd (nothing_done s r log acts b y g.0 h.0)
plays_same false s r log acts told (Some a) None x y g h = absurd (nothing_done s r log acts a x h.0 g.0)
plays_same false s r log acts told (Some a) (Some b) x y g h = let e = moves_same (rules_of s) r log acts (next_move s log acts) a b x y g.0 h.0 in (ap Some e.0, e.1)

-- two turns after the same turns are the same
pub turn_determined : (s : Session) (older : List Turned) (t u : Turned) → IsTurn s older t → IsTurn s older u → t ≡ u
turn_determined s older t u g h =
    let x : Some t.renderer ≡ Some u.renderer = sym g.due ∙ h.due in
    let same : t.renderer ≡ u.renderer = cc in
    let plays : Plays (loses_next s older t.renderer) s t.renderer (log_of s older) (record_of t.renderer older) (told_length s t.renderer older) u.act u.own =
    subst (λ k. Plays (loses_next s older k) s k (log_of s older) (record_of k older) (told_length s k older) u.act u.own) (sym same) h.plays in
    let e = plays_same (loses_next s older t.renderer) s t.renderer (log_of s older) (record_of t.renderer older) (told_length s t.renderer older) t.act u.act t.own u.own g.plays plays in
    λ i. record { renderer = same i; act = e.0 i; own = e.1 i }

-- so two plays of as many turns are the same
pub play_determined : (s : Session) (turns others : List Turned) → length turns ≡ length others → ArePlayed s turns → ArePlayed s others → turns ≡ others
play_determined s [] [] e g h = refl
play_determined s [] (u ∷ others) e g h = absurd (omega arith)
play_determined s (t ∷ turns) [] e g h = absurd (omega arith)
play_determined s (t ∷ turns) (u ∷ others) e g h =
    let rest : turns ≡ others = play_determined s turns others (omega arith) g.1 h.1 in
    let first : t ≡ u = turn_determined s turns t u g.0 (subst (λ (o : List Turned). IsTurn s o u) (sym rest) h.0) in
    ap (λ x. x ∷ turns) first ∙ ap (λ (o : List Turned). u ∷ o) rest
