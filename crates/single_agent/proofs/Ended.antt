-- A play ends in one way.
use Rattle.std.proofs.Common.{◌≡◌, ℕ, ◌<◌, ◌≤◌, List, [], ◌∷◌, length, Some, None, Bool, true, false, refl, sym, ap, subst, ◌∙◌, arith, inl, inr}
use Rattle.std.specs.Prelude.{nat_lt}
use Rattle.std.proofs.Math.Nat.{eq-or-lt_of_le}
use Rattle.std.proofs.lemmas.Bool.Decides.{nat_tests}
use Rattle.tree_log.proofs.Admitted.{lt_of}
use Rattle.agent_terms.specs.declared.session.Session.{Session}
use Rattle.agent_terms.specs.declared.act.Ending.{Ending}
use Rattle.agent_terms.specs.declared.act.Ending.TheVariants.{Done, LogFull, ActsFull}
use Rattle.agent_terms.specs.Limits.{most_acts}
use Rattle.single_agent.specs.Turns.{Turned, log_of, record_of, HasRoom, NeedsRoom, GoesOn, IsTurn, ArePlayed, StopsAtLog, StopsAtActs, EndsBy}
use Rattle.single_agent.proofs.Determined.{play_determined}

same_turn : (s : Session) (turns : List Turned) (r : ℕ) (t : Turned) → Some r ≡ Some t.renderer → r ≡ t.renderer
same_turn s turns r t h = cc

-- nothing follows the end
no_more : (s : Session) (turns : List Turned) (e : Ending) → EndsBy s turns e → (t : Turned) → IsTurn s turns t → ⊥
no_more s turns Done h t turn = let clash : None ≡ Some t.renderer = sym h.0 ∙ turn.due in absurd cc
no_more s turns LogFull h t turn =
    let same = same_turn s turns h.0 t (sym h.1.due ∙ turn.due) in
    let room : HasRoom (log_of s turns) = turn.room (subst (NeedsRoom s turns) same h.1.needs) in
    absurd (omega (arith, room, h.1.full))
no_more s turns (ActsFull r) h t turn =
    let same = same_turn s turns r t (sym h.due ∙ turn.due) in
    let fewer : length (record_of t.renderer turns) < most_acts = turn.fewer (subst (GoesOn turns) same h.goes_on) in
    let many : most_acts ≤ length (record_of t.renderer turns) = subst (λ k. most_acts ≤ length (record_of k turns)) same h.many in
    absurd (omega (arith, fewer, many))

-- no play is longer than one that has ended
longer_none : (s : Session) (turns : List Turned) (e : Ending) → ArePlayed s turns → EndsBy s turns e → (others : List Turned) → ArePlayed s others → length turns < length others → ⊥
longer_none s turns e played ends [] h less = absurd (omega (arith, less))
longer_none s turns e played ends (t ∷ older) h less =
    let within : length turns ≤ length older = omega (arith, less) in
    elim (eq-or-lt_of_le within) as (λ _. ⊥) [
      | inl same ↦ no_more s turns e ends t (subst (λ (o : List Turned). IsTurn s o t) (sym (play_determined s turns older same played h.1)) h.0)
      | inr before ↦ longer_none s turns e played ends older h.1 before
    ]

not_less : (a b : ℕ) → nat_lt a b ≡ false → b ≤ a
not_less a b h = grind (arith, nat_tests)

-- two plays of a session that have ended are the same
pub one_play : (s : Session) (turns others : List Turned) (e f : Ending) → ArePlayed s turns → ArePlayed s others → EndsBy s turns e → EndsBy s others f → turns ≡ others
one_play s turns others e f g h ends other_ends = by_test (nat_lt (length turns) (length others)) refl
  where
    by_test : (b : Bool) → nat_lt (length turns) (length others) ≡ b → turns ≡ others
    by_test true less = absurd (longer_none s turns e g ends others h (lt_of (length turns) (length others) less))
    by_test false not_so =
        elim (eq-or-lt_of_le (not_less (length turns) (length others) not_so)) as (λ _. turns ≡ others) [
          | inl same ↦ play_determined s turns others (sym same) g h
          | inr less ↦ absurd (longer_none s others f h other_ends turns g less)
        ]

none_due : (s : Session) (turns : List Turned) (r : ℕ) → None ≡ Some r → ⊥
none_due s turns r h = absurd cc

due_once : (q r : ℕ) → Some q ≡ Some r → q ≡ r
due_once q r h = cc

full_once : (s : Session) (turns : List Turned) (q r : ℕ) → StopsAtLog s turns q → StopsAtActs s turns r → ⊥
full_once s turns q r log acts =
    let same = due_once q r (sym log.due ∙ acts.due) in
    let fewer : length (record_of r turns) < most_acts = subst (λ k. length (record_of k turns) < most_acts) same log.fewer in
    absurd (omega (arith, fewer, acts.many))

-- and they end in the same way
pub one_ending : (s : Session) (turns : List Turned) (e f : Ending) → EndsBy s turns e → EndsBy s turns f → e ≡ f
one_ending s turns Done Done g h = refl
one_ending s turns Done LogFull g h = absurd (none_due s turns h.0 (sym g.0 ∙ h.1.due))
one_ending s turns Done (ActsFull r) g h = absurd (none_due s turns r (sym g.0 ∙ h.due))
one_ending s turns LogFull Done g h = absurd (none_due s turns g.0 (sym h.0 ∙ g.1.due))
one_ending s turns LogFull LogFull g h = refl
one_ending s turns LogFull (ActsFull r) g h = absurd (full_once s turns g.0 r g.1 h)
one_ending s turns (ActsFull r) Done g h = absurd (none_due s turns r (sym h.0 ∙ g.due))
one_ending s turns (ActsFull r) LogFull g h = absurd (full_once s turns h.0 r h.1 g)
one_ending s turns (ActsFull q) (ActsFull r) g h = ap ActsFull (due_once q r (sym g.due ∙ h.due))
