-- The exchange that is lost is the one that the session names.
use Rattle.std.proofs.Common.{◌≡◌, ℕ, ◌+◌, List, [], ◌∷◌, ◌++◌, length, Option, Some, None, Bool, true, false, refl, sym, ap, subst, ◌∙◌, inl, inr}
use Rattle.std.specs.Prelude.{◌==◌, ◌||◌, not, if◌then◌else◌}
use Rattle.std.proofs.lemmas.Bool.{false≢true}
use Rattle.std.proofs.lemmas.Bool.Decides.{eqb_tells}
use Rattle.tree_log.specs.declared.entry.Entry.{Entry}
use Rattle.tree_log.proofs.Admitted.{both, eq_of}
use Rattle.agent_terms.specs.declared.session.Session.{Session}
use Rattle.agent_terms.specs.declared.session.Lose.{Lose}
use Rattle.agent_terms.specs.declared.act.Act.{Act}
use Rattle.agent_terms.specs.declared.act.Move.{Move}
use Rattle.coordinator_rules.specs.Decision.{rules_of}
use Rattle.single_agent.specs.Session.{lose_of}
use Rattle.single_agent.specs.Lengths.{is_lost}
use Rattle.single_agent.specs.NextMove.{next_move}
use Rattle.single_agent.specs.Turns.{Turned, log_of, with_act, record_of, told_length, is_exchange, calls_of, counts, is_named, is_losing, Plays, ArePlayed, LosesAt}
use Rattle.single_agent.proofs.Grown.{Within, move_grown}
use Rattle.single_agent.proofs.Legal.{act_kept, acts_within}
use Rattle.single_agent.proofs.Played.{legal_record}

-- how many exchanges acts made doesn't change as the log grows
calls_grown : (s : Session) (more log : List Entry) (acts : List Act) → Within (length log) acts → calls_of s (more ++ log) acts ≡ calls_of s log acts
unfolding calls_of
calls_grown s more log [] h = refl
calls_grown s more log (a ∷ older) h =
    ap (λ (m : Move). if is_exchange m then calls_of s (more ++ log) older + 1 else calls_of s (more ++ log) older) (move_grown s more log older h.1)
    ∙ ap (λ (n : ℕ). if is_exchange (next_move s log older) then n + 1 else n) (calls_grown s more log older h.1)

within_record : (s : Session) (r : ℕ) (turns : List Turned) → ArePlayed s turns → Within (length (log_of s turns)) (record_of r turns)
within_record s r turns h = let legal = legal_record s r turns h in acts_within s r (log_of s turns) (record_of r turns) legal.0 legal.1

named_at : (named : Option Lose) (made : ℕ) (counted : Bool) → is_named named made counted ≡ true → LosesAt named made
named_at None made counted h = false≢true h
named_at (Some l) made counted h = eq_of l.call (made + 1) (both (l.call == made + 1) (counted || not l.served) h).0

losing_at : (s : Session) (r : ℕ) (log : List Entry) (acts : List Act) → is_losing s r log acts ≡ true → LosesAt (lose_of s r) (calls_of s log acts)
unfolding is_losing
losing_at s r log acts h =
    named_at (lose_of s r) (calls_of s log acts) (counts log r (next_move s log acts))
    (both (is_named (lose_of s r) (calls_of s log acts) (counts log r (next_move s log acts))) (is_exchange (next_move s log acts)) h).0

-- at the turn that makes it, a lost act is that of the exchange that is named
lost_at_turn : (lost : Bool) (s : Session) (r : ℕ) (log : List Entry) (acts : List Act) (told : ℕ) (act : Act) (own : List Entry) → is_losing s r log acts ≡ lost → Plays lost s r log acts told (Some act) own → is_lost act ≡ true
    → LosesAt (lose_of s r) (calls_of s log acts)
lost_at_turn true s r log acts told act own losing h is = losing_at s r log acts losing
lost_at_turn false s r log acts told act own losing h is = absurd (false≢true (sym (act_kept (rules_of s) r log acts (next_move s log acts) act own h.0) ∙ is))

no_acts : (act : Act) (older : List Act) → [] ≡ act ∷ older → ⊥
no_acts act older h = absurd cc

newest_is : (a act : Act) (acts older : List Act) → a ∷ acts ≡ act ∷ older → (a ≡ act) × (acts ≡ older)
newest_is a act acts older h = let first : a ≡ act = cc in let rest : acts ≡ older = cc in (first, rest)

shorter : (n : ℕ) (act : Act) (acts older : List Act) → acts ≡ act ∷ older → Within n acts → Within n older
shorter n act acts older h within = (subst (Within n) h within).1

later_turn : (s : Session) (r : ℕ) (more log : List Entry) (acts older : List Act) (act : Act) → acts ≡ act ∷ older → Within (length log) acts → LosesAt (lose_of s r) (calls_of s log older) → LosesAt (lose_of s r) (calls_of s (more ++ log) older)
later_turn s r more log acts older act h within at = subst (LosesAt (lose_of s r)) (sym (calls_grown s more log older (shorter (length log) act acts older h within))) at

own_turn : (s : Session) (r : ℕ) (log : List Entry) (acts older : List Act) (told : ℕ) (t : Option Act) (own : List Entry) (act : Act) → Within (length log) acts → Plays (is_losing s r log acts) s r log acts told t own
    → ((a : Act) (o : List Act) → acts ≡ a ∷ o → is_lost a ≡ true → LosesAt (lose_of s r) (calls_of s log o)) → with_act t acts ≡ act ∷ older → is_lost act ≡ true → LosesAt (lose_of s r) (calls_of s (own ++ log) older)
own_turn s r log acts older told None own act within h before is lost = later_turn s r own log acts older act is within (before act older is lost)
own_turn s r log acts older told (Some a) own act within h before is lost =
    let e = newest_is a act acts older is in
    let at : LosesAt (lose_of s r) (calls_of s log acts) = lost_at_turn (is_losing s r log acts) s r log acts told a own refl h (ap is_lost e.0 ∙ lost) in
    subst (λ (o : List Act). LosesAt (lose_of s r) (calls_of s (own ++ log) o)) e.1 (subst (LosesAt (lose_of s r)) (sym (calls_grown s own log acts within)) at)

-- a lost act of a record is the one that the session names, after so many exchanges
pub lost_at : (s : Session) (r : ℕ) (turns : List Turned) (act : Act) (older : List Act) → ArePlayed s turns → record_of r turns ≡ act ∷ older → is_lost act ≡ true → LosesAt (lose_of s r) (calls_of s (log_of s turns) older)
unfolding record_of log_of
lost_at s r [] act older h is lost = absurd (no_acts act older is)
lost_at s r (t ∷ before) act older h is lost =
    elim (eqb_tells t.renderer r) as (λ _. LosesAt (lose_of s r) (calls_of s (t.own ++ log_of s before) older)) [
      | inl p ↦ own_turn s r (log_of s before) (record_of r before) older (told_length s r before) t.act t.own act (within_record s r before h.1)
          (subst (λ k. Plays (is_losing s k (log_of s before) (record_of k before)) s k (log_of s before) (record_of k before) (told_length s k before) t.act t.own) p.1 h.0.plays)
          (λ a o e l. lost_at s r before a o h.1 e l) (sym (ap (λ (b : Bool). if b then with_act t.act (record_of r before) else record_of r before) p.0) ∙ is) lost
      | inr p ↦
          let same : record_of r before ≡ act ∷ older = sym (ap (λ (b : Bool). if b then with_act t.act (record_of r before) else record_of r before) p.0) ∙ is in
          later_turn s r t.own (log_of s before) (record_of r before) older act same (within_record s r before h.1) (lost_at s r before act older h.1 same lost)
    ]
