-- What was played by turns has a legal log and legal records.
use Rattle.std.proofs.Common.{◌≡◌, ◌≢◌, ℕ, ◌<◌, List, [], ◌∷◌, ◌++◌, length, Option, Some, None, Bool, true, false, refl, sym, subst, inl, inr}
use Rattle.std.specs.Prelude.{◌⊎◌, ◌&&◌, not, if◌then◌else◌}
use Rattle.std.proofs.lemmas.Bool.Decides.{eqb_tells}
use Rattle.tree_log.specs.declared.entry.Entry.{Entry}
use Rattle.tree_log.specs.Tree.{tree_of}
use Rattle.tree_log.proofs.Admitted.{both}
use Rattle.agent_terms.specs.declared.session.Session.{Session}
use Rattle.agent_terms.specs.declared.act.Act.{Act}
use Rattle.agent_terms.specs.declared.act.Move.{Move}
use Rattle.agent_terms.specs.declared.act.Move.TheVariants.{Answers, Asks, Takes, Stays}
use Rattle.coordinator_rules.specs.Decision.{Rules, rules_of}
use Rattle.single_agent.specs.Session.{starts_of, started, start_entry, lose_of}
use Rattle.single_agent.specs.Lengths.{newest_length}
use Rattle.single_agent.specs.NextMove.{next_move, move_request}
use Rattle.single_agent.specs.LostAct.{lost_act, HasHeard, exchanged}
use Rattle.single_agent.specs.LegalLog.{IsLegalLog, Started}
use Rattle.single_agent.specs.LegalRecord.{about, IsLegalRecord}
use Rattle.single_agent.specs.Turns.{Turned, log_of, with_act, record_of, told_length, is_exchange, is_full, calls_of, counts, is_named, is_losing, is_served, loses_next, Plays, ArePlayed}
use Rattle.single_agent.proofs.Legal.{log_acted, log_lost, record_acted, record_lost, record_other, record_other_lost}
use Rattle.single_agent.proofs.Heard.{IsBetween, told_between, told_heard}

started_alone : (q : ℕ) (rules : Rules) (log : List Entry) (urls : List (List ℕ)) → about q log ≡ [] → about q (started rules log urls) ≡ []
unfolding about
started_alone q rules log [] h = h
started_alone q rules log (url ∷ urls) h = started_alone q rules (start_entry rules (tree_of log) url ∷ log) urls h

starts_alone : (s : Session) (q : ℕ) → about q (starts_of s) ≡ []
unfolding starts_of about
starts_alone s q = started_alone q (rules_of s) [] s.start refl

log_played : (lost : Bool) (s : Session) (r : ℕ) (log : List Entry) (acts : List Act) (told : ℕ) (act : Option Act) (own : List Entry) → r < s.renderers → IsLegalLog s log → Plays lost s r log acts told act own → IsLegalLog s (own ++ log)
log_played true s r log acts told act own there legal h =
    subst (λ (o : List Entry). IsLegalLog s (o ++ log)) (sym h.1) (log_lost s r log (move_request (next_move s log acts)) (is_served (lose_of s r) && not (is_full log)) there legal)
log_played false s r log acts told None own there legal h = subst (λ (o : List Entry). IsLegalLog s (o ++ log)) (sym h.1) legal
log_played false s r log acts told (Some act) own there legal h = log_acted s r log acts (next_move s log acts) act own there legal h.0

-- an exchange that is lost is one of a move that makes an exchange
pub lost_exchanges : (s : Session) (r : ℕ) (log : List Entry) (acts : List Act) → is_losing s r log acts ≡ true → is_exchange (next_move s log acts) ≡ true
unfolding is_losing
lost_exchanges s r log acts h = (both (is_named (lose_of s r) (calls_of s log acts) (counts log r (next_move s log acts))) (is_exchange (next_move s log acts)) h).1

-- so the act is there
pub no_lost_act : (newest told : ℕ) (m : Move) → is_exchange m ≡ true → None ≡ lost_act newest told m → ⊥
no_lost_act newest told (Answers doc point op o) e h = absurd cc
no_lost_act newest told (Asks doc point op q) e h = absurd cc
no_lost_act newest told Takes e h = absurd cc
no_lost_act newest told Stays e h = absurd cc

served_or_not : (rules : Rules) (log : List Entry) (r : ℕ) (m : Move) (b : Bool)
    → ((if b then exchanged rules log r (move_request m) else []) ≡ []) ⊎ ((if b then exchanged rules log r (move_request m) else []) ≡ exchanged rules log r (move_request m))
served_or_not rules log r m true = inr refl
served_or_not rules log r m false = inl refl

own_lost : (s : Session) (r : ℕ) (log : List Entry) (acts : List Act) (told : ℕ) (act : Option Act) (own : List Entry) → is_losing s r log acts ≡ true → IsBetween (newest_length acts) told (length log) → HasHeard (rules_of s) r log acts told → IsLegalRecord s r log acts
    → Plays true s r log acts told act own → IsLegalRecord s r (own ++ log) (with_act act acts)
own_lost s r log acts told None own losing b hears legal h = absurd (no_lost_act (newest_length acts) told (next_move s log acts) (lost_exchanges s r log acts losing) h.0)
own_lost s r log acts told (Some act) own losing b hears legal h =
    subst (λ (o : List Entry). IsLegalRecord s r (o ++ log) (act ∷ acts)) (sym h.1)
    (record_lost s r log acts act (if is_served (lose_of s r) && not (is_full log) then exchanged (rules_of s) log r (move_request (next_move s log acts)) else []) legal
    (record { heard = told; later = b.low_is; within = b.high_is; hears = hears; lost = sym h.0; served = served_or_not (rules_of s) log r (next_move s log acts) (is_served (lose_of s r) && not (is_full log)) }))

own_played : (lost : Bool) (s : Session) (r : ℕ) (log : List Entry) (acts : List Act) (told : ℕ) (act : Option Act) (own : List Entry) → is_losing s r log acts ≡ lost → IsBetween (newest_length acts) told (length log)
    → HasHeard (rules_of s) r log acts told → IsLegalRecord s r log acts → Plays lost s r log acts told act own → IsLegalRecord s r (own ++ log) (with_act act acts)
own_played true s r log acts told act own losing b hears legal h = own_lost s r log acts told act own losing b hears legal h
own_played false s r log acts told None own losing b hears legal h = subst (λ (o : List Entry). IsLegalRecord s r (o ++ log) acts) (sym h.1) legal
own_played false s r log acts told (Some act) own losing b hears legal h = record_acted s r log acts act own legal h.0

other_played : (lost : Bool) (s : Session) (q r : ℕ) (log : List Entry) (mine acts : List Act) (told : ℕ) (act : Option Act) (own : List Entry) → IsLegalRecord s q log mine → Plays lost s r log acts told act own → q ≢ r
    → IsLegalRecord s q (own ++ log) mine
other_played true s q r log mine acts told act own legal h other =
    subst (λ (o : List Entry). IsLegalRecord s q (o ++ log) mine) (sym h.1) (record_other_lost s q r log mine (move_request (next_move s log acts)) (is_served (lose_of s r) && not (is_full log)) legal other)
other_played false s q r log mine acts told None own legal h other = subst (λ (o : List Entry). IsLegalRecord s q (o ++ log) mine) (sym h.1) legal
other_played false s q r log mine acts told (Some act) own legal h other = record_other s q r log mine acts act own legal h.0 other

pub legal_log : (s : Session) (turns : List Turned) → ArePlayed s turns → IsLegalLog s (log_of s turns)
unfolding log_of
legal_log s [] h = Started
legal_log s (t ∷ older) h = log_played (loses_next s older t.renderer) s t.renderer (log_of s older) (record_of t.renderer older) (told_length s t.renderer older) t.act t.own h.0.there (legal_log s older h.1) h.0.plays

pub record_own : (t : Turned) (older : List Turned) → record_of t.renderer (t ∷ older) ≡ with_act t.act (record_of t.renderer older)
unfolding record_of
record_own t older = elim (eqb_tells t.renderer t.renderer) [ inl p ↦ rw p.0 refl | inr p ↦ absurd (p.1 refl) ]

pub record_not : (q : ℕ) (t : Turned) (older : List Turned) → t.renderer ≢ q → record_of q (t ∷ older) ≡ record_of q older
unfolding record_of
record_not q t older other = elim (eqb_tells t.renderer q) [ inl p ↦ absurd (other p.1) | inr p ↦ rw p.0 refl ]

no_record : (s : Session) (q : ℕ) → IsLegalRecord s q (starts_of s) (record_of q [])
unfolding record_of
no_record s q = ([], refl, starts_alone s q)

pub legal_record : (s : Session) (q : ℕ) (turns : List Turned) → ArePlayed s turns → IsLegalRecord s q (log_of s turns) (record_of q turns)
unfolding log_of
legal_record s q [] h = no_record s q
legal_record s q (t ∷ older) h =
    elim (eqb_tells t.renderer q) [
      | inl p ↦ subst (λ k. IsLegalRecord s k (t.own ++ log_of s older) (record_of k (t ∷ older))) p.1 (subst (IsLegalRecord s t.renderer (t.own ++ log_of s older)) (sym (record_own t older))
          (own_played (loses_next s older t.renderer) s t.renderer (log_of s older) (record_of t.renderer older) (told_length s t.renderer older) t.act t.own refl (told_between s t.renderer older h.1) (told_heard s t.renderer older h.1) (legal_record s t.renderer older h.1) h.0.plays))
      | inr p ↦ subst (IsLegalRecord s q (t.own ++ log_of s older)) (sym (record_not q t older p.1))
          (other_played (loses_next s older t.renderer) s q t.renderer (log_of s older) (record_of q older) (record_of t.renderer older) (told_length s t.renderer older) t.act t.own (legal_record s q older h.1) h.0.plays (λ e. p.1 (sym e)))
    ]
