-- What each turn keeps holds after all turns.
use Rattle.std.proofs.Common.{◌≡◌, ◌≢◌, ℕ, List, [], ◌∷◌, ◌++◌, Option, Some, None, Bool, true, false, refl, sym, ap, subst, ◌∙◌, inl, inr, eq-eqb}
use Rattle.std.specs.Prelude.{◌&&◌, not, if◌then◌else◌}
use Rattle.std.proofs.lemmas.Bool.{ne_eqb}
use Rattle.std.proofs.lemmas.Bool.Decides.{eqb_tells}
use Rattle.tree_log.specs.declared.entry.Entry.{Entry}
use Rattle.agent_terms.specs.declared.session.Session.{Session}
use Rattle.agent_terms.specs.declared.act.Act.{Act}
use Rattle.agent_terms.specs.declared.act.Move.{Move}
use Rattle.agent_terms.specs.declared.act.Move.TheVariants.{Answers, Asks, Takes, Stays}
use Rattle.agent_terms.specs.declared.request.Request.{Request}
use Rattle.coordinator_rules.specs.Decision.{Rules, rules_of}
use Rattle.single_agent.specs.Session.{starts_of, lose_of}
use Rattle.single_agent.specs.LegalLog.{lost_entry}
use Rattle.single_agent.specs.LegalRecord.{about, IsLegalRecord}
use Rattle.single_agent.specs.LostAct.{exchanged}
use Rattle.single_agent.specs.NextMove.{next_move, move_request}
use Rattle.single_agent.specs.NextAct.{MovesTo}
use Rattle.single_agent.specs.Turns.{Turned, log_of, with_act, record_of, told_length, is_full, is_losing, is_served, Plays, ArePlayed}
use Rattle.single_agent.proofs.Made.{AreBy, exchange_by}
use Rattle.single_agent.proofs.Legal.{about_append}
use Rattle.single_agent.proofs.Played.{legal_record, record_own, record_not}

-- WHOM ENTRIES ARE ABOUT

about_other : (q r : ℕ) (e : Entry) → e.by ≡ Some r → q ≢ r → about q (e ∷ []) ≡ []
unfolding about
about_other q r e by other = rw by (rw (ne_eqb r q (λ p. other (sym p))) refl)

loss_of_other : (q r : ℕ) → q ≢ r → about q (lost_entry r ∷ []) ≡ []
unfolding about
loss_of_other q r other = rw (ne_eqb r q (λ p. other (sym p))) refl

pub about_loss : (r : ℕ) → about r (lost_entry r ∷ []) ≡ lost_entry r ∷ []
unfolding about
about_loss r = rw (eq-eqb r r refl) refl

pub about_none : (r : ℕ) → about r [] ≡ []
unfolding about
about_none r = refl

others_entries : (q r : ℕ) (es : List Entry) → AreBy r es → q ≢ r → about q es ≡ []
others_entries q r [] h other = about_none q
others_entries q r (e ∷ es) h other = about_append q (e ∷ []) es ∙ ap (λ (l : List Entry). l ++ about q es) (about_other q r e h.0 other) ∙ others_entries q r es h.1 other

exchanged_by : (rules : Rules) (log : List Entry) (r : ℕ) (q : Option Request) → AreBy r (exchanged rules log r q)
exchanged_by rules log r None = tt
exchanged_by rules log r (Some q) = exchange_by rules log r q

moved_by : (rules : Rules) (r : ℕ) (log : List Entry) (older : List Act) (m : Move) (act : Act) (own : List Entry) → MovesTo rules r log older m act own → AreBy r own
moved_by rules r log older (Answers doc point op answer) act own h = subst (AreBy r) (sym h.1) tt
moved_by rules r log older (Asks doc point op q) act own h = subst (AreBy r) (sym h.0) (exchange_by rules log r q)
moved_by rules r log older Takes act own h = subst (AreBy r) (sym h.2) (refl, tt)
moved_by rules r log older Stays act own h = absurd h

served_by : (rules : Rules) (log : List Entry) (r : ℕ) (q : Option Request) (b : Bool) → AreBy r (if b then exchanged rules log r q else [])
served_by rules log r q true = exchanged_by rules log r q
served_by rules log r q false = tt

-- a turn makes no entry about another renderer
turn_of_other : (lost : Bool) (s : Session) (q r : ℕ) (log : List Entry) (acts : List Act) (told : ℕ) (act : Option Act) (own : List Entry) → Plays lost s r log acts told act own → q ≢ r → about q own ≡ []
turn_of_other true s q r log acts told act own h other =
    let served : List Entry = if is_served (lose_of s r) && not (is_full log) then exchanged (rules_of s) log r (move_request (next_move s log acts)) else [] in
    ap (about q) h.1 ∙ about_append q (lost_entry r ∷ []) served ∙ ap (λ (l : List Entry). l ++ about q served) (loss_of_other q r other)
    ∙ others_entries q r served (served_by (rules_of s) log r (move_request (next_move s log acts)) (is_served (lose_of s r) && not (is_full log))) other
turn_of_other false s q r log acts told None own h other = ap (about q) h.1 ∙ about_none q
turn_of_other false s q r log acts told (Some act) own h other = others_entries q r own (moved_by (rules_of s) r log acts (next_move s log acts) act own h.0) other

-- TURN BY TURN

-- what holds of a log and of a renderer's record on it, as its own turns keep it
abbrev pub OwnTurnsKeep : Session → ℕ → (List Entry → List Act → Type 0) → Type 0
OwnTurnsKeep s r Holds =
    (log : List Entry) (acts : List Act) (told : ℕ) (act : Option Act) (own : List Entry) → IsLegalRecord s r log acts → Plays (is_losing s r log acts) s r log acts told act own → Holds log acts → Holds (own ++ log) (with_act act acts)

-- and as the turns of others do
abbrev pub OtherTurnsKeep : Session → ℕ → (List Entry → List Act → Type 0) → Type 0
OtherTurnsKeep s r Holds = (log : List Entry) (acts : List Act) (own : List Entry) → IsLegalRecord s r log acts → about r own ≡ [] → Holds log acts → Holds (own ++ log) acts

pub holds_after : (Holds : List Entry → List Act → Type 0) (s : Session) (r : ℕ) → Holds (starts_of s) [] → OwnTurnsKeep s r Holds → OtherTurnsKeep s r Holds → (turns : List Turned) → ArePlayed s turns → Holds (log_of s turns) (record_of r turns)
unfolding log_of record_of
holds_after Holds s r first mine others [] h = first
holds_after Holds s r first mine others (t ∷ older) h =
    let before : Holds (log_of s older) (record_of r older) = holds_after Holds s r first mine others older h.1 in
    let legal : IsLegalRecord s r (log_of s older) (record_of r older) = legal_record s r older h.1 in
    elim (eqb_tells t.renderer r) as (λ _. Holds (t.own ++ log_of s older) (record_of r (t ∷ older))) [
      | inl p ↦
          let own : record_of r (t ∷ older) ≡ with_act t.act (record_of r older) = subst (λ k. record_of k (t ∷ older) ≡ with_act t.act (record_of k older)) p.1 (record_own t older) in
          subst (Holds (t.own ++ log_of s older)) (sym own)
          (mine (log_of s older) (record_of r older) (told_length s r older) t.act t.own legal
          (subst (λ k. Plays (is_losing s k (log_of s older) (record_of k older)) s k (log_of s older) (record_of k older) (told_length s k older) t.act t.own) p.1 h.0.plays) before)
      | inr p ↦
          let none : about r t.own ≡ [] =
          turn_of_other (is_losing s t.renderer (log_of s older) (record_of t.renderer older)) s r t.renderer (log_of s older) (record_of t.renderer older) (told_length s t.renderer older) t.act t.own h.0.plays (λ e. p.1 (sym e)) in
          subst (Holds (t.own ++ log_of s older)) (sym (record_not r t older p.1)) (others (log_of s older) (record_of r older) t.own legal none before)
    ]
