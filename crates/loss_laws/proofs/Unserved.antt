-- An exchange that is lost unserved leaves the loss alone.
use Rattle.std.proofs.Common.{◌≡◌, ℕ, List, [], ◌∷◌, ◌++◌, Option, Some, None, Bool, true, false, refl, sym, ap, subst, ◌∙◌}
use Rattle.std.specs.Prelude.{◌&&◌, not, if◌then◌else◌}
use Rattle.std.proofs.lemmas.Bool.{false≢true}
use Rattle.tree_log.specs.declared.entry.Entry.{Entry}
use Rattle.agent_terms.specs.declared.session.Session.{Session}
use Rattle.agent_terms.specs.declared.act.Act.{Act}
use Rattle.coordinator_rules.specs.Decision.{rules_of}
use Rattle.single_agent.specs.Session.{lose_of}
use Rattle.single_agent.specs.Lengths.{is_lost, newest_length, has_stopped}
use Rattle.single_agent.specs.LegalLog.{lost_entry}
use Rattle.single_agent.specs.LegalRecord.{LegalActs, about, and_lost, IsLegalRecord}
use Rattle.single_agent.specs.LostAct.{exchanged}
use Rattle.single_agent.specs.NextMove.{next_move, move_request}
use Rattle.single_agent.specs.Turns.{Turned, log_of, with_act, record_of, told_length, is_full, is_losing, is_served, loses_next, Plays, IsTurn, ArePlayed}
use Rattle.single_agent.proofs.Legal.{about_append, act_kept, acts_grown}
use Rattle.single_agent.proofs.Played.{legal_record, no_lost_act, lost_exchanges}
use Rattle.loss_laws.specs.Kept.{kept_acts}
use Rattle.loss_laws.proofs.Newest.{exchange_goes_on, kept_going, kept_newest}
use Rattle.loss_laws.proofs.Turning.{about_loss, about_none, holds_after}

-- THE TURN THAT IS LOST

turn_makes : (lost : Bool) (s : Session) (r : ℕ) (log : List Entry) (acts : List Act) (told : ℕ) (act : Act) (own : List Entry) → Plays lost s r log acts told (Some act) own → is_served (lose_of s r) ≡ false → is_lost act ≡ true → own ≡ lost_entry r ∷ []
turn_makes true s r log acts told act own h unserved lost =
    h.1 ∙ ap (λ (b : Bool). lost_entry r ∷ (if b && not (is_full log) then exchanged (rules_of s) log r (move_request (next_move s log acts)) else [])) unserved
turn_makes false s r log acts told act own h unserved lost = absurd (false≢true (sym (act_kept (rules_of s) r log acts (next_move s log acts) act own h.0) ∙ lost))

pub loss_alone : (s : Session) (older : List Turned) (t : Turned) (act : Act) → IsTurn s older t → is_served (lose_of s t.renderer) ≡ false → t.act ≡ Some act → is_lost act ≡ true → t.own ≡ lost_entry t.renderer ∷ []
loss_alone s older t act h unserved is lost =
    turn_makes (loses_next s older t.renderer) s t.renderer (log_of s older) (record_of t.renderer older) (told_length s t.renderer older) act t.own
    (subst (λ (o : Option Act). Plays (loses_next s older t.renderer) s t.renderer (log_of s older) (record_of t.renderer older) (told_length s t.renderer older) o t.own) is h.plays) unserved lost

-- THE ENTRIES OF THE ACTS THAT WEREN'T LOST

-- the log's entries about the renderer are those of its kept acts, and its loss where it was lost
abbrev AreOfKept : Session → ℕ → List Entry → List Act → Type 0
AreOfKept s r log acts = (mine : List Entry) × LegalActs s r log (kept_acts acts) mine × (about r log ≡ and_lost r acts mine)

abbrev OnceLost : Session → ℕ → List Entry → List Act → Type 0
OnceLost s r log acts = has_stopped acts ≡ true → AreOfKept s r log acts

later : (s : Session) (r : ℕ) (log : List Entry) (acts : List Act) (own : List Entry) → about r own ≡ [] → OnceLost s r log acts → OnceLost s r (own ++ log) acts
later s r log acts own none h stopped =
    let before = h stopped in
    (before.0, acts_grown s r own log (kept_acts acts) before.0 before.1, about_append r own log ∙ ap (λ (l : List Entry). l ++ about r log) none ∙ before.2)

idle_makes : (lost : Bool) (s : Session) (r : ℕ) (log : List Entry) (acts : List Act) (told : ℕ) (own : List Entry) → is_losing s r log acts ≡ lost → Plays lost s r log acts told None own → own ≡ []
idle_makes true s r log acts told own losing h = absurd (no_lost_act (newest_length acts) told (next_move s log acts) (lost_exchanges s r log acts losing) h.0)
idle_makes false s r log acts told own losing h = h.1

-- the turn at which it is lost
lost_now : (s : Session) (r : ℕ) (log : List Entry) (acts : List Act) (act : Act) (own : List Entry) → IsLegalRecord s r log acts → has_stopped acts ≡ false → own ≡ lost_entry r ∷ [] → is_lost act ≡ true → AreOfKept s r (own ++ log) (act ∷ acts)
lost_now s r log acts act own legal goes alone lost = (
  legal.0,
  subst (λ (o : List Act). LegalActs s r (own ++ log) o legal.0) (sym (kept_newest s r log act acts legal goes lost)) (acts_grown s r own log acts legal.0 legal.1),
  about_append r own log
      ∙ ap (λ (o : List Entry). about r o ++ about r log) alone
      ∙ ap (λ (l : List Entry). l ++ about r log) (about_loss r)
      ∙ ap (λ (l : List Entry). lost_entry r ∷ l) (legal.2 ∙ ap (λ (b : Bool). if b then lost_entry r ∷ legal.0 else legal.0) goes)
      ∙ ap (λ (b : Bool). if b then lost_entry r ∷ legal.0 else legal.0) (sym lost),
)

own_turn : (lost : Bool) (s : Session) (r : ℕ) (log : List Entry) (acts : List Act) (told : ℕ) (act : Option Act) (own : List Entry) → is_served (lose_of s r) ≡ false → is_losing s r log acts ≡ lost → IsLegalRecord s r log acts
    → Plays lost s r log acts told act own → OnceLost s r log acts → OnceLost s r (own ++ log) (with_act act acts)
own_turn lost s r log acts told None own unserved losing legal h before = later s r log acts own (ap (about r) (idle_makes lost s r log acts told own losing h) ∙ about_none r) before
own_turn true s r log acts told (Some act) own unserved losing legal h before = λ stopped.
    lost_now s r log acts act own legal (exchange_goes_on s log acts (lost_exchanges s r log acts losing)) (turn_makes true s r log acts told act own h unserved stopped) stopped
own_turn false s r log acts told (Some act) own unserved losing legal h before = λ stopped.
    absurd (false≢true (sym (act_kept (rules_of s) r log acts (next_move s log acts) act own h.0) ∙ stopped))

once_lost : (s : Session) (turns : List Turned) (r : ℕ) → ArePlayed s turns → is_served (lose_of s r) ≡ false → OnceLost s r (log_of s turns) (record_of r turns)
once_lost s turns r h unserved =
    holds_after (OnceLost s r) s r (λ stopped. absurd (false≢true stopped)) (λ log acts told act own legal plays. own_turn (is_losing s r log acts) s r log acts told act own unserved refl legal plays)
    (λ log acts own legal none. later s r log acts own none) turns h

-- where it goes on, all its acts are kept
by_test : (b : Bool) (s : Session) (r : ℕ) (log : List Entry) (acts : List Act) → has_stopped acts ≡ b → IsLegalRecord s r log acts → OnceLost s r log acts → AreOfKept s r log acts
by_test true s r log acts is legal once = once is
by_test false s r log acts is legal once = (legal.0, subst (λ (o : List Act). LegalActs s r log o legal.0) (sym (kept_going s r log acts legal is)) legal.1, legal.2)

pub kept_entries : (s : Session) (turns : List Turned) (r : ℕ) → ArePlayed s turns → is_served (lose_of s r) ≡ false
    → (mine : List Entry) × LegalActs s r (log_of s turns) (kept_acts (record_of r turns)) mine × (about r (log_of s turns) ≡ and_lost r (record_of r turns) mine)
kept_entries s turns r h unserved = by_test (has_stopped (record_of r turns)) s r (log_of s turns) (record_of r turns) refl (legal_record s r turns h) (once_lost s turns r h unserved)
