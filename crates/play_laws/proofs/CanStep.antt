-- A renderer whose turn it is, and which goes on.
use Rattle.std.proofs.Common.{◌≡◌, ℕ, ◌<◌, List, length, Some, false, sym, ap, subst, ◌∙◌, inl, inr}
use Rattle.std.proofs.lemmas.Bool.{false≢true}
use Rattle.std.specs.Prelude.{slice_get}
use Rattle.agent_terms.specs.declared.session.Session.{Session}
use Rattle.coordinator_rules.specs.Told.{told_log}
use Rattle.desk.specs.History as history
use Rattle.desk.specs.Serving.{Coordinator}
use Rattle.single_agent.specs.LegalRecord.{is_lost_on}
use Rattle.single_agent.specs.Lengths.{has_stopped}
use Rattle.single_agent.specs.Turns.{Turned, log_of, record_of}
use Rattle.single_agent.proofs.Legal.{not_lost_yet}
use Rattle.single_agent.proofs.Played.{legal_record}
use Rattle.tree_log.specs.declared.entry.Entry.{Entry}
use Rattle.tree_log.specs.Log.{prefix}
use Rattle.turn_laws.specs.Playing.{Seat}
use Rattle.play_laws.specs.Stepping.{CanStep}
use Rattle.play_laws.specs.Underway.{IsUnderway}

pub can_step : (s : Session) (turns : List Turned) (c : Coordinator) (seats : List Seat) (n : ℕ) (x : Seat) → IsUnderway s turns c seats → slice_get seats n ≡ Some x → n < length seats → has_stopped x.holds.acts ≡ false → CanStep n x c
can_step s turns c seats n x u at lt goes_on =
    let seat = u.seated n x at in
    elim seat.1 [
      | inl goes ↦
          record {
            renderer = seat.0;
            seat = subst (λ k. n < k) (u.count ∙ sym (ap (λ rules. rules.renderers) u.now.rules)) lt;
            heard =
                goes.keeps.heard
                ∙ ap (λ k. prefix k (told_log n (log_of s turns))) (sym goes.told)
                ∙ ap (λ (l : List Entry). prefix (history.told_of c.history n) (told_log n l)) (sym u.now.log);
            there = ap (is_lost_on n) u.now.log ∙ not_lost_yet s n (log_of s turns) (record_of n turns) (legal_record s n turns u.played) goes.keeps.goes_on;
          }
      | inr rests ↦ absurd (false≢true (sym goes_on ∙ ap has_stopped rests.acts ∙ rests.stopped))
    ]
