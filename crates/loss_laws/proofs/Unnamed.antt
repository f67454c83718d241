-- A renderer that isn't named is never lost.
use Rattle.std.proofs.Common.{◌≡◌, ℕ, List, [], ◌∷◌, Option, Some, None, Bool, true, false, refl, sym, ap, ◌∙◌}
use Rattle.std.specs.Prelude.{◌&&◌, ◌||◌}
use Rattle.std.specs.List.{list_any}
use Rattle.std.proofs.lemmas.Bool.{false≢true}
use Rattle.tree_log.specs.declared.entry.Entry.{Entry}
use Rattle.agent_terms.specs.declared.session.Session.{Session}
use Rattle.agent_terms.specs.declared.session.Lose.{Lose}
use Rattle.agent_terms.specs.declared.act.Act.{Act}
use Rattle.coordinator_rules.specs.Decision.{rules_of}
use Rattle.single_agent.specs.Session.{lose_of}
use Rattle.single_agent.specs.Lengths.{is_lost, has_stopped}
use Rattle.single_agent.specs.LegalRecord.{is_lost_on}
use Rattle.single_agent.specs.NextMove.{next_move}
use Rattle.single_agent.specs.Turns.{Turned, log_of, with_act, record_of, is_exchange, calls_of, counts, is_named, is_losing, Plays, ArePlayed}
use Rattle.single_agent.proofs.Legal.{act_kept, not_lost_yet}
use Rattle.single_agent.proofs.Played.{legal_record}
use Rattle.loss_laws.proofs.Turning.{holds_after}

never_losing : (s : Session) (r : ℕ) (log : List Entry) (acts : List Act) → lose_of s r ≡ None → is_losing s r log acts ≡ false
unfolding is_losing
never_losing s r log acts none =
    ap (λ (o : Option Lose). is_named o (calls_of s log acts) (counts log r (next_move s log acts)) && is_exchange (next_move s log acts)) none

own_turn : (lost : Bool) (s : Session) (r : ℕ) (log : List Entry) (acts : List Act) (told : ℕ) (act : Option Act) (own : List Entry) → lose_of s r ≡ None → is_losing s r log acts ≡ lost → Plays lost s r log acts told act own
    → list_any is_lost acts ≡ false → list_any is_lost (with_act act acts) ≡ false
own_turn true s r log acts told act own none losing h before = absurd (false≢true (sym (never_losing s r log acts none) ∙ losing))
own_turn false s r log acts told None own none losing h before = before
own_turn false s r log acts told (Some act) own none losing h before =
    ap (λ (b : Bool). b || list_any is_lost acts) (act_kept (rules_of s) r log acts (next_move s log acts) act own h.0) ∙ before

pub no_act_lost : (s : Session) (turns : List Turned) (r : ℕ) → ArePlayed s turns → lose_of s r ≡ None → list_any is_lost (record_of r turns) ≡ false
no_act_lost s turns r h none =
    holds_after (λ log acts. list_any is_lost acts ≡ false) s r refl (λ log acts told act own legal plays. own_turn (is_losing s r log acts) s r log acts told act own none refl plays)
    (λ log acts own legal other before. before) turns h

goes_on : (acts : List Act) → list_any is_lost acts ≡ false → has_stopped acts ≡ false
goes_on [] h = refl
goes_on (a ∷ older) h = first (is_lost a) h
  where
    first : (b : Bool) → (b || list_any is_lost older) ≡ false → b ≡ false
    first false h = refl
    first true h = h

pub not_lost_on : (s : Session) (turns : List Turned) (r : ℕ) → ArePlayed s turns → lose_of s r ≡ None → is_lost_on r (log_of s turns) ≡ false
not_lost_on s turns r h none = not_lost_yet s r (log_of s turns) (record_of r turns) (legal_record s r turns h) (goes_on (record_of r turns) (no_act_lost s turns r h none))
