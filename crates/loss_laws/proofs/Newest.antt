-- Only the newest act of a legal record is lost.
use Rattle.std.proofs.Common.{◌≡◌, ℕ, List, [], ◌∷◌, Some, None, Bool, true, false, refl, sym, ap, subst, ◌∙◌, inl, inr}
use Rattle.std.specs.Prelude.{◌⊎◌, ◌||◌}
use Rattle.std.specs.List.{list_any}
use Rattle.std.proofs.lemmas.Bool.{false≢true}
use Rattle.tree_log.specs.declared.entry.Entry.{Entry}
use Rattle.tree_log.specs.Log.{prefix}
use Rattle.agent_terms.specs.declared.session.Session.{Session}
use Rattle.agent_terms.specs.declared.act.Act.{Act}
use Rattle.agent_terms.specs.declared.act.Move.{Move}
use Rattle.agent_terms.specs.declared.act.Move.TheVariants.{Stays}
use Rattle.coordinator_rules.specs.Decision.{rules_of}
use Rattle.single_agent.specs.Lengths.{is_lost, newest_length, has_stopped}
use Rattle.single_agent.specs.NextMove.{next_move}
use Rattle.single_agent.specs.NextAct.{MovesTo, IsActOn}
use Rattle.single_agent.specs.LostAct.{lost_act, IsLostOn}
use Rattle.single_agent.specs.LegalRecord.{IsMadeOn, LegalActs, IsLegalRecord}
use Rattle.single_agent.specs.Turns.{is_exchange}
use Rattle.loss_laws.specs.Kept.{kept_acts}

-- WHO HAS STOPPED

stays : (s : Session) (log : List Entry) (acts : List Act) → has_stopped acts ≡ true → next_move s log acts ≡ Stays
unfolding next_move
stays s log acts h = rw h refl

goes_on : (s : Session) (log : List Entry) (acts : List Act) → (next_move s log acts ≡ Stays → ⊥) → has_stopped acts ≡ false
goes_on s log acts moves = by_test (has_stopped acts) refl
  where
    by_test : (b : Bool) → has_stopped acts ≡ b → b ≡ false
    by_test false is = refl
    by_test true is = absurd (moves (stays s log acts is))

-- who makes an act that isn't lost hasn't stopped
pub acted_goes_on : (s : Session) (r : ℕ) (log : List Entry) (older : List Act) (act : Act) (own : List Entry) → IsActOn s r log older act own → has_stopped older ≡ false
acted_goes_on s r log older act own h = goes_on s log older (λ still. subst (λ (m : Move). MovesTo (rules_of s) r log older m act own) still h)

-- nor has who makes one that is lost
lost_goes_on : (s : Session) (r : ℕ) (log : List Entry) (older : List Act) (act : Act) (own : List Entry) → IsLostOn s r log older act own → has_stopped older ≡ false
lost_goes_on s r log older act own h =
    goes_on s log older (λ still. let none : None ≡ Some act = ap (lost_act (newest_length older) h.heard) (sym still) ∙ h.lost in absurd cc)

-- who makes an exchange hasn't stopped
pub exchange_goes_on : (s : Session) (log : List Entry) (acts : List Act) → is_exchange (next_move s log acts) ≡ true → has_stopped acts ≡ false
exchange_goes_on s log acts e = goes_on s log acts (λ still. false≢true (sym (ap is_exchange still) ∙ e))

-- so who makes an act, whether it is lost or not, hasn't stopped
either_goes_on : (s : Session) (r : ℕ) (log : List Entry) (older : List Act) (act : Act) (own : List Entry) → IsMadeOn s r log older act own ⊎ IsLostOn s r log older act own → has_stopped older ≡ false
either_goes_on s r log older act own (inl h) = acted_goes_on s r log older h.exact own h.is
either_goes_on s r log older act own (inr h) = lost_goes_on s r log older act own h

-- THE ACTS OF A RECORD

-- where the newest one wasn't lost, none was
none_lost : (s : Session) (r : ℕ) (log : List Entry) (acts : List Act) (mine : List Entry) → LegalActs s r log acts mine → has_stopped acts ≡ false → list_any is_lost acts ≡ false
none_lost s r log [] mine h goes = refl
none_lost s r log (a ∷ older) mine h goes = rw goes (none_lost s r log older h.1 h.3 (either_goes_on s r (prefix h.2.before log) older a h.0 h.2.made))

-- and none before the newest one was
pub older_kept : (s : Session) (r : ℕ) (log : List Entry) (act : Act) (older : List Act) → IsLegalRecord s r log (act ∷ older) → list_any is_lost older ≡ false
older_kept s r log act older h = none_lost s r log older h.1.1 h.1.3 (either_goes_on s r (prefix h.1.2.before log) older act h.1.0 h.1.2.made)

-- WHICH ACTS ARE KEPT

neither : (a b : Bool) → (a || b) ≡ false → (a ≡ false) × (b ≡ false)
neither false b h = (refl, h)
neither true b h = absurd (false≢true (sym h))

-- all, where none was lost
kept_all : (acts : List Act) → list_any is_lost acts ≡ false → kept_acts acts ≡ acts
kept_all [] h = refl
kept_all (a ∷ older) h =
    let two = neither (is_lost a) (list_any is_lost older) h in
    rw two.0 (ap (λ (o : List Act). a ∷ o) (kept_all older two.1))

pub kept_going : (s : Session) (r : ℕ) (log : List Entry) (acts : List Act) → IsLegalRecord s r log acts → has_stopped acts ≡ false → kept_acts acts ≡ acts
kept_going s r log acts h goes = kept_all acts (none_lost s r log acts h.0 h.1 goes)

-- all but the newest, where that was lost
pub kept_lost : (s : Session) (r : ℕ) (log : List Entry) (act : Act) (older : List Act) → IsLegalRecord s r log (act ∷ older) → is_lost act ≡ true → kept_acts (act ∷ older) ≡ older
kept_lost s r log act older h lost = rw lost (kept_all older (older_kept s r log act older h))

-- so one that is lost after acts that weren't leaves these
pub kept_newest : (s : Session) (r : ℕ) (log : List Entry) (act : Act) (older : List Act) → IsLegalRecord s r log older → has_stopped older ≡ false → is_lost act ≡ true → kept_acts (act ∷ older) ≡ older
kept_newest s r log act older h goes lost = rw lost (kept_going s r log older h goes)
