-- A renderer that is named makes fewer exchanges than the number of the lost one.
use Rattle.std.proofs.Common.{◌≡◌, ℕ, ◌+◌, ◌<◌, ◌≤◌, List, [], ◌∷◌, ◌++◌, length, Option, Some, None, Bool, true, false, refl, sym, ap, subst, ◌∙◌, arith}
use Rattle.std.specs.Prelude.{◌==◌, ◌&&◌, ◌||◌, not, is_some, if◌then◌else◌}
use Rattle.std.proofs.lemmas.Bool.{false≢true}
use Rattle.std.proofs.lemmas.Bool.Decides.{nat_tests}
use Rattle.tree_log.specs.declared.entry.Entry.{Entry}
use Rattle.agent_terms.specs.declared.session.Session.{Session}
use Rattle.agent_terms.specs.declared.session.Lose.{Lose}
use Rattle.agent_terms.specs.declared.act.Act.{Act}
use Rattle.agent_terms.specs.declared.act.Act.TheVariants.{Step, LostTask}
use Rattle.agent_terms.specs.declared.act.Answer.TheVariants as answer
use Rattle.agent_terms.specs.declared.act.Move.{Move}
use Rattle.agent_terms.specs.declared.act.Move.TheVariants.{Answers, Asks, Takes, Stays}
use Rattle.coordinator_rules.specs.Decision.{Rules, rules_of}
use Rattle.single_agent.specs.Session.{starts_of, lose_of}
use Rattle.single_agent.specs.Lengths.{is_lost, newest_length, has_stopped}
use Rattle.single_agent.specs.LegalRecord.{IsLegalRecord}
use Rattle.single_agent.specs.LostAct.{lost_act}
use Rattle.single_agent.specs.NextMove.{next_move}
use Rattle.single_agent.specs.NextAct.{MovesTo}
use Rattle.single_agent.specs.Turns.{Turned, log_of, with_act, record_of, is_exchange, is_full, calls_of, counts, is_named, is_losing, LosesAt, Plays, ArePlayed}
use Rattle.single_agent.proofs.Grown.{Within, move_grown}
use Rattle.single_agent.proofs.Legal.{acts_within}
use Rattle.single_agent.proofs.Named.{lost_at}
use Rattle.single_agent.proofs.Played.{legal_record, lost_exchanges}
use Rattle.loss_laws.specs.Kept.{kept_acts}
use Rattle.loss_laws.proofs.Newest.{acted_goes_on, kept_going, kept_lost}
use Rattle.loss_laws.proofs.Turning.{holds_after}

-- THE EXCHANGES OF ACTS

-- are as many on a longer log
calls_grown : (s : Session) (more log : List Entry) (acts : List Act) → Within (length log) acts → calls_of s (more ++ log) acts ≡ calls_of s log acts
unfolding calls_of
calls_grown s more log [] h = refl
calls_grown s more log (a ∷ older) h =
    ap (λ (m : Move). if is_exchange m then calls_of s (more ++ log) older + 1 else calls_of s (more ++ log) older) (move_grown s more log older h.1)
    ∙ ap (λ (n : ℕ). if is_exchange (next_move s log older) then n + 1 else n) (calls_grown s more log older h.1)

record_within : (s : Session) (r : ℕ) (log : List Entry) (acts : List Act) → IsLegalRecord s r log acts → Within (length log) acts
record_within s r log acts h = acts_within s r log acts h.0 h.1

no_calls : (s : Session) (log : List Entry) → calls_of s log [] ≡ 0
unfolding calls_of
no_calls s log = refl

-- one act more
calls_more : (s : Session) (own log : List Entry) (act : Act) (acts : List Act) → Within (length log) acts
    → calls_of s (own ++ log) (act ∷ acts) ≡ (if is_exchange (next_move s log acts) then calls_of s log acts + 1 else calls_of s log acts)
unfolding calls_of
calls_more s own log act acts h =
    ap (λ (m : Move). if is_exchange m then calls_of s (own ++ log) acts + 1 else calls_of s (own ++ log) acts) (move_grown s own log acts h)
    ∙ ap (λ (n : ℕ). if is_exchange (next_move s log acts) then n + 1 else n) (calls_grown s own log acts h)

-- AN EXCHANGE THAT ISN'T LOST

-- an act's exchange counts
act_counts : (rules : Rules) (r : ℕ) (log : List Entry) (older : List Act) (m : Move) (act : Act) (own : List Entry) → MovesTo rules r log older m act own → counts log r m ≡ true
act_counts rules r log older (Answers doc point op answer) act own h = refl
act_counts rules r log older (Asks doc point op q) act own h = refl
act_counts rules r log older Takes act own h = ap (λ o. is_some o || is_full log) h.1
act_counts rules r log older Stays act own h = absurd h

not_yet : (call made : ℕ) (counted served : Bool) → counted ≡ true → (call == made + 1 && (counted || not served)) ≡ false → made < call → made + 1 < call
not_yet call made true served is h below = grind (arith, nat_tests)
not_yet call made false served is h below = absurd (false≢true is)

-- so where the named exchange is yet to come and this isn't it, it is still to come
not_the_named : (s : Session) (r : ℕ) (l : Lose) (log : List Entry) (acts : List Act) (exchanges : Bool) → lose_of s r ≡ Some l → counts log r (next_move s log acts) ≡ true
    → (is_named (lose_of s r) (calls_of s log acts) (counts log r (next_move s log acts)) && exchanges) ≡ false → calls_of s log acts < l.call → (if exchanges then calls_of s log acts + 1 else calls_of s log acts) < l.call
not_the_named s r l log acts false named counted h below = below
not_the_named s r l log acts true named counted h below =
    not_yet l.call (calls_of s log acts) (counts log r (next_move s log acts)) l.served counted
    (sym (ap (λ (o : Option Lose). is_named o (calls_of s log acts) (counts log r (next_move s log acts))) named) ∙ left (is_named (lose_of s r) (calls_of s log acts) (counts log r (next_move s log acts))) h) below
  where
    left : (b : Bool) → (b && true) ≡ false → b ≡ false
    left false h = refl
    left true h = absurd (false≢true (sym h))

spared : (s : Session) (r : ℕ) (l : Lose) (log : List Entry) (acts : List Act) → lose_of s r ≡ Some l → counts log r (next_move s log acts) ≡ true → is_losing s r log acts ≡ false
    → calls_of s log acts < l.call → (if is_exchange (next_move s log acts) then calls_of s log acts + 1 else calls_of s log acts) < l.call
unfolding is_losing
spared s r l log acts named counted h below = not_the_named s r l log acts (is_exchange (next_move s log acts)) named counted h below

-- A RENDERER THAT GOES ON

abbrev Fewer : Session → ℕ → List Entry → List Act → Type 0
Fewer s call log acts = has_stopped acts ≡ false → calls_of s log acts < call

later : (s : Session) (r call : ℕ) (log : List Entry) (acts : List Act) (own : List Entry) → IsLegalRecord s r log acts → Fewer s call log acts → Fewer s call (own ++ log) acts
later s r call log acts own legal h goes = subst (λ (n : ℕ). n < call) (sym (calls_grown s own log acts (record_within s r log acts legal))) (h goes)

lost_stops : (m : Move) (newest told : ℕ) (act : Act) → is_exchange m ≡ true → Some act ≡ lost_act newest told m → is_lost act ≡ true
lost_stops (Answers doc point op o) newest told act e h = absurd (false≢true e)
lost_stops (Asks doc point op q) newest told act e h = let same : act ≡ Step newest doc point op answer.Lost = cc in ap is_lost same
lost_stops Takes newest told act e h = let same : act ≡ LostTask told = cc in ap is_lost same
lost_stops Stays newest told act e h = absurd (false≢true e)

own_turn : (lost : Bool) (s : Session) (r : ℕ) (l : Lose) (log : List Entry) (acts : List Act) (told : ℕ) (act : Option Act) (own : List Entry) → lose_of s r ≡ Some l → is_losing s r log acts ≡ lost → IsLegalRecord s r log acts
    → Plays lost s r log acts told act own → Fewer s l.call log acts → Fewer s l.call (own ++ log) (with_act act acts)
own_turn lost s r l log acts told None own named losing legal h fewer = later s r l.call log acts own legal fewer
own_turn true s r l log acts told (Some act) own named losing legal h fewer =
    λ goes. absurd (false≢true (sym goes ∙ lost_stops (next_move s log acts) (newest_length acts) told act (lost_exchanges s r log acts losing) h.0))
own_turn false s r l log acts told (Some act) own named losing legal h fewer = λ goes.
    subst (λ (n : ℕ). n < l.call) (sym (calls_more s own log act acts (record_within s r log acts legal)))
    (spared s r l log acts named (act_counts (rules_of s) r log acts (next_move s log acts) act own h.0) losing (fewer (acted_goes_on s r log acts act own h.0)))

going_fewer : (s : Session) (turns : List Turned) (r : ℕ) (l : Lose) → ArePlayed s turns → lose_of s r ≡ Some l → 1 ≤ l.call → Fewer s l.call (log_of s turns) (record_of r turns)
going_fewer s turns r l h named some =
    holds_after (Fewer s l.call) s r (λ goes. subst (λ (n : ℕ). n < l.call) (sym (no_calls s (starts_of s))) (omega (arith, some)))
    (λ log acts told act own legal plays. own_turn (is_losing s r log acts) s r l log acts told act own named refl legal plays)
    (λ log acts own legal none. later s r l.call log acts own legal) turns h

-- ALL ACTS THAT WEREN'T LOST

named_below : (named : Option Lose) (l : Lose) (made : ℕ) → named ≡ Some l → LosesAt named made → made < l.call
named_below None l made e at = absurd at
named_below (Some n) l made e at = let same : n ≡ l = cc in let calls = ap (λ (x : Lose). x.call) same in omega (arith, at, calls)

kept_fewer : (s : Session) (turns : List Turned) (r : ℕ) (l : Lose) (acts : List Act) (stopped : Bool) → record_of r turns ≡ acts → has_stopped acts ≡ stopped → ArePlayed s turns → lose_of s r ≡ Some l → 1 ≤ l.call
    → IsLegalRecord s r (log_of s turns) acts → calls_of s (log_of s turns) (kept_acts acts) < l.call
kept_fewer s turns r l acts false is goes h named some legal =
    subst (λ (o : List Act). calls_of s (log_of s turns) o < l.call) (sym (kept_going s r (log_of s turns) acts legal goes))
    (subst (λ (o : List Act). calls_of s (log_of s turns) o < l.call) is (going_fewer s turns r l h named some (ap has_stopped is ∙ goes)))
kept_fewer s turns r l [] true is lost h named some legal = absurd (false≢true lost)
kept_fewer s turns r l (a ∷ older) true is lost h named some legal =
    subst (λ (o : List Act). calls_of s (log_of s turns) o < l.call) (sym (kept_lost s r (log_of s turns) a older legal lost))
    (named_below (lose_of s r) l (calls_of s (log_of s turns) older) named (lost_at s r turns a older h is lost))

pub fewer_calls : (s : Session) (turns : List Turned) (r : ℕ) (l : Lose) → ArePlayed s turns → lose_of s r ≡ Some l → 1 ≤ l.call → calls_of s (log_of s turns) (kept_acts (record_of r turns)) < l.call
fewer_calls s turns r l h named some = kept_fewer s turns r l (record_of r turns) (has_stopped (record_of r turns)) refl refl h named some (legal_record s r turns h)
