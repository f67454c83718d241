-- What a renderer was told is no less than its acts heard, and no more than the log.
use Rattle.std.proofs.Common.{◌≡◌, ℕ, ◌+◌, ◌≤◌, List, [], ◌∷◌, ◌++◌, length, Option, Some, None, Bool, true, false, refl, sym, ap, subst, ◌∙◌, arith, inl, inr, length-append}
use Rattle.std.specs.Prelude.{◌&&◌, not, if◌then◌else◌}
use Rattle.std.proofs.lemmas.Bool.Decides.{eqb_tells}
use Rattle.tree_log.specs.declared.entry.Entry.{Entry}
use Rattle.agent_terms.specs.declared.session.Session.{Session}
use Rattle.agent_terms.specs.declared.act.Act.{Act}
use Rattle.agent_terms.specs.declared.act.Move.{Move}
use Rattle.agent_terms.specs.declared.act.Move.TheVariants.{Answers, Asks, Takes, Stays}
use Rattle.coordinator_rules.specs.Decision.{Rules, rules_of, exchange}
use Rattle.single_agent.specs.Lengths.{length_of, newest_length}
use Rattle.single_agent.specs.NextMove.{next_move}
use Rattle.single_agent.specs.NextAct.{answer_of, MovesTo}
use Rattle.tree_log.proofs.Places.{prefix_more, prefix_whole}
use Rattle.agent_terms.specs.declared.act.Act.TheVariants.{Step, LostTask}
use Rattle.agent_terms.specs.declared.act.Answer.TheVariants as answer
use Rattle.coordinator_rules.specs.NextTask.{next_task}
use Rattle.single_agent.specs.LostAct.{lost_act, FoundNone, HasHeard}
use Rattle.single_agent.specs.Heard.{MayHear}
use Rattle.agent_terms.specs.declared.request.Request.TheVariants.{Next}
use Rattle.tree_log.specs.Log.{prefix}
use Rattle.single_agent.specs.Turns.{Turned, log_of, with_act, record_of, is_exchange, loses_next, told_length, HasNothing, Plays, ArePlayed}
use Rattle.single_agent.proofs.Legal.{acted_length, lost_length}

-- how much was heard, between what acts heard and what there is
pub record IsBetween (low heard high : ℕ) : Type 0 where
  pub low_is : low ≤ heard
  pub high_is : heard ≤ high

-- what is heard after a move: the log with its entries, where it made an exchange
abbrev pub heard_by : Move → ℕ → ℕ → ℕ
heard_by m whole told = if is_exchange m then whole else told

moved_between : (rules : Rules) (r : ℕ) (log : List Entry) (acts : List Act) (m : Move) (act : Act) (own : List Entry) (told : ℕ) → MovesTo rules r log acts m act own → IsBetween (newest_length acts) told (length log)
    → IsBetween (length_of act) (heard_by m (length own + length log) told) (length own + length log)
moved_between rules r log acts (Answers doc point op o) act own told h b = let e = ap length_of h.0 in record { low_is = omega (arith, b.low_is); high_is = omega (arith, b.high_is) }
moved_between rules r log acts (Asks doc point op q) act own told h b =
    let e = acted_length (length own + length log) doc point op (answer_of op (exchange rules log r q).outcome) act h.1 in record { low_is = omega arith; high_is = omega arith }
moved_between rules r log acts Takes act own told h b = let e = ap length_of h.3 in let l = ap length h.2 in record { low_is = omega arith; high_is = omega arith }
moved_between rules r log acts Stays act own told h b = absurd h

still_between : (acts : List Act) (m : Move) (own log : List Entry) (told : ℕ) → IsBetween (newest_length acts) told (length log) → IsBetween (newest_length acts) (heard_by m (length own + length log) told) (length own + length log)
still_between acts m own log told b = either (is_exchange m) where
  either : (x : Bool) → IsBetween (newest_length acts) (if x then length own + length log else told) (length own + length log)
  either true = record { low_is = omega (arith, b.low_is, b.high_is); high_is = omega arith }
  either false = record { low_is = b.low_is; high_is = omega (arith, b.high_is) }

lost_between : (acts : List Act) (m : Move) (act : Option Act) (own log : List Entry) (told : ℕ) → act ≡ lost_act (newest_length acts) told m → IsBetween (newest_length acts) told (length log)
    → IsBetween (newest_length (with_act act acts)) told (length own + length log)
lost_between acts m None own log told h b = record { low_is = b.low_is; high_is = omega (arith, b.high_is) }
lost_between acts m (Some act) own log told h b =
    let lengths = lost_length (newest_length acts) told m act (sym h) b.low_is in record { low_is = lengths.1; high_is = omega (arith, b.high_is) }

-- a turn of the renderer itself
own_between : (lost : Bool) (s : Session) (r : ℕ) (log : List Entry) (acts : List Act) (told : ℕ) (act : Option Act) (own : List Entry) → Plays lost s r log acts told act own → IsBetween (newest_length acts) told (length log)
    → IsBetween (newest_length (with_act act acts)) (if is_exchange (next_move s log acts) && not lost then length own + length log else told) (length own + length log)
own_between true s r log acts told act own h b =
    subst (λ (x : Bool). IsBetween (newest_length (with_act act acts)) (if x then length own + length log else told) (length own + length log)) (sym (and_false (is_exchange (next_move s log acts))))
    (lost_between acts (next_move s log acts) act own log told h.0 b)
  where
    and_false : (x : Bool) → (x && false) ≡ false
    and_false true = refl
    and_false false = refl
own_between false s r log acts told None own h b =
    subst (λ (x : Bool). IsBetween (newest_length acts) (if x then length own + length log else told) (length own + length log)) (sym (and_true (is_exchange (next_move s log acts))))
    (still_between acts (next_move s log acts) own log told b)
  where
    and_true : (x : Bool) → (x && true) ≡ x
    and_true true = refl
    and_true false = refl
own_between false s r log acts told (Some act) own h b =
    subst (λ (x : Bool). IsBetween (length_of act) (if x then length own + length log else told) (length own + length log)) (sym (and_true (is_exchange (next_move s log acts))))
    (moved_between (rules_of s) r log acts (next_move s log acts) act own told h.0 b)
  where
    and_true : (x : Bool) → (x && true) ≡ x
    and_true true = refl
    and_true false = refl

-- what renderer r was told lies between the length of its newest act and that of the log
pub told_between : (s : Session) (r : ℕ) (turns : List Turned) → ArePlayed s turns → IsBetween (newest_length (record_of r turns)) (told_length s r turns) (length (log_of s turns))
unfolding log_of record_of told_length
told_between s r [] h = record { low_is = omega arith; high_is = omega arith }
told_between s r (t ∷ older) h = let whole = length-append t.own (log_of s older) in elim (eqb_tells t.renderer r) [
  | inl p ↦ rw p.0 (let b = told_between s r older h.1 in
      let mine = subst (λ k. IsBetween (newest_length (with_act t.act (record_of k older)))
      (if is_exchange (next_move s (log_of s older) (record_of k older)) && not (loses_next s older k) then length t.own + length (log_of s older) else told_length s k older) (length t.own + length (log_of s older))) p.1
      (own_between (loses_next s older t.renderer) s t.renderer (log_of s older) (record_of t.renderer older) (told_length s t.renderer older) t.act t.own h.0.plays (subst (λ k. IsBetween (newest_length (record_of k older)) (told_length s k older) (length (log_of s older))) (sym p.1) b)) in
      subst (λ n. IsBetween (newest_length (with_act t.act (record_of r older))) (if is_exchange (next_move s (log_of s older) (record_of r older)) && not (loses_next s older r) then n else told_length s r older) n) (sym whole) mine)
  | inr p ↦ rw p.0 (let b = told_between s r older h.1 in record { low_is = b.low_is; high_is = omega (arith, b.high_is) })
]

-- HOW IT CAME TO HEAR THAT MUCH

heard_grown : (rules : Rules) (r : ℕ) (own log : List Entry) (older : List Act) (heard : ℕ) → heard ≤ length log → HasHeard rules r log older heard → HasHeard rules r (own ++ log) older heard
heard_grown rules r own log older heard within (inl e) = inl e
heard_grown rules r own log older heard within (inr found) =
    let first = found.hears.0 in
    let same : prefix found.place (own ++ log) ≡ prefix found.place log = prefix_more own log found.place (omega (arith, first, within)) in
    inr (record {
      place = found.place;
      later = found.later;
      idle = ap (λ (l : List Entry). next_task l r) same ∙ found.idle;
      hears = subst (λ (l : List Entry). MayHear rules r l (newest_length older) (Some Next) found.place heard) (sym same) found.hears;
    })

heard_after : (rules : Rules) (r : ℕ) (log : List Entry) (older acts : List Act) (heard : ℕ) → newest_length older ≡ newest_length acts → HasHeard rules r log older heard → HasHeard rules r log acts heard
heard_after rules r log older acts heard same (inl e) = inl (e ∙ same)
heard_after rules r log older acts heard same (inr found) = inr (subst (λ n. FoundNone rules r log n heard) same found)

lost_heard : (rules : Rules) (r : ℕ) (log : List Entry) (acts : List Act) (told : ℕ) (m : Move) (act : Option Act) (own : List Entry) → act ≡ lost_act (newest_length acts) told m → told ≤ length log → HasHeard rules r log acts told
    → HasHeard rules r (own ++ log) (with_act act acts) told
lost_heard rules r log acts told m None own e within h = heard_grown rules r own log acts told within h
lost_heard rules r log acts told (Answers doc point op o) (Some act) own e within h = absurd cc
lost_heard rules r log acts told (Asks doc point op q) (Some act) own e within h =
    let same : act ≡ Step (newest_length acts) doc point op answer.Lost = cc in
    heard_after rules r (own ++ log) acts (act ∷ acts) told (sym (ap length_of same)) (heard_grown rules r own log acts told within h)
lost_heard rules r log acts told Takes (Some act) own e within h = let same : act ≡ LostTask told = cc in inl (sym (ap length_of same))
lost_heard rules r log acts told Stays (Some act) own e within h = absurd cc

-- where no exchange was lost
told_by : Move → ℕ → ℕ → ℕ
told_by m whole told = if is_exchange m && not false then whole else told

nothing_heard : (s : Session) (r : ℕ) (log : List Entry) (acts : List Act) (told : ℕ) → HasNothing s r log acts → newest_length acts ≤ length log → HasHeard (rules_of s) r log acts told → HasHeard (rules_of s) r log acts (told_by (next_move s log acts) (length log) told)
unfolding told_by
nothing_heard s r log acts told (inl stays) low h = subst (λ (m : Move). HasHeard (rules_of s) r log acts (if is_exchange m && not false then length log else told)) (sym stays) h
nothing_heard s r log acts told (inr takes) low h =
    subst (λ (m : Move). HasHeard (rules_of s) r log acts (if is_exchange m && not false then length log else told)) (sym takes.0)
    (inr (record {
      place = length log;
      later = low;
      idle = ap (λ (l : List Entry). next_task l r) (prefix_whole log (length log) (omega arith)) ∙ takes.1;
      hears = (omega arith, λ once. refl);
    }))

moved_heard : (rules : Rules) (r : ℕ) (log : List Entry) (acts : List Act) (m : Move) (act : Act) (own : List Entry) (told : ℕ) → MovesTo rules r log acts m act own → told ≤ length log → HasHeard rules r log acts told
    → HasHeard rules r (own ++ log) (act ∷ acts) (told_by m (length (own ++ log)) told)
unfolding told_by
moved_heard rules r log acts (Answers doc point op o) act own told h within k = heard_after rules r (own ++ log) acts (act ∷ acts) told (sym (ap length_of h.0)) (heard_grown rules r own log acts told within k)
moved_heard rules r log acts (Asks doc point op q) act own told h within k =
    inl (length-append own log ∙ sym (acted_length (length own + length log) doc point op (answer_of op (exchange rules log r q).outcome) act h.1))
moved_heard rules r log acts Takes act own told h within k =
    let e = ap length_of h.3 in let l = ap length h.2 in let whole = length-append own log in inl (omega (arith, whole, l, e))
moved_heard rules r log acts Stays act own told h within k = absurd h

own_heard : (lost : Bool) (s : Session) (r : ℕ) (log : List Entry) (acts : List Act) (told : ℕ) (act : Option Act) (own : List Entry) → Plays lost s r log acts told act own → newest_length acts ≤ told → told ≤ length log → HasHeard (rules_of s) r log acts told
    → HasHeard (rules_of s) r (own ++ log) (with_act act acts) (if is_exchange (next_move s log acts) && not lost then length (own ++ log) else told)
unfolding told_by
own_heard true s r log acts told act own h low within k =
    subst (λ (x : Bool). HasHeard (rules_of s) r (own ++ log) (with_act act acts) (if x then length (own ++ log) else told)) (sym (and_false (is_exchange (next_move s log acts))))
    (lost_heard (rules_of s) r log acts told (next_move s log acts) act own h.0 within k)
  where
    and_false : (x : Bool) → (x && false) ≡ false
    and_false true = refl
    and_false false = refl
own_heard false s r log acts told None own h low within k =
    subst (λ (es : List Entry). HasHeard (rules_of s) r (es ++ log) acts (told_by (next_move s log acts) (length (es ++ log)) told)) (sym h.1) (nothing_heard s r log acts told h.0 (omega (arith, low, within)) k)
own_heard false s r log acts told (Some act) own h low within k = moved_heard (rules_of s) r log acts (next_move s log acts) act own told h.0 within k

-- renderer r was told what its newest act had heard, or the log at which it found no task
pub told_heard : (s : Session) (r : ℕ) (turns : List Turned) → ArePlayed s turns → HasHeard (rules_of s) r (log_of s turns) (record_of r turns) (told_length s r turns)
unfolding log_of record_of told_length
told_heard s r [] h = inl refl
told_heard s r (t ∷ older) h = elim (eqb_tells t.renderer r) [
  | inl p ↦ rw p.0
      (subst (λ k. HasHeard (rules_of s) k (t.own ++ log_of s older) (with_act t.act (record_of k older))
      (if is_exchange (next_move s (log_of s older) (record_of k older)) && not (loses_next s older k) then length (t.own ++ log_of s older) else told_length s k older)) p.1
      (own_heard (loses_next s older t.renderer) s t.renderer (log_of s older) (record_of t.renderer older) (told_length s t.renderer older) t.act t.own h.0.plays
      (told_between s t.renderer older h.1).low_is (told_between s t.renderer older h.1).high_is (told_heard s t.renderer older h.1)))
  | inr p ↦ rw p.0 (heard_grown (rules_of s) r t.own (log_of s older) (record_of r older) (told_length s r older) (told_between s r older h.1).high_is (told_heard s r older h.1))
]
