-- A legal log and legal records stay so by one more act, whatever it is, and by a loss.
use Rattle.std.proofs.Common.{◌≡◌, ◌≢◌, ℕ, ◌+◌, ◌<◌, ◌≤◌, List, [], ◌∷◌, ◌++◌, length, Option, Some, None, Bool, true, false, refl, sym, ap, subst, ◌∙◌, arith, inl, inr, length-append, eq-eqb}
use Rattle.std.specs.Prelude.{◌⊎◌, ◌||◌, nat_le, if◌then◌else◌}
use Rattle.std.specs.Option.{option_map}
use Rattle.std.proofs.lemmas.Bool.{ne_eqb}
use Rattle.std.proofs.lemmas.List.Elements.{filter-append}
use Rattle.tree_log.specs.declared.entry.Entry.{Entry}
use Rattle.tree_log.specs.Log.{prefix, is_by}
use Rattle.tree_log.proofs.Places.{prefix_more, prefix_whole}
use Rattle.agent_terms.specs.declared.session.Session.{Session}
use Rattle.agent_terms.specs.declared.act.Act.{Act}
use Rattle.agent_terms.specs.declared.act.Act.TheVariants.{Step, Task, LostTask}
use Rattle.agent_terms.specs.declared.act.Answer.{Answer}
use Rattle.agent_terms.specs.declared.act.Answer.TheVariants as answer
use Rattle.agent_terms.specs.declared.act.Point.{Point}
use Rattle.agent_terms.specs.declared.act.Move.{Move}
use Rattle.agent_terms.specs.declared.act.Move.TheVariants.{Answers, Asks, Takes, Stays}
use Rattle.agent_terms.specs.declared.step.OpName.{OpName}
use Rattle.agent_terms.specs.declared.step.OpName.TheVariants as op
use Rattle.agent_terms.specs.declared.request.ReplyOutcome.{ReplyOutcome}
use Rattle.agent_terms.specs.declared.request.ReplyOutcome.TheVariants as replies
use Rattle.agent_terms.specs.declared.outcome.Outcome.TheVariants as outcome
use Rattle.window_props.specs.declared.value.Value.TheVariants as value
use Rattle.object_access.specs.Values.{null}
use Rattle.single_agent.specs.Lengths.{length_of, newest_length, is_lost, has_stopped}
use Rattle.single_agent.specs.NextMove.{next_move, move_request}
use Rattle.single_agent.specs.NextAct.{rule_of, done_of, answer_of, MovesTo, IsActOn}
use Rattle.single_agent.specs.LostAct.{lost_act, exchanged, IsLostOn}
use Rattle.tree_log.specs.declared.entry.What.{What}
use Rattle.agent_terms.specs.declared.request.Request.{Request}
use Rattle.agent_terms.specs.declared.request.Request.TheVariants.{Next}
use Rattle.coordinator_rules.specs.Decision.{Rules, rules_of, Decision, task_decision, exchange}
use Rattle.single_agent.specs.LegalLog.{IsLegalLog, Exchanged, Gave_up, lost_entry}
use Rattle.single_agent.proofs.Made.{AreBy, exchange_by, next_gives}
use Rattle.single_agent.specs.Heard.{heard_at, MayHear}
use Rattle.single_agent.specs.LegalRecord.{IsMadeOn, StandsIn, LegalActs, is_loss, is_lost_on, about, and_lost, IsLegalRecord}
use Rattle.single_agent.proofs.Grown.{Within, newest_within}

-- WHOSE ENTRIES AN ACT MAKES

alone : (r : ℕ) (e : Entry) → e.by ≡ Some r → about r (e ∷ []) ≡ e ∷ []
unfolding about
alone r e by = rw by (rw (eq-eqb r r refl) refl)

not_alone : (q r : ℕ) (e : Entry) → e.by ≡ Some r → q ≢ r → about q (e ∷ []) ≡ []
unfolding about
not_alone q r e by other = rw by (rw (ne_eqb r q (λ p. other (sym p))) refl)

loss_alone : (r : ℕ) → about r (lost_entry r ∷ []) ≡ lost_entry r ∷ []
unfolding about
loss_alone r = rw (eq-eqb r r refl) refl

loss_of_other : (q r : ℕ) → q ≢ r → about q (lost_entry r ∷ []) ≡ []
unfolding about
loss_of_other q r other = rw (ne_eqb r q (λ p. other (sym p))) refl

nothing_about : (r : ℕ) → about r [] ≡ []
unfolding about
nothing_about r = refl

pub about_append : (r : ℕ) (xs ys : List Entry) → about r (xs ++ ys) ≡ about r xs ++ about r ys
unfolding about
about_append r xs ys = filter-append (λ (e : Entry). is_by r e || is_loss r e) xs ys

all_about : (r : ℕ) (es : List Entry) → AreBy r es → about r es ≡ es
all_about r [] h = nothing_about r
all_about r (e ∷ es) h = about_append r (e ∷ []) es ∙ ap (λ (l : List Entry). l ++ about r es) (alone r e h.0) ∙ ap (λ (l : List Entry). e ∷ l) (all_about r es h.1)

none_of_others : (q r : ℕ) (es : List Entry) → AreBy r es → q ≢ r → about q es ≡ []
none_of_others q r [] h other = nothing_about q
none_of_others q r (e ∷ es) h other = about_append q (e ∷ []) es ∙ ap (λ (l : List Entry). l ++ about q es) (not_alone q r e h.0 other) ∙ none_of_others q r es h.1 other

own_is : (rules : Rules) (r : ℕ) (log : List Entry) (older : List Act) (m : Move) (act : Act) (own : List Entry) → MovesTo rules r log older m act own → AreBy r own
own_is rules r log older (Answers doc point op answer) act own h = subst (AreBy r) (sym h.1) tt
own_is rules r log older (Asks doc point op q) act own h = subst (AreBy r) (sym h.0) (exchange_by rules log r q)
own_is rules r log older Takes act own h = subst (AreBy r) (sym h.2) (refl, tt)
own_is rules r log older Stays act own h = absurd h

exchanged_is : (rules : Rules) (log : List Entry) (r : ℕ) (q : Option Request) → AreBy r (exchanged rules log r q)
exchanged_is rules log r None = tt
exchanged_is rules log r (Some q) = exchange_by rules log r q

lost_is : (rules : Rules) (log : List Entry) (r : ℕ) (q : Option Request) (own : List Entry) → (own ≡ []) ⊎ (own ≡ exchanged rules log r q) → AreBy r own
lost_is rules log r q own (inl none) = subst (AreBy r) (sym none) tt
lost_is rules log r q own (inr served) = subst (AreBy r) (sym served) (exchanged_is rules log r q)

-- ITS LENGTH

pub acted_length : (at doc : ℕ) (point : Point) (op : OpName) (o : Option Answer) (act : Act) → Some act ≡ option_map (Step at doc point op) o → length_of act ≡ at
acted_length at doc point op None act h = absurd cc
acted_length at doc point op (Some a) act h = let same : act ≡ Step at doc point op a = cc in ap length_of same

pub act_length : (rules : Rules) (r : ℕ) (log : List Entry) (older : List Act) (m : Move) (act : Act) (own : List Entry) → MovesTo rules r log older m act own → newest_length older ≤ length log
    → (newest_length older ≤ length_of act) × (length_of act ≤ length own + length log)
act_length rules r log older (Answers doc point op answer) act own h within = let e = ap length_of h.0 in (omega arith, omega arith)
act_length rules r log older (Asks doc point op q) act own h within = let e = acted_length (length own + length log) doc point op (answer_of op (exchange rules log r q).outcome) act h.1 in (omega arith, omega arith)
act_length rules r log older Takes act own h within = let e = ap length_of h.3 in let l = ap length h.2 in (omega arith, omega arith)
act_length rules r log older Stays act own h within = absurd h

pub lost_length : (newest heard : ℕ) (m : Move) (act : Act) → lost_act newest heard m ≡ Some act → newest ≤ heard → (newest ≤ length_of act) × (length_of act ≤ heard)
lost_length newest heard (Answers doc point op answer) act h later = absurd cc
lost_length newest heard (Asks doc point op q) act h later = let same : Step newest doc point op answer.Lost ≡ act = cc in let e = ap length_of same in (omega arith, omega arith)
lost_length newest heard Takes act h later = let same : LostTask heard ≡ act = cc in let e = ap length_of same in (omega arith, omega arith)
lost_length newest heard Stays act h later = absurd cc

-- WHETHER IT IS LOST

done_kept : (at doc : ℕ) (point : Point) (o : OpName) → is_lost (Step at doc point o (done_of o)) ≡ false
done_kept at doc point op.Set = refl
done_kept at doc point _ = refl

kept_as : (at doc : ℕ) (point : Point) (o : OpName) (a : Answer) (act : Act) → Some act ≡ option_map (Step at doc point o) (Some a) → is_lost act ≡ is_lost (Step at doc point o a)
kept_as at doc point o a act h = let same : act ≡ Step at doc point o a = cc in ap is_lost same

answer_kept : (at doc : ℕ) (point : Point) (o : OpName) (reply : ReplyOutcome) (act : Act) → Some act ≡ option_map (Step at doc point o) (answer_of o reply) → is_lost act ≡ false
answer_kept at doc point o replies.Done act h = kept_as at doc point o (done_of o) act h ∙ done_kept at doc point o
answer_kept at doc point o (replies.Security n) act h = kept_as at doc point o (answer.Outcome (outcome.Security (rule_of n))) act h
answer_kept at doc point o replies.Null act h = kept_as at doc point o (answer.Outcome (outcome.Value null)) act h
answer_kept at doc point o (replies.Made nav) act h = kept_as at doc point o (answer.Outcome (outcome.Value (value.Window nav))) act h
answer_kept at doc point o (replies.Unloaded place) act h = kept_as at doc point o answer.Unloaded act h
answer_kept at doc point o _ act h = absurd cc

pub act_kept : (rules : Rules) (r : ℕ) (log : List Entry) (older : List Act) (m : Move) (act : Act) (own : List Entry) → MovesTo rules r log older m act own → is_lost act ≡ false
act_kept rules r log older (Answers doc point op o) act own h = ap is_lost h.0
act_kept rules r log older (Asks doc point op q) act own h = answer_kept (length own + length log) doc point op (exchange rules log r q).outcome act h.1
act_kept rules r log older Takes act own h = ap is_lost h.3
act_kept rules r log older Stays act own h = absurd h

lost_lost : (newest heard : ℕ) (m : Move) (act : Act) → lost_act newest heard m ≡ Some act → is_lost act ≡ true
lost_lost newest heard (Answers doc point op answer) act h = absurd cc
lost_lost newest heard (Asks doc point op q) act h = let same : Step newest doc point op answer.Lost ≡ act = cc in ap is_lost (sym same)
lost_lost newest heard Takes act h = let same : LostTask heard ≡ act = cc in ap is_lost (sym same)
lost_lost newest heard Stays act h = absurd cc

-- a renderer that has stopped makes no act
stopped_stays : (s : Session) (log : List Entry) (acts : List Act) → has_stopped acts ≡ true → next_move s log acts ≡ Stays
unfolding next_move
stopped_stays s log acts h = rw h refl

goes_on : (b : Bool) (s : Session) (log : List Entry) (acts : List Act) → has_stopped acts ≡ b → (next_move s log acts ≡ Stays → ⊥) → has_stopped acts ≡ false
goes_on true s log acts h moves = absurd (moves (stopped_stays s log acts h))
goes_on false s log acts h moves = h

acted_goes_on : (s : Session) (r : ℕ) (log : List Entry) (older : List Act) (act : Act) (own : List Entry) → IsActOn s r log older act own → has_stopped older ≡ false
acted_goes_on s r log older act own h = goes_on (has_stopped older) s log older refl (λ stays. subst (λ (m : Move). MovesTo (rules_of s) r log older m act own) stays h)

lost_goes_on : (s : Session) (r : ℕ) (log : List Entry) (older : List Act) (act : Act) (own : List Entry) → IsLostOn s r log older act own → has_stopped older ≡ false
lost_goes_on s r log older act own h =
    goes_on (has_stopped older) s log older refl (λ stays. let none : None ≡ Some act = ap (lost_act (newest_length older) h.heard) (sym stays) ∙ h.lost in absurd cc)

-- THE LOG

-- a legal log and the entries of one act
pub log_acted : (s : Session) (r : ℕ) (log : List Entry) (older : List Act) (m : Move) (act : Act) (own : List Entry) → r < s.renderers → IsLegalLog s log → MovesTo (rules_of s) r log older m act own → IsLegalLog s (own ++ log)
log_acted s r log older (Answers doc point op answer) act own there legal h = subst (λ (o : List Entry). IsLegalLog s (o ++ log)) (sym h.1) legal
log_acted s r log older (Asks doc point op q) act own there legal h = subst (λ (o : List Entry). IsLegalLog s (o ++ log)) (sym h.0) (Exchanged log r q legal there)
log_acted s r log older Takes act own there legal h =
    let same : (exchange (rules_of s) log r Next).entries ≡ own = ap (λ (d : Decision). d.entries) (next_gives (rules_of s) log r) ∙ ap (λ (o : Option What). (task_decision r (length log) o).entries) h.1 ∙ sym h.2 in
    subst (λ (o : List Entry). IsLegalLog s (o ++ log)) same (Exchanged log r Next legal there)
log_acted s r log older Stays act own there legal h = absurd h

-- a legal log and what a lost exchange leaves
log_exchanged : (s : Session) (r : ℕ) (log : List Entry) (q : Option Request) → r < s.renderers → IsLegalLog s log → IsLegalLog s (exchanged (rules_of s) log r q ++ log)
log_exchanged s r log None there legal = legal
log_exchanged s r log (Some q) there legal = Exchanged log r q legal there

pub log_lost : (s : Session) (r : ℕ) (log : List Entry) (q : Option Request) (b : Bool) → r < s.renderers → IsLegalLog s log
    → IsLegalLog s (lost_entry r ∷ (if b then exchanged (rules_of s) log r q else []) ++ log)
log_lost s r log q true there legal = Gave_up (exchanged (rules_of s) log r q ++ log) r (log_exchanged s r log q there legal) there
log_lost s r log q false there legal = Gave_up log r legal there

-- LOSSES, AND THE EXACT LENGTH

never_loss : (r : ℕ) (e : Entry) → e.by ≡ Some r → is_loss r e ≡ false
never_loss r e by = rw by refl

pub own_no_loss : (r : ℕ) (own log : List Entry) → AreBy r own → is_lost_on r log ≡ false → is_lost_on r (own ++ log) ≡ false
unfolding is_lost_on
own_no_loss r [] log by h = h
own_no_loss r (e ∷ own) log by h = rw (never_loss r e by.0) (own_no_loss r own log by.1 h)

second_false : (a b : Bool) → (a || b) ≡ false → b ≡ false
second_false true b h = absurd cc
second_false false b h = h

none_before : (r k : ℕ) (log : List Entry) → is_lost_on r log ≡ false → is_lost_on r (prefix k log) ≡ false
unfolding is_lost_on prefix
none_before r k [] h = h
none_before r k (e ∷ older) h = by_length (nat_le k (length older)) h (none_before r k older (second_false (is_loss r e) (is_lost_on r older) h)) where
  by_length : (b : Bool) → is_lost_on r (e ∷ older) ≡ false → is_lost_on r (prefix k older) ≡ false → is_lost_on r (if b then prefix k older else e ∷ older) ≡ false
  by_length true whole rest = rest
  by_length false whole rest = whole

own_length : (act : Act) → act ≡ heard_at (length_of act) act
own_length (Step at doc point op answer) = refl
own_length (Task at kind place) = refl
own_length (LostTask at) = refl

hears_exactly : (rules : Rules) (r : ℕ) (log : List Entry) (from : ℕ) (q : Option Request) (at : ℕ) → MayHear rules r log from q at at
hears_exactly rules r log from None at = refl
hears_exactly rules r log from (Some q) at = (omega arith, λ once. refl)

pub made_exactly : (s : Session) (r : ℕ) (log : List Entry) (older : List Act) (act : Act) (own : List Entry) → IsActOn s r log older act own → IsMadeOn s r log older act own
made_exactly s r log older act own h =
    record { exact = act; is = h; same = own_length act; hears = hears_exactly (rules_of s) r log (newest_length older) (move_request (next_move s log older)) (length_of act) }

-- A RECORD

longer : (more log : List Entry) → length (more ++ log) ≡ length more + length log
longer more log = length-append more log

pub stands_grown : (s : Session) (r : ℕ) (more log : List Entry) (older : List Act) (act : Act) (own : List Entry) → StandsIn s r log older act own → StandsIn s r (more ++ log) older act own
stands_grown s r more log older act own h =
    let more_long = longer more log in
    let same : prefix h.before (more ++ log) ≡ prefix h.before log = prefix_more more log h.before (omega (arith, h.within)) in
    record {
      before = h.before;
      later = h.later;
      not_lost = ap (is_lost_on r) same ∙ h.not_lost;
      made = subst (λ (l : List Entry). IsMadeOn s r l older act own ⊎ IsLostOn s r l older act own) (sym same) h.made;
      within = omega (arith, h.within);
      follow = prefix_more more log (h.before + length own) h.within ∙ h.follow ∙ ap (λ (l : List Entry). own ++ l) (sym same);
      never_falls = h.never_falls;
      no_longer = omega (arith, h.no_longer);
      not_lost_then = ap (is_lost_on r) (prefix_more more log (length_of act) h.no_longer) ∙ h.not_lost_then;
    }

pub acts_grown : (s : Session) (r : ℕ) (more log : List Entry) (acts : List Act) (mine : List Entry) → LegalActs s r log acts mine → LegalActs s r (more ++ log) acts mine
acts_grown s r more log [] mine h = h
acts_grown s r more log (a ∷ older) mine h = (h.0, h.1, stands_grown s r more log older a h.0 h.2, acts_grown s r more log older h.1 h.3, h.4)

pub acts_within : (s : Session) (r : ℕ) (log : List Entry) (acts : List Act) (mine : List Entry) → LegalActs s r log acts mine → Within (length log) acts
acts_within s r log [] mine h = tt
acts_within s r log (a ∷ older) mine h = (h.2.no_longer, acts_within s r log older h.1 h.3)

-- an act at the end of the log stands in the log with its entries
stands_new : (s : Session) (r : ℕ) (log : List Entry) (older : List Act) (act : Act) (own : List Entry) → is_lost_on r log ≡ false → is_lost_on r (own ++ log) ≡ false → newest_length older ≤ length log → IsMadeOn s r log older act own ⊎ IsLostOn s r log older act own
    → newest_length older ≤ length_of act → length_of act ≤ length own + length log → StandsIn s r (own ++ log) older act own
stands_new s r log older act own goes goes_then within h first last =
    let whole = longer own log in
    let same : prefix (length log) (own ++ log) ≡ log = prefix_more own log (length log) (omega arith) ∙ prefix_whole log (length log) (omega arith) in
    record {
      before = length log;
      later = within;
      not_lost = ap (is_lost_on r) same ∙ goes;
      made = subst (λ (l : List Entry). IsMadeOn s r l older act own ⊎ IsLostOn s r l older act own) (sym same) h;
      within = omega arith;
      follow = prefix_whole (own ++ log) (length log + length own) (omega arith) ∙ ap (λ (l : List Entry). own ++ l) (sym same);
      never_falls = first;
      no_longer = omega arith;
      not_lost_then = none_before r (length_of act) (own ++ log) goes_then;
    }

-- what the log says of a renderer that goes on
abbrev pub goes_on_about : (r : ℕ) (log : List Entry) (acts : List Act) (mine : List Entry) → has_stopped acts ≡ false → about r log ≡ and_lost r acts mine → about r log ≡ mine
goes_on_about r log acts mine goes is = is ∙ ap (λ (b : Bool). if b then lost_entry r ∷ mine else mine) goes

-- WHO ISN'T LOST

rest_by : (r : ℕ) (e : Entry) (rest : List Entry) (b : Bool) → AreBy r (if b then e ∷ rest else rest) → AreBy r rest
rest_by r e rest true h = h.1
rest_by r e rest false h = h

head_stays : (r : ℕ) (e : Entry) (rest : List Entry) (mine loss : Bool) → is_loss r e ≡ loss → AreBy r (if mine || loss then e ∷ rest else rest) → loss ≡ false
head_stays r e rest mine false is h = refl
head_stays r e rest true true is h = sym is ∙ never_loss r e h.0
head_stays r e rest false true is h = sym is ∙ never_loss r e h.0

-- where all entries about it are its own, it wasn't lost
no_loss : (r : ℕ) (log : List Entry) → AreBy r (about r log) → is_lost_on r log ≡ false
unfolding about is_lost_on
no_loss r [] h = refl
no_loss r (e ∷ log) h =
    let head : is_loss r e ≡ false = head_stays r e (about r log) (is_by r e) (is_loss r e) refl h in
    rw head (no_loss r log (rest_by r e (about r log) (is_by r e || is_loss r e) h))

both_by : (r : ℕ) (xs ys : List Entry) → AreBy r xs → AreBy r ys → AreBy r (xs ++ ys)
both_by r [] ys h k = k
both_by r (x ∷ xs) ys h k = (h.0, both_by r xs ys h.1 k)

made_by : (s : Session) (r : ℕ) (log : List Entry) (older : List Act) (act : Act) (own : List Entry) → IsMadeOn s r log older act own ⊎ IsLostOn s r log older act own → AreBy r own
made_by s r log older act own (inl h) = own_is (rules_of s) r log older (next_move s log older) h.exact own h.is
made_by s r log older act own (inr h) = lost_is (rules_of s) log r (move_request (next_move s log older)) own h.served

-- the entries of its acts are its own
acts_by : (s : Session) (r : ℕ) (log : List Entry) (acts : List Act) (mine : List Entry) → LegalActs s r log acts mine → AreBy r mine
acts_by s r log [] mine h = subst (AreBy r) (sym h) tt
acts_by s r log (a ∷ older) mine h =
    subst (AreBy r) (sym h.4) (both_by r h.0 h.1 (made_by s r (prefix h.2.before log) older a h.0 h.2.made) (acts_by s r log older h.1 h.3))

pub not_lost_yet : (s : Session) (r : ℕ) (log : List Entry) (acts : List Act) → IsLegalRecord s r log acts → has_stopped acts ≡ false → is_lost_on r log ≡ false
not_lost_yet s r log acts legal goes =
    no_loss r log (subst (AreBy r) (sym (goes_on_about r log acts legal.0 goes legal.2)) (acts_by s r log acts legal.0 legal.1))

-- one act more, whatever it is
pub record_acted : (s : Session) (r : ℕ) (log : List Entry) (older : List Act) (act : Act) (own : List Entry) → IsLegalRecord s r log older → IsActOn s r log older act own → IsLegalRecord s r (own ++ log) (act ∷ older)
record_acted s r log older act own legal h =
    let within = newest_within (length log) older (acts_within s r log older legal.0 legal.1) in
    let lengths = act_length (rules_of s) r log older (next_move s log older) act own h within in
    let goes = not_lost_yet s r log older legal (acted_goes_on s r log older act own h) in
    let before = goes_on_about r log older legal.0 (acted_goes_on s r log older act own h) legal.2 in (
      own ++ legal.0,
      (own, legal.0, stands_new s r log older act own goes (own_no_loss r own log (own_is (rules_of s) r log older (next_move s log older) act own h) goes) within (inl (made_exactly s r log older act own h)) lengths.0 lengths.1, acts_grown s r own log older legal.0 legal.1, refl),
      about_append r own log ∙ ap (λ (l : List Entry). l ++ about r log) (all_about r own (own_is (rules_of s) r log older (next_move s log older) act own h))
          ∙ ap (λ (l : List Entry). own ++ l) before
          ∙ ap (λ (b : Bool). if b then lost_entry r ∷ own ++ legal.0 else own ++ legal.0) (sym (act_kept (rules_of s) r log older (next_move s log older) act own h)),
    )

-- a lost act, and the loss
pub record_lost : (s : Session) (r : ℕ) (log : List Entry) (older : List Act) (act : Act) (own : List Entry) → IsLegalRecord s r log older → IsLostOn s r log older act own → IsLegalRecord s r (lost_entry r ∷ own ++ log) (act ∷ older)
record_lost s r log older act own legal h =
    let within = newest_within (length log) older (acts_within s r log older legal.0 legal.1) in
    let lengths = lost_length (newest_length older) h.heard (next_move s log older) act h.lost h.later in
    let before = goes_on_about r log older legal.0 (lost_goes_on s r log older act own h) legal.2 in
    let goes = not_lost_yet s r log older legal (lost_goes_on s r log older act own h) in
    let alive = own_no_loss r own log (lost_is (rules_of s) log r (move_request (next_move s log older)) own h.served) goes in
    let stands : StandsIn s r (own ++ log) older act own = stands_new s r log older act own goes alive within (inr h) lengths.0 (omega (arith, h.within, lengths.1)) in (
      own ++ legal.0,
      (
        own,
        legal.0,
        stands_grown s r (lost_entry r ∷ []) (own ++ log) older act own stands,
        acts_grown s r (lost_entry r ∷ []) (own ++ log) older legal.0 (acts_grown s r own log older legal.0 legal.1),
        refl,
      ),
      about_append r (lost_entry r ∷ []) (own ++ log) ∙ ap (λ (l : List Entry). l ++ about r (own ++ log)) (loss_alone r)
          ∙ ap (λ (l : List Entry). lost_entry r ∷ l) (about_append r own log ∙ ap (λ (l : List Entry). l ++ about r log) (all_about r own (lost_is (rules_of s) log r (move_request (next_move s log older)) own h.served))
          ∙ ap (λ (l : List Entry). own ++ l) before)
          ∙ ap (λ (b : Bool). if b then lost_entry r ∷ own ++ legal.0 else own ++ legal.0) (sym (lost_lost (newest_length older) h.heard (next_move s log older) act h.lost)),
    )

-- entries that say nothing of a renderer
pub record_later : (s : Session) (q : ℕ) (more log : List Entry) (acts : List Act) → IsLegalRecord s q log acts → about q more ≡ [] → IsLegalRecord s q (more ++ log) acts
record_later s q more log acts legal none =
    (legal.0, acts_grown s q more log acts legal.0 legal.1, about_append q more log ∙ ap (λ (l : List Entry). l ++ about q log) none ∙ legal.2)

-- another renderer's act
pub record_other : (s : Session) (q r : ℕ) (log : List Entry) (acts older : List Act) (act : Act) (own : List Entry) → IsLegalRecord s q log acts → IsActOn s r log older act own → q ≢ r → IsLegalRecord s q (own ++ log) acts
record_other s q r log acts older act own legal h other =
    record_later s q own log acts legal (none_of_others q r own (own_is (rules_of s) r log older (next_move s log older) act own h) other)

-- what another renderer's lost exchange leaves
pub record_other_lost : (s : Session) (q r : ℕ) (log : List Entry) (acts : List Act) (request : Option Request) (b : Bool) → IsLegalRecord s q log acts → q ≢ r
    → IsLegalRecord s q (lost_entry r ∷ (if b then exchanged (rules_of s) log r request else []) ++ log) acts
record_other_lost s q r log acts request true legal other =
    record_later s q (lost_entry r ∷ []) (exchanged (rules_of s) log r request ++ log) acts
    (record_later s q (exchanged (rules_of s) log r request) log acts legal (none_of_others q r (exchanged (rules_of s) log r request) (exchanged_is (rules_of s) log r request) other)) (loss_of_other q r other)
record_other_lost s q r log acts request false legal other = record_later s q (lost_entry r ∷ []) log acts legal (loss_of_other q r other)
