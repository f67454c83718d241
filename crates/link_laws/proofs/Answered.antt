-- What a coordinator does on a request that frames can spell.
use Rattle.std.proofs.Common.{◌≡◌, ℕ, ◌+◌, ◌≤◌, List, ◌∷◌, ◌++◌, length, Option, Bool, true, false, refl, sym, ap, subst, ◌∙◌, arith, if◌then◌else◌, Ok}
use Rattle.std.specs.Prelude.{nat_lt, ◌&&◌}
use Rattle.std.proofs.lemmas.Bool.{false≢true, ne_eqb}
use Rattle.std.proofs.lemmas.Bool.Decides.{nat_tests}
use Rattle.agent_terms.specs.declared.request.Request.{Request}
use Rattle.agent_terms.specs.declared.request.Request.TheVariants as ask
use Rattle.agent_terms.specs.declared.request.ReplyOutcome.{ReplyOutcome}
use Rattle.agent_terms.specs.declared.request.ReplyOutcome.TheVariants as outcomes
use Rattle.agent_terms.specs.declared.request.Why.{Why}
use Rattle.coordinator_rules.specs.Decision.{Rules, Decision, exchange}
use Rattle.coordinator_rules.specs.Told.{news_from}
use Rattle.desk.specs.History.{log_of, told_of, entered}
use Rattle.desk.specs.Serving.{answered, Coordinator, decided, decided_on, full, history_after, IsServed, needs_room, told_after}
use Rattle.desk.specs.declared.item.Item.{Item}
use Rattle.desk.specs.declared.item.Item.TheVariants.{Told}
use Rattle.desk.proofs.Histories.{told_of_entered}
use Rattle.desk.proofs.Told.{answers_within}
use Rattle.exchange_laws.specs.Fit.{AreFit, IsFitLog, IsFitOutcome}
use Rattle.exchange_laws.proofs.Fit.Outcomes.{outcome_fits}
use Rattle.exchange_laws.proofs.Fit.Replies.{log_reply}
use Rattle.frame_grammar.specs.Cut.{ReplyParts, is_telling}
use Rattle.link_port.specs.Exchanging.{decision_on, reply_on}
use Rattle.link_port.proofs.Linked.{it_tells, log_after, news_length, told_now}
use Rattle.link_wire.specs.Bad.{Decoded}
use Rattle.link_wire.specs.Links.{answers}
use Rattle.link_wire.specs.Replies.{IsReply, reply_of}
use Rattle.link_wire.specs.Requests.{IsRequest, request_frame}
use Rattle.link_wire.proofs.ReplyFrames.{reply_again}
use Rattle.link_wire.proofs.RequestFrames.{request_again}
use Rattle.single_agent.specs.Turns.{is_full}
use Rattle.tree_log.specs.declared.entry.Entry.{Entry}
use Rattle.tree_log.specs.Tree.{tree_of}
use Rattle.link_laws.specs.Standing.{HasFitLog, Stands}
use Rattle.link_laws.specs.Talking.{IsAnswered, decision}

-- OUTCOMES

refuses_foreign : (q : Request) (doc : ℕ) (home : Option ℕ) → answers q (outcomes.NotYours doc home) ≡ false
refuses_foreign ask.Next doc home = refl
refuses_foreign ask.More doc home = refl
refuses_foreign _ doc home = refl

refuses_bad : (q : Request) (place : ℕ) (why : Why) → answers q (outcomes.BadFrame place why) ≡ false
refuses_bad ask.Next place why = refl
refuses_bad ask.More place why = refl
refuses_bad _ place why = refl

-- a reply with an outcome that a request may have tells entries
pub answers_telling : (q : Request) (o : ReplyOutcome) → answers q o ≡ true → is_telling o ≡ true
answers_telling q (outcomes.NotYours doc home) h = absurd (false≢true (sym (refuses_foreign q doc home) ∙ h))
answers_telling q (outcomes.BadFrame place why) h = absurd (false≢true (sym (refuses_bad q place why) ∙ h))
answers_telling q _ h = refl

decided_fits : (rules : Rules) (log : List Entry) (r : ℕ) (q : Request) → IsFitLog rules log → IsRequest q → IsFitOutcome (decided rules log r q).outcome
unfolding decided
decided_fits rules log r q fit is = by_room (is_full log && needs_room (tree_of log) r q)
  where
    by_room : (b : Bool) → IsFitOutcome (if b then full log else exchange rules log r q).outcome
    by_room true = (length log, (let short = fit.short in omega arith), refl)
    by_room false = outcome_fits rules log r q fit is

-- THE HISTORY

others_with : (b : Bool) (r now x : ℕ) (items : List Item) (told : ℕ) → (x ≡ r → ⊥) → told_of items x ≡ told → told_of (if b then Told r now ∷ items else items) x ≡ told
others_with true r now x items told apart h = rw (ne_eqb r x (λ e. apart (sym e))) h
others_with false r now x items told apart h = h

others_told : (r x : ℕ) (items : List Item) (d : Decision) → (x ≡ r → ⊥) → told_of (history_after r items d) x ≡ told_of items x
others_told r x items d apart =
    let before = told_of items r in
    let now = told_after r (log_of items) before d in
    others_with (nat_lt before now) r now x (entered d.entries ++ items) (told_of items x) apart (told_of_entered d.entries items x)

-- A REQUEST IS SERVED

pub same_answer : (a b : ReplyParts) (read : Decoded ReplyParts) → read ≡ Ok a → read ≡ Ok b → a ≡ b
same_answer a b read p q = let e : Ok a ≡ Ok b = sym p ∙ q in cc

module _ (r : ℕ) (q : Request) (old new : Coordinator) (reply : List ℕ) (is : IsRequest q) (served : IsServed r (request_frame q) old reply new) where
  decision_is : decision_on r (request_frame q) old ≡ decision r old q
  unfolding answered
  decision_is = ap (decided_on old.rules (log_of old.history) r) (request_again q is)

  log_now : log_of new.history ≡ (decision r old q).entries ++ log_of old.history
  log_now =
      ap log_of served.after.history ∙ log_after r old.history (decision_on r (request_frame q) old)
      ∙ ap (λ (d : Decision). d.entries ++ log_of old.history) decision_is

  -- the reply has the decision's outcome
  pub replied_is : (reply_on r (request_frame q) old).outcome ≡ (decision r old q).outcome
  replied_is = (it_tells r (request_frame q) old).outcome ∙ ap (λ (x : Decision). x.outcome) decision_is

  pub is_answered : IsAnswered r old new q
  is_answered = record {
    rules = served.after.rules;
    serves = served.after.serves;
    log = log_now;
    others = λ x apart. ap (λ h. told_of h x) served.after.history ∙ others_told r x old.history (decision_on r (request_frame q) old) apart;
  }

  module _ (s : Stands r old) (fit : HasFitLog new) (answer : ReplyParts) (reads : reply_of reply ≡ Ok answer) where
    abbrev log : List Entry
    log = log_of old.history

    abbrev told : ℕ
    told = told_of old.history r

    abbrev d : Decision
    d = decision_on r (request_frame q) old

    abbrev p : ReplyParts
    p = reply_on r (request_frame q) old

    abbrev after : List Entry
    after = d.entries ++ log

    log_is : log_of new.history ≡ after
    log_is = ap log_of served.after.history ∙ log_after r old.history d

    after_short : length after ≤ 1073741823
    after_short = let e = ap length log_is in let short = fit.short in omega arith

    is_reply : IsReply p
    is_reply =
        log_reply d.outcome r told after (subst (λ (x : Decision). IsFitOutcome x.outcome) (sym decision_is) (decided_fits old.rules log r q s.fit is)) (subst AreFit log_is fit.fit)
        (let a = s.told in let b = s.fit.short in omega arith) (let a = after_short in omega arith)

    reply_is : p ≡ answer
    reply_is = same_answer p answer (reply_of reply) (ap reply_of served.answer ∙ reply_again p is_reply) reads

    -- the outcome is what was decided
    pub outcome_is : answer.outcome ≡ (decision r old q).outcome
    outcome_is = ap (λ (x : ReplyParts). x.outcome) (sym reply_is) ∙ replied_is

    upto : told_of new.history r ≡ told + length p.news
    upto = ap (λ h. told_of h r) served.after.history ∙ told_now r old.history d

    pub stands : Stands r new
    stands = record {
      fit = fit;
      told = let e = ap length log_is in let w : told + length p.news ≤ length after = answers_within r log told d s.told in let u = upto in omega arith;
    }

    -- all was told, where no more is to be told
    pub all_told : answers q answer.outcome ≡ true → answer.more ≡ false → told_of new.history r ≡ length (log_of new.history)
    all_told may none =
        let t = it_tells r (request_frame q) old in
        let telling : is_telling d.outcome ≡ true = ap is_telling (sym t.outcome ∙ ap (λ (x : ReplyParts). x.outcome) reply_is) ∙ answers_telling q answer.outcome may in
        let last : p.more ≡ false = ap (λ (x : ReplyParts). x.more) reply_is ∙ none in
        let all_of : (true && nat_lt (length p.news) (length (news_from r told after))) ≡ false =
        ap (λ b. b && nat_lt (length p.news) (length (news_from r told after))) (sym telling) ∙ sym t.more ∙ last in
        let le : length (news_from r told after) ≤ length p.news = grind (arith, nat_tests) in
        let e = ap length log_is in
        let n = news_length r (request_frame q) old in
        let u = upto in
        let w = stands.told in
        omega arith
