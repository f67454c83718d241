-- What the coordinator says of its log before and after an exchange, and what its reply leaves to be told.
use Rattle.std.proofs.Common.{◌≡◌, ℕ, ◌+◌, ◌-◌, ◌≤◌, List, ◌++◌, length, Some, None, Bool, true, false, refl, sym, ap, subst, ◌∙◌, arith, if◌then◌else◌}
use Rattle.std.specs.Prelude.{nat_lt, ◌&&◌}
use Rattle.std.proofs.lemmas.Bool.Decides.{nat_tests}
use Rattle.agent_terms.specs.Limits.{most_entries, most_renderers}
use Rattle.agent_terms.specs.declared.request.ReplyOutcome.{ReplyOutcome}
use Rattle.coordinator_rules.specs.Told.{news_from}
use Rattle.desk.specs.History.{log_of, told_of}
use Rattle.desk.specs.Serving.{Coordinator, IsServed}
use Rattle.desk.proofs.Told.{answers_within}
use Rattle.exchange_laws.specs.Fit.{AreFit, IsFitLog}
use Rattle.frame_grammar.specs.Cut.{is_telling}
use Rattle.link_fields.specs.Lawful.{IsBytes}
use Rattle.tree_log.specs.declared.entry.Entry.{Entry}
use Rattle.tree_log.specs.Admits.{AreAdmitted}
use Rattle.tree_log.proofs.Admitted.{both}
use Rattle.link_port.specs.Exchanging.{decision_on, left_by, reply_on, IsSound}
use Rattle.link_port.specs.Spelled.{kind_at, left_in, outcome_at, tells}
use Rattle.link_port.proofs.InRange.{reply_fits}
use Rattle.link_port.proofs.Linked.{it_tells, log_after, news_length, told_now}
use Rattle.link_port.proofs.Reading.{outcome_read, reply_tells}

-- what a coordinator says of its log as it shows it
pub record Shows (c : Coordinator) : Type 0 where
  pub admitted : AreAdmitted (log_of c.history)
  pub few : length (log_of c.history) ≤ most_entries + most_renderers
  pub fit : IsFitLog c.rules (log_of c.history)

module _ (r : ℕ) (bytes : List ℕ) (old new : Coordinator) (reply : List ℕ) (served : IsServed r bytes old reply new) where
  abbrev after : List Entry
  after = (decision_on r bytes old).entries ++ log_of old.history

  now_is : log_of new.history ≡ after
  now_is = ap log_of served.after.history ∙ log_after r old.history (decision_on r bytes old)

  pub sound_of : IsBytes bytes → Shows old → Shows new → told_of old.history r ≤ length (log_of old.history) → IsSound r bytes old
  sound_of fits s t le =
      let short : length after ≤ most_entries + most_renderers = subst (λ (l : List Entry). length l ≤ most_entries + most_renderers) now_is t.few in
      record {
        before = s.admitted;
        few = s.few;
        told = le;
        after = subst AreAdmitted now_is t.admitted;
        room = short;
        reply = reply_fits r bytes old fits s.fit (subst AreFit now_is t.fit.fit) (omega (arith, s.few)) (omega arith);
      }

  more_as : (told a n l : ℕ) (t : Bool) → told + a ≤ l → n ≡ l - told → told ≤ l → (t && nat_lt a n) ≡ (t && nat_lt (told + a) l)
  more_as told a n l true le is inside = let same : nat_lt a n ≡ nat_lt (told + a) l = grind (arith, nat_tests) in same
  more_as told a n l false le is inside = refl

  -- a reply leaves more to be told where it tells, and the renderer wasn't told the whole log
  leaves_is : IsSound r bytes old → (tells (kind_at reply) && nat_lt (told_of new.history r) (length (log_of new.history))) ≡ (reply_on r bytes old).more
  leaves_is s =
      let p = reply_on r bytes old in
      let d = decision_on r bytes old in
      let told = told_of old.history r in
      let t = it_tells r bytes old in
      let kind : tells (kind_at reply) ≡ is_telling d.outcome = ap (λ b. tells (kind_at b)) served.answer ∙ reply_tells p ∙ ap is_telling t.outcome in
      let upto : told_of new.history r ≡ told + length p.news = ap (λ h. told_of h r) served.after.history ∙ told_now r old.history d in
      let within : told + length p.news ≤ length after = answers_within r (log_of old.history) told d s.told in
      ap (λ b. b && nat_lt (told_of new.history r) (length (log_of new.history))) kind
      ∙ ap (λ n. is_telling d.outcome && nat_lt n (length (log_of new.history))) upto
      ∙ ap (λ (l : List Entry). is_telling d.outcome && nat_lt (told + length p.news) (length l)) now_is
      ∙ sym (more_as told (length p.news) (length (news_from r told after)) (length after) (is_telling d.outcome) within (news_length r bytes old) (omega arith))
      ∙ sym t.more

  -- the outcome of such a reply is read from it
  left_if : IsSound r bytes old → (b : Bool) → b ≡ (reply_on r bytes old).more → (if b then Some (outcome_at reply) else None) ≡ left_by (reply_on r bytes old)
  left_if s true is =
      let p = reply_on r bytes old in
      let t = it_tells r bytes old in
      let telling : is_telling p.outcome ≡ true = ap is_telling t.outcome ∙ (both _ _ (sym t.more ∙ sym is)).0 in
      rw (← is) (ap (λ (x : ReplyOutcome). Some x) (ap outcome_at served.answer ∙ outcome_read p s.reply telling))
  left_if s false is = rw (← is) refl

  pub left_is : IsSound r bytes old → left_in reply (told_of new.history r) (length (log_of new.history)) ≡ left_by (reply_on r bytes old)
  left_is s = left_if s (tells (kind_at reply) && nat_lt (told_of new.history r) (length (log_of new.history))) (leaves_is s)
