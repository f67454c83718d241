-- A reply that has told the log up to a place.
use Rattle.std.proofs.Common.{◌≡◌, ℕ, ◌+◌, ◌-◌, ◌≤◌, List, [], Some, None, Bool, true, false, sym, ap, subst, ◌∙◌, arith}
use Rattle.std.specs.Prelude.{slice_get, if◌then◌else◌}
use Rattle.std.specs.Option.{option_map}
use Rattle.tree_log.specs.declared.entry.Entry.{Entry}
use Rattle.tree_log.specs.Admits.{AreAdmitted}
use Rattle.tree_log.specs.Blanking.{blank, is_homed}
use Rattle.tree_log.specs.Log.{entry_at}
use Rattle.tree_log.specs.Tree.{Tree, tree_of}
use Rattle.agent_terms.specs.declared.request.ReplyOutcome.{ReplyOutcome}
use Rattle.coordinator_rules.specs.Told.{news_from}
use Rattle.frame_grammar.specs.Cut.{ReplyParts, cut_at, cut_reply, is_telling, reply_telling}
use Rattle.reply_writing.specs.Telling.{IsTold}
use Rattle.told_replies.specs.Within.{IsWithin}
use Rattle.told_replies.proofs.Homes.{all_within}
use Rattle.told_replies.proofs.News.{news_at, within_at}
use Rattle.told_replies.proofs.Room.{IsUnderway, begins, goes_on, is_cut, ends}

-- it tells each entry from a place on, up to this one
pub record IsAt (outcome : ReplyOutcome) (r from : ℕ) (log : List Entry) (place : ℕ) (w : ReplyParts) : Type 0 where
  pub after : from ≤ place
  pub underway : IsUnderway outcome from (news_from r from log) (place - from) w

pub starts : (outcome : ReplyOutcome) (r from : ℕ) (log : List Entry) (w : ReplyParts) → w ≡ record { outcome = outcome; from = from; more = false; news = [] } → IsAt outcome r from log from w
starts outcome r from log w is = record {
  after = omega arith;
  underway = subst (λ (k : ℕ). IsUnderway outcome from (news_from r from log) k w) (let e : 0 ≡ from - from = omega arith in e)
      (subst (IsUnderway outcome from (news_from r from log) 0) (sym is) (begins outcome from (news_from r from log)));
}

pub not_cut : (outcome : ReplyOutcome) (r from : ℕ) (log : List Entry) (place : ℕ) (w : ReplyParts) → IsAt outcome r from log place w → w.more ≡ false
not_cut outcome r from log place w here = ap (λ (p : ReplyParts). p.more) here.underway.so_far

-- what the next entry names is there
pub names_there : (log : List Entry) (t : Tree) (place : ℕ) (e : Entry) → t ≡ tree_of log → AreAdmitted log → Some e ≡ entry_at log place → IsWithin t.docs e.what
names_there log t place e is all here = subst (λ (s : Tree). IsWithin s.docs e.what) (sym is) (within_at (tree_of log).docs log (all_within log all) place e (sym here))

module _ (outcome : ReplyOutcome) (r from : ℕ) (log : List Entry) (t : Tree) (place : ℕ) (w v : ReplyParts) (e : Entry) (told : Bool) (is : t ≡ tree_of log) (all : AreAdmitted log)
    (so_far : IsAt outcome r from log place w) (here : Some e ≡ entry_at log place) (next : IsTold (blank (is_homed t r) e) told w v) where
  next_is : slice_get (news_from r from log) (place - from) ≡ Some (blank (is_homed t r) e)
  next_is =
      news_at r from log place all so_far.after
      ∙ ap (option_map (blank (is_homed (tree_of log) r))) (sym here)
      ∙ ap (λ (s : Tree). Some (blank (is_homed s r) e)) (sym is)

  telling_is : (b : Bool) → told ≡ b → IsTold (blank (is_homed t r) e) b w v
  telling_is b same = subst (λ (x : Bool). IsTold (blank (is_homed t r) e) x w v) same next

  -- it is told
  pub next_told : told ≡ true → IsAt outcome r from log (place + 1) v
  next_told room =
      let le : from ≤ place = so_far.after in
      record {
        after = omega arith;
        underway = subst (λ (k : ℕ). IsUnderway outcome from (news_from r from log) k v) (let e : (place - from) + 1 ≡ (place + 1) - from = omega arith in e)
            (goes_on outcome from (news_from r from log) (place - from) w v (blank (is_homed t r) e) so_far.underway next_is (telling_is true room));
      }

  -- or there is no room for it
  pub next_cut : told ≡ false → v ≡ cut_reply outcome from (news_from r from log)
  next_cut full = is_cut outcome from (news_from r from log) (place - from) w v (blank (is_homed t r) e) so_far.underway next_is (telling_is false full)

-- all is told
pub all_told : (outcome : ReplyOutcome) (r from : ℕ) (log : List Entry) (place : ℕ) (w : ReplyParts) → AreAdmitted log → IsAt outcome r from log place w → None ≡ entry_at log place → w ≡ cut_reply outcome from (news_from r from log)
all_told outcome r from log place w all so_far none =
    ends outcome from (news_from r from log) (place - from) w so_far.underway
    (news_at r from log place all so_far.after ∙ ap (option_map (blank (is_homed (tree_of log) r))) (sym none))

-- the outcomes that tell, and those that don't
pub telling : (outcome : ReplyOutcome) (from : ℕ) (news : List Entry) → is_telling outcome ≡ true → reply_telling outcome from news ≡ cut_reply outcome from news
unfolding reply_telling
telling outcome from news h = ap (λ (b : Bool). if b then cut_reply outcome from news else cut_at outcome 0 [] 0) h

pub silent : (outcome : ReplyOutcome) (from : ℕ) (news : List Entry) → is_telling outcome ≡ false → reply_telling outcome from news ≡ record { outcome = outcome; from = 0; more = false; news = [] }
unfolding reply_telling
silent outcome from news h = ap (λ (b : Bool). if b then cut_reply outcome from news else cut_at outcome 0 [] 0) h
