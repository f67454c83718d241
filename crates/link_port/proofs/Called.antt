-- What a call of a link over a coordinator gives.
use Rattle.std.proofs.Common.{◌≡◌, ℕ, List, [], length, Option, Some, Bool, true, sym, ap, subst, ◌∙◌, Ok}
use Rattle.agent_terms.specs.declared.request.ReplyOutcome.{ReplyOutcome}
use Rattle.desk.specs.History.{told_of}
use Rattle.desk.specs.Serving.{Coordinator, IsServed}
use Rattle.desk.specs.declared.item.Item.{Item}
use Rattle.frame_grammar.specs.Cut.{ReplyParts}
use Rattle.link_fields.specs.Lawful.{IsBytes}
use Rattle.link_wire.specs.Bad.{Decoded}
use Rattle.link_wire.specs.Links.{AnswersFit, GoesOn, Grows, Hears, Pending, under_way}
use Rattle.link_wire.specs.Replies.{reply_of}
use Rattle.link_wire.proofs.ReplyFrames.{reply_again}
use Rattle.tree_log.specs.declared.entry.Entry.{Entry}
use Rattle.link_port.specs.Exchanging.{left_by, reply_on, IsSound}
use Rattle.link_port.specs.Hearing.{heard_of}
use Rattle.link_port.specs.Spelled.{is_more}
use Rattle.link_port.specs.Steps.{is_named, pending_after}
use Rattle.link_port.proofs.Linked.{goes_on, heard_after, is_reply, named_after}

abbrev decoded : ReplyParts → Decoded ReplyParts
decoded p = Ok p

same_reply : (p parts : ReplyParts) → decoded p ≡ decoded parts → p ≡ parts
same_reply p parts e = cc

module _ (r : ℕ) (bytes : List ℕ) (old new : Coordinator) (reply : List ℕ) (served : IsServed r bytes old reply new) (s : IsSound r bytes old) where
  reply_is : reply_of reply ≡ Ok (reply_on r bytes old)
  reply_is = ap reply_of served.answer ∙ reply_again (reply_on r bytes old) s.reply

  pub answers_fit : IsBytes bytes → (pending : Option Pending) → is_named r old.history pending ≡ true → AnswersFit (Some r) (Some (heard_of r old.history)) pending bytes (Ok tt) reply
  answers_fit fits pending named = λ q read fit. (reply_on r bytes old, reply_is, is_reply r bytes old s q read fits pending named fit)

  pub hears : Hears (Some (heard_of r old.history)) (Ok tt) reply (Some (heard_of r new.history))
  hears = (reply_on r bytes old, reply_is, ap (λ (l : List Entry). Some l) (ap (heard_of r) served.after.history ∙ heard_after r bytes old s))

  module _ (fits : IsBytes bytes) (pending now : Option Pending) (is : now ≡ pending_after (told_of old.history r) pending (is_more bytes) (left_by (reply_on r bytes old))) where
    pub goes : GoesOn (Some (heard_of r old.history)) pending bytes (Ok tt) reply now
    goes = λ q parts read answer. is ∙ goes_on r bytes old s q read fits pending
        ∙ ap (under_way (length (heard_of r old.history)) pending q) (same_reply (reply_on r bytes old) parts (sym reply_is ∙ answer))

    pub named_now : is_named r old.history pending ≡ true → is_named r new.history now ≡ true
    named_now named =
        subst (λ (x : Option Pending). is_named r new.history x ≡ true) (sym is)
        (subst (λ (h : List Item). is_named r h (pending_after (told_of old.history r) pending (is_more bytes) (left_by (reply_on r bytes old))) ≡ true)
        (sym served.after.history) (named_after r bytes old s pending (is_more bytes) named))

-- the step that is under way after a reply, by what was kept and read
pub step_now : (r : ℕ) (bytes : List ℕ) (old : Coordinator) (older : ℕ) (taken step now : Option Pending) (more : Bool) (left : Option ReplyOutcome) → now ≡ pending_after older taken more left
    → older ≡ told_of old.history r → taken ≡ step → more ≡ is_more bytes → left ≡ left_by (reply_on r bytes old)
    → now ≡ pending_after (told_of old.history r) step (is_more bytes) (left_by (reply_on r bytes old))
step_now r bytes old older taken step now more left e at kept asks leaves =
    e ∙ ap (λ n. pending_after n taken more left) at ∙ ap (λ (x : Option Pending). pending_after (told_of old.history r) x more left) kept
    ∙ ap (λ b. pending_after (told_of old.history r) step b left) asks ∙ ap (pending_after (told_of old.history r) step (is_more bytes)) leaves

-- where memory ran out, nothing was heard
pub hears_nothing : (r : ℕ) (old new : List Item) → new ≡ old → Grows (Some (heard_of r old)) (Some (heard_of r new))
hears_nothing r old new is = ([], ap (heard_of r) is)
