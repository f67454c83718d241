-- An exchange with a coordinator, as its renderer hears of it.
use Rattle.std.proofs.Common.{◌≡◌, ℕ, ◌+◌, ◌-◌, ◌≤◌, List, ◌∷◌, ◌++◌, length, reverse, take, Option, Some, None, Bool, true, false, refl, sym, ap, subst, ◌∙◌, arith, length-append, if◌then◌else◌, Ok, Err, eq-eqb}
use Rattle.std.specs.Prelude.{nat_lt, ◌==◌, ◌&&◌}
use Rattle.std.proofs.lemmas.Bool.Decides.{nat_tests}
use Rattle.std.proofs.lemmas.List.{length-reverse, length-take}
use Rattle.agent_terms.specs.declared.request.Request.{Request}
use Rattle.agent_terms.specs.declared.request.Request.TheVariants as ask
use Rattle.agent_terms.specs.declared.request.ReplyOutcome.{ReplyOutcome}
use Rattle.coordinator_rules.specs.Decision.{Decision}
use Rattle.coordinator_rules.specs.Told.{told_log, news_from}
use Rattle.desk.specs.History.{log_of, told_of, entered}
use Rattle.desk.specs.Serving.{answered, Coordinator, decided, decided_on, history_after, told_after}
use Rattle.desk.specs.declared.item.Item.{Item}
use Rattle.desk.specs.declared.item.Item.TheVariants.{Told}
use Rattle.desk.proofs.Histories.{log_of_entered, told_of_entered}
use Rattle.desk.proofs.Told.{answers_within}
use Rattle.frame_grammar.specs.Cut.{ReplyParts, is_telling}
use Rattle.link_fields.specs.Lawful.{IsBytes}
use Rattle.link_wire.specs.Bad.{Decoded}
use Rattle.link_wire.specs.Links.{answers, IsReplyTo, Pending, is_fit, names_of_step, names_what_is_there, step_of, under_way}
use Rattle.link_wire.specs.Requests.{kind_of, request_read}
use Rattle.log_laws.proofs.Messages.MessageGroups.{admitted_before}
use Rattle.tree_log.specs.declared.entry.Entry.{Entry}
use Rattle.tree_log.specs.Admits.{AreAdmitted}
use Rattle.tree_log.specs.Log.{prefix}
use Rattle.tree_log.proofs.Places.{prefix_length, prefix_more, prefix_whole}
use Rattle.link_port.specs.Exchanging.{decision_on, left_by, reply_on, IsSound}
use Rattle.link_port.specs.Hearing.{heard_of}
use Rattle.link_port.specs.Steps.{is_named, pending_after, step_with}
use Rattle.link_port.specs.Spelled.{is_more}
use Rattle.link_port.proofs.Answering.{fit_answers}
use Rattle.link_port.proofs.Decided.{decided_names}
use Rattle.link_port.proofs.Heard.{Tells, heard_grows, news_admitted, telling_tells}
use Rattle.link_port.proofs.Naming.{names_later}
use Rattle.link_port.proofs.Reading.{kind_of_request}
use Rattle.link_port.proofs.Told.{told_admitted, told_front, told_length}

-- THE HISTORY AFTER AN EXCHANGE

log_with : (b : Bool) (told : List Item) (items : List Item) (log : List Entry) → log_of told ≡ log → log_of items ≡ log → log_of (if b then told else items) ≡ log
log_with true told items log h k = h
log_with false told items log h k = k

pub log_after : (r : ℕ) (items : List Item) (d : Decision) → log_of (history_after r items d) ≡ d.entries ++ log_of items
log_after r items d =
    let before = told_of items r in
    let now = told_after r (log_of items) before d in
    let joined : log_of (entered d.entries ++ items) ≡ d.entries ++ log_of items = log_of_entered d.entries items in
    log_with (nat_lt before now) _ (entered d.entries ++ items) (d.entries ++ log_of items) joined joined

told_with : (b : Bool) (r before now : ℕ) (items : List Item) → nat_lt before now ≡ b → before ≤ now → told_of items r ≡ before → told_of (if b then Told r now ∷ items else items) r ≡ now
told_with true r before now items e le h = rw (eq-eqb r r refl) refl
told_with false r before now items e le h = let same : before ≡ now = grind (arith, nat_tests) in h ∙ same

pub told_now : (r : ℕ) (items : List Item) (d : Decision) → told_of (history_after r items d) r ≡ told_after r (log_of items) (told_of items r) d
told_now r items d =
    let before = told_of items r in
    let now = told_after r (log_of items) before d in
    told_with (nat_lt before now) r before now (entered d.entries ++ items) refl (omega arith) (told_of_entered d.entries items r)

-- THE STEP

step_is : (older : ℕ) (pending : Option Pending) (q : Request) (o : ReplyOutcome) → step_with older pending (kind_of q == 13) o ≡ step_of older pending q o
step_is older None q o = refl
step_is older (Some step) ask.Next o = refl
step_is older (Some step) (ask.Sync asker) o = refl
step_is older (Some step) (ask.Frame asker name flags url) o = refl
step_is older (Some step) (ask.Drop asker nav) o = refl
step_is older (Some step) (ask.Open asker url target noopener user) o = refl
step_is older (Some step) (ask.Link asker url target noopener user) o = refl
step_is older (Some step) (ask.Go asker doc url user) o = refl
step_is older (Some step) (ask.Name asker doc name) o = refl
step_is older (Some step) (ask.Disown asker doc) o = refl
step_is older (Some step) (ask.Close asker doc user) o = refl
step_is older (Some step) (ask.Post asker doc target body) o = refl
step_is older (Some step) (ask.Domain asker value) o = refl
step_is older (Some step) ask.More o = refl

under_way_is : (older : ℕ) (pending : Option Pending) (q : Request) (p : ReplyParts) → pending_after older pending (kind_of q == 13) (left_by p) ≡ under_way older pending q p
under_way_is older pending q p = by_more p.more
  where
    by_more : (b : Bool) → pending_after older pending (kind_of q == 13) (if b then Some p.outcome else None) ≡ (if b then Some (step_of older pending q p.outcome) else None)
    by_more true = ap (λ (step : Pending). Some step) (step_is older pending q p.outcome)
    by_more false = refl

-- WHAT IS HEARD

module _ (r : ℕ) (bytes : List ℕ) (desk : Coordinator) where
  abbrev log : List Entry
  log = log_of desk.history

  abbrev told : ℕ
  told = told_of desk.history r

  abbrev d : Decision
  d = decision_on r bytes desk

  abbrev p : ReplyParts
  p = reply_on r bytes desk

  abbrev after : List Entry
  after = d.entries ++ log

  abbrev heard : List Entry
  heard = heard_of r desk.history

  pub it_tells : Tells d.outcome told (news_from r told after) p
  it_tells = telling_tells d.outcome told (news_from r told after)

  pub news_length : length (news_from r told after) ≡ length after - told
  news_length =
      let rest : List Entry = take (length after - told) (told_log r after) in
      let a = length-reverse rest in
      let b = length-take (length after - told) (told_log r after) in
      let c = told_length r after in
      omega arith

  module _ (s : IsSound r bytes desk) where
    within : told + length p.news ≤ length after
    within = answers_within r log told d s.told

    longer : told ≤ length after
    longer = omega (arith, length-append d.entries log, s.told)

    heard_length : length heard ≡ told
    heard_length = prefix_length (told_log r log) told (omega (arith, s.told, told_length r log))

    -- what was heard of the log is what was heard of the longer one
    heard_before : heard ≡ prefix told (told_log r after)
    heard_before =
        let front = told_front r d.entries log in
        sym (ap (prefix told) front.1 ∙ prefix_more front.0 (told_log r log) told (omega (arith, s.told, told_length r log)))

    heard_is : reverse p.news ++ heard ≡ prefix (told + length p.news) (told_log r after)
    heard_is = ap (λ (h : List Entry). reverse p.news ++ h) heard_before ∙ heard_grows r told after d.outcome p longer it_tells

    -- what is heard after the exchange
    pub heard_after : heard_of r (history_after r desk.history (decision_on r bytes desk)) ≡ reverse (reply_on r bytes desk).news ++ heard_of r desk.history
    heard_after =
        ap (λ n. prefix n (told_log r (log_of (history_after r desk.history d)))) (told_now r desk.history d)
        ∙ ap (λ (l : List Entry). prefix (told + length p.news) (told_log r l)) (log_after r desk.history d) ∙ sym heard_is

    -- WHAT A STEP NAMES

    fresh_names : names_what_is_there r (told_log r after) told d.outcome ≡ true
    unfolding answered
    fresh_names = by_request (request_read bytes)
      where
        by_request : (x : Decoded Request) → names_what_is_there r (told_log r ((decided_on desk.rules log r x).entries ++ log)) told (decided_on desk.rules log r x).outcome ≡ true
        by_request (Ok q) = decided_names r told log s.before (omega (arith, s.few)) s.told desk.rules q
        by_request (Err bad) = refl

    later_names : (older : ℕ) (o : ReplyOutcome) → names_what_is_there r (told_log r log) older o ≡ true → names_what_is_there r (told_log r after) older o ≡ true
    later_names older o h =
        let front = told_front r d.entries log in
        let all : AreAdmitted (front.0 ++ told_log r log) = subst AreAdmitted front.1 (told_admitted r after s.after) in
        subst (λ (l : List Entry). names_what_is_there r l older o ≡ true) (sym front.1) (names_later r front.0 (told_log r log) older o all h)

    step_names : (pending : Option Pending) (more : Bool) → is_named r desk.history pending ≡ true → names_of_step r (told_log r after) (step_with told pending more d.outcome) ≡ true
    step_names None more h = fresh_names
    step_names (Some step) true h = later_names step.older step.outcome h
    step_names (Some step) false h = fresh_names

    named_if : (b : Bool) (pending : Option Pending) (more : Bool) → is_named r desk.history pending ≡ true
        → is_named r (history_after r desk.history d) (pending_after told pending more (if b then Some p.outcome else None)) ≡ true
    named_if true pending more h =
        let step : Pending = step_with told pending more p.outcome in
        subst (λ (l : List Entry). names_of_step r (told_log r l) step ≡ true) (sym (log_after r desk.history d))
        (subst (λ (o : ReplyOutcome). names_of_step r (told_log r after) (step_with told pending more o) ≡ true) (sym it_tells.outcome) (step_names pending more h))
    named_if false pending more h = refl

    -- what the step under way names is there after the exchange
    pub named_after : (pending : Option Pending) (more : Bool) → is_named r desk.history pending ≡ true
        → is_named r (history_after r desk.history (decision_on r bytes desk)) (pending_after (told_of desk.history r) pending more (left_by (reply_on r bytes desk))) ≡ true
    named_after pending more h = named_if p.more pending more h

    -- THE REPLY

    module _ (q : Request) (read : request_read bytes ≡ Ok q) (bytes_fit : IsBytes bytes) where
      decision_is : d ≡ decided desk.rules log r q
      unfolding answered
      decision_is = ap (decided_on desk.rules log r) read

      more_is : is_more bytes ≡ (kind_of q == 13)
      more_is = ap (λ n. n == 13) (kind_of_request bytes q bytes_fit read)

      told_all : is_telling d.outcome ≡ true → p.more ≡ false → reverse p.news ++ heard ≡ told_log r after
      told_all telling none =
          let all_of : (true && nat_lt (length p.news) (length (news_from r told after))) ≡ false = ap (λ b. b && nat_lt (length p.news) (length (news_from r told after))) (sym telling) ∙ sym it_tells.more ∙ none in
          let le : length (news_from r told after) ≤ length p.news = grind (arith, nat_tests) in
          let whole : length (told_log r after) ≤ told + length p.news = omega (arith, news_length, told_length r after, longer) in
          heard_is ∙ prefix_whole (told_log r after) (told + length p.news) whole

      -- the reply is one to a fit request
      pub is_reply : (pending : Option Pending) → is_named r desk.history pending ≡ true → is_fit r (heard_of r desk.history) q ≡ true → IsReplyTo r (heard_of r desk.history) pending q (reply_on r bytes desk)
      is_reply pending named fit =
          let a = fit_answers desk.rules log r told q s.before fit in
          let same : (decided desk.rules log r q).outcome ≡ d.outcome = ap (λ (x : Decision). x.outcome) (sym decision_is) in
          let telling : is_telling d.outcome ≡ true = ap is_telling (sym same) ∙ a.telling in
          record {
            outcome = ap (answers q) (it_tells.outcome ∙ sym same) ∙ a.answers;
            from = it_tells.from telling ∙ sym heard_length;
            admitted = news_admitted p.news heard (subst AreAdmitted (sym heard_is) (admitted_before (told + length p.news) (told_log r after) (told_admitted r after s.after)));
            room = omega (arith, heard_length, within, s.room);
            there = λ none.
                let step : step_with told pending (is_more bytes) d.outcome ≡ step_of (length heard) pending q p.outcome =
                ap (λ b. step_with told pending b d.outcome) more_is ∙ step_is told pending q d.outcome
                ∙ ap (λ n. step_of n pending q d.outcome) (sym heard_length) ∙ ap (λ o. step_of (length heard) pending q o) (sym it_tells.outcome) in
                ap (λ (l : List Entry). names_of_step r l (step_of (length heard) pending q p.outcome)) (told_all telling none) ∙ ap (names_of_step r (told_log r after)) (sym step) ∙ step_names pending (is_more bytes) named;
          }

      -- and what is under way after it
      pub goes_on : (pending : Option Pending) → pending_after (told_of desk.history r) pending (is_more bytes) (left_by (reply_on r bytes desk))
          ≡ under_way (length (heard_of r desk.history)) pending q (reply_on r bytes desk)
      goes_on pending =
          ap (λ b. pending_after told pending b (left_by p)) more_is ∙ under_way_is told pending q p ∙ ap (λ n. under_way n pending q p) (sym heard_length)
