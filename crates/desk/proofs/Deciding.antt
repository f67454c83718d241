-- What is decided on a request, case by case in the order in which it is refused.
use Rattle.std.proofs.Common.{◌≡◌, ℕ, List, length, Option, Bool, true, false, refl, sym, ap, ◌∙◌, if◌then◌else◌}
use Rattle.std.specs.Prelude.{◌&&◌}
use Rattle.agent_laws.specs.Actors.{has_no_asker}
use Rattle.agent_laws.proofs.Logs.Exchanges.{exchange-asked, asked-decided, more_gives, not_yours, unloaded, rest_told}
use Rattle.agent_terms.specs.declared.request.Request.{Request}
use Rattle.agent_terms.specs.declared.request.Request.TheVariants as ask
use Rattle.agent_terms.specs.declared.request.ReplyOutcome.TheVariants as outcomes
use Rattle.coordinator_rules.specs.Decision.{Rules, Decision, asker_of, decide, end_of, exchange, home_if_active, is_in_fragment, task_decision}
use Rattle.coordinator_rules.specs.NextTask.{next_task}
use Rattle.single_agent.specs.Turns.{is_full}
use Rattle.tree_log.specs.Tree.{Tree, tree_of, is, is_active}
use Rattle.tree_log.specs.Urls.{url_of}
use Rattle.tree_log.specs.declared.entry.Entry.{Entry}
use Rattle.tree_log.specs.declared.entry.What.{What}
use Rattle.desk.specs.Refusals.{refused_with}
use Rattle.desk.specs.Serving.{decided, full, needs_room}

pub needs-asked : (t : Tree) (r : ℕ) (q : Request) → has_no_asker q ≡ false → needs_room t r q ≡ (is (home_if_active t (asker_of q)) r && is_active t (asker_of q))
unfolding has_no_asker
needs-asked t r ask.Next h = absurd cc
needs-asked t r ask.More h = absurd cc
needs-asked t r _ h = refl

-- where no room is needed, or there is room, it is what the exchange gives

roomless : (b : Bool) (c d : Decision) → (if b && false then c else d) ≡ d
roomless true c d = refl
roomless false c d = refl

idle : (rules : Rules) (log : List Entry) (r : ℕ) (q : Request) → needs_room (tree_of log) r q ≡ false → decided rules log r q ≡ exchange rules log r q
unfolding decided
idle rules log r q h = rw h (roomless (is_full log) (full log) (exchange rules log r q))

spacious : (rules : Rules) (log : List Entry) (r : ℕ) (q : Request) → is_full log ≡ false → decided rules log r q ≡ exchange rules log r q
unfolding decided
spacious rules log r q h = rw h refl

-- A DOCUMENT ASKS

pub decided_not_yours : (rules : Rules) (log : List Entry) (r : ℕ) (q : Request) → has_no_asker q ≡ false → is (home_if_active (tree_of log) (asker_of q)) r ≡ false
    → decided rules log r q ≡ not_yours (tree_of log) (asker_of q)
decided_not_yours rules log r q other h =
    idle rules log r q (rw (needs-asked (tree_of log) r q other, h) refl) ∙ rw (exchange-asked rules log r q other, h) refl

pub decided_unloaded : (rules : Rules) (log : List Entry) (r : ℕ) (q : Request) → has_no_asker q ≡ false → is (home_if_active (tree_of log) (asker_of q)) r ≡ true
    → is_active (tree_of log) (asker_of q) ≡ false → decided rules log r q ≡ unloaded (end_of log (asker_of q))
decided_unloaded rules log r q other h a =
    idle rules log r q (rw (needs-asked (tree_of log) r q other, h, a) refl) ∙ rw (exchange-asked rules log r q other, h, asked-decided rules log r q, a) refl

pub decided_full : (rules : Rules) (log : List Entry) (r : ℕ) (q : Request) → has_no_asker q ≡ false → is (home_if_active (tree_of log) (asker_of q)) r ≡ true
    → is_active (tree_of log) (asker_of q) ≡ true → is_full log ≡ true → decided rules log r q ≡ full log
unfolding decided
decided_full rules log r q other h a f = rw (f, needs-asked (tree_of log) r q other, h, a) refl

pub decided_asked : (rules : Rules) (log : List Entry) (r : ℕ) (q : Request) → has_no_asker q ≡ false → is (home_if_active (tree_of log) (asker_of q)) r ≡ true
    → is_active (tree_of log) (asker_of q) ≡ true → is_full log ≡ false → decided rules log r q ≡ decide rules (tree_of log) (is_in_fragment (tree_of log) (url_of log)) r q
decided_asked rules log r q other h a f =
    spacious rules log r q f ∙ rw (exchange-asked rules log r q other, h, asked-decided rules log r q, a) refl

-- NO DOCUMENT ASKS

pub decided_next_full : (rules : Rules) (log : List Entry) (r : ℕ) → is_full log ≡ true → decided rules log r ask.Next ≡ full log
unfolding decided
decided_next_full rules log r f = rw f refl

pub decided_next : (rules : Rules) (log : List Entry) (r : ℕ) (task : Option What) → is_full log ≡ false → next_task log r ≡ task → decided rules log r ask.Next ≡ task_decision r (length log) task
unfolding exchange
decided_next rules log r task f n = spacious rules log r ask.Next f ∙ ap (task_decision r (length log)) n

pub decided_more : (rules : Rules) (log : List Entry) (r : ℕ) → decided rules log r ask.More ≡ rest_told
decided_more rules log r = idle rules log r ask.More refl ∙ more_gives rules log r

pub must_ask : (q : Request) → (q ≡ ask.Next → ⊥) → (q ≡ ask.More → ⊥) → has_no_asker q ≡ false
unfolding has_no_asker
must_ask ask.Next n m = absurd (n refl)
must_ask ask.More n m = absurd (m refl)
must_ask _ n m = refl

-- WITH WHAT THE PROGRAM READS

-- a document with this home asks, on a view of the log
pub record Asks (t : Tree) (log : List Entry) (q : Request) (doc : ℕ) (home : Option ℕ) : Type 0 where
  pub tree : t ≡ tree_of log
  pub doc_is : doc ≡ asker_of q
  pub home_is : home ≡ home_if_active t doc
  pub asks : has_no_asker q ≡ false

home_of_asker : (t : Tree) (log : List Entry) (q : Request) (doc : ℕ) (home : Option ℕ) → Asks t log q doc home → home ≡ home_if_active (tree_of log) (asker_of q)
home_of_asker t log q doc home a = a.home_is ∙ ap (λ d. home_if_active t d) a.doc_is ∙ ap (λ (u : Tree). home_if_active u (asker_of q)) a.tree

active_asker : (t : Tree) (log : List Entry) (q : Request) (doc : ℕ) (home : Option ℕ) (b : Bool) → Asks t log q doc home → b ≡ is_active t doc → is_active (tree_of log) (asker_of q) ≡ b
active_asker t log q doc home b a h = sym (h ∙ ap (λ d. is_active t d) a.doc_is ∙ ap (λ (u : Tree). is_active u (asker_of q)) a.tree)

pub refused_not_yours : (t : Tree) (rules : Rules) (log : List Entry) (r : ℕ) (q : Request) (doc : ℕ) (home : Option ℕ) → Asks t log q doc home → is home r ≡ false
    → decided rules log r q ≡ refused_with (outcomes.NotYours doc home)
refused_not_yours t rules log r q doc home a foreign =
    let h = home_of_asker t log q doc home a in
    decided_not_yours rules log r q a.asks (ap (λ o. is o r) (sym h) ∙ foreign)
    ∙ ap (λ d. refused_with (outcomes.NotYours d (home_if_active (tree_of log) (asker_of q)))) (sym a.doc_is) ∙ ap (λ o. refused_with (outcomes.NotYours doc o)) (sym h)

pub refused_unloaded : (t : Tree) (rules : Rules) (log : List Entry) (r : ℕ) (q : Request) (doc : ℕ) (home : Option ℕ) (active : Bool) (place : ℕ) → Asks t log q doc home → is home r ≡ true
    → active ≡ is_active t doc → active ≡ false → place ≡ end_of log doc → decided rules log r q ≡ refused_with (outcomes.Unloaded place)
refused_unloaded t rules log r q doc home active place a own is_it off at =
    let h = home_of_asker t log q doc home a in
    decided_unloaded rules log r q a.asks (ap (λ o. is o r) (sym h) ∙ own) (active_asker t log q doc home active a is_it ∙ off)
    ∙ ap (λ p. refused_with (outcomes.Unloaded p)) (sym (at ∙ ap (end_of log) a.doc_is))

pub refused_full : (t : Tree) (rules : Rules) (log : List Entry) (r : ℕ) (q : Request) (doc : ℕ) (home : Option ℕ) (active is_it_full : Bool) (len : ℕ) → Asks t log q doc home → is home r ≡ true
    → active ≡ is_active t doc → active ≡ true → is_it_full ≡ is_full log → is_it_full ≡ true → len ≡ length log → decided rules log r q ≡ refused_with (outcomes.Full len)
refused_full t rules log r q doc home active is_it_full len a own is_it on f full_now at =
    let h = home_of_asker t log q doc home a in
    decided_full rules log r q a.asks (ap (λ o. is o r) (sym h) ∙ own) (active_asker t log q doc home active a is_it ∙ on) (sym f ∙ full_now)
    ∙ ap (λ n. refused_with (outcomes.Full n)) (sym at)

pub accepted : (t : Tree) (rules : Rules) (log : List Entry) (r : ℕ) (q : Request) (doc : ℕ) (home : Option ℕ) (active is_it_full : Bool) → Asks t log q doc home → is home r ≡ true
    → active ≡ is_active t doc → active ≡ true → is_it_full ≡ is_full log → is_it_full ≡ false
    → decided rules log r q ≡ decide rules (tree_of log) (is_in_fragment (tree_of log) (url_of log)) r q
accepted t rules log r q doc home active is_it_full a own is_it on f roomy =
    let h = home_of_asker t log q doc home a in
    decided_asked rules log r q a.asks (ap (λ o. is o r) (sym h) ∙ own) (active_asker t log q doc home active a is_it ∙ on) (sym f ∙ roomy)
