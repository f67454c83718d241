-- A step of a renderer that wasn't lost leaves a log in which its loss doesn't stand.
use Rattle.std.proofs.Common.{◌≡◌, ℕ, List, Option, None, Bool, true, false, ap, ◌∙◌}
use Rattle.std.specs.Prelude.{◌&&◌, if◌then◌else◌}
use Rattle.agent_terms.specs.declared.act.Move.{Move}
use Rattle.agent_terms.specs.declared.act.Move.TheVariants.{Answers, Asks, Takes, Stays}
use Rattle.agent_terms.specs.declared.request.Request.{Request}
use Rattle.agent_terms.specs.declared.request.Request.TheVariants.{Next}
use Rattle.coordinator_rules.specs.Decision.{Rules, exchange}
use Rattle.desk.specs.History.{log_of}
use Rattle.desk.specs.Serving.{Coordinator, decided, full, needs_room}
use Rattle.link_exchange.specs.Calls.{Course}
use Rattle.link_laws.specs.Talking.{IsAnswered, Talks, Refused, Dropped, Heard, Starved}
use Rattle.renderer.specs.declared.turn.Turn.{Turn}
use Rattle.renderer.specs.Holding.{Holds, left_in, move_in}
use Rattle.renderer.specs.Turning.{Ends}
use Rattle.single_agent.specs.LegalRecord.{is_lost_on}
use Rattle.single_agent.specs.Running.{Left}
use Rattle.single_agent.specs.Turns.{is_full}
use Rattle.single_agent.proofs.Legal.{own_no_loss}
use Rattle.single_agent.proofs.Made.{AreBy, exchange_by}
use Rattle.tree_log.specs.declared.entry.Entry.{Entry}
use Rattle.tree_log.specs.Tree.{tree_of}
use Rattle.turn_laws.specs.Playing.{MovesOver, StepsIfRoom}

decided_by : (rules : Rules) (log : List Entry) (r : ℕ) (q : Request) → AreBy r (decided rules log r q).entries
unfolding decided
decided_by rules log r q = by (is_full log && needs_room (tree_of log) r q)
  where
    by : (b : Bool) → AreBy r (if b then full log else exchange rules log r q).entries
    by true = tt
    by false = exchange_by rules log r q

answered : (r : ℕ) (before after : Coordinator) (q : Request) → IsAnswered r before after q → is_lost_on r (log_of before.history) ≡ false → is_lost_on r (log_of after.history) ≡ false
answered r before after q a there =
    ap (is_lost_on r) a.log ∙ own_no_loss r (decided before.rules (log_of before.history) r q).entries (log_of before.history) (decided_by before.rules (log_of before.history) r q) there

talked : (r number : ℕ) (served : Bool) (before after : Coordinator) (q : Request) (calls : ℕ) (left : Option Left) (mv : Move) (w : Holds) (turn : Turn) (v : Holds) (course : Course)
    → Talks r number served before after q calls course → Ends w left mv course turn v → is_lost_on r (log_of before.history) ≡ false → is_lost_on r (log_of after.history) ≡ false
talked r number served before after q calls left mv w turn v _ (Refused n s same) ends there = ap (λ (c : Coordinator). is_lost_on r (log_of c.history)) same ∙ there
talked r number served before after q calls left mv w turn v _ (Dropped n s counted a) ends there = answered r before after q a there
talked r number served before after q calls left mv w turn v _ (Heard heard outcome h c n) ends there = answered r before after q h.answered there
talked r number served before after q calls left mv w turn v _ Starved ends there = absurd ends

moved : (r number : ℕ) (served : Bool) (left : Option Left) (mv : Move) (w : Holds) (before : Coordinator) (turn : Turn) (v : Holds) (after : Coordinator) (calls : ℕ)
    → MovesOver r number served left mv w before turn v after calls → is_lost_on r (log_of before.history) ≡ false → is_lost_on r (log_of after.history) ≡ false
moved r number served left (Answers doc point op outcome) w before turn v after calls h there = ap (λ (c : Coordinator). is_lost_on r (log_of c.history)) h.1 ∙ there
moved r number served left (Asks doc point op q) w before turn v after calls h there = talked r number served before after q calls left (Asks doc point op q) w turn v h.course h.talks h.ends there
moved r number served left Takes w before turn v after calls h there = talked r number served before after Next calls None Takes w turn v h.course h.talks h.ends there
moved r number served left Stays w before turn v after calls h there = ap (λ (c : Coordinator). is_lost_on r (log_of c.history)) h.0.2 ∙ there

pub step_not_lost : (b : Bool) (r number : ℕ) (served : Bool) (w : Holds) (before : Coordinator) (turn : Turn) (v : Holds) (after : Coordinator) (calls : ℕ)
    → StepsIfRoom b r number served w before turn v after calls → is_lost_on r (log_of before.history) ≡ false → is_lost_on r (log_of after.history) ≡ false
step_not_lost true r number served w before turn v after calls h there = ap (λ (c : Coordinator). is_lost_on r (log_of c.history)) h.0.2 ∙ there
step_not_lost false r number served w before turn v after calls h there = moved r number served (left_in w) (move_in w) w before turn v after calls h there
