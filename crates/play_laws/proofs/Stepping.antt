-- A step of a renderer over a link to the coordinator, and what it leaves to the others.
use Rattle.std.proofs.Common.{◌≡◌, ℕ, length, Option, Some, None, Bool, true, false, refl, sym, ap, subst, ◌∙◌}
use Rattle.std.specs.Prelude.{nat_le, if◌then◌else◌}
use Rattle.agent_laws.specs.Actors.{has_no_asker}
use Rattle.agent_laws.proofs.Logs.Asked.{IsAskedBy, asked_by}
use Rattle.agent_terms.specs.Limits.{most_acts}
use Rattle.agent_terms.specs.declared.act.Move.{Move}
use Rattle.agent_terms.specs.declared.act.Move.TheVariants.{Answers, Asks, Takes, Stays}
use Rattle.agent_terms.specs.declared.act.Performed.{Performed}
use Rattle.agent_terms.specs.declared.act.Performed.TheVariants.{Answer, Ask}
use Rattle.agent_terms.specs.declared.act.Point.{Point}
use Rattle.agent_terms.specs.declared.request.Request.{Request}
use Rattle.agent_terms.specs.declared.request.Request.TheVariants as ask
use Rattle.agent_terms.specs.declared.step.OpName.{OpName}
use Rattle.agent_terms.specs.declared.step.Step.{Step}
use Rattle.desk.specs.History as desk
use Rattle.desk.specs.Serving.{Coordinator}
use Rattle.object_access.specs.StepAnswer.{Sight, perform}
use Rattle.single_agent.specs.Lengths.{has_stopped}
use Rattle.single_agent.specs.NextMove.{move_by, move_of, op_of}
use Rattle.single_agent.specs.Running.{Left}
use Rattle.link_exchange.specs.Calls.{Course, Exchanges}
use Rattle.link_laws.specs.Talking.{Talks, Refused, Dropped, Heard, Starved}
use Rattle.link_wire.specs.declared.link.Link.{Ghosts}
use Rattle.link_wire.specs.Links.{is_fit}
use Rattle.link_wire.specs.Requests.{IsRequest}
use Rattle.renderer.specs.declared.turn.Turn.{Turn}
use Rattle.renderer.specs.declared.turn.Turn.TheVariants.{ActsFull, Stopped}
use Rattle.renderer.specs.Holding.{Holds, left_in, move_in, sight_in}
use Rattle.renderer.specs.Turning.{Ends, Moves, MovesIfRoom, StaysSo, Steps}
use Rattle.turn_laws.specs.Playing.{MovesOver, StepsIfRoom, StepsOver}

-- WHAT IS ASKED

step_asks : (s : Sight) (d : ℕ) (point : Point) (st : Step) (doc : ℕ) (p : Point) (op : OpName) (q : Request) → move_by d point (op_of st) (perform s d st) ≡ Asks doc p op q → has_no_asker q ≡ false
step_asks s d point st doc p op q e = by (perform s d st) (asked_by s d st) e
  where
    by : (done : Performed) → IsAskedBy d done → move_by d point (op_of st) done ≡ Asks doc p op q → has_no_asker q ≡ false
    by (Answer o) h e = absurd cc
    by (Ask x) h e = let same : x ≡ q = cc in subst (λ (y : Request). has_no_asker y ≡ false) same h.other

left_asks : (sees : ℕ → Sight) (left : Option Left) (doc : ℕ) (p : Point) (op : OpName) (q : Request) → move_of sees left ≡ Asks doc p op q → has_no_asker q ≡ false
left_asks sees None doc p op q e = absurd cc
left_asks sees (Some l) doc p op q e = step_asks (sees l.doc) l.doc l.point l.step doc p op q e

no_more : (q : Request) → has_no_asker q ≡ false → q ≡ ask.More → ⊥
unfolding has_no_asker
no_more q h e = let clash : true ≡ false = sym (ap has_no_asker e) ∙ h in absurd cc

move_asks : (w : Holds) (doc : ℕ) (p : Point) (op : OpName) (q : Request) → move_in w ≡ Asks doc p op q → q ≡ ask.More → ⊥
move_asks w doc p op q e = no_more q (by (has_stopped w.acts) e)
  where
    by : (b : Bool) → (if b then Stays else move_of (λ d. sight_in w) (left_in w)) ≡ Asks doc p op q → has_no_asker q ≡ false
    by true h = absurd cc
    by false h = left_asks (λ d. sight_in w) (left_in w) doc p op q h

-- A STEP OVER SUCH A LINK

module _ {L : Type 0} (link : Ghosts L) (r number : ℕ) (served : Bool) (w v : Holds) (l m : L) (before after : Coordinator) (turn : Turn) (calls : ℕ) (mine : w.renderer ≡ r)
    (talks : (q : Request) (course : Course) → IsRequest q → (q ≡ ask.More → ⊥) → is_fit w.renderer w.heard q ≡ true → Exchanges link w.renderer l w.heard None q course m → Talks r number served before after q calls course)
    (still : m ≡ l → (after ≡ before) × (calls ≡ 0)) where
  stays : (by : Turn) → StaysSo by w l turn v m → StaysSo by w before turn v after × (calls ≡ 0)
  stays by h = let s = still h.2 in ((h.0, h.1, s.0), s.1)

  moves : (mv : Move) → move_in w ≡ mv → Moves link (left_in w) mv w l turn v m → MovesOver r number served (left_in w) mv w before turn v after calls
  moves (Answers doc point op outcome) e h = let s = still h.1 in (h.0, s.0, s.1)
  moves (Asks doc point op q) e h = record { course = h.course; talks = talks q h.course h.range (move_asks w doc point op q e) h.own h.calls; ends = h.ends }
  moves Takes e h = record { course = h.course; talks = talks ask.Next h.course h.range (λ k. (let clash : ask.Next ≡ ask.More = k in absurd cc)) h.own h.calls; ends = h.ends }
  moves Stays e h = stays Stopped h

  room : (b : Bool) → MovesIfRoom b link w l turn v m → StepsIfRoom b r number served w before turn v after calls
  room true h = stays ActsFull h
  room false h = moves (move_in w) refl h

  pub steps_over : Steps link w l turn v m → StepsOver r number served w before turn v after calls
  steps_over h = room (nat_le most_acts (length w.acts)) h

-- WHAT IT LEAVES TO OTHERS

talk_others : (r number : ℕ) (served : Bool) (left : Option Left) (mv : Move) (w : Holds) (before after : Coordinator) (q : Request) (calls : ℕ) (turn : Turn) (v : Holds) (course : Course)
    → Talks r number served before after q calls course → Ends w left mv course turn v → (x : ℕ) → (x ≡ r → ⊥) → desk.told_of after.history x ≡ desk.told_of before.history x
talk_others r number served left mv w before after q calls turn v _ (Refused n s same) ends x other = ap (λ (c : Coordinator). desk.told_of c.history x) same
talk_others r number served left mv w before after q calls turn v _ (Dropped n s counted a) ends x other = a.others x other
talk_others r number served left mv w before after q calls turn v _ (Heard heard outcome h c n) ends x other = h.answered.others x other
talk_others r number served left mv w before after q calls turn v _ Starved ends x other = absurd ends

move_others : (r number : ℕ) (served : Bool) (left : Option Left) (mv : Move) (w : Holds) (before : Coordinator) (turn : Turn) (v : Holds) (after : Coordinator) (calls : ℕ)
    → MovesOver r number served left mv w before turn v after calls → (x : ℕ) → (x ≡ r → ⊥) → desk.told_of after.history x ≡ desk.told_of before.history x
move_others r number served left (Answers doc point op outcome) w before turn v after calls h x other = ap (λ (c : Coordinator). desk.told_of c.history x) h.1
move_others r number served left (Asks doc point op q) w before turn v after calls h x other = talk_others r number served left (Asks doc point op q) w before after q calls turn v h.course h.talks h.ends x other
move_others r number served left Takes w before turn v after calls h x other = talk_others r number served None Takes w before after ask.Next calls turn v h.course h.talks h.ends x other
move_others r number served left Stays w before turn v after calls h x other = ap (λ (c : Coordinator). desk.told_of c.history x) h.0.2

pub step_others : (b : Bool) (r number : ℕ) (served : Bool) (w : Holds) (before : Coordinator) (turn : Turn) (v : Holds) (after : Coordinator) (calls : ℕ)
    → StepsIfRoom b r number served w before turn v after calls → (x : ℕ) → (x ≡ r → ⊥) → desk.told_of after.history x ≡ desk.told_of before.history x
step_others true r number served w before turn v after calls h x other = ap (λ (c : Coordinator). desk.told_of c.history x) h.0.2
step_others false r number served w before turn v after calls h x other = move_others r number served (left_in w) (move_in w) w before turn v after calls h x other
