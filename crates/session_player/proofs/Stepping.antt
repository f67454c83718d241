-- What kind of step it was.
use Rattle.std.proofs.Common.{◌≡◌, ℕ, ◌+◌, ◌<◌, length, Option, Some, None, true, refl, sym, ap, subst, ◌∙◌}
use Rattle.std.specs.Prelude.{IsTrue}
use Rattle.tree_log.specs.Tree.{tree_of}
use Rattle.agent_terms.specs.declared.session.Session.{Session}
use Rattle.agent_terms.specs.declared.step.Step.{Step}
use Rattle.agent_terms.specs.declared.act.Move.{Move}
use Rattle.agent_terms.specs.declared.act.Move.TheVariants.{Answers, Asks, Takes}
use Rattle.agent_terms.specs.declared.act.Performed.{Performed}
use Rattle.agent_terms.specs.declared.act.Performed.TheVariants.{Answer, Ask}
use Rattle.agent_terms.specs.declared.act.Point.{Point}
use Rattle.agent_terms.specs.declared.act.Point.TheVariants.{Script, Handler}
use Rattle.agent_terms.specs.declared.outcome.Outcome.{Outcome}
use Rattle.agent_terms.specs.declared.request.Request.{Request}
use Rattle.agent_terms.specs.declared.step.OpName.{OpName}
use Rattle.coordinator_rules.specs.Decision.{asker_of}
use Rattle.object_access.specs.StepAnswer.{Sight, perform}
use Rattle.single_agent.specs.Running.{Left, made_before, next_point}
use Rattle.single_agent.specs.NextMove.{move_by, move_of, op_of}
use Rattle.single_agent.specs.Turns.{HasRoom, needs_room}
use Rattle.agent_terms.specs.Limits.{most_acts}
use Rattle.agent_laws.proofs.Logs.Asked.{IsAskedBy, asked_by}
use Rattle.agent_terms.specs.Built.{is_built, is_made}
use Rattle.session_player.proofs.BuiltLaws.{made_by_built}
use Rattle.session_player.specs.declared.worker.Turn.{Turn}
use Rattle.session_player.specs.declared.worker.Turn.TheVariants.{Acted, Idle, Full, ActsFull, BadReply}
use Rattle.session_player.specs.Serves.{Ledger}
use Rattle.session_player.specs.Steps.{Holds, ActsLocally, ActsBy, TakeEnds, AskEnds, StepsTo, left_now, move_now, sight_in}

-- one step more was made at the next point
pub made_next : (point : Point) → made_before (next_point point) ≡ made_before point + 1
made_next (Script made) = refl
made_next (Handler place made) = refl

-- a step is no task
pub no_takes : (doc : ℕ) (point : Point) (op : OpName) (p : Performed) → move_by doc point op p ≡ Takes → ⊥
no_takes doc point op (Answer o) h = absurd cc
no_takes doc point op (Ask q) h = absurd cc

-- A BUILT STEP ASKS FOR WHAT STEPS MAKE, IN THE NAME OF ITS DOCUMENT

pub record IsMadeBy (d : ℕ) (q : Request) : Type 0 where
  pub made : is_made q ≡ true
  pub asker : asker_of q ≡ d

pub step_made : (see : Sight) (d : ℕ) (st : Step) (q : Request) → is_built st ≡ true → perform see d st ≡ Ask q → IsMadeBy d q
step_made see d st q built h = record { made = made_by_built see d st q built h; asker = (subst (IsAskedBy d) h (asked_by see d st)).asker }

module _ (s : Session) (r : ℕ) (w v : Holds) (l m : Ledger) (fewer : length w.acts < most_acts) where
  acted : (left : Option Left) (mv : Move) → left_now s w ≡ left → move_of (λ doc. sight_in w) left ≡ mv → (IsTrue (needs_room (tree_of l.log) r mv) → HasRoom l.log)
      → ActsBy s r mv w l v m → StepsTo s r w l Acted v m
  acted left mv is moves room acts =
      let e : move_now s w ≡ mv = ap (move_of (λ doc. sight_in w)) is ∙ moves in (
        fewer,
        subst (λ (k : Move). IsTrue (needs_room (tree_of l.log) r k) → HasRoom l.log) (sym e) room,
        subst (λ (k : Move). ActsBy s r k w l v m) (sym e) acts,
      )

  moved : (left : Left) (p : Performed) → perform (sight_in w) left.doc left.step ≡ p
      → move_of (λ doc. sight_in w) (Some left) ≡ move_by left.doc left.point (op_of left.step) p
  moved left p e = ap (move_by left.doc left.point (op_of left.step)) e

  pub answered : (left : Left) (o : Outcome) → left_now s w ≡ Some left → perform (sight_in w) left.doc left.step ≡ Answer o
      → ActsLocally s left.doc left.point (op_of left.step) o w l v m → StepsTo s r w l Acted v m
  answered left o is e acts = acted (Some left) (Answers left.doc left.point (op_of left.step) o) is (moved left (Answer o) e) (λ n. absurd cc) acts

  pub asked : (turn : Turn) (left : Left) (q : Request) → left_now s w ≡ Some left → perform (sight_in w) left.doc left.step ≡ Ask q
      → AskEnds s r left.doc left.point (op_of left.step) q w l turn v m → StepsTo s r w l turn v m
  asked Acted left q is e ends = acted (Some left) (Asks left.doc left.point (op_of left.step) q) is (moved left (Ask q) e) ends.0 ends.1
  asked Full left q is e ends =
      let same : move_now s w ≡ Asks left.doc left.point (op_of left.step) q = ap (move_of (λ doc. sight_in w)) is ∙ moved left (Ask q) e in
      (fewer, subst (λ (k : Move). IsTrue (needs_room (tree_of l.log) r k)) (sym same) ends.0, ends.1, ends.2, ends.3)
  asked Idle left q is e ends = absurd ends
  asked ActsFull left q is e ends = absurd ends
  asked BadReply left q is e ends = absurd ends

  pub took : (turn : Turn) → left_now s w ≡ None → TakeEnds r w l turn v m → StepsTo s r w l turn v m
  took Acted is ends = acted None Takes is refl (λ n. ends.0) ends.1
  took Idle is ends = (fewer, ends.0, ap (move_of (λ doc. sight_in w)) is, ends.1)
  took Full is ends =
      let same : move_now s w ≡ Takes = ap (move_of (λ doc. sight_in w)) is in
      (fewer, subst (λ (k : Move). IsTrue (needs_room (tree_of l.log) r k)) (sym same) refl, ends.0, ends.1, ends.2)
  took ActsFull is ends = absurd ends
  took BadReply is ends = absurd ends
