-- What a renderer holds is sound after its exchanges.
use Rattle.std.proofs.Common.{◌≡◌, ℕ, ◌<◌, ◌^◌, List, [], length, Option, Some, None, Result, Ok, Err, Bool, true, false, cond, refl, sym, subst}
use Rattle.std.specs.Prelude.{◌&&◌, OnOk, OnErr}
use Rattle.single_agent.specs.Lengths.{has_stopped}
use Rattle.tree_log.specs.declared.entry.Entry.{Entry}
use Rattle.tree_log.specs.Admits.{AreAdmitted}
use Rattle.tree_log.specs.Tree.{Tree, tree_of, is_active}
use Rattle.agent_terms.specs.declared.session.Page.{Page}
use Rattle.step_ranges.proofs.Values.{unset_at_hand, first_at_hand}
use Rattle.agent_terms.specs.declared.act.Running.{Running}
use Rattle.agent_terms.specs.declared.request.ReplyOutcome.{ReplyOutcome}
use Rattle.agent_terms.specs.declared.request.ReplyOutcome.TheVariants as reply
use Rattle.agent_terms.specs.declared.step.OpName.{OpName}
use Rattle.agent_terms.specs.declared.step.Step.{Step}
use Rattle.exchange_laws.specs.Fit.{AreFit}
use Rattle.single_agent.specs.Running.{Left, left_at, left_on, made_before}
use Rattle.single_agent.specs.Session.{steps_of}
use Rattle.agent_terms.specs.declared.session.Session.{Session}
use Rattle.std.specs.Option.{option_map}
use Rattle.std.specs.Prelude.{slice_get}
use Rattle.step_ranges.specs.Ranges.{are_pages_short}
use Rattle.renderer.specs.Held.{held, IsFit}
use Rattle.renderer.specs.declared.state.State.{State}
use Rattle.link_wire.specs.Links.{is_some_task, is_task_of, names_what_is_there}
use Rattle.link_exchange.specs.Hearing.{Extends}
use Rattle.renderer.specs.declared.turn.Turn.{Turn}
use Rattle.renderer.specs.Holding.{Holds, fresh, hearing, resting, stepped, taken}
use Rattle.renderer.specs.Sound.{IsSound}
use Rattle.renderer.specs.Turning.{IsAnswered, IsTaken, StepEnds, TaskEnds}
use Rattle.renderer.proofs.Sounding.{hearing_sound, resting_sound, told_sound, taken_sound}

both : (a b : Bool) → (a && b) ≡ true → b ≡ true
both true b h = h
both false b h = absurd cc

-- nothing was heard
pub fresh_sound : (r : ℕ) (pages : List Page) → IsSound (fresh r pages)
fresh_sound r pages = record {
  len = refl;
  there = λ run is. absurd cc;
  homed = λ run is. absurd cc;
  registers = unset_at_hand (tree_of []);
  stores = first_at_hand (tree_of []);
}

pub fresh_fit : {V : Type 0} (w : State V) (pages : List Page) → w.renderer < 2 ^ 16 → w.pages ≡ pages → are_pages_short pages ≡ true → held w ≡ fresh w.renderer pages → IsFit w
fresh_fit w pages few same short is = record {
  seat = few;
  short = subst (λ (p : List Page). are_pages_short p ≡ true) (sym same) short;
  sound = λ _ _. subst IsSound (sym is) (fresh_sound w.renderer pages);
}

-- after a move
pub fit_after : {V A E : Type 0} (w : State V) (r : Result A E) → w.renderer < 2 ^ 16 → are_pages_short w.pages ≡ true → OnOk r (has_stopped w.acts.acts ≡ false → IsSound (held w))
    → OnErr r (w.spent ≡ false → IsSound (held w)) → IsFit w
fit_after w r few short done starved = record { seat = few; short = short; sound = by r done starved }
  where
    by : {A E : Type 0} (x : Result A E) → OnOk x (has_stopped w.acts.acts ≡ false → IsSound (held w)) → OnErr x (w.spent ≡ false → IsSound (held w))
        → w.spent ≡ false → has_stopped w.acts.acts ≡ false → IsSound (held w)
    by (Ok a) done starved fresh goes = done goes
    by (Err e) done starved fresh goes = starved fresh

-- a step is left of an active document alone
pub active_left : (s : Session) (t : Tree) (urls : ℕ → List ℕ) (run : Running) (left : Left) → left_on s t urls run ≡ Some left → is_active t run.doc ≡ true
active_left s t urls run left h = by (is_active t run.doc) refl h
  where
    by : (b : Bool) → is_active t run.doc ≡ b → cond b (option_map (left_at run) (slice_get (steps_of s t urls run.doc run.point) (made_before run.point))) None ≡ Some left → is_active t run.doc ≡ true
    by true e h = e
    by false e h = absurd cc

moved : (v w : Holds) → v ≡ w → IsSound w → IsSound v
moved v w e h = subst IsSound (sym e) h

-- a task that was taken
task_taken : (w : Holds) (heard : List Entry) (place : ℕ) (v : Holds) → IsSound (hearing heard w) → w.renderer < 2 ^ 16 → AreAdmitted heard → AreFit heard
    → names_what_is_there w.renderer heard (length w.heard) (reply.Task place) ≡ true → IsTaken w heard place v → IsSound v
task_taken w heard place v sound few admitted fit there t =
    let task : is_task_of w.renderer heard t.entry.what ≡ true = subst (λ (x : Option Entry). is_some_task w.renderer heard x ≡ true) t.is (both _ _ there) in
    moved v (taken place t.entry (hearing heard w)) t.now (taken_sound (hearing heard w) place t.entry sound few admitted fit t.is task)

pub task_sound : (w v : Holds) (heard : List Entry) (o : ReplyOutcome) (turn : Turn) → IsSound w → w.renderer < 2 ^ 16 → AreAdmitted heard → AreFit heard → Extends w.heard heard
    → names_what_is_there w.renderer heard (length w.heard) o ≡ true → TaskEnds w heard o turn v → IsSound v
task_sound w v heard (reply.Task place) turn sound few admitted fit grown there ends = task_taken w heard place v (hearing_sound w heard sound admitted grown) few admitted fit there ends.1
task_sound w v heard reply.Nothing turn sound few admitted fit grown there ends = moved v (resting (hearing heard w)) ends.1 (resting_sound (hearing heard w) (hearing_sound w heard sound admitted grown))
task_sound w v heard (reply.Full len) turn sound few admitted fit grown there ends = moved v (hearing heard w) ends.1 (hearing_sound w heard sound admitted grown)
task_sound w v heard _ turn sound few admitted fit grown there ends = absurd ends

-- a step that was answered
answered_then : (w v : Holds) (run : Running) (step : Step) (op : OpName) (heard : List Entry) (o : ReplyOutcome) → IsSound w → w.run ≡ Some run → AreAdmitted heard → Extends w.heard heard
    → names_what_is_there w.renderer heard (length w.heard) o ≡ true → IsAnswered w run.doc run.point op (Some (left_at run step)) heard o v → IsSound v
answered_then w v run step op heard o sound runs admitted grown there a =
    moved v (stepped run.doc run.point op a.given (Some (left_at run step)) (hearing heard w)) a.now
    (told_sound (hearing heard w) run step op (length w.heard) o a.given (hearing_sound w heard sound admitted grown) runs there a.is)

pub step_sound : (w v : Holds) (run : Running) (step : Step) (op : OpName) (heard : List Entry) (o : ReplyOutcome) (turn : Turn) → IsSound w → w.run ≡ Some run → AreAdmitted heard → Extends w.heard heard
    → names_what_is_there w.renderer heard (length w.heard) o ≡ true → StepEnds w run.doc run.point op (Some (left_at run step)) heard o turn v → IsSound v
step_sound w v run step op heard (reply.Full len) turn sound runs admitted grown there ends = moved v (hearing heard w) ends.1 (hearing_sound w heard sound admitted grown)
step_sound w v run step op heard reply.Done turn sound runs admitted grown there ends = answered_then w v run step op heard reply.Done sound runs admitted grown there ends.1
step_sound w v run step op heard (reply.Security rule) turn sound runs admitted grown there ends = answered_then w v run step op heard (reply.Security rule) sound runs admitted grown there ends.1
step_sound w v run step op heard reply.Null turn sound runs admitted grown there ends = answered_then w v run step op heard reply.Null sound runs admitted grown there ends.1
step_sound w v run step op heard (reply.Made nav) turn sound runs admitted grown there ends = answered_then w v run step op heard (reply.Made nav) sound runs admitted grown there ends.1
step_sound w v run step op heard (reply.Unloaded place) turn sound runs admitted grown there ends = answered_then w v run step op heard (reply.Unloaded place) sound runs admitted grown there ends.1
step_sound w v run step op heard (reply.Task place) turn sound runs admitted grown there ends = answered_then w v run step op heard (reply.Task place) sound runs admitted grown there ends.1
step_sound w v run step op heard reply.Nothing turn sound runs admitted grown there ends = answered_then w v run step op heard reply.Nothing sound runs admitted grown there ends.1
step_sound w v run step op heard (reply.NotYours d home) turn sound runs admitted grown there ends = answered_then w v run step op heard (reply.NotYours d home) sound runs admitted grown there ends.1
step_sound w v run step op heard (reply.BadFrame place why) turn sound runs admitted grown there ends = answered_then w v run step op heard (reply.BadFrame place why) sound runs admitted grown there ends.1
