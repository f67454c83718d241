use Rattle.std.proofs.Common.{Some}
use Rattle.single_agent.specs.NextMove.{op_of}
use Rattle.single_agent.specs.Running.{left_at}
use Rattle.renderer.specs.Held.{held}
use Rattle.renderer.specs.Turning.{StepEnds}
use Rattle.link_exchange.specs.Calls.{Told}
use Rattle.renderer.proofs.Ending.{step_outcome, step_ends, step_calm, calm_stops, calm_honest}
use Rattle.renderer.proofs.Kept.{step_sound}
use Rattle.renderer.proofs.state.State.ask.Goals as goal

pub told-requires-clause-step : goal.told-requires-clause-step
told-requires-clause-step g c =
    let replied = rw c.in-Told.is at c.in_ok-outcome.ensures.outcome in
    step_outcome c.args.request.now c.in-Told.outcome c.requires.asker replied.0

pub returns-in_ok-turn-in-Told-clause-ok : goal.returns-in_ok-turn-in-Told-clause-ok
returns-in_ok-turn-in-Told-clause-ok g c =
    let replied = rw c.in-Told.is at c.in_ok-outcome.ensures.outcome in
    let told = c.in_ok-turn-in-Told.ensures in
    let w = held c.args.self.now in
    let v = held c.told.new.self in
    let step = c.args.step.now in
    let ends : StepEnds w c.args.run.doc c.args.run.point (op_of step) (Some (left_at c.args.run step)) c.exchange.new.replica c.in-Told.outcome c.in_ok-turn-in-Told.turn v =
    step_ends w v c.args.run.doc c.args.run.point (op_of step) (Some (left_at c.args.run step)) c.exchange.new.replica c.in-Told.outcome c.in_ok-turn-in-Told.turn (step_outcome c.args.request.now c.in-Told.outcome c.requires.asker replied.0) told.full told.answer in
    record {
      range = c.know_request.ensures;
      own = c.requires.fit;
      course = Told c.exchange.new.replica c.in-Told.outcome;
      calls = rw c.in-Told.is at c.in_ok-outcome.ensures.ended;
      ends = (replied.1, ends);
    }

pub returns-in_ok-turn-in-Told-clause-stopped : goal.returns-in_ok-turn-in-Told-clause-stopped
returns-in_ok-turn-in-Told-clause-stopped g c =
    let replied = rw c.in-Told.is at c.in_ok-outcome.ensures.outcome in
    let told = c.in_ok-turn-in-Told.ensures in
    let w = held c.args.self.now in
    let v = held c.told.new.self in
    let step = c.args.step.now in
    let ends : StepEnds w c.args.run.doc c.args.run.point (op_of step) (Some (left_at c.args.run step)) c.exchange.new.replica c.in-Told.outcome c.in_ok-turn-in-Told.turn v =
    step_ends w v c.args.run.doc c.args.run.point (op_of step) (Some (left_at c.args.run step)) c.exchange.new.replica c.in-Told.outcome c.in_ok-turn-in-Told.turn (step_outcome c.args.request.now c.in-Told.outcome c.requires.asker replied.0) told.full told.answer in
    calm_stops g.L.Link w c.args.link.now c.in_ok-turn-in-Told.turn c.exchange.new.link
    (step_calm w v c.args.run.doc c.args.run.point (op_of step) (Some (left_at c.args.run step)) c.exchange.new.replica c.in-Told.outcome c.in_ok-turn-in-Told.turn ends)

pub returns-in_ok-turn-in-Told-clause-honest : goal.returns-in_ok-turn-in-Told-clause-honest
returns-in_ok-turn-in-Told-clause-honest g c =
    let replied = rw c.in-Told.is at c.in_ok-outcome.ensures.outcome in
    let told = c.in_ok-turn-in-Told.ensures in
    let w = held c.args.self.now in
    let v = held c.told.new.self in
    let step = c.args.step.now in
    let ends : StepEnds w c.args.run.doc c.args.run.point (op_of step) (Some (left_at c.args.run step)) c.exchange.new.replica c.in-Told.outcome c.in_ok-turn-in-Told.turn v =
    step_ends w v c.args.run.doc c.args.run.point (op_of step) (Some (left_at c.args.run step)) c.exchange.new.replica c.in-Told.outcome c.in_ok-turn-in-Told.turn (step_outcome c.args.request.now c.in-Told.outcome c.requires.asker replied.0) told.full told.answer in
    calm_honest g.L.Link c.args.link.now c.in_ok-turn-in-Told.turn c.exchange.new.link
    (step_calm w v c.args.run.doc c.args.run.point (op_of step) (Some (left_at c.args.run step)) c.exchange.new.replica c.in-Told.outcome c.in_ok-turn-in-Told.turn ends)

pub returns-in_ok-turn-in-Told-clause-sound : goal.returns-in_ok-turn-in-Told-clause-sound
returns-in_ok-turn-in-Told-clause-sound g c = λ _.
    let replied = rw c.in-Told.is at c.in_ok-outcome.ensures.outcome in
    let told = c.in_ok-turn-in-Told.ensures in
    let w = held c.args.self.now in
    let v = held c.told.new.self in
    let step = c.args.step.now in
    let ends : StepEnds w c.args.run.doc c.args.run.point (op_of step) (Some (left_at c.args.run step)) c.exchange.new.replica c.in-Told.outcome c.in_ok-turn-in-Told.turn v =
    step_ends w v c.args.run.doc c.args.run.point (op_of step) (Some (left_at c.args.run step)) c.exchange.new.replica c.in-Told.outcome c.in_ok-turn-in-Told.turn (step_outcome c.args.request.now c.in-Told.outcome c.requires.asker replied.0) told.full told.answer in
    let view = rw c.told.ensures.replica at c.view-heard.ensures in
    step_sound w v c.args.run step (op_of step) c.exchange.new.replica c.in-Told.outcome c.in_ok-turn-in-Told.turn c.requires.sound c.requires.run view.admitted c.exchange.ensures.grown replied.1 ends
