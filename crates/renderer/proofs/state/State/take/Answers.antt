use Rattle.std.proofs.Common.{◌≡◌, refl, true}
use Rattle.agent_terms.specs.declared.request.Request.TheVariants.{Next}
use Rattle.step_ranges.specs.Ranges.{is_request_short}
use Rattle.renderer.specs.Held.{held}
use Rattle.renderer.specs.Turning.{TaskEnds}
use Rattle.renderer.proofs.Ending.{task_outcome, task_ends, task_calm, calm_stops, calm_honest}
use Rattle.renderer.proofs.Kept.{task_sound}
use Rattle.renderer.proofs.state.State.take.Goals as goal

-- a question for a task carries nothing
next_short : is_request_short Next ≡ true
unfolding is_request_short
next_short = refl

pub know_request-requires : goal.know_request-requires
know_request-requires g c = next_short

pub returns-in-Told-clause-stopped : goal.returns-in-Told-clause-stopped
returns-in-Told-clause-stopped g c =
    let replied = rw c.in-Told.is at c.in_ok-outcome.ensures.outcome in
    let told = c.in_ok-turn-in-Told.ensures in
    let w = held c.args.self.now in
    let v = held c.told_task.new.self in
    let ends : TaskEnds w c.exchange.new.replica c.in-Told.outcome c.in_ok-turn-in-Told.turn v = task_ends w v c.exchange.new.replica c.in-Told.outcome c.in_ok-turn-in-Told.turn (task_outcome c.in-Told.outcome replied.0) told.full told.nothing (λ place is. let t = told.task place is in (t.0, record { entry = t.1.entry; is = t.1.is; now = t.1.now })) in
    calm_stops g.L.Link w c.args.link.now c.in_ok-turn-in-Told.turn c.exchange.new.link (task_calm w v c.exchange.new.replica c.in-Told.outcome c.in_ok-turn-in-Told.turn ends)

pub returns-in-Told-clause-honest : goal.returns-in-Told-clause-honest
returns-in-Told-clause-honest g c =
    let replied = rw c.in-Told.is at c.in_ok-outcome.ensures.outcome in
    let told = c.in_ok-turn-in-Told.ensures in
    let w = held c.args.self.now in
    let v = held c.told_task.new.self in
    let ends : TaskEnds w c.exchange.new.replica c.in-Told.outcome c.in_ok-turn-in-Told.turn v = task_ends w v c.exchange.new.replica c.in-Told.outcome c.in_ok-turn-in-Told.turn (task_outcome c.in-Told.outcome replied.0) told.full told.nothing (λ place is. let t = told.task place is in (t.0, record { entry = t.1.entry; is = t.1.is; now = t.1.now })) in
    calm_honest g.L.Link c.args.link.now c.in_ok-turn-in-Told.turn c.exchange.new.link (task_calm w v c.exchange.new.replica c.in-Told.outcome c.in_ok-turn-in-Told.turn ends)

pub returns-in-Told-clause-sound : goal.returns-in-Told-clause-sound
returns-in-Told-clause-sound g c = λ _.
    let replied = rw c.in-Told.is at c.in_ok-outcome.ensures.outcome in
    let told = c.in_ok-turn-in-Told.ensures in
    let w = held c.args.self.now in
    let v = held c.told_task.new.self in
    let ends : TaskEnds w c.exchange.new.replica c.in-Told.outcome c.in_ok-turn-in-Told.turn v = task_ends w v c.exchange.new.replica c.in-Told.outcome c.in_ok-turn-in-Told.turn (task_outcome c.in-Told.outcome replied.0) told.full told.nothing (λ place is. let t = told.task place is in (t.0, record { entry = t.1.entry; is = t.1.is; now = t.1.now })) in
    let view = rw c.told_task.ensures.replica at c.view-heard.ensures in
    task_sound w v c.exchange.new.replica c.in-Told.outcome c.in_ok-turn-in-Told.turn c.requires.sound c.requires.seat view.admitted view.fit c.exchange.ensures.grown replied.1 ends
