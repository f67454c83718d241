use Rattle.std.proofs.Common.{◌≡◌, ◌∙◌, sym, ap, subst, arith, Some}
use Rattle.window_props.specs.declared.platform.Object.{Object}
use Rattle.window_props.specs.History.{Store}
use Rattle.single_agent.specs.Running.{left_at}
use Rattle.single_agent.specs.NextMove.{op_of}
use Rattle.object_access.specs.StepAnswer.{step_stores}
use Rattle.script_steps.specs.Kept.{kept}
use Rattle.script_steps.specs.Stored.{stored}
use Rattle.session_player.proofs.BuiltLaws.{unchanged_by_asking}
use Rattle.session_player.specs.Serves.{Ledger, ledger}
use Rattle.session_player.specs.Steps.{Holds, holds, IsTied, sight_in, stores_then, AskEnds}
use Rattle.session_player.proofs.Results.{if_ok}
use Rattle.session_player.proofs.Hearing.{few_acts}
use Rattle.session_player.proofs.Sound.{left_there, answer_there}
use Rattle.session_player.proofs.Stepping.{step_made, asked}
use Rattle.session_player.proofs.worker.Worker.step.Goals as goal

pub returns-then-not-is_there-clause-step : goal.returns-then-not-is_there-clause-step
returns-then-not-is_there-clause-step g c = λ tied.
    let w : Holds = holds c.args.self.now.acts.items c.args.self.now.heard (g.V.View.tree c.args.self.now.view) (g.V.View.urls c.args.self.now.view) c.args.self.now.run (kept c.args.self.now.registers) (stored c.args.self.now.stores) in
    let left = left_at c.in-Some.run' c.in-Some.step.now in
    let there = left_there c.args.session.now c.args.self.now.renderer w left tied.own c.in-Some.ensures.left.0 in
    let performed = sym c.in_ok-performed-in-Some.ensures.ok ∙ c.in-Answer.is in
    absurd (c.is_there.ensures.no c.if-not-is_there.true (answer_there w c.in-Some.run'.doc c.in-Some.step.now c.in-Answer.outcome tied.sound there performed))

pub asks-requires-clause-made : goal.asks-requires-clause-made
asks-requires-clause-made g c =
    let w : Holds = holds c.args.self.now.acts.items c.args.self.now.heard (g.V.View.tree c.args.self.now.view) (g.V.View.urls c.args.self.now.view) c.args.self.now.run (kept c.args.self.now.registers) (stored c.args.self.now.stores) in
    (step_made (sight_in w) c.in-Some.run'.doc c.in-Some.step.now c.in-Ask.request c.in-Some.ensures.built (sym c.in_ok-performed-in-Some.ensures.ok ∙ c.in-Ask.is)).made

pub returns-in-Ask-clause-step : goal.returns-in-Ask-clause-step
returns-in-Ask-clause-step g c =
    let with : (Object → Store) → Holds = λ props. holds c.args.self.now.acts.items c.args.self.now.heard (g.V.View.tree c.args.self.now.view) (g.V.View.urls c.args.self.now.view) c.args.self.now.run (kept c.args.self.now.registers) props in
    let w : Holds = with (stored c.args.self.now.stores) in
    let v : Holds = holds c.asks.new.self.acts.items c.asks.new.self.heard (g.V.View.tree c.asks.new.self.view) (g.V.View.urls c.asks.new.self.view) c.asks.new.self.run (kept c.asks.new.self.registers) (stored c.asks.new.self.stores) in
    let l : Ledger = ledger c.args.desk.now.log.entries c.args.desk.now.told.items in
    let m : Ledger = ledger c.asks.new.desk.log.entries c.asks.new.desk.told.items in
    let doc = c.in-Some.run'.doc in
    let step = c.in-Some.step.now in
    let left = left_at c.in-Some.run' step in
    let performed = sym c.in_ok-performed-in-Some.ensures.ok ∙ c.in-Ask.is in
    let made = step_made (sight_in w) doc step c.in-Ask.request c.in-Some.ensures.built performed in
    let stays : stores_then (Some left) w ≡ w.stores = unchanged_by_asking (sight_in w) doc step c.in-Ask.request c.in-Some.ensures.built performed in
    let same : stored c.local.new.stores ≡ w.stores = c.in_ok-performed-in-Some.ensures.left ∙ stays in
    let few = few_acts c.args.self.now.acts.items 40000 (omega arith) in
    if_ok c.asks.result _ _
    (λ turn ends tied. asked c.args.session.now c.args.self.now.renderer w v l m few turn left c.in-Ask.request c.in-Some.ensures.left.0 performed
    (subst (λ (props : Object → Store). AskEnds c.args.session.now c.args.self.now.renderer doc c.in-Some.run'.point (op_of step) c.in-Ask.request (with props) l turn v m) same
    (ends made.asker (subst (λ (props : Object → Store). IsTied c.args.self.now.renderer (with props) l) (sym same) tied) c.in-Some.ensures.left.0
    (ap (λ (props : Object → Store). step_stores (sight_in (with props)) doc step) same ∙ stays ∙ sym same))))
    c.asks.ensures.asks
