use Rattle.std.proofs.Common.{◌∙◌, sym}
use Rattle.object_access.specs.Registers.{to_of}
use Rattle.script_steps.specs.Stored.{stored}
use Rattle.renderer.specs.Held.{held}
use Rattle.renderer.proofs.Performing.{if_ok, on_ok, on_err, on_err_written, sees, leaves, written_keeps, answered_kept, answered_gives_up, answered_back, asking_keeps, asks_by, asks_short, asks_fit, with_stores, asked_moves, asked_gives_up}
use Rattle.renderer.proofs.state.State.perform.Goals as goal

pub ask-requires-clause-asker : goal.ask-requires-clause-asker
ask-requires-clause-asker g c =
    let w = held c.args.self.now in
    let run = c.args.run in
    let step = c.args.step.now in
    let view = c.view-heard.ensures in
    let performed = sees _ _ w.heard w.registers w.stores run.doc step c.in_ok-performed.performed view.tree view.urls c.in_ok-performed.ensures.ok in
    let does = sym performed ∙ c.in-Ask.is in
    asks_by w run.doc step c.in-Ask.request does

pub ask-requires-clause-short : goal.ask-requires-clause-short
ask-requires-clause-short g c =
    let w = held c.args.self.now in
    let run = c.args.run in
    let step = c.args.step.now in
    let view = c.view-heard.ensures in
    let performed = sees _ _ w.heard w.registers w.stores run.doc step c.in_ok-performed.performed view.tree view.urls c.in_ok-performed.ensures.ok in
    let does = sym performed ∙ c.in-Ask.is in
    asks_short w run step c.in-Ask.request c.requires.sound view.admitted view.fit c.requires.run c.requires.short does

pub ask-requires-clause-sound : goal.ask-requires-clause-sound
ask-requires-clause-sound g c =
    let w = held c.args.self.now in
    let run = c.args.run in
    let step = c.args.step.now in
    let view = c.view-heard.ensures in
    let performed = sees _ _ w.heard w.registers w.stores run.doc step c.in_ok-performed.performed view.tree view.urls c.in_ok-performed.ensures.ok in
    let does = sym performed ∙ c.in-Ask.is in
    let props = stored c.local.new.stores in
    let left = leaves _ _ w.heard w.registers w.stores props run.doc step view.tree view.urls c.in_ok-performed.ensures.left in
    let same = asking_keeps w props run.doc step c.in-Ask.request does left in
    with_stores w props same c.requires.sound

pub ask-requires-clause-fit : goal.ask-requires-clause-fit
ask-requires-clause-fit g c =
    let w = held c.args.self.now in
    let run = c.args.run in
    let step = c.args.step.now in
    let view = c.view-heard.ensures in
    let performed = sees _ _ w.heard w.registers w.stores run.doc step c.in_ok-performed.performed view.tree view.urls c.in_ok-performed.ensures.ok in
    let does = sym performed ∙ c.in-Ask.is in
    asks_fit w run step c.in-Ask.request c.requires.sound view.admitted c.requires.run c.requires.active does

pub returns-in-Answer-clause-err : goal.returns-in-Answer-clause-err
returns-in-Answer-clause-err g c =
    let w = held c.args.self.now in
    let run = c.args.run in
    let step = c.args.step.now in
    let view = c.view-heard.ensures in
    let performed = sees _ _ w.heard w.registers w.stores run.doc step c.in_ok-performed.performed view.tree view.urls c.in_ok-performed.ensures.ok in
    let does = sym performed ∙ c.in-Answer.is in
    let props = stored c.local.new.stores in
    let left = leaves _ _ w.heard w.registers w.stores props run.doc step view.tree view.urls c.in_ok-performed.ensures.left in
    on_err_written c.answered.result (to_of step) _ _ c.answered.ensures.none c.answered.ensures.err
    (λ name to back. answered_gives_up g.L.Link w (held c.answered.new.self) props run step c.in-Answer.outcome c.args.link.now does (left ∙ written_keeps w run.doc step name to) back)

pub returns-in-Answer-clause-sound : goal.returns-in-Answer-clause-sound
returns-in-Answer-clause-sound g c =
    let w = held c.args.self.now in
    let run = c.args.run in
    let step = c.args.step.now in
    let view = c.view-heard.ensures in
    let performed = sees _ _ w.heard w.registers w.stores run.doc step c.in_ok-performed.performed view.tree view.urls c.in_ok-performed.ensures.ok in
    let does = sym performed ∙ c.in-Answer.is in
    let props = stored c.local.new.stores in
    let left = leaves _ _ w.heard w.registers w.stores props run.doc step view.tree view.urls c.in_ok-performed.ensures.left in
    on_ok c.answered.result _ _ (λ now _. answered_kept w (held c.answered.new.self) props run step c.in-Answer.outcome c.requires.sound view.admitted view.fit c.requires.run c.requires.short does left now)
    (if_ok c.answered.result _ _ (λ turn ok. ok.1) c.answered.ensures.ok)

pub returns-in-Answer-clause-starved : goal.returns-in-Answer-clause-starved
returns-in-Answer-clause-starved g c =
    let w = held c.args.self.now in
    let run = c.args.run in
    let step = c.args.step.now in
    let view = c.view-heard.ensures in
    let performed = sees _ _ w.heard w.registers w.stores run.doc step c.in_ok-performed.performed view.tree view.urls c.in_ok-performed.ensures.ok in
    let does = sym performed ∙ c.in-Answer.is in
    let props = stored c.local.new.stores in
    let left = leaves _ _ w.heard w.registers w.stores props run.doc step view.tree view.urls c.in_ok-performed.ensures.left in
    on_err_written c.answered.result (to_of step) _ _ c.answered.ensures.none c.answered.ensures.err
    (λ name to back _. answered_back w (held c.answered.new.self) props c.requires.sound (left ∙ written_keeps w run.doc step name to) back)

pub returns-in-Ask-clause-ok : goal.returns-in-Ask-clause-ok
returns-in-Ask-clause-ok g c =
    let w = held c.args.self.now in
    let run = c.args.run in
    let step = c.args.step.now in
    let view = c.view-heard.ensures in
    let performed = sees _ _ w.heard w.registers w.stores run.doc step c.in_ok-performed.performed view.tree view.urls c.in_ok-performed.ensures.ok in
    let does = sym performed ∙ c.in-Ask.is in
    let props = stored c.local.new.stores in
    let left = leaves _ _ w.heard w.registers w.stores props run.doc step view.tree view.urls c.in_ok-performed.ensures.left in
    let same = asking_keeps w props run.doc step c.in-Ask.request does left in
    if_ok c.ask.result _ _ (λ turn ok. asked_moves g.L.Link w (held c.ask.new.self) props run step c.in-Ask.request c.args.link.now turn c.ask.new.link does same ok) c.ask.ensures.ok

pub returns-in-Ask-clause-err : goal.returns-in-Ask-clause-err
returns-in-Ask-clause-err g c =
    let w = held c.args.self.now in
    let run = c.args.run in
    let step = c.args.step.now in
    let view = c.view-heard.ensures in
    let performed = sees _ _ w.heard w.registers w.stores run.doc step c.in_ok-performed.performed view.tree view.urls c.in_ok-performed.ensures.ok in
    let does = sym performed ∙ c.in-Ask.is in
    let props = stored c.local.new.stores in
    let left = leaves _ _ w.heard w.registers w.stores props run.doc step view.tree view.urls c.in_ok-performed.ensures.left in
    let same = asking_keeps w props run.doc step c.in-Ask.request does left in
    on_err c.ask.result _ _ (λ given. asked_gives_up g.L.Link w (held c.ask.new.self) props run step c.in-Ask.request c.args.link.now c.ask.new.link does same given) c.ask.ensures.err
