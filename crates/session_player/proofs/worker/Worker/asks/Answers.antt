use Rattle.std.proofs.Common.{◌∙◌, ◌++◌, ◌∷◌, [], refl, sym, ap, reverse}
use Rattle.std.specs.Option.{option_map}
use Rattle.agent_terms.specs.declared.act.Act.TheVariants.{Step as StepAct}
use Rattle.coordinator_rules.specs.Decision.{rules_of, asked_decision}
use Rattle.object_access.specs.Registers.{value_in, written_to, to_of}
use Rattle.single_agent.specs.Running.{left_at, one_more}
use Rattle.single_agent.specs.NextMove.{op_of}
use Rattle.single_agent.specs.NextAct.{answer_of}
use Rattle.script_steps.specs.Kept.{kept}
use Rattle.script_steps.specs.Stored.{stored}
use Rattle.script_steps.specs.Reached.{IsValueThere}
use Rattle.session_player.specs.Serves.{Ledger, ledger}
use Rattle.session_player.specs.Steps.{Holds, holds, HeardAll}
use Rattle.session_player.proofs.Asked.{never_refused, answer_there, asked_acted}
use Rattle.session_player.proofs.Hearing.{heard_all, hears_all}
use Rattle.session_player.proofs.worker.Worker.asks.Goals as goal

pub returns-in-NotYours-clause-asks : goal.returns-in-NotYours-clause-asks
returns-in-NotYours-clause-asks g c = λ asker tied left same.
    let serves = rw c.in-NotYours.is at c.in_ok-ask.ensures.serves in
    never_refused c.args.self.now.renderer _ _ c.args.run c.args.request tied c.requires.run asker serves.0

pub returns-then-not-branch-clause-asks : goal.returns-then-not-branch-clause-asks
returns-then-not-branch-clause-asks g c = λ asker tied left same.
    let serves = rw c.in-Answered.is at c.in_ok-ask.ensures.serves in
    hears_all c.args.self.now.renderer _ _ (ledger c.ask.new.self.log.entries c.ask.new.self.told.items) (asked_decision (rules_of c.args.session.now) c.args.desk.now.log.entries c.args.self.now.renderer c.args.request).entries c.in-Answered.told
    c.in_ok-hear-in-Answered.field-0 tied serves.log serves.tells c.ask.new.self.admitted (rw c.deref.ensures.value at c.in_ok-hear-in-Answered.ensures.all) c.if-not-branch.true

pub returns-then-not-is_there-clause-asks : goal.returns-then-not-is_there-clause-asks
returns-then-not-is_there-clause-asks g c = λ asker tied left same.
    let serves = rw c.in-Answered.is at c.in_ok-ask.ensures.serves in
    let h = rw c.deref.ensures.value at c.in_ok-hear-in-Answered.ensures in
    let r = c.args.self.now.renderer in
    let w : Holds = holds c.args.self.now.acts.items c.args.self.now.heard (g.V.View.tree c.args.self.now.view) (g.V.View.urls c.args.self.now.view) c.args.self.now.run (kept c.args.self.now.registers) (stored c.args.self.now.stores) in
    let v : Holds = holds c.hear.new.self.acts.items c.hear.new.self.heard (g.V.View.tree c.hear.new.self.view) (g.V.View.urls c.hear.new.self.view) c.hear.new.self.run (kept c.hear.new.self.registers) (stored c.hear.new.self.stores) in
    let l : Ledger = ledger c.args.desk.now.log.entries c.args.desk.now.told.items in
    let m : Ledger = ledger c.ask.new.self.log.entries c.ask.new.self.told.items in
    let all : HeardAll r l v m =
    heard_all r w v l m (asked_decision (rules_of c.args.session.now) l.log r c.args.request).entries c.in-Answered.told tied serves.log serves.tells (h.tree c.if-not-branch.false) (h.urls c.if-not-branch.false) (h.heard c.if-not-branch.false) in
    let decided = (asked_decision (rules_of c.args.session.now) l.log r c.args.request).outcome in
    let answer = c.answer_of-answer.ensures.value decided serves.replies ∙ ap (λ o. answer_of o decided) c.name_of-op.ensures in
    let there : IsValueThere v.tree (value_in c.answer_of-answer.result) =
    answer_there c.args.session.now r (op_of c.args.step.now) c.args.request c.in-Answered.reply c.in-Answered.told v.tree l m c.requires.made serves all.tree decided c.answer_of-answer.result refl answer in
    c.is_there.ensures.no c.if-not-is_there.true there

pub returns-in_ok-keep-in-Answered-clause-asks : goal.returns-in_ok-keep-in-Answered-clause-asks
returns-in_ok-keep-in-Answered-clause-asks g c = λ asker tied left same.
    let serves = rw c.in-Answered.is at c.in_ok-ask.ensures.serves in
    let h = rw c.deref.ensures.value at c.in_ok-hear-in-Answered.ensures in
    let k = c.in_ok-keep-in-Answered.ensures in
    let r = c.args.self.now.renderer in
    let w : Holds = holds c.args.self.now.acts.items c.args.self.now.heard (g.V.View.tree c.args.self.now.view) (g.V.View.urls c.args.self.now.view) c.args.self.now.run (kept c.args.self.now.registers) (stored c.args.self.now.stores) in
    let v : Holds = holds c.keep.new.self.acts.items c.keep.new.self.heard (g.V.View.tree c.keep.new.self.view) (g.V.View.urls c.keep.new.self.view) c.keep.new.self.run (kept c.keep.new.self.registers) (stored c.keep.new.self.stores) in
    let l : Ledger = ledger c.args.desk.now.log.entries c.args.desk.now.told.items in
    let m : Ledger = ledger c.ask.new.self.log.entries c.ask.new.self.told.items in
    let all : HeardAll r l v m =
    heard_all r w v l m (asked_decision (rules_of c.args.session.now) l.log r c.args.request).entries c.in-Answered.told tied serves.log serves.tells (c.keep.ensures.tree ∙ h.tree c.if-not-branch.false) (c.keep.ensures.urls ∙ h.urls c.if-not-branch.false) (c.keep.ensures.heard ∙ h.heard c.if-not-branch.false) in
    let given = c.answer_of-answer.result in
    asked_acted c.args.session.now r c.args.run.doc c.args.run.point (op_of c.args.step.now) c.args.request c.in-Answered.reply c.in-Answered.told given (left_at c.args.run c.args.step.now) c.hear.new.self.acts.items c.keep.new.self.acts.items c.hear.new.self.heard w v l m
    c.requires.made serves all (λ o is. c.answer_of-answer.ensures.value o is ∙ ap (λ n. answer_of n o) c.name_of-op.ensures)
    (sym (ap reverse h.acts)) refl (k.acts ∙ ap (λ n. c.hear.new.self.acts.items ++ StepAct c.hear.new.self.heard c.args.run.doc c.args.run.point n given ∷ []) c.name_of-op.ensures)
    (sym c.keep.ensures.heard) (k.run ∙ ap (option_map one_more) h.run) left
    (k.registers ∙ ap (λ to. written_to c.args.run.doc to (value_in given) (kept c.hear.new.self.registers)) c.target_of.ensures ∙ ap (written_to c.args.run.doc (to_of c.args.step.now) (value_in given)) h.registers)
    (k.stores ∙ h.stores) same
