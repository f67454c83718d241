use Rattle.std.proofs.Common.{◌≡◌, refl, sym, ap, ◌∙◌, reverse, [], ◌∷◌, ◌++◌, arith}
use Rattle.std.proofs.lemmas.Grind.{common_steps}
use Rattle.agent_terms.specs.declared.act.Act.TheVariants.{Task}
use Rattle.coordinator_rules.specs.NextTask.{task_entry}
use Rattle.single_agent.specs.Running.{starts}
use Rattle.script_steps.specs.Kept.{kept}
use Rattle.script_steps.specs.Stored.{stored}
use Rattle.session_player.specs.Serves.{Ledger, ledger}
use Rattle.session_player.specs.Steps.{Holds, holds, HeardAll}
use Rattle.session_player.proofs.Hearing.{heard_all, hears_all, took_none, task_last, started_there, took_task}
use Rattle.session_player.proofs.worker.Worker.takes.Goals as goal

pub returns-then-not-branch-clause-takes : goal.returns-then-not-branch-clause-takes
returns-then-not-branch-clause-takes g c = λ tied.
    let serves = rw c.in-Nothing.is at c.in_ok-next.ensures.serves in
    let news = c.deref.ensures.value in
    hears_all c.args.self.now.renderer _ _ (ledger c.next.new.self.log.entries c.next.new.self.told.items) [] c.in-Nothing.told c.in_ok-hear-in-Nothing.field-0 tied serves.2 serves.3 c.next.new.self.admitted
    (rw c.deref.ensures.value at c.in_ok-hear-in-Nothing.ensures.all) c.if-not-branch.true

pub returns-then-not-branch-2-clause-takes : goal.returns-then-not-branch-2-clause-takes
returns-then-not-branch-2-clause-takes g c = λ tied.
    let serves = rw c.in-Task.is at c.in_ok-next.ensures.serves in
    hears_all c.args.self.now.renderer _ _ (ledger c.next.new.self.log.entries c.next.new.self.told.items) (task_entry c.args.self.now.renderer serves.1 ∷ []) c.in-Task.told c.in_ok-hear-in-Task.field-0 tied serves.4 serves.6
    c.next.new.self.admitted (rw c.deref-in-Task.ensures.value at c.in_ok-hear-in-Task.ensures.all) c.if-not-branch-2.true

pub returns-else-not-branch-clause-takes : goal.returns-else-not-branch-clause-takes
returns-else-not-branch-clause-takes g c = λ tied.
    let serves = rw c.in-Nothing.is at c.in_ok-next.ensures.serves in
    let h = rw c.deref.ensures.value at c.in_ok-hear-in-Nothing.ensures in
    took_none c.args.self.now.renderer _ _ _ (ledger c.next.new.self.log.entries c.next.new.self.told.items) c.in-Nothing.told tied serves.0 serves.1 serves.2 serves.3
    (ap reverse h.acts) refl h.registers h.stores (h.tree c.if-not-branch.false) (h.urls c.if-not-branch.false) (h.heard c.if-not-branch.false)

pub invariant_of-self-in-Task : goal.invariant_of-self-in-Task
invariant_of-self-in-Task g c = record {
  there = c.started-self.ensures.there;
  named = c.hear-in-Task.new.self.named;
  counted = λ r is. omega (arith, c.started-self.ensures.first r is);
}

pub returns-in_ok-push-in-Task-clause-takes : goal.returns-in_ok-push-in-Task-clause-takes
returns-in_ok-push-in-Task-clause-takes g c = λ tied.
    let serves = rw c.in-Task.is at c.in_ok-next.ensures.serves in
    let h = rw c.deref-in-Task.ensures.value at c.in_ok-hear-in-Task.ensures in
    let r = c.args.self.now.renderer in
    let w : Holds = holds c.args.self.now.acts.items c.args.self.now.heard (g.V.View.tree c.args.self.now.view) (g.V.View.urls c.args.self.now.view) c.args.self.now.run (kept c.args.self.now.registers) (stored c.args.self.now.stores) in
    let v : Holds = holds c.push.new.self.items c.hear-in-Task.new.self.heard (g.V.View.tree c.hear-in-Task.new.self.view) (g.V.View.urls c.hear-in-Task.new.self.view) c.started-self.result (kept c.hear-in-Task.new.self.registers) (stored c.hear-in-Task.new.self.stores) in
    let l : Ledger = ledger c.args.desk.now.log.entries c.args.desk.now.told.items in
    let m : Ledger = ledger c.next.new.self.log.entries c.next.new.self.told.items in
    let all : HeardAll r l v m =
    heard_all r w v l m (task_entry r serves.1 ∷ []) c.in-Task.told tied serves.4 serves.6 (h.tree c.if-not-branch-2.false) (h.urls c.if-not-branch-2.false) (h.heard c.if-not-branch-2.false) in
    let last = task_last r w l m serves.1 c.in-Task.told tied serves.4 serves.6 in
    let run = c.started-self.ensures.value last.0 (task_entry r serves.1) (c.deref-in-Task-2.ensures.value ∙ last.1) (started_there r c.in-Task.place w v l m serves.1 tied serves.0 serves.2 serves.3 serves.4 all)
    ∙ ap (λ k. starts k serves.1) serves.5 in
    let kind = c.kind_of.ensures last.0 (task_entry r serves.1) (c.deref-in-Task-3.ensures.value ∙ last.1) in
    let pushed : c.push.new.self.items ≡ c.hear-in-Task.new.self.acts.items ++ Task c.hear-in-Task.new.self.heard c.kind_of.result c.in-Task.place ∷ [] = grind (arith, common_steps) in
    took_task r w v l m serves.1 c.hear-in-Task.new.self.acts.items c.push.new.self.items c.hear-in-Task.new.self.heard c.in-Task.place c.kind_of.result serves.0 serves.2 serves.3 serves.4 all
    (sym (ap reverse h.acts)) refl pushed refl serves.5 kind run h.registers h.stores
