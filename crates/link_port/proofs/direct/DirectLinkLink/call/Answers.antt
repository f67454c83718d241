use Rattle.std.proofs.Common.{◌≡◌, ◌<◌, ap, sym, subst, arith}
use Rattle.coordinator_rules.specs.Decision.{Rules}
use Rattle.desk.specs.History.{told_of}
use Rattle.link_port.specs.Exchanging.{left_by, reply_on}
use Rattle.link_port.specs.Spelled.{is_more}
use Rattle.link_port.specs.Steps.{pending_after, pending_of}
use Rattle.link_port.proofs.Called.{answers_fit, goes, hears, named_now, step_now}
use Rattle.link_port.proofs.direct.DirectLinkLink.call.Goals as goal

pub returns-in-Ok-clause-answers : goal.returns-in-Ok-clause-answers
returns-in-Ok-clause-answers g c =
    answers_fit c.args.self.now.renderer c.args.request.now c.args.self.now.desk.now c.exchange.new.desk c.exchange.new.reply.items c.in-Ok.ensures.ok c.in-Ok.ensures.sound
    (λ i. omega (arith, c.type_inv.request i)) (pending_of c.args.self.now.step) c.args.self.now.named

pub returns-in-Ok-clause-heard : goal.returns-in-Ok-clause-heard
returns-in-Ok-clause-heard g c =
    hears c.args.self.now.renderer c.args.request.now c.args.self.now.desk.now c.exchange.new.desk c.exchange.new.reply.items c.in-Ok.ensures.ok c.in-Ok.ensures.sound

pub returns-in-Ok-clause-pending : goal.returns-in-Ok-clause-pending
returns-in-Ok-clause-pending g c =
    let r = c.args.self.now.renderer in
    let bytes = c.args.request.now in
    let old = c.args.self.now.desk.now in
    let step = pending_of c.args.self.now.step in
    let now : pending_of c.next_step-self.result ≡ pending_after (told_of old.history r) step (is_more bytes) (left_by (reply_on r bytes old)) =
    step_now r bytes old c.told-older.result (pending_of c.take-step.result) step (pending_of c.next_step-self.result) c.is_more.result c.in-Ok.left c.next_step-self.ensures c.told-older.ensures.value
    (ap pending_of c.take-step.ensures.value) c.is_more.ensures c.in-Ok.ensures.left in
    goes r bytes old c.exchange.new.desk c.exchange.new.reply.items c.in-Ok.ensures.ok c.in-Ok.ensures.sound (λ i. omega (arith, c.type_inv.request i)) step (pending_of c.next_step-self.result) now

pub invariant_of-self : goal.invariant_of-self
invariant_of-self g c =
    let r = c.args.self.now.renderer in
    let bytes = c.args.request.now in
    let old = c.args.self.now.desk.now in
    let step = pending_of c.args.self.now.step in
    let now : pending_of c.next_step-self.result ≡ pending_after (told_of old.history r) step (is_more bytes) (left_by (reply_on r bytes old)) =
    step_now r bytes old c.told-older.result (pending_of c.take-step.result) step (pending_of c.next_step-self.result) c.is_more.result c.in-Ok.left c.next_step-self.ensures c.told-older.ensures.value
    (ap pending_of c.take-step.ensures.value) c.is_more.ensures c.in-Ok.ensures.left in
    record {
      seat = subst (λ (rules : Rules). r < rules.renderers) (sym c.in-Ok.ensures.rules) c.args.self.now.seat;
      named = named_now r bytes old c.exchange.new.desk c.exchange.new.reply.items c.in-Ok.ensures.ok c.in-Ok.ensures.sound (λ i. omega (arith, c.type_inv.request i)) step
          (pending_of c.next_step-self.result) now c.args.self.now.named;
    }
