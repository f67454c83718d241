use Rattle.std.proofs.Common.{◌++◌, refl, ap, sym, subst, arith}
use Rattle.coordinator_rules.specs.Decision.{Decision}
use Rattle.link_fields.specs.Lawful.{IsBytes}
use Rattle.request_decisions.specs.Asked.{rules}
use Rattle.tree_log.specs.Admits.{AreAdmitted}
use Rattle.desk.specs.Answering.{HasOpenerLast}
use Rattle.desk.specs.Serving.{answered, told_after}
use Rattle.desk.proofs.Joining.{may_join, opener_last}
use Rattle.desk.proofs.Told.{answers_told, answers_short}
use Rattle.desk.proofs.answering.Seat.answer_to.Goals as goal

pub tell-requires-clause-admitted : goal.tell-requires-clause-admitted
tell-requires-clause-admitted g c =
    let log = c.args.self.now.log.now.entries in
    let small : IsBytes c.args.bytes.now = λ i. omega (arith, c.type_inv.bytes i) in
    subst (λ (d : Decision). AreAdmitted (d.entries ++ log)) (sym c.in_ok-decided.ensures.decided)
    (may_join (rules c.args.self.now.renderers c.args.self.now.suffixes.now) log c.args.self.now.renderer c.args.bytes.now small c.requires.admitted c.requires.few).admitted

pub tell-requires-clause-opener : goal.tell-requires-clause-opener
tell-requires-clause-opener g c =
    let small : IsBytes c.args.bytes.now = λ i. omega (arith, c.type_inv.bytes i) in
    subst (λ (d : Decision). HasOpenerLast d.entries) (sym c.in_ok-decided.ensures.decided)
    (opener_last (rules c.args.self.now.renderers c.args.self.now.suffixes.now) c.args.self.now.log.now.entries c.args.self.now.renderer c.args.bytes.now small)

pub overflow_add-result : goal.overflow_add-result
overflow_add-result g c =
    let log = c.args.self.now.log.now.entries in
    let small : IsBytes c.args.bytes.now = λ i. omega (arith, c.type_inv.bytes i) in
    let joins = may_join (rules c.args.self.now.renderers c.args.self.now.suffixes.now) log c.args.self.now.renderer c.args.bytes.now small c.requires.admitted c.requires.few in
    let same = ap (λ (d : Decision). told_after c.args.self.now.renderer log c.args.self.now.told d) c.in_ok-decided.ensures.decided in
    let short = answers_short c.args.self.now.renderer log c.args.self.now.told (answered (rules c.args.self.now.renderers c.args.self.now.suffixes.now) log c.args.self.now.renderer c.args.bytes.now) joins c.requires.few c.requires.told in
    let more = c.in-Ok.ensures.told in
    omega arith

pub returns-in-Ok-clause-answers : goal.returns-in-Ok-clause-answers
returns-in-Ok-clause-answers g c =
    let log = c.args.self.now.log.now.entries in
    let small : IsBytes c.args.bytes.now = λ i. omega (arith, c.type_inv.bytes i) in
    let joins = may_join (rules c.args.self.now.renderers c.args.self.now.suffixes.now) log c.args.self.now.renderer c.args.bytes.now small c.requires.admitted c.requires.few in
    answers_told c.args.self.now.renderer log c.args.self.now.told c.in-Ok.written.told
    (answered (rules c.args.self.now.renderers c.args.self.now.suffixes.now) log c.args.self.now.renderer c.args.bytes.now) _ c.in_ok-decided.ensures.decided joins c.requires.told refl
    (c.in-Ok.ensures.told) c.in-Ok.ensures.frame
