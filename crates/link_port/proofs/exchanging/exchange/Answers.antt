use Rattle.std.proofs.Common.{◌≤◌, ℕ, List, length, ap, subst, ◌∙◌, arith}
use Rattle.desk.specs.History.{log_of, told_of}
use Rattle.link_port.specs.Spelled.{left_in}
use Rattle.link_port.proofs.Exchanged.{left_is, sound_of}
use Rattle.link_port.proofs.exchanging.exchange.Goals as goal

pub returns-clause-sound : goal.returns-clause-sound
returns-clause-sound g c =
    sound_of c.args.renderer c.args.request.now c.args.desk.now c.serve.new.self c.serve.new.reply.items c.in_ok-serve.ensures.ok (λ i. omega (arith, c.type_inv.request i))
    (record { admitted = c.log.ensures.admitted; few = c.log.ensures.few; fit = c.log.ensures.fit })
    (record { admitted = c.log-2.ensures.admitted; few = c.log-2.ensures.few; fit = c.log-2.ensures.fit })
    (subst (λ n. n ≤ length (log_of c.args.desk.now.history)) c.told-told.ensures.value c.told-told.ensures.within)

pub returns-clause-left : goal.returns-clause-left
returns-clause-left g c =
    c.left_in.ensures ∙ ap (λ (b : List ℕ). left_in b (told_of c.serve.new.self.history c.args.renderer) (length (log_of c.serve.new.self.history))) c.deref.ensures.value
    ∙ left_is c.args.renderer c.args.request.now c.args.desk.now c.serve.new.self c.serve.new.reply.items c.in_ok-serve.ensures.ok (returns-clause-sound g c)
