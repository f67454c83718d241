use Rattle.std.proofs.Common.{◌∷◌, ◌<◌, ◌^◌, length, sym, subst, arith}
use Rattle.tree_log.specs.Admits.{AreAdmitted}
use Rattle.tree_log.specs.declared.entry.Entry.{Entry}
use Rattle.desk.specs.History.{log_of}
use Rattle.desk.proofs.Ledgers.{lost_admitted}
use Rattle.desk.proofs.ledger.Ledger.loss.Goals as goal

pub returns-clause-admitted : goal.returns-clause-admitted
returns-clause-admitted c =
    let few = c.log-log.ensures.few in
    let short : length {A = Entry} (log_of c.args.self.now.history) < 2 ^ 30 = omega arith in
    subst (λ (e : Entry). AreAdmitted (e ∷ log_of c.args.self.now.history)) (sym c.loss_of.ensures) (lost_admitted (log_of c.args.self.now.history) c.args.renderer short, c.log-log.ensures.admitted)
