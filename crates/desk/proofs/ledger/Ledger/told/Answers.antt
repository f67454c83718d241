use Rattle.std.proofs.Common.{◌∙◌, length, ap, sym, arith}
use Rattle.tree_log.specs.declared.entry.Entry.{Entry}
use Rattle.desk.specs.History.{log_of, told_of}
use Rattle.desk.proofs.Histories.{log_of_history, told_of_history}
use Rattle.desk.proofs.ledger.Ledger.told.Goals as goal

pub returns-clause-value : goal.returns-clause-value
returns-clause-value c =
    c.told.ensures ∙ sym (told_of_history c.self.inside.tellings.told c.self.inside.log.entries c.args.renderer)
    ∙ ap (λ v. told_of v.history c.args.renderer) c.self.view_is

pub returns-clause-within : goal.returns-clause-within
returns-clause-within c =
    let l = ap (λ v. length {A = Entry} (log_of v.history)) (sym c.self.view_is) in
    let g = ap (λ es. length {A = Entry} es) (log_of_history c.self.inside.tellings.told c.self.inside.log.entries) in
    let w = c.self.invariant.within c.args.renderer in
    let t = c.told.ensures in
    omega arith
