use Rattle.std.proofs.Common.{◌≡◌, ◌∙◌, ◌∷◌, ◌≤◌, length, ap, sym, subst}
use Rattle.request_decisions.specs.Asked.{rules}
use Rattle.tree_log.specs.declared.entry.Entry.{Entry}
use Rattle.desk.specs.declared.item.Item.TheVariants.{Told}
use Rattle.desk.specs.History.{log_of, history}
use Rattle.desk.proofs.Histories.{log_of_history, history_told}
use Rattle.desk.proofs.Ledgers.{kept_told}
use Rattle.desk.proofs.ledger.Ledger.tell.Goals as goal

pub invariant_of-self : goal.invariant_of-self
invariant_of-self c =
    let is : log_of c.args.self.now.history ≡ c.self.inside.log.entries = ap (λ v. log_of v.history) (sym c.self.view_is) ∙ log_of_history c.self.inside.tellings.told c.self.inside.log.entries in
    kept_told (rules c.self.inside.renderers c.self.inside.suffixes.items) c.self.inside.log.entries c.self.inside.tellings c.add.new.self c.self.inside.lost.items c.args.renderer c.args.upto c.len-at.result c.self.invariant
    (subst (λ es. c.args.upto ≤ length {A = Entry} es) is c.requires.within) c.len-at.ensures c.add.ensures.told c.add.ensures.renderers

pub returns-clause-history : goal.returns-clause-history
returns-clause-history c =
    ap (λ ts. history c.self.inside.log.entries ts) (c.add.ensures.told ∙ ap (λ at. record { renderer = c.args.renderer; upto = c.args.upto; at = at } ∷ c.self.inside.tellings.told) c.len-at.ensures)
    ∙ history_told c.self.inside.tellings.told c.self.inside.log.entries c.args.renderer c.args.upto
    ∙ ap (λ v. Told c.args.renderer c.args.upto ∷ v.history) c.self.view_is
