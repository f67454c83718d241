use Rattle.std.proofs.Common.{◌≡◌, ◌∙◌, [], ◌∷◌, ◌<◌, length, IsTrue, ap, sym, subst, arith}
use Rattle.agent_terms.specs.Limits.{most_entries}
use Rattle.coordinator_rules.specs.Decision.{Rules}
use Rattle.request_decisions.specs.Asked.{rules}
use Rattle.tree_log.specs.Admits.{admits}
use Rattle.tree_log.specs.Tree.{tree_of}
use Rattle.tree_log.specs.declared.entry.Entry.{Entry}
use Rattle.desk.specs.Books.{KeepsFit}
use Rattle.desk.specs.declared.item.Item.TheVariants.{Entered}
use Rattle.desk.specs.History.{log_of, history}
use Rattle.desk.proofs.Histories.{log_of_history, history_pushed}
use Rattle.desk.proofs.Ledgers.{kept_joined}
use Rattle.desk.proofs.ledger.Ledger.append.Goals as goal

is_log : (c : goal.After-push-arg-1) → log_of c.args.self.now.history ≡ c.self.inside.log.entries
is_log c = ap (λ v. log_of v.history) (sym c.self.view_is) ∙ log_of_history c.self.inside.tellings.told c.self.inside.log.entries

pub push-requires-clause-few : goal.push-requires-clause-few
push-requires-clause-few c = let l = ap (λ es. length {A = Entry} es) (is_log c) in let f = c.requires.few in omega arith

pub invariant_of-self : goal.invariant_of-self
invariant_of-self c =
    let is : log_of c.args.self.now.history ≡ c.self.inside.log.entries = ap (λ v. log_of v.history) (sym c.self.view_is) ∙ log_of_history c.self.inside.tellings.told c.self.inside.log.entries in
    let by : c.args.self.now.rules ≡ rules c.self.inside.renderers c.self.inside.suffixes.items = ap (λ v. v.rules) (sym c.self.view_is) in
    let fit = subst (λ es. KeepsFit c.args.self.now.rules (c.args.entry ∷ []) es) is c.requires.fit in
    kept_joined (rules c.self.inside.renderers c.self.inside.suffixes.items) c.self.inside.log.entries c.push.new.log.entries c.self.inside.tellings c.self.inside.lost.items c.args.entry c.self.invariant
    (subst (λ es. length es < most_entries) is c.requires.few) (subst (λ es. IsTrue (admits (tree_of es) c.args.entry)) is c.requires.admitted) c.requires.joins
    (subst (λ (r : Rules). KeepsFit r (c.args.entry ∷ []) c.self.inside.log.entries) by fit) c.know_range.ensures c.push.ensures.entries

pub returns-clause-history : goal.returns-clause-history
returns-clause-history c =
    ap (λ es. history es c.self.inside.tellings.told) c.push.ensures.entries
    ∙ history_pushed c.self.inside.tellings.told c.args.entry c.self.inside.log.entries c.self.invariant.placed
    ∙ ap (λ v. Entered c.args.entry ∷ v.history) c.self.view_is
