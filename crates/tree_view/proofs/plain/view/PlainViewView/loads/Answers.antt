use Rattle.std.proofs.Common.{◌∙◌, ◌<◌, ℕ, List, length, sym, subst}
use Rattle.std.specs.Prelude.{All}
use Rattle.tree_view.proofs.Loads.{loads_there}
use Rattle.tree_view.proofs.plain.view.PlainViewView.loads.Goals as goal

pub returns-clause-within : goal.returns-clause-within
returns-clause-within c =
    let v = c.args.self.now in
    subst (λ (ns : List ℕ). All (λ m. m < length v.docs.items) ns) (sym (c.deref.ensures.value ∙ v.loads_listed)) (loads_there v.docs.items)
