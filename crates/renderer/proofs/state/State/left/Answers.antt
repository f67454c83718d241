use Rattle.std.proofs.Common.{◌≡◌, refl, subst, true}
use Rattle.tree_log.specs.Tree.{Tree, is_active}
use Rattle.renderer.specs.Holding.{with_pages}
use Rattle.renderer.proofs.Kept.{active_left}
use Rattle.renderer.proofs.state.State.left.Goals as goal

pub returns-in-Some-clause-active : goal.returns-in-Some-clause-active
returns-in-Some-clause-active g c =
    let left = c.in-Some.ensures.left (with_pages c.args.self.now.pages) refl in
    subst (λ (t : Tree). is_active t c.in_ok-run.run'.doc ≡ true) c.view.ensures.tree (active_left _ _ _ c.in_ok-run.run' _ left)
