use Rattle.std.proofs.Common.{◌∙◌, sym, rules}
use Rattle.tree_log.specs.Tree.{children_of}
use Rattle.request_decisions.proofs.Children.{found_in, not_in, past_in}
use Rattle.request_decisions.proofs.asking.Asking.is_child.Goals as goal

pub returns-then-child-nav : goal.returns-then-child-nav
returns-then-child-nav g c =
    found_in (children_of (g.V.View.tree c.args.self.now.view.now) c.args.self.now.asker) c.loop-index.index c.in-Some.child c.args.nav (sym c.child_at.ensures.value ∙ c.in-Some.is) (search rules) c.loop-index.invariant

pub returns-in-None : goal.returns-in-None
returns-in-None g c = not_in (children_of (g.V.View.tree c.args.self.now.view.now) c.args.self.now.asker) c.loop-index.index c.args.nav (sym c.child_at.ensures.value ∙ c.in-None.is) c.loop-index.invariant

pub loop-index-preserved : goal.loop-index-preserved
loop-index-preserved g c =
    past_in (children_of (g.V.View.tree c.args.self.now.view.now) c.args.self.now.asker) c.loop-index.index c.in-Some.child c.args.nav (sym c.child_at.ensures.value ∙ c.in-Some.is) (search rules) c.loop-index.invariant
