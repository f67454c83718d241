use Rattle.std.proofs.Common.{◌∙◌, sym, rules}
use Rattle.tree_log.specs.Tree.{children_of}
use Rattle.session_player.proofs.Asking.{found_in, not_in, past_in}
use Rattle.session_player.proofs.requests.is_child.Goals as goal

pub returns-then-child-nav-clause-value : goal.returns-then-child-nav-clause-value
returns-then-child-nav-clause-value g c =
    found_in (children_of (g.V.View.tree c.args.view.now) c.args.doc) c.loop-index.index c.in-Some.child c.args.nav (sym c.child_at.ensures.value ∙ c.in-Some.is) (search rules) c.loop-index.invariant

pub returns-in-None-clause-value : goal.returns-in-None-clause-value
returns-in-None-clause-value g c = not_in (children_of (g.V.View.tree c.args.view.now) c.args.doc) c.loop-index.index c.args.nav (sym c.child_at.ensures.value ∙ c.in-None.is) c.loop-index.invariant

pub loop-index-preserved : goal.loop-index-preserved
loop-index-preserved g c =
    past_in (children_of (g.V.View.tree c.args.view.now) c.args.doc) c.loop-index.index c.in-Some.child c.args.nav (sym c.child_at.ensures.value ∙ c.in-Some.is) (search rules) c.loop-index.invariant
