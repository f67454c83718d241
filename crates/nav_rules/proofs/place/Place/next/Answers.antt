use Rattle.std.proofs.Common.{◌∙◌, sym}
use Rattle.nav_rules.proofs.Walked.{comes_behind, comes_on, comes_child}
use Rattle.nav_rules.proofs.place.Place.next.Goals as goal

pub returns-then-without_children : goal.returns-then-without_children
returns-then-without_children g c = comes_behind (g.V.View.tree c.args.view.now) c.args.root c.args.self.nav c.args.without_children _ c.if-without_children.true c.behind.ensures

pub returns-in-None : goal.returns-in-None
returns-in-None g c =
    comes_on (g.V.View.tree c.args.view.now) c.args.root c.active.result c.args.self.nav c.args.without_children _ c.active.ensures.value (sym c.child_at.ensures.value ∙ c.in-None.is) c.if-without_children.false c.behind-in-None.ensures

pub returns-in-Some : goal.returns-in-Some
returns-in-Some g c =
    comes_child (g.V.View.tree c.args.view.now) c.args.root c.in-Some.child c.active.result c.args.without_children c.args.self c.know_grown.ensures c.requires c.active.ensures.value (sym c.child_at.ensures.value ∙ c.in-Some.is) c.if-without_children.false
