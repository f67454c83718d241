use Rattle.location_object.proofs.HoldLaws.{location_holds}
use Rattle.location_object.proofs.operations.set.Goals as goal

pub set-requires-clause-store : goal.set-requires-clause-store
set-requires-clause-store g c = location_holds (g.V.View.tree c.args.view.now) (g.V.View.urls c.args.view.now) c.args.asker c.args.doc c.args.props.now c.args.key.now c.requires.store
