use Rattle.location_object.proofs.HoldLaws.{location_holds}
use Rattle.location_object.proofs.operations.define.Goals as goal

pub define-requires-clause-store : goal.define-requires-clause-store
define-requires-clause-store g c = location_holds (g.V.View.tree c.args.view.now) (g.V.View.urls c.args.view.now) c.args.asker c.args.doc c.args.props.now c.args.key.now c.requires.store
