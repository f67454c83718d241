-- What a worker holds.
use Rattle.tree_view.specs.declared.view.View.{Ghosts}
use Rattle.renderer.specs.declared.worker.Worker.{Worker}
use Rattle.renderer.specs.Holding.{Holds}
use Rattle.renderer.specs.Held as state

abbrev pub held : {V : Type 0} {g : Ghosts V} → Worker V g → Holds
held w = state.held w.state
