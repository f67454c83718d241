-- What a worker holds, by its fields.
use Rattle.tree_view.specs.declared.view.View.{Ghosts}
use Rattle.script_steps.specs.Kept.{kept}
use Rattle.script_steps.specs.Stored.{stored}
use Rattle.session_player.specs.declared.worker.Worker.{Worker}
use Rattle.session_player.specs.Steps.{Holds, holds}

abbrev pub held : {V : Type 0} (view : Ghosts V) → Worker V view → Holds
held view w = holds w.acts.items w.heard (view.tree w.view) (view.urls w.view) w.run (kept w.registers) (stored w.stores)
