-- What a renderer's worker holds, by its fields.
use Rattle.std.specs.Prelude.{◌≡◌, ◌<◌, ◌^◌, true, false}
use Rattle.script_steps.specs.Kept.{kept}
use Rattle.script_steps.specs.Stored.{stored}
use Rattle.step_ranges.specs.Ranges.{are_pages_short}
use Rattle.single_agent.specs.Lengths.{has_stopped}
use Rattle.renderer.specs.declared.state.State.{State}
use Rattle.renderer.specs.Holding.{Holds}
use Rattle.renderer.specs.Sound.{IsSound}

abbrev pub held : {V : Type 0} → State V → Holds
held w =
    record {
      renderer = w.renderer;
      pages = w.pages;
      acts = w.acts.acts;
      len = w.heard;
      heard = w.replica;
      run = w.run;
      registers = kept w.registers;
      stores = stored w.stores;
    }

-- The number and the pages are in range of frames, and what it holds is sound unless memory ran out or it has stopped.
pub record IsFit {V : Type 0} (w : State V) : Type 0 where
  pub seat : w.renderer < 2 ^ 16
  pub short : are_pages_short w.pages ≡ true
  pub sound : w.spent ≡ false → has_stopped w.acts.acts ≡ false → IsSound (held w)
