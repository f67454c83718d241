-- What is so of a renderer between its steps, until it has stopped.
use Rattle.std.specs.Prelude.{◌≡◌, ◌<◌, length, Some}
use Rattle.tree_log.specs.Tree.{tree_of, home_of}
use Rattle.agent_terms.specs.declared.act.Running.{Running}
use Rattle.step_ranges.specs.Ranges.{AreAtHand, StoresAtHand}
use Rattle.renderer.specs.Holding.{Holds}

pub record IsSound (w : Holds) : Type 0 where
  pub len : w.len ≡ length w.heard
  -- what runs is of a document that is there and homed at the renderer
  pub there : (run : Running) → w.run ≡ Some run → run.doc < (tree_of w.heard).docs
  pub homed : (run : Running) → w.run ≡ Some run → home_of (tree_of w.heard) run.doc ≡ w.renderer
  -- registers and properties hold objects that are there, and data within its limits
  pub registers : AreAtHand (tree_of w.heard) w.registers
  pub stores : StoresAtHand (tree_of w.heard) w.stores
