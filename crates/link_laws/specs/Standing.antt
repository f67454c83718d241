-- A coordinator whose log frames can spell.
use Rattle.std.specs.Prelude.{◌≤◌, ℕ, length}
use Rattle.desk.specs.History.{log_of, told_of}
use Rattle.desk.specs.Serving.{Coordinator}
use Rattle.exchange_laws.specs.Fit.{IsFitLog}

abbrev pub HasFitLog : Coordinator → Type 0
HasFitLog desk = IsFitLog desk.rules (log_of desk.history)

-- and of which renderer r was told no more than there is
pub record Stands (r : ℕ) (desk : Coordinator) : Type 0 where
  pub fit : HasFitLog desk
  pub told : told_of desk.history r ≤ length (log_of desk.history)
