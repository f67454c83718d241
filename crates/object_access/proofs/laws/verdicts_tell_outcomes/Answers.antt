-- Verdicts and outcomes.
use Rattle.object_access.proofs.VerdictLaws.{window_tells, location_tells}
use Rattle.object_access.proofs.laws.verdicts_tell_outcomes.Goals as goal

pub returns-clause-window : goal.returns-clause-window
returns-clause-window c = window_tells

pub returns-clause-location : goal.returns-clause-location
returns-clause-location c = location_tells
