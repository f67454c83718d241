-- Logs begin in range.
use Rattle.exchange_laws.proofs.Fit.Starts.{empty_fits, start_fits, lost_fits}
use Rattle.exchange_laws.proofs.laws.logs_begin_in_range.Goals as goal

pub returns-clause-empty : goal.returns-clause-empty
returns-clause-empty c = empty_fits

pub returns-clause-start : goal.returns-clause-start
returns-clause-start c = start_fits

pub returns-clause-lost : goal.returns-clause-lost
returns-clause-lost c = lost_fits
