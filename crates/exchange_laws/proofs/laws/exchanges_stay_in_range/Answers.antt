-- Exchanges stay in range.
use Rattle.exchange_laws.proofs.Fit.Joined.{log_fits}
use Rattle.exchange_laws.proofs.Fit.Outcomes.{outcome_fits}
use Rattle.exchange_laws.proofs.laws.exchanges_stay_in_range.Goals as goal

pub returns-clause-entries : goal.returns-clause-entries
returns-clause-entries c = log_fits

pub returns-clause-outcome : goal.returns-clause-outcome
returns-clause-outcome c = outcome_fits
