-- What is told of a log.
use Rattle.log_laws.proofs.Homes.Told.{told-blanked, blanked_twice, shown_of_told}
use Rattle.log_laws.proofs.laws.what_is_told.Goals as goal

pub returns-clause-at_once : goal.returns-clause-at_once
returns-clause-at_once c = told-blanked

pub returns-clause-twice : goal.returns-clause-twice
returns-clause-twice c = blanked_twice

pub returns-clause-seen : goal.returns-clause-seen
returns-clause-seen c = shown_of_told
