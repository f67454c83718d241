-- At most two entries.
use Rattle.exchange_laws.proofs.Owned.{few_entries, second_entry}
use Rattle.exchange_laws.proofs.laws.an_exchange_makes_few_entries.Goals as goal

pub returns-clause-few : goal.returns-clause-few
returns-clause-few c = few_entries

pub returns-clause-second : goal.returns-clause-second
returns-clause-second c = second_entry
