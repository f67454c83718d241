-- Posted data has ascending keys.
use Rattle.exchange_laws.proofs.Posted.{fitting_keys_ascend, all_ascend}
use Rattle.exchange_laws.proofs.laws.what_follows_can_join.Goals as goal

pub returns-clause-fitting : goal.returns-clause-fitting
returns-clause-fitting c = fitting_keys_ascend

pub returns-clause-posted : goal.returns-clause-posted
returns-clause-posted c = all_ascend
