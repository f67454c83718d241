-- Logs stay admitted.
use Rattle.agent_laws.proofs.Logs.Admitted.{exchange_admitted, legal_admitted}
use Rattle.agent_laws.proofs.laws.logs_stay_admitted.Goals as goal

pub returns-clause-exchange : goal.returns-clause-exchange
returns-clause-exchange c = exchange_admitted

pub returns-clause-legal : goal.returns-clause-legal
returns-clause-legal c = legal_admitted
