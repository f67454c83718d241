-- Records on longer logs.
use Rattle.single_agent.proofs.Legal.{record_later}
use Rattle.agent_laws.proofs.laws.records_on_longer_logs.Goals as goal

pub returns : goal.returns
returns c = record_later
