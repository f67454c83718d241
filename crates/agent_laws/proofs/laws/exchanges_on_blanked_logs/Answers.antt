-- What is decided on a blanked log.
use Rattle.agent_laws.proofs.Blanked.BlankedExchanges.{outcome-blanked, next_task-blanked}
use Rattle.agent_laws.proofs.laws.exchanges_on_blanked_logs.Goals as goal

pub returns-clause-outcome : goal.returns-clause-outcome
returns-clause-outcome c = outcome-blanked

pub returns-clause-task : goal.returns-clause-task
returns-clause-task c = next_task-blanked
