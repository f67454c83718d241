-- Who acts in the entries of an exchange.
use Rattle.agent_laws.proofs.Logs.Fence.{fence, fence_of_task}
use Rattle.agent_laws.proofs.laws.an_exchange_is_fenced.Goals as goal

pub returns-clause-request : goal.returns-clause-request
returns-clause-request c = fence

pub returns-clause-task : goal.returns-clause-task
returns-clause-task c = fence_of_task
