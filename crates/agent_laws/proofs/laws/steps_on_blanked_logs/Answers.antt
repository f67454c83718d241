-- Steps on a blanked log.
use Rattle.agent_laws.proofs.Blanked.KeptStores.{perform-blanked, changed-blanked, perform_in_group}
use Rattle.agent_laws.proofs.laws.steps_on_blanked_logs.Goals as goal

pub returns-clause-performed : goal.returns-clause-performed
returns-clause-performed c = perform-blanked

pub returns-clause-in_group : goal.returns-clause-in_group
returns-clause-in_group c = perform_in_group

pub returns-clause-changed : goal.returns-clause-changed
returns-clause-changed c = changed-blanked
