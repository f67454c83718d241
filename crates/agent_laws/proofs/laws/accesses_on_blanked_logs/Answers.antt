-- Accesses on a blanked log.
use Rattle.agent_laws.proofs.Blanked.BlankedAccess.{window-blanked, location-blanked, foreign_got-blanked}
use Rattle.agent_laws.proofs.laws.accesses_on_blanked_logs.Goals as goal

pub returns-clause-window : goal.returns-clause-window
returns-clause-window c = window-blanked

pub returns-clause-location : goal.returns-clause-location
returns-clause-location c = location-blanked

pub returns-clause-foreign : goal.returns-clause-foreign
returns-clause-foreign c = foreign_got-blanked
