-- The log of a play.
use Rattle.log_laws.proofs.Plays.Lengths.{played_length, played_bounded}
use Rattle.log_laws.proofs.Plays.Played.{played_admitted, played_actors}
use Rattle.agent_laws.proofs.Groups.ClosedLogs.{closed_played}
use Rattle.log_laws.proofs.Homes.PlayedHomes.{played_homes, played_seen}
use Rattle.log_laws.proofs.laws.played_logs.Goals as goal

pub returns-clause-short : goal.returns-clause-short
returns-clause-short c = played_length

pub returns-clause-admitted : goal.returns-clause-admitted
returns-clause-admitted c = λ s turns played few renderers. played_admitted s turns played (played_bounded s turns played few renderers)

pub returns-clause-actors : goal.returns-clause-actors
returns-clause-actors c = λ s turns played few renderers web. played_actors s turns web played (played_bounded s turns played few renderers)

pub returns-clause-homes : goal.returns-clause-homes
returns-clause-homes c = λ s turns played few renderers web. played_homes s turns web played (played_bounded s turns played few renderers)

pub returns-clause-seen : goal.returns-clause-seen
returns-clause-seen c = λ s turns played few renderers web. played_seen s turns web played (played_bounded s turns played few renderers)

pub returns-clause-closed : goal.returns-clause-closed
returns-clause-closed c = λ s turns played few renderers. closed_played s turns played (played_bounded s turns played few renderers)
