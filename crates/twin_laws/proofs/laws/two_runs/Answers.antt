-- Alike events on twin logs.
use Rattle.twin_laws.proofs.Worlds.{replies-alike}
use Rattle.twin_laws.proofs.Starts.{starts_twin, sessions_alike}
use Rattle.twin_laws.proofs.laws.two_runs.Goals as goal

pub returns-clause-logs : goal.returns-clause-logs
returns-clause-logs c = replies-alike

pub returns-clause-starts : goal.returns-clause-starts
returns-clause-starts c = starts_twin

pub returns-clause-sessions : goal.returns-clause-sessions
returns-clause-sessions c = sessions_alike
