-- Refusals add and tell nothing.
use Rattle.desk.proofs.Refusing.{refused_bad, refused_empty, untold}
use Rattle.desk.proofs.laws.refusals_tell_nothing.Goals as goal

pub returns-clause-bad : goal.returns-clause-bad
returns-clause-bad c = refused_bad

pub returns-clause-empty : goal.returns-clause-empty
returns-clause-empty c = refused_empty

pub returns-clause-untold : goal.returns-clause-untold
returns-clause-untold c = untold
