use Rattle.link_wire.proofs.StreamLaws.{stream_is_split, cuts_agree}
use Rattle.link_wire.proofs.laws.every_cutting_agrees.Goals as goal

pub returns-clause-stream : goal.returns-clause-stream
returns-clause-stream c = stream_is_split

pub returns-clause-cuts : goal.returns-clause-cuts
returns-clause-cuts c = cuts_agree
