use Rattle.link_wire.proofs.RequestFrames.{one_spelling}
use Rattle.link_wire.proofs.laws.one_request_a_spelling.Goals as goal

pub returns : goal.returns
returns c = one_spelling
