use Rattle.link_wire.proofs.ReplyFrames.{one_spelling}
use Rattle.link_wire.proofs.laws.one_reply_a_spelling.Goals as goal

pub returns : goal.returns
returns c = one_spelling
