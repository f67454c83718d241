-- One end of a message.
use Rattle.log_laws.proofs.Messages.MessageEnds.{ends_once}
use Rattle.log_laws.proofs.message_laws.a_message_ends_once.Goals as goal

pub returns : goal.returns
returns c = ends_once
