-- The order of messages.
use Rattle.log_laws.proofs.Messages.MessageOrder.{end_in_order}
use Rattle.log_laws.proofs.message_laws.messages_fire_in_order.Goals as goal

pub returns : goal.returns
returns c = end_in_order
