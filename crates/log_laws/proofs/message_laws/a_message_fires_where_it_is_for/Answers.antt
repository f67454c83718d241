-- Where messages fire and lapse.
use Rattle.log_laws.proofs.Messages.MessageEnds.{fires_rightly, lapses_rightly}
use Rattle.log_laws.proofs.message_laws.a_message_fires_where_it_is_for.Goals as goal

pub returns-clause-fires : goal.returns-clause-fires
returns-clause-fires c = fires_rightly

pub returns-clause-lapses : goal.returns-clause-lapses
returns-clause-lapses c = lapses_rightly
