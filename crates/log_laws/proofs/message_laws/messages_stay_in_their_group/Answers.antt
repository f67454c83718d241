-- Messages and their groups.
use Rattle.log_laws.proofs.Messages.MessageGroups.{posts_belong, registers_own, registers_taken}
use Rattle.log_laws.proofs.message_laws.messages_stay_in_their_group.Goals as goal

pub returns-clause-posts : goal.returns-clause-posts
returns-clause-posts c = posts_belong

pub returns-clause-registers : goal.returns-clause-registers
returns-clause-registers c = registers_own

pub returns-clause-earlier : goal.returns-clause-earlier
returns-clause-earlier c = registers_taken
