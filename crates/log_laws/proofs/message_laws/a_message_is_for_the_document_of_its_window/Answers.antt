use Rattle.log_laws.proofs.Messages.PostedTo.{step_posts}
use Rattle.log_laws.proofs.message_laws.a_message_is_for_the_document_of_its_window.Goals as goal

pub returns : goal.returns
returns c = step_posts
