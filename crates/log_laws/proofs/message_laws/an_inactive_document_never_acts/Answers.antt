-- Documents that act no more.
use Rattle.log_laws.proofs.Messages.Inactive.{never_acts, never_active, replaced_never_acts}
use Rattle.log_laws.proofs.message_laws.an_inactive_document_never_acts.Goals as goal

pub returns-clause-acts : goal.returns-clause-acts
returns-clause-acts c = never_acts

pub returns-clause-stays : goal.returns-clause-stays
returns-clause-stays c = never_active

pub returns-clause-replaced : goal.returns-clause-replaced
returns-clause-replaced c = replaced_never_acts
