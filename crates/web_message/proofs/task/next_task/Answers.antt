use Rattle.std.proofs.Common.{sym, ◌∙◌}
use Rattle.web_message.proofs.TaskKinds.{next_kind}
use Rattle.web_message.proofs.task.next_task.Goals as goal

pub returns-in-Some-clause-none : goal.returns-in-Some-clause-none
returns-in-Some-clause-none g c none = absurd (next_kind c.args.log.now.entries c.args.renderer c.in-Some.what (sym c.next_event.ensures ∙ c.in-Some.is) (sym c.task_by.ensures ∙ none))
