-- What a renderer does next, by the event by which it takes the task.
use Rattle.std.specs.Prelude.{Option, Some, None}
use Rattle.tree_log.specs.declared.entry.What.{What}
use Rattle.tree_log.specs.declared.entry.What.TheVariants as events
use Rattle.web_message.specs.declared.task.Task.{Task}
use Rattle.web_message.specs.declared.task.Task.TheVariants as tasks

abbrev pub task_by : What → Option Task
task_by (events.Commit nav doc begin) = Some (tasks.Load begin)
task_by (events.Fire doc post) = Some (tasks.Fire post)
task_by (events.Lapse doc post cause) = Some (tasks.Lapse post cause)
task_by (events.Gone nav) = Some (tasks.Gone nav)
task_by _ = None

abbrev pub task_if_any : Option What → Option Task
task_if_any None = None
task_if_any (Some what) = task_by what
