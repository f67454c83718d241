-- How much a renderer may have heard by its record when the exchange for its next task failed.
use Rattle.std.specs.Prelude.{ℕ, List, [], ◌∷◌, false}
use Rattle.tree_log.specs.declared.entry.Entry.{Entry}
use Rattle.tree_log.specs.declared.entry.What.TheVariants as what
use Rattle.agent_terms.specs.declared.act.Act.{Act}
use Rattle.agent_terms.specs.declared.act.Act.TheVariants.{Task, LostTask}
use Rattle.agent_terms.specs.declared.act.TaskKind.TheVariants as kind
use Rattle.agent_terms.specs.declared.session.Session.{Session}
use Rattle.single_agent.specs.LegalLog.{lost_entry}
use Rattle.single_agent.specs.LegalRecord.{IsLegalRecord}
use Rattle.coordinator_rules.specs.Decision.{by}
use Rattle.agent_rows.specs.Logs.{framed}
use Rattle.agent_rows.specs.Losses.{losing_at}
use Rattle.agent_rows.specs.Tasks.{message}

-- renderer 1's second exchange fails, before it is served
abbrev pub failing : Session
failing = losing_at 2 false

-- the first one was for the frame's document d3, at the place 3
abbrev pub took : List Act
took = Task 4 kind.Commit 3 ∷ []

-- then d1 syncs, and posts a message to d3: a task waits on all six entries, and none on four or on five
abbrev pub six : List Entry
six = message ∷ by 0 1 what.Sync ∷ framed

abbrev pub lost_log : List Entry
lost_log = lost_entry 1 ∷ six

-- the record of renderer 1, where it had heard so much by its end
abbrev pub IsLegalAt : ℕ → Type 0
IsLegalAt heard = IsLegalRecord failing 1 lost_log (LostTask heard ∷ took)
