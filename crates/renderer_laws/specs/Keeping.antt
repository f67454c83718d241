-- A renderer that holds just what a log and its acts say, and has heard the log to a place. Renderers are this project's own.
use Rattle.std.specs.Prelude.{◌≡◌, ◌<◌, ◌≤◌, ◌^◌, ℕ, List, length, false, Option, Some, None}
use Rattle.tree_log.specs.declared.entry.Entry.{Entry}
use Rattle.tree_log.specs.Admits.{AreAdmitted}
use Rattle.tree_log.specs.Log.{prefix}
use Rattle.tree_log.specs.Tree.{Tree, tree_of}
use Rattle.agent_terms.specs.declared.act.Act.{Act}
use Rattle.agent_terms.specs.declared.act.Running.{Running}
use Rattle.agent_terms.specs.declared.session.Session.{Session}
use Rattle.coordinator_rules.specs.Told.{told_log}
use Rattle.log_laws.specs.Homes.{ActorsLoaded}
use Rattle.single_agent.specs.LegalLog.{IsLegalLog}
use Rattle.single_agent.specs.LegalRecord.{IsLegalRecord}
use Rattle.single_agent.specs.Lengths.{newest_length, has_stopped}
use Rattle.single_agent.specs.Mine.{IsMine}
use Rattle.single_agent.specs.Running.{running, step_left}
use Rattle.single_agent.specs.Sights.{registers, stores}
use Rattle.renderer.specs.Holding.{Holds}

-- what the renderer runs fits its acts: either no step is left, or it runs what the acts say and has heard just to the newest one
abbrev pub FitsRun : Session → List Entry → List Act → ℕ → Option Running → Type 0
FitsRun s log acts told None = step_left s log acts ≡ None
FitsRun s log acts told (Some run) = (told ≡ newest_length acts) × (running log acts ≡ Some run)

-- the document of what runs is there, homed at the renderer, and has been active
abbrev pub IsOwnRun : ℕ → Tree → Option Running → Type 0
IsOwnRun r t None = Unit {0}
IsOwnRun r t (Some run) = IsMine r t run.doc

-- renderer r holds what the log and its acts say, none of which was lost, and was told so many entries, blanked for it
pub record Keeps (s : Session) (r : ℕ) (log : List Entry) (acts : List Act) (told : ℕ) (w : Holds) : Type 0 where
  pub renderer : w.renderer ≡ r
  pub pages : w.pages ≡ s.pages
  pub acts_are : w.acts ≡ acts
  pub goes_on : has_stopped acts ≡ false
  pub within : told ≤ length log
  pub heard : w.heard ≡ prefix told (told_log r log)
  pub len : w.len ≡ told
  pub newest : newest_length acts ≤ told
  pub registers : w.registers ≡ registers s log acts
  pub stores : w.stores ≡ stores s log acts
  pub run : FitsRun s log acts told w.run
  pub own : IsOwnRun r (tree_of (prefix told log)) w.run

-- the acts are a legal record of renderer r on the legal log, in which no initial document acts
pub record IsLegal (s : Session) (r : ℕ) (log : List Entry) (acts : List Act) : Type 0 where
  pub admitted : AreAdmitted log
  pub short : length log < 2 ^ 30
  pub log_is : IsLegalLog s log
  pub actors : ActorsLoaded log
  pub record_is : IsLegalRecord s r log acts
