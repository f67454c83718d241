-- What waits at a renderer: messages, which fire or lapse, loads that a later load or a drop voids, and windows that close.
use Rattle.std.specs.Prelude.{◌≡◌, refl, ℕ, List, ◌∷◌, [], Some, None, codes}
use Rattle.plain_data.specs.declared.data.Data.TheVariants as data'
use Rattle.tree_log.specs.declared.entry.Entry.{Entry}
use Rattle.tree_log.specs.declared.entry.Target.{Target}
use Rattle.tree_log.specs.declared.entry.Target.TheVariants as targets
use Rattle.tree_log.specs.declared.entry.Cause.TheVariants as causes
use Rattle.tree_log.specs.declared.entry.What.TheVariants as what
use Rattle.tree_log.specs.Admits.{admits, AreAdmitted}
use Rattle.tree_log.specs.Log.{entry_at, prefix}
use Rattle.tree_log.specs.Tree.{tree_of, is_active, is_discarded, chain}
use Rattle.window_props.specs.declared.value.Value.{Value}
use Rattle.window_props.specs.declared.value.Value.TheVariants as value
use Rattle.agent_terms.specs.declared.act.Act.{Act}
use Rattle.agent_terms.specs.declared.act.Act.TheVariants.{Task}
use Rattle.agent_terms.specs.declared.act.TaskKind.TheVariants as kind
use Rattle.agent_terms.specs.declared.session.Session.{Session}
use Rattle.object_access.specs.Values.{text}
use Rattle.object_access.specs.Registers.{unset, written, task_written}
use Rattle.single_agent.specs.Sights.{registers}
use Rattle.coordinator_rules.specs.NextTask.{next_task, task_entry}
use Rattle.coordinator_rules.specs.Decision.{by}
use Rattle.agent_rows.specs.Logs.{a_test, b_test, load, started, frame, framed, framed_admitted}
use Rattle.agent_rows.specs.Coordinator.{hello}
use Rattle.agent_rows.specs.Navigating.{two_windows, two_windows_admitted}

-- MESSAGES

-- d1 posts a message to the frame's document d3, whose home is renderer 1, for documents of this target
abbrev pub posted_for : Target → List Entry
posted_for target = by 0 1 (what.Post 3 0 a_test target hello) ∷ framed

pub posted_admitted : (target : Target) → AreAdmitted (posted_for target)
unfolding admits tree_of is_active is_discarded chain
posted_admitted target = (refl, framed_admitted)

-- it fires there where it is for any origin, or for that of d3
pub fires_for_any : next_task (posted_for targets.Any) 1 ≡ Some (what.Fire 3 4)
unfolding next_task tree_of is_active is_discarded chain
fires_for_any = refl

pub fires_for_own : next_task (posted_for (targets.Origin b_test)) 1 ≡ Some (what.Fire 3 4)
unfolding next_task tree_of is_active is_discarded chain
fires_for_own = refl

-- and nowhere else
pub waits_at_home : next_task (posted_for targets.Any) 0 ≡ None
unfolding next_task tree_of is_discarded chain
waits_at_home = refl

-- where it is for another origin, or for none, it lapses
pub lapses_by_origin : next_task (posted_for (targets.Origin a_test)) 1 ≡ Some (what.Lapse 3 4 causes.Origin)
unfolding next_task tree_of is_active is_discarded chain
lapses_by_origin = refl

pub lapses_for_none : next_task (posted_for targets.Never) 1 ≡ Some (what.Lapse 3 4 causes.Origin)
unfolding next_task tree_of is_active is_discarded chain
lapses_for_none = refl

-- d1 has another document loaded in the frame, or takes the frame out
abbrev pub replaced_for : Target → List Entry
replaced_for target = task_entry 0 (what.Commit 1 4 5) ∷ by 0 1 (what.Begin 1 (load 4 0 a_test (codes "https://a.test/y"))) ∷ posted_for target

abbrev pub dropped_for : Target → List Entry
dropped_for target = by 0 1 (what.Drop 1) ∷ posted_for target

pub replaced_admitted : (target : Target) → AreAdmitted (replaced_for target)
unfolding admits tree_of is_active is_discarded chain
replaced_admitted target = (refl, (refl, posted_admitted target))

pub dropped_admitted : (target : Target) → AreAdmitted (dropped_for target)
unfolding admits tree_of is_active is_discarded chain
dropped_admitted target = (refl, posted_admitted target)

-- then d3 isn't active any more, and the message lapses, whatever its target
pub lapses_where_replaced : (target : Target) → next_task (replaced_for target) 1 ≡ Some (what.Lapse 3 4 causes.Inactive)
unfolding next_task tree_of is_active is_discarded chain
lapses_where_replaced target = refl

pub lapses_where_dropped : (target : Target) → next_task (dropped_for target) 1 ≡ Some (what.Lapse 3 4 causes.Inactive)
unfolding next_task tree_of is_active is_discarded chain
lapses_where_dropped target = refl

-- once it fired or lapsed, nothing waits
abbrev pub fired : List Entry
fired = task_entry 1 (what.Fire 3 4) ∷ posted_for targets.Any

pub fired_admitted : AreAdmitted fired
unfolding admits tree_of is_active is_discarded chain
fired_admitted = (refl, posted_admitted targets.Any)

pub fires_once : next_task fired 1 ≡ None
unfolding next_task tree_of is_discarded chain
fires_once = refl

pub lapses_once : next_task (task_entry 1 (what.Lapse 3 4 causes.Origin) ∷ posted_for (targets.Origin a_test)) 1 ≡ None
unfolding next_task tree_of is_discarded chain
lapses_once = refl

-- of two messages the one that was posted first comes first
abbrev pub posted_twice : List Entry
posted_twice = by 0 1 (what.Post 3 0 a_test (targets.Origin a_test) (data'.Text (codes "again"))) ∷ posted_for targets.Any

pub posted_twice_admitted : AreAdmitted posted_twice
unfolding admits tree_of is_active is_discarded chain
posted_twice_admitted = (refl, posted_admitted targets.Any)

pub first_comes_first : next_task posted_twice 1 ≡ Some (what.Fire 3 4)
unfolding next_task tree_of is_active is_discarded chain
first_comes_first = refl

pub second_comes_second : next_task (task_entry 1 (what.Fire 3 4) ∷ posted_twice) 1 ≡ Some (what.Lapse 3 5 causes.Origin)
unfolding next_task tree_of is_active is_discarded chain
second_comes_second = refl

-- a message for the frame's initial document d2, whose home is renderer 0, lapses once d3 has replaced it
pub lapses_with_initial : next_task (task_entry 1 (what.Commit 1 3 2) ∷ by 0 1 (what.Post 2 0 a_test targets.Any hello) ∷ frame (codes "f") 0 ∷ started) 0 ≡ Some (what.Lapse 2 3 causes.Inactive)
unfolding next_task tree_of is_active is_discarded chain
lapses_with_initial = refl

-- WHAT A MESSAGE WRITES

-- what d3 reads under a name, once the message fired
abbrev pub heard : List ℕ → Value
heard name = task_written (posted_for targets.Any) (what.Fire 3 4) unset 3 name

pub writes_data : heard (codes "data") ≡ value.Plain hello
unfolding written entry_at
writes_data = refl

-- the origin and the window of who posted it
pub writes_origin : heard (codes "origin") ≡ text (codes "https://a.test")
unfolding written entry_at
writes_origin = refl

pub writes_source : heard (codes "source") ≡ value.Window 0
unfolding written entry_at
writes_source = refl

-- no other name, and no document but d3
pub writes_no_other : heard (codes "target") ≡ unset 3 (codes "target")
unfolding written entry_at
writes_no_other = refl

pub writes_for_none_else : task_written (posted_for targets.Any) (what.Fire 3 4) unset 1 (codes "data") ≡ unset 1 (codes "data")
unfolding written entry_at
writes_for_none_else = refl

-- a message that lapses writes nothing
pub lapse_writes_nothing : (before : ℕ → List ℕ → Value) → task_written (posted_for (targets.Origin a_test)) (what.Lapse 3 4 causes.Origin) before ≡ before
lapse_writes_nothing before = refl

-- so do the acts of renderer 1, which took d3 and then the message
abbrev pub two_tasks : List Act
two_tasks = Task 6 kind.Fire 5 ∷ Task 4 kind.Commit 3 ∷ []

pub data_after_fire : (s : Session) → registers s fired two_tasks 3 (codes "data") ≡ value.Plain hello
unfolding registers written entry_at prefix
data_after_fire s = refl

pub source_after_fire : (s : Session) → registers s fired two_tasks 3 (codes "source") ≡ value.Window 0
unfolding registers written entry_at prefix
source_after_fire s = refl

-- LOADS THAT ARE VOID

-- d1 navigates the frame twice, before either document is loaded: the later load is the only one
abbrev pub begun : ℕ → Entry
begun doc = by 0 1 (what.Begin 1 (load doc 1 b_test (codes "https://b.test/y")))

pub begun_twice_admitted : AreAdmitted (begun 5 ∷ begun 4 ∷ framed)
unfolding admits tree_of is_active is_discarded chain
begun_twice_admitted = (refl, (refl, framed_admitted))

pub earlier_load_waits : next_task (begun 4 ∷ framed) 1 ≡ Some (what.Commit 1 4 4)
unfolding next_task tree_of is_discarded chain
earlier_load_waits = refl

pub later_load_alone_waits : next_task (begun 5 ∷ begun 4 ∷ framed) 1 ≡ Some (what.Commit 1 5 5)
unfolding next_task tree_of is_discarded chain
later_load_alone_waits = refl

pub later_load_comes_once : next_task (task_entry 1 (what.Commit 1 5 5) ∷ begun 5 ∷ begun 4 ∷ framed) 1 ≡ None
unfolding next_task tree_of is_discarded chain
later_load_comes_once = refl

-- the load of a frame that is taken out
pub dropped_load_is_void : next_task (by 0 1 (what.Drop 1) ∷ frame (codes "f") 0 ∷ started) 1 ≡ None
unfolding next_task tree_of is_discarded chain
dropped_load_is_void = refl

-- WINDOWS THAT CLOSE

-- d1 asks the window n1 to close, whose document d3 has its home at renderer 1
abbrev pub closing : List Entry
closing = by 0 1 (what.Closing 1) ∷ two_windows

pub closing_admitted : AreAdmitted closing
unfolding admits tree_of is_active is_discarded chain
closing_admitted = (refl, two_windows_admitted)

pub closes_at_home : next_task closing 1 ≡ Some (what.Gone 1)
unfolding next_task tree_of is_discarded chain
closes_at_home = refl

pub closes_nowhere_else : next_task closing 0 ≡ None
unfolding next_task tree_of is_discarded chain
closes_nowhere_else = refl

pub closes_once : next_task (task_entry 1 (what.Gone 1) ∷ closing) 1 ≡ None
unfolding next_task tree_of is_discarded chain
closes_once = refl

-- a message that was posted before the window closed fires first, and one that is posted later lapses
abbrev pub message : Entry
message = by 0 1 (what.Post 3 0 a_test targets.Any hello)

pub fires_before_close : next_task (by 0 1 (what.Closing 1) ∷ message ∷ two_windows) 1 ≡ Some (what.Fire 3 5)
unfolding next_task tree_of is_active is_discarded chain
fires_before_close = refl

pub lapses_after_close : next_task (task_entry 1 (what.Gone 1) ∷ message ∷ closing) 1 ≡ Some (what.Lapse 3 6 causes.Inactive)
unfolding next_task tree_of is_active is_discarded chain
lapses_after_close = refl
