-- Two frames of one name, f: the first one decides what the name reaches, whatever its origin.
use Rattle.std.specs.Prelude.{◌≡◌, ℕ, refl, List, ◌∷◌, Option, Some, None, codes}
use Rattle.tree_log.specs.declared.entry.Entry.{Entry}
use Rattle.tree_log.specs.declared.entry.What.TheVariants.{Frame, Begin, Commit, Drop, Name}
use Rattle.tree_log.specs.Tree.{tree_of, is_active, is_discarded, chain, children_of}
use Rattle.tree_log.specs.Admits.{admits, AreAdmitted}
use Rattle.tree_log.specs.NamedChildren.{child_named}
use Rattle.agent_terms.specs.declared.outcome.Outcome.TheVariants as outcome
use Rattle.object_access.specs.Values.{undefined}
use Rattle.coordinator_rules.specs.NextTask.{task_entry}
use Rattle.coordinator_rules.specs.Decision.{by}
use Rattle.window_props.specs.declared.value.Value.TheVariants as value
use Rattle.agent_rows.specs.Logs.{a_test, load, framed, framed_admitted}
use Rattle.agent_rows.specs.ForeignWindow.{got_at}

-- the child that the name reaches from the window's document d1
unfoldable pub reached : List Entry → Option ℕ
unfolding tree_of child_named children_of is_active is_discarded chain
reached log = child_named (tree_of log) 1 (codes "f")

-- after the foreign frame n1, d1 makes another of that name, n2, which shows the initial document d4 of d1's own origin
abbrev pub two_frames : List Entry
two_frames = by 0 1 (Frame 2 4 0 a_test (codes "f") 0 None) ∷ framed

pub two_frames_admitted : AreAdmitted two_frames
unfolding admits tree_of is_active is_discarded chain
two_frames_admitted = (refl, framed_admitted)

-- n2 is hidden by n1, which the name doesn't reach
pub hidden_by_foreign : reached two_frames ≡ None
unfolding reached
hidden_by_foreign = refl

pub hidden_is_undefined : got_at two_frames 0 (codes "f") ≡ outcome.Value undefined
unfolding got_at
hidden_is_undefined = refl

-- n1 shows a document of d1's origin
abbrev pub first_is_own : List Entry
first_is_own = task_entry 0 (Commit 1 5 5) ∷ by 0 1 (Begin 1 (load 5 0 a_test (codes "https://a.test/y"))) ∷ two_frames

pub first_is_own_admitted : AreAdmitted first_is_own
unfolding admits tree_of is_active is_discarded chain
first_is_own_admitted = (refl, (refl, two_frames_admitted))

-- so the name reaches it
pub reaches_first : reached first_is_own ≡ Some 1
unfolding reached
reaches_first = refl

pub reads_first : got_at first_is_own 0 (codes "f") ≡ outcome.Value (value.Window 1)
unfolding got_at
reads_first = refl

-- n1 is taken out, or gets another name: then n2 is the first one
pub reaches_second : reached (by 0 1 (Drop 1) ∷ two_frames) ≡ Some 2
unfolding reached
reaches_second = refl

pub reaches_renamed : reached (by 1 3 (Name 1 (codes "g")) ∷ two_frames) ≡ Some 2
unfolding reached
reaches_renamed = refl
