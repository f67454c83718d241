-- Who may navigate and close which window, what a name chooses, and which load waits.
use Rattle.std.specs.Prelude.{◌≡◌, ℕ, refl, Bool, List, [], ◌∷◌, Some, None, true, false, codes}
use Rattle.origin_core.specs.Flags.{flags_of, flags_sum}
use Rattle.tree_log.specs.declared.entry.Entry.{Entry}
use Rattle.tree_log.specs.declared.entry.Load.{Load}
use Rattle.tree_log.specs.declared.entry.What.TheVariants as what
use Rattle.tree_log.specs.Tree.{tree_of, is_active, is_discarded, chain, children_of, parent_of, top_level_of, ancestors, group_of}
use Rattle.tree_log.specs.Admits.{admits, AreAdmitted}
use Rattle.agent_terms.specs.declared.request.Request.TheVariants as ask
use Rattle.agent_terms.specs.declared.request.ReplyOutcome.TheVariants as reply
use Rattle.coordinator_rules.specs.Navigation.{Choice, Existing, New, Nothing, choice, walk_from, familiar_through, may_navigate, may_close}
use Rattle.agent_terms.specs.declared.session.Session.{Session}
use Rattle.agent_terms.specs.declared.act.Move.TheVariants.{Takes}
use Rattle.single_agent.specs.NextMove.{next_move}
use Rattle.single_agent.specs.Running.{step_left, running}
use Rattle.coordinator_rules.specs.NextTask.{next_task, task_entry}
use Rattle.coordinator_rules.specs.Decision.{Decision, one, by, decide}
use Rattle.agent_rows.specs.Logs.{a_test, b_test, load, started, frame, framed, rules, started_admitted}

-- CHOOSING BY A NAME

-- the document d1 of the window n0 names its window, and makes the window n1 of the name w, which loads the foreign d3
abbrev pub two_windows : List Entry
two_windows =
    task_entry 1 (what.Commit 1 3 3)
    ∷ by 0 1 (what.Open 1 2 0 0 a_test (codes "w") (Some 0) 0 None (Some (load 3 1 b_test (codes "https://b.test/"))))
    ∷ by 0 1 (what.Name 0 (codes "main"))
    ∷ started

pub two_windows_admitted : AreAdmitted two_windows
unfolding admits tree_of is_active is_discarded chain
two_windows_admitted = (refl, (refl, (refl, started_admitted)))

-- what a name chooses from navigable current, without noopener and without a user
unfoldable pub chosen : List Entry → ℕ → List ℕ → Choice
unfolding choice walk_from familiar_through may_navigate tree_of is_active is_discarded chain children_of parent_of top_level_of ancestors group_of
chosen log current name = choice (tree_of log) current name false false

-- n0 is familiar with the window n1 that it opened; n1 isn't familiar with its opener, so that name is passed over
pub chooses_opened : chosen two_windows 0 (codes "w") ≡ Existing 1
unfolding chosen
chooses_opened = refl

pub passes_opener_over : chosen two_windows 1 (codes "main") ≡ New
unfolding chosen
passes_opener_over = refl

-- a keyword, in any case, chooses without a search
pub chooses_top : chosen framed 1 (codes "_TOP") ≡ Existing 0
unfolding chosen
chooses_top = refl

-- a frame is found by its name, though its document is foreign
pub chooses_frame : chosen framed 0 (codes "f") ≡ Existing 1
unfolding chosen
chooses_frame = refl

-- SANDBOXED FRAMES

-- the frame of the window n0 under the flags of a sandbox attribute
abbrev pub sandboxed : List ℕ → List Entry
sandboxed text = task_entry 1 (what.Commit 1 3 2) ∷ frame (codes "f") (flags_of text) ∷ started

-- an attribute that clears some flags, and one that clears the flag for navigations of the top by a user as well
abbrev pub some_words : List ℕ
some_words = codes "allow-scripts allow-same-origin"

abbrev pub by_user_words : List ℕ
by_user_words = codes "allow-scripts allow-same-origin allow-top-navigation-by-user-activation"

pub sandboxed_admitted : AreAdmitted (sandboxed some_words)
unfolding admits tree_of is_active is_discarded chain
sandboxed_admitted = (refl, (refl, started_admitted))

-- whether the frame may navigate its top
unfoldable pub may_leave : List ℕ → Bool → Bool
unfolding may_navigate flags_sum tree_of is_discarded chain ancestors
may_leave text user = may_navigate (tree_of (sandboxed text)) 1 0 user

-- it may not navigate its top, whether or not a person caused it
pub stays_alone : may_leave some_words false ≡ false
unfolding may_leave
stays_alone = refl

pub stays_by_user : may_leave some_words true ≡ false
unfolding may_leave
stays_by_user = refl

-- by the other attribute it may, but only where a person caused it
pub stays_without_user : may_leave by_user_words false ≡ false
unfolding may_leave
stays_without_user = refl

pub leaves_by_user : may_leave by_user_words true ≡ true
unfolding may_leave
leaves_by_user = refl

-- and without an attribute in any case
pub leaves : may_navigate (tree_of framed) 1 0 false ≡ true
unfolding may_navigate tree_of is_discarded chain ancestors
leaves = refl

-- a sandboxed frame may not open a window
pub opens_nothing : chosen (sandboxed some_words) 1 (codes "_blank") ≡ Nothing
unfolding chosen flags_sum
opens_nothing = refl

-- GOING

-- what a request of document asker at renderer r comes to, that the navigable of doc go to a URL, be that a fragment
-- navigation or not
unfoldable pub goes : ℕ → ℕ → List Entry → ℕ → Bool → Decision
unfolding decide may_navigate flags_sum tree_of is_active is_discarded chain ancestors group_of
goes r asker log doc fragment = decide rules (tree_of log) (λ n url. fragment) r (ask.Go asker doc (codes "https://b.test/x#y") false)

-- the sandboxed frame's document d3 asks that the window of d1 go elsewhere
pub refuses_to_go : goes 1 3 (sandboxed some_words) 1 false ≡ one 1 3 what.Sync (reply.Security 7)
unfolding goes
refuses_to_go = refl

-- d2 was replaced by d3, so a navigation of d2 does nothing
pub goes_nowhere : goes 0 1 framed 2 false ≡ one 0 1 what.Sync reply.Done
unfolding goes
goes_nowhere = refl

-- the window's document navigates the frame to a fragment of its page
pub goes_to_fragment : goes 0 1 framed 3 true ≡ one 0 1 (what.Fragment 1 3 (codes "https://b.test/x#y")) reply.Done
unfolding goes
goes_to_fragment = refl

-- LOADS THAT WAIT

-- the frame's load of d3 at renderer 1, and a later load
abbrev pub begun_twice : Load → List Entry
begun_twice later = by 0 1 (what.Begin 1 later) ∷ frame (codes "f") 0 ∷ started

-- of d4 at the same renderer, or at renderer 0
abbrev pub load_there : Load
load_there = load 4 1 b_test (codes "https://b.test/y")

abbrev pub load_elsewhere : Load
load_elsewhere = load 4 0 a_test (codes "https://a.test/y")

pub begun_twice_admitted : AreAdmitted (begun_twice load_there) × AreAdmitted (begun_twice load_elsewhere)
unfolding admits tree_of is_active is_discarded chain
begun_twice_admitted = ((refl, (refl, started_admitted)), (refl, (refl, started_admitted)))

-- a renderer that made no act yet takes a task, whatever the session
pub takes_a_task : (s : Session) → next_move s started [] ≡ Takes
unfolding next_move step_left running
takes_a_task s = refl

-- the frame's load waits where there is no other
pub load_waits : next_task (frame (codes "f") 0 ∷ started) 1 ≡ Some (what.Commit 1 3 2)
unfolding next_task tree_of is_discarded chain
load_waits = refl

-- the later load voids it, wherever that is, and waits alone
pub later_load_waits : next_task (begun_twice load_there) 1 ≡ Some (what.Commit 1 4 3)
unfolding next_task tree_of is_discarded chain
later_load_waits = refl

pub no_load_waits : next_task (task_entry 1 (what.Commit 1 4 3) ∷ begun_twice load_there) 1 ≡ None
unfolding next_task tree_of is_discarded chain
no_load_waits = refl

pub later_load_waits_elsewhere : next_task (begun_twice load_elsewhere) 0 ≡ Some (what.Commit 1 4 3)
unfolding next_task tree_of is_discarded chain
later_load_waits_elsewhere = refl

pub older_load_is_void : next_task (begun_twice load_elsewhere) 1 ≡ None
unfolding next_task tree_of is_discarded chain
older_load_is_void = refl

-- CLOSING

-- whether n0 may close the target
unfoldable pub closes : List Entry → ℕ → Bool
unfolding may_close may_navigate familiar_through tree_of is_active is_discarded chain children_of top_level_of ancestors
closes log target = may_close (tree_of log) 0 target false

-- n0 may close the window that its document made, once, and not a start window
pub closes_made : closes two_windows 1 ≡ true
unfolding closes
closes_made = refl

pub closes_once : closes (by 0 1 (what.Closing 1) ∷ two_windows) 1 ≡ false
unfolding closes
closes_once = refl

pub keeps_start : closes two_windows 0 ≡ false
unfolding closes
keeps_start = refl
