-- What the coordinator answers to requests, and the entries that it adds; and which renderer is to hold a new document.
use Prim.{tt}
use Rattle.std.specs.Prelude.{◌≡◌, ℕ, refl, List, [], ◌∷◌, Some, None, false, codes}
use Rattle.plain_data.specs.declared.data.Data.{Data}
use Rattle.plain_data.specs.declared.data.Data.TheVariants as data'
use Rattle.origin_core.specs.declared.origin.Origin.{Origin}
use Rattle.origin_core.specs.Site.{site_of}
use Rattle.tree_log.specs.declared.entry.Entry.{Entry}
use Rattle.tree_log.specs.declared.entry.Target.TheVariants as target
use Rattle.tree_log.specs.declared.entry.What.TheVariants as what
use Rattle.tree_log.specs.Tree.{tree_of, is_active, is_discarded, chain, children_of, top_level_of, ancestors, group_of}
use Rattle.tree_log.specs.Admits.{admits, AreAdmitted}
use Rattle.tree_log.specs.Homes.{home_for}
use Rattle.agent_terms.specs.declared.request.Request.{Request}
use Rattle.agent_terms.specs.declared.request.Request.TheVariants as ask
use Rattle.agent_terms.specs.declared.request.ReplyOutcome.{ReplyOutcome}
use Rattle.agent_terms.specs.declared.request.ReplyOutcome.TheVariants as reply
use Rattle.coordinator_rules.specs.Navigation.{choice, walk_from, familiar_through, may_navigate}
use Rattle.coordinator_rules.specs.NextTask.{next_task, task_entry}
use Rattle.coordinator_rules.specs.Decision.{Decision, one, decide, exchange, asked_decision, end_of, is_in_fragment}
use Rattle.agent_rows.specs.Logs.{site, a_test, b_test, load, start, started, frame, framed, rules}

-- what a request of renderer r comes to
unfoldable pub answered : List Entry → ℕ → Request → Decision
unfolding exchange asked_decision decide end_of is_in_fragment next_task choice walk_from familiar_through may_navigate tree_of is_active is_discarded chain children_of top_level_of ancestors group_of
answered log r request = exchange rules log r request

-- no entry, and this outcome
abbrev pub only : ReplyOutcome → Decision
only outcome = record { entries = []; outcome = outcome }

-- WHO ASKS

-- d1 is active, and its home is renderer 0
pub syncs : answered framed 0 (ask.Sync 1) ≡ record { entries = record { by = Some 0; actor = Some 1; what = what.Sync } ∷ []; outcome = reply.Done }
unfolding answered
syncs = refl

-- a renderer that isn't its home is told which one is
pub not_yours : answered framed 1 (ask.Sync 1) ≡ only (reply.NotYours 1 (Some 0))
unfolding answered
not_yours = refl

-- no document has this number
pub of_no_document : answered framed 1 (ask.Sync 4) ≡ only (reply.NotYours 4 None)
unfolding answered
of_no_document = refl

-- the entry at the place 3 replaced d2
pub unloaded : answered framed 0 (ask.Sync 2) ≡ only (reply.Unloaded 3)
unfolding answered
unloaded = refl

-- TASKS

-- the frame's document is loaded at renderer 1, once
pub loads_frame : answered (frame (codes "f") 0 ∷ started) 1 ask.Next ≡ record { entries = task_entry 1 (what.Commit 1 3 2) ∷ []; outcome = reply.Task 3 }
unfolding answered
loads_frame = refl

pub no_task : answered framed 1 ask.Next ≡ only reply.Nothing
unfolding answered
no_task = refl

-- FRAMES AND WINDOWS WITHOUT URL

-- the next numbers are those of the navigable n2 and its initial document d4
pub makes_frame : answered framed 0 (ask.Frame 1 (codes "g") 0 None) ≡ one 0 1 (what.Frame 2 4 0 a_test (codes "g") 0 None) (reply.Made 2)
unfolding answered
makes_frame = refl

pub opens_window : answered framed 0 (ask.Open 1 None (codes "w") false false) ≡ one 0 1 (what.Open 2 4 0 0 a_test (codes "w") (Some 0) 0 None None) (reply.Made 2)
unfolding answered
opens_window = refl

-- the name of a frame that is there: no window is made, and the opener becomes the asker's window
pub opens_frame : answered framed 0 (ask.Open 1 None (codes "f") false false) ≡ one 0 1 (what.Opener 1 (Some 0)) (reply.Made 1)
unfolding answered
opens_frame = refl

-- d1 may take out its own frame, and no other navigable
pub drops_frame : answered framed 0 (ask.Drop 1 1) ≡ one 0 1 (what.Drop 1) reply.Done
unfolding answered
drops_frame = refl

pub drops_nothing : answered framed 0 (ask.Drop 1 0) ≡ one 0 1 what.Sync reply.Done
unfolding answered
drops_nothing = refl

-- OTHER DOCUMENTS

abbrev pub hello : Data
hello = data'.Text (codes "hello")

abbrev pub posting : ℕ → Request
posting doc = ask.Post 1 doc target.Any hello

-- a message for the frame's document, from the window n0
pub posts : answered framed 0 (posting 3) ≡ one 0 1 (what.Post 3 0 a_test target.Any hello) reply.Done
unfolding answered
posts = refl

-- two start windows, each of a group of its own: d1 asks, and d3 isn't near it
abbrev pub two_groups : List Entry
two_groups =
    task_entry 1 (what.Commit 1 3 1)
    ∷ task_entry 0 (what.Commit 0 1 0)
    ∷ start 1 2 1 (load 3 1 b_test (codes "https://b.test/"))
    ∷ start 0 0 0 (load 1 0 a_test (codes "https://a.test/"))
    ∷ []

pub two_groups_admitted : AreAdmitted two_groups
unfolding admits tree_of is_active is_discarded chain
two_groups_admitted = (refl, (refl, (refl, (refl, tt))))

pub posts_nothing : answered two_groups 0 (posting 3) ≡ one 0 1 what.Sync reply.Done
unfolding answered
posts_nothing = refl

-- the name of a window is for the documents of its own origin
pub names_own : answered framed 0 (ask.Name 1 1 (codes "g")) ≡ one 0 1 (what.Name 0 (codes "g")) reply.Done
unfolding answered
names_own = refl

pub refuses_to_name : answered framed 0 (ask.Name 1 3 (codes "g")) ≡ one 0 1 what.Sync (reply.Security 8)
unfolding answered
refuses_to_name = refl

-- HOMES

-- the home of a new document of this origin, in the window's group
unfoldable pub home_of_new : Origin → ℕ
unfolding home_for tree_of chain group_of
home_of_new origin = home_for 3 [] (tree_of framed) 0 (site_of origin [])

-- a site that is there has its renderer, which a part of the site shares; a new site has the next one
pub home_of_old_site : home_of_new b_test ≡ 1
unfolding home_of_new
home_of_old_site = refl

pub home_of_same_site : home_of_new (site (codes "shop.b.test")) ≡ 1
unfolding home_of_new
home_of_same_site = refl

pub home_of_new_site : home_of_new (site (codes "c.test")) ≡ 2
unfolding home_of_new
home_of_new_site = refl
