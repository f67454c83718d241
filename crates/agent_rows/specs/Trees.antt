-- What logs say of the tree: the frame n1 of the window n0, and the same frame once it was taken out.
use Rattle.std.specs.Prelude.{◌≡◌, refl, [], ◌∷◌, Some, None, false, codes}
use Rattle.tree_log.specs.Tree.{tree_of, is_active, is_discarded, parent_of, children_of, group_of, chain}
use Rattle.tree_log.specs.NamedChildren.{child_named}
use Rattle.tree_log.specs.Blanking.{homed_at}
use Rattle.tree_log.specs.Log.{entry_at}
use Rattle.tree_log.specs.declared.entry.What.TheVariants.{Commit}
use Rattle.coordinator_rules.specs.NextTask.{task_entry}
use Rattle.agent_rows.specs.Logs.{framed}
use Rattle.agent_rows.specs.ForeignWindow.{taken_out}

-- the frame's document replaced its initial one, which is no longer active
pub frame_active : ((tree_of framed).nav 1).active ≡ 3
unfolding tree_of
frame_active = refl

pub initial_inactive : is_active (tree_of framed) 2 ≡ false
unfolding tree_of is_active is_discarded chain
initial_inactive = refl

-- the frame is the child of the window's document, and the window its parent and its top-level
pub one_child : children_of (tree_of framed) 1 ≡ 1 ∷ []
unfolding tree_of children_of is_active is_discarded chain
one_child = refl

pub its_parent : parent_of (tree_of framed) 1 ≡ Some 0
unfolding tree_of parent_of is_discarded chain
its_parent = refl

pub its_group : group_of (tree_of framed) 1 ≡ Some 0
unfolding tree_of group_of chain
its_group = refl

-- its name reaches it only while it shows the initial document, of the window's origin
pub not_by_name : child_named (tree_of framed) 1 (codes "f") ≡ None
unfolding tree_of child_named children_of is_active is_discarded chain
not_by_name = refl

-- after the drop it has no parent and no top-level, though its document stays the one that it shows
pub no_parent : parent_of (tree_of taken_out) 1 ≡ None
unfolding tree_of parent_of is_discarded chain
no_parent = refl

pub no_children : children_of (tree_of taken_out) 1 ≡ []
unfolding tree_of children_of is_active is_discarded chain
no_children = refl

pub still_shown : ((tree_of taken_out).nav 1).active ≡ 3
unfolding tree_of
still_shown = refl

-- renderer 0 is the home of the window's documents and of the frame's initial one, renderer 1 of the frame's page, renderer 2 of none
pub homed_at_window : homed_at (tree_of framed) 0 ≡ 0 ∷ 1 ∷ 2 ∷ []
unfolding tree_of
homed_at_window = refl

pub homed_there : homed_at (tree_of framed) 1 ≡ 3 ∷ []
unfolding tree_of
homed_there = refl

pub homed_nowhere : homed_at (tree_of framed) 2 ≡ []
unfolding tree_of
homed_nowhere = refl

-- the log has four entries: the newest stands at the place 3, and none at 4
pub newest_entry : entry_at framed 3 ≡ Some (task_entry 1 (Commit 1 3 2))
unfolding entry_at
newest_entry = refl

pub no_entry : entry_at framed 4 ≡ None
unfolding entry_at
no_entry = refl
