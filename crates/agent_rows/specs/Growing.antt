-- What is read of the tree as a log grows: a window of a.test, its frame `x`, and a second frame of that name.
use Rattle.std.specs.Prelude.{◌≡◌, refl, ℕ, List, [], ◌∷◌, Option, Some, None, Bool, true, false, codes}
use Rattle.tree_log.specs.declared.entry.Entry.{Entry}
use Rattle.tree_log.specs.declared.entry.What.TheVariants.{Frame, Drop, Commit, Closing, Gone}
use Rattle.tree_log.specs.Tree.{tree_of, is_active, is_discarded, parent_of, top_level_of, children_of, chain}
use Rattle.tree_log.specs.Admits.{admits, AreAdmitted}
use Rattle.tree_log.specs.NamedChildren.{child_named}
use Rattle.coordinator_rules.specs.NextTask.{task_entry}
use Rattle.coordinator_rules.specs.Decision.{by}
use Rattle.agent_rows.specs.Logs.{a_test, frame, started, started_admitted}

-- what is read of a navigable
pub record OfNavigable : Type 0 where
  pub active : ℕ
  pub discarded : Bool
  pub parent : Option ℕ
  pub top_level : Option ℕ

unfoldable pub read : List Entry → ℕ → OfNavigable
unfolding tree_of parent_of top_level_of is_discarded chain
read log n = record {
  active = ((tree_of log).nav n).active;
  discarded = is_discarded (tree_of log) n;
  parent = parent_of (tree_of log) n;
  top_level = top_level_of (tree_of log) n;
}

-- the children of a document, and the one that the name `x` reaches
pub record OfDocument : Type 0 where
  pub children : List ℕ
  pub named_x : Option ℕ

unfoldable pub family : List Entry → ℕ → OfDocument
unfolding tree_of child_named children_of is_active is_discarded chain
family log d = record { children = children_of (tree_of log) d; named_x = child_named (tree_of log) d (codes "x") }

-- the frame n1 shows its initial document d2, of the window's origin, as long as its page hasn't come
abbrev pub waiting : List Entry
waiting = frame (codes "x") 0 ∷ started

pub waiting_admitted : AreAdmitted waiting
unfolding admits tree_of is_active is_discarded chain
waiting_admitted = (refl, started_admitted)

pub three_entries : (tree_of waiting).len ≡ 3
unfolding tree_of
three_entries = refl

pub window_active : is_active (tree_of waiting) 1 ≡ true
unfolding tree_of is_active is_discarded chain
window_active = refl

pub first_inactive : is_active (tree_of waiting) 0 ≡ false
unfolding tree_of is_active is_discarded chain
first_inactive = refl

pub window_read : read waiting 0 ≡ record { active = 1; discarded = false; parent = None; top_level = Some 0 }
unfolding read
window_read = refl

pub frame_read : read waiting 1 ≡ record { active = 2; discarded = false; parent = Some 0; top_level = Some 0 }
unfolding read
frame_read = refl

pub window_family : family waiting 1 ≡ record { children = 1 ∷ []; named_x = Some 1 }
unfolding family
window_family = refl

-- a document that was replaced has no children
pub first_family : family waiting 0 ≡ record { children = []; named_x = None }
unfolding family
first_family = refl

-- the first child named `x` shows another origin
abbrev pub shown : List Entry
shown = task_entry 1 (Commit 1 3 2) ∷ waiting

pub foreign_family : family shown 1 ≡ record { children = 1 ∷ []; named_x = None }
unfolding family
foreign_family = refl

-- and hides the second one of that name
abbrev pub two : List Entry
two = by 0 1 (Frame 2 4 0 a_test (codes "x") 0 None) ∷ shown

pub two_family : family two 1 ≡ record { children = 1 ∷ 2 ∷ []; named_x = None }
unfolding family
two_family = refl

-- a frame that was taken out has no parent and no top-level, and its document no children
abbrev pub dropped : List Entry
dropped = by 0 1 (Drop 1) ∷ two

pub dropped_read : read dropped 1 ≡ record { active = 3; discarded = true; parent = None; top_level = None }
unfolding read
dropped_read = refl

pub dropped_family : family dropped 3 ≡ record { children = []; named_x = None }
unfolding family
dropped_family = refl

pub left_family : family dropped 1 ≡ record { children = 2 ∷ []; named_x = Some 2 }
unfolding family
left_family = refl

-- a window that closed takes its frames along
abbrev pub closed : List Entry
closed = task_entry 0 (Gone 0) ∷ by 0 1 (Closing 0) ∷ dropped

pub closed_admitted : AreAdmitted closed
unfolding admits tree_of is_active is_discarded chain
closed_admitted = (refl, (refl, (refl, (refl, (refl, waiting_admitted)))))

pub closed_frame_read : read closed 2 ≡ record { active = 4; discarded = true; parent = None; top_level = None }
unfolding read
closed_frame_read = refl

pub closed_window_read : read closed 0 ≡ record { active = 1; discarded = true; parent = None; top_level = None }
unfolding read
closed_window_read = refl
