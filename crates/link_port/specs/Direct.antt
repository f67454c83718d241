-- A renderer's link over a coordinator.
use Rattle.std.specs.Prelude.{◌≡◌, ℕ, List, Option, Result, Ok, Err}
use Rattle.desk.specs.Serving.{Coordinator, GivesUp, IsServed}
use Rattle.link_wire.specs.declared.link.LinkError.{LinkError}
use Rattle.link_wire.specs.declared.link.LinkError.TheVariants.{Failed, NoMemory}
use Rattle.link_wire.specs.Links.{Pending}
use Rattle.tree_log.specs.declared.entry.Entry.{Entry}
use Rattle.link_port.specs.Hearing.{heard_of}
use Rattle.link_port.specs.Steps.{pending_of}
use Rattle.link_port.specs.declared.direct.DirectLink.{DirectLink}

-- the coordinator below
abbrev pub below : {V : Type 0} {g : _} → DirectLink V g → Coordinator
below link = link.desk.now

-- the renderer's number
abbrev pub seat : {V : Type 0} {g : _} → DirectLink V g → ℕ
seat link = link.renderer

-- the step that is under way, if there is one
abbrev pub pending : {V : Type 0} {g : _} → DirectLink V g → Option Pending
pending link = pending_of link.step

-- the entries that were heard
abbrev pub heard : {V : Type 0} {g : _} → DirectLink V g → List Entry
heard link = heard_of (seat link) (below link).history

-- it is the same renderer's, over the same coordinator
pub record IsSame {V : Type 0} {g : _} (old new : DirectLink V g) : Type 0 where
  pub seat : seat new ≡ seat old
  pub desk : new.desk.ghost_name ≡ old.desk.ghost_name

-- A call is what the coordinator does on the renderer's bytes. It doesn't fail; where memory ran out, the step that was under
-- way still is.
abbrev pub Exchanges : {V : Type 0} {g : _} → DirectLink V g → List ℕ → Result (Unit {0}) LinkError → List ℕ → DirectLink V g → Type 0
Exchanges old request (Ok _) reply new = IsSame old new × IsServed (seat old) request (below old) reply (below new)
Exchanges old request (Err NoMemory) reply new = IsSame old new × GivesUp (below old) (below new) × (pending new ≡ pending old)
Exchanges old request (Err Failed) reply new = ⊥
