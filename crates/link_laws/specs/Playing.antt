-- A renderer's link in a play: it fails at one call, and passes a gate to a coordinator.
use Rattle.std.specs.Prelude.{◌≡◌, ℕ, List, None, true, false}
use Rattle.agent_terms.specs.declared.request.Request.{Request}
use Rattle.desk.specs.Serving.{Coordinator}
use Rattle.link_port.specs.Direct as direct
use Rattle.link_port.specs.Failing as failing
use Rattle.link_port.specs.Gated as gated
use Rattle.link_port.specs.declared.direct.DirectLink.{DirectLink}
use Rattle.link_port.specs.declared.failing.FailingLink.{FailingLink}
use Rattle.link_port.specs.declared.gated.GatedLink.{GatedLink}
use Rattle.link_wire.specs.Links.{is_fit}
use Rattle.tree_log.specs.declared.entry.Entry.{Entry}
use Rattle.link_laws.specs.Standing.{Stands}

-- the link to the coordinator, inside the two others
abbrev pub inmost : {V G : Type 0} {g : _} → FailingLink (GatedLink (DirectLink V g) G) → DirectLink V g
inmost link = gated.inside (failing.inside link)

-- the coordinator
abbrev pub below : {V G : Type 0} {g : _} → FailingLink (GatedLink (DirectLink V g) G) → Coordinator
below link = direct.below (inmost link)

-- the renderer's number
abbrev pub seat : {V G : Type 0} {g : _} → FailingLink (GatedLink (DirectLink V g) G) → ℕ
seat link = direct.seat (inmost link)

-- the entries that it heard
abbrev pub heard : {V G : Type 0} {g : _} → FailingLink (GatedLink (DirectLink V g) G) → List Entry
heard link = direct.heard (inmost link)

-- the link was just made, over a coordinator that stands, and the renderer may ask this
pub record IsReady {V G : Type 0} {g : _} (link : FailingLink (GatedLink (DirectLink V g) G)) (request : Request) : Type 0 where
  pub none : failing.calls link ≡ 0
  pub sound : failing.has_failed link ≡ false
  pub begins : direct.pending (inmost link) ≡ None
  pub stands : Stands (seat link) (below link)
  pub fit : is_fit (seat link) (heard link) request ≡ true

-- it fails at the same call, and it is the same renderer's, over the same links and the same coordinator
pub record IsSame {V G : Type 0} {g : _} (old new : FailingLink (GatedLink (DirectLink V g) G)) : Type 0 where
  pub outermost : failing.IsSame old new
  pub between : gated.IsSame (failing.inside old) (failing.inside new)
  pub inmost : direct.IsSame (inmost old) (inmost new)
