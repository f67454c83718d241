-- Requests of a renderer's own, as its link takes them.
use Rattle.std.specs.Prelude.{◌≡◌, None, false}
use Rattle.single_agent.specs.Lengths.{has_stopped}
use Rattle.link_wire.specs.declared.link.Link.{Ghosts}
use Rattle.link_exchange.specs.Calls.{Knows}
use Rattle.renderer.specs.Holding.{Holds}

-- until the renderer has stopped, the link knows what it heard, where it tells it, and no exchange is under way
abbrev pub IsFor : {L : Type 0} → Ghosts L → Holds → L → Type 0
IsFor link w l = has_stopped w.acts ≡ false → Knows link w.renderer l w.heard None
