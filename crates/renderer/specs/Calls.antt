-- What stays where memory runs out, and what a turn says of the link.
use Rattle.std.specs.Prelude.{◌≡◌, ◌⊎◌, Bool, true, false, Option, Some, None}
use Rattle.agent_terms.specs.declared.request.Request.{Request}
use Rattle.single_agent.specs.Lengths.{has_stopped}
use Rattle.link_wire.specs.declared.link.Link.{Ghosts}
use Rattle.link_exchange.specs.Calls.{Course, Exchanges}
use Rattle.ports.specs.Causes.{Rose}
use Rattle.renderer.specs.declared.turn.Turn.{Turn}
use Rattle.renderer.specs.declared.turn.Turn.TheVariants.{Stopped, BadReply}
use Rattle.renderer.specs.Holding.{Holds}

-- the calls that a move makes, if it makes any
abbrev pub HasCalled : {L : Type 0} → Ghosts L → Holds → L → L → Option Request → Type 0
HasCalled link w l m None = m ≡ l
HasCalled link w l m (Some request) = (m ≡ l) ⊎ ((course : Course) × Exchanges link w.renderer l w.heard None request course m)

-- acts, the number heard and properties are as before
pub record Keeps (w v : Holds) : Type 0 where
  pub renderer : v.renderer ≡ w.renderer
  pub pages : v.pages ≡ w.pages
  pub acts : v.acts ≡ w.acts
  pub len : v.len ≡ w.len
  pub stores : v.stores ≡ w.stores

-- memory ran out, at a move that makes this request, or none
pub record GivesUp {L : Type 0} (link : Ghosts L) (w : Holds) (request : Option Request) (l : L) (v : Holds) (m : L) : Type 0 where
  pub keeps : Keeps w v
  pub calls : HasCalled link w l m request

-- a renderer stops only where the link's count of faults rose
abbrev pub StopsByFault : {L : Type 0} → Ghosts L → Holds → L → Turn → L → Type 0
StopsByFault link w l Stopped m = (has_stopped w.acts ≡ true) ⊎ Rose (link.faults l) (link.faults m)
StopsByFault link w l _ m = Unit {0}

-- no reply of a link that tells is a bad one
abbrev pub IsHonest : {L : Type 0} → Ghosts L → L → Turn → L → Type 0
IsHonest link l (BadReply place) m = (link.heard l ≡ None) ⊎ (link.renderer m ≡ None)
IsHonest link l _ m = Unit {0}

-- for private clauses: whether the link failed neither by itself nor by what it told
abbrev pub is_calm : Turn → Bool
is_calm Stopped = false
is_calm (BadReply place) = false
is_calm _ = true
