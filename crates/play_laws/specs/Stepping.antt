-- A step of a renderer in a play, with its loss. Plays are this project's own.
use Rattle.std.specs.Prelude.{◌≡◌, ◌<◌, ℕ, ◌+◌, ◌-◌, ◌^◌, ◌∷◌, min, Option, false}
use Rattle.agent_terms.specs.declared.session.Lose.{Lose}
use Rattle.desk.specs.declared.item.Item.TheVariants.{Entered}
use Rattle.desk.specs.History.{log_of}
use Rattle.desk.specs.Serving.{Coordinator, IsAt}
use Rattle.link_port.specs.Hearing.{heard_of}
use Rattle.renderer.specs.declared.turn.Turn.{Turn}
use Rattle.renderer.specs.declared.turn.Turn.TheVariants.{Stopped}
use Rattle.single_agent.specs.LegalLog.{lost_entry}
use Rattle.single_agent.specs.LegalRecord.{is_lost_on}
use Rattle.single_agent.specs.Turns.{is_served}
use Rattle.turn_laws.specs.Playing.{Seat, StepsOver, number_of}

-- renderer r can make a step: it is one of the coordinator's, which holds no loss of it, and it has heard what it was told
pub record CanStep (r : ℕ) (x : Seat) (c : Coordinator) : Type 0 where
  pub renderer : x.holds.renderer ≡ r
  pub seat : r < c.rules.renderers
  pub heard : x.holds.heard ≡ heard_of r c.history
  pub there : is_lost_on r (log_of c.history) ≡ false

-- the coordinator loses a renderer whose link failed
abbrev pub LosesIt : Turn → ℕ → Coordinator → Coordinator → Type 0
LosesIt Stopped r before after = IsAt (Entered (lost_entry r) ∷ before.history) before after
LosesIt turn r before after = after ≡ before

-- a renderer that hasn't stopped made a step, and was lost by it or not
pub record HasStepped (r : ℕ) (lose : Option Lose) (x : Seat) (before : Coordinator) (turn : Turn) (y : Seat) (after : Coordinator) : Type 0 where
  pub mid : Coordinator
  pub calls : ℕ
  pub step : StepsOver r (number_of lose x.calls) (is_served lose) x.holds before turn y.holds mid calls
  pub counted : y.calls ≡ min (x.calls + calls) (2 ^ 32 - 1)
  pub lost : LosesIt turn r mid after
