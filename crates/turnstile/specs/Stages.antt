-- Where a pass stands between taking a ticket and letting it go.
use Rattle.std.specs.Prelude.{◌≡◌, ℕ}
use Rattle.turnstile.specs.declared.view.View.{View}
use Rattle.turnstile.specs.declared.view.Stage.{Stage}
use Rattle.turnstile.specs.declared.view.Stage.TheVariants.{Outside, Waiting, Inside, Spent}

module _ {I : Type 0} where
  -- how many tickets it holds
  abbrev pub held : Stage I → ℕ
  held Outside = 0
  held (Waiting t) = 1
  held (Inside t e) = 1
  held Spent = 0

  abbrev pub holding : View I → ℕ
  holding v = held v.stage

  abbrev pub HasTicket : Stage I → ℕ → Type 0
  HasTicket Outside n = ⊥
  HasTicket (Waiting t) n = t ≡ n
  HasTicket (Inside t e) n = t ≡ n
  HasTicket Spent n = ⊥

  -- no other pass took it in
  abbrev pub IsLive : Stage I → Type 0
  IsLive Outside = Unit {0}
  IsLive (Waiting t) = Unit {0}
  IsLive (Inside t e) = Unit {0}
  IsLive Spent = ⊥
