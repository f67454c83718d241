use Rattle.std.proofs.Common.{◌≡◌, ℕ, ◌+◌, ◌-◌, vec_len}
use Rattle.script_steps.specs.Slots.{slot}
use Rattle.script_steps.proofs.slots.Slots.make_room.Given as goal

abbrev pub invariant-loop-self : goal.invariant-loop-self
invariant-loop-self g l = (d : ℕ) → slot l.self.slots.items d ≡ slot l.initial.self.slots.items d

abbrev pub decreases-loop-self : goal.decreases-loop-self
decreases-loop-self g l = l.doc + 1 - vec_len l.self.slots
