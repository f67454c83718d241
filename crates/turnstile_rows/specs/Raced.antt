-- Racers, each with its pass and its record.
use Rattle.std.specs.Prelude.{◌≡◌, ℕ, ◌<◌, List, [], length, slice_index_or, Option, Some, IsSome}
use Rattle.std.specs.Global.{Vec}
use Rattle.atomic_table.specs.Seated.{TableId}
use Rattle.turnstile.specs.Places.{Place}
use Rattle.turnstile_rows.specs.declared.log.Item.{Item}
use Rattle.turnstile_rows.specs.declared.racer.Racer.{Racer}
use Rattle.turnstile_rows.specs.Made.{made, IsPass, seen_of}

-- a racer that has its pass, outside, and whose record is what the log that the pass has seen has of it
pub record IsSet (z : TableId) (r : Racer) : Type 0 where
  pub own : Place Item
  pub has : r.pass ≡ Some own
  pub ours : IsPass z r.number own
  pub kept : r.added.items ≡ made r.number (seen_of own)

-- they stand in the order of their seats
abbrev pub AreSet : TableId → List Racer → Type 0
AreSet z rs = (k : ℕ) (d : Racer) → k < length rs → IsSet z (slice_index_or rs k d) × ((slice_index_or rs k d).number ≡ k)

abbrev pub pass_of : Racer → Option (Place Item)
pass_of r = r.pass

abbrev pub added_of : Racer → Vec ℕ
added_of r = r.added

-- racers in the order of their seats that have added nothing
abbrev pub AreNew : List Racer → Type 0
AreNew rs = (k : ℕ) (d : Racer) → k < length rs → ((slice_index_or rs k d).number ≡ k) × ((slice_index_or rs k d).added.items ≡ [])

abbrev pub HavePasses : List Racer → Type 0
HavePasses rs = (k : ℕ) (d : Racer) → k < length rs → IsSome (slice_index_or rs k d).pass
