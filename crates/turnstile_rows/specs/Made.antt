-- What a seat added to the log.
use Rattle.std.specs.Prelude.{◌≡◌, ℕ, ◌==◌, List, [], ◌∷◌, Option, Some, None, ◌++◌, if◌then◌else◌}
use Rattle.atomic_table.specs.Seated.{TableId}
use Rattle.turnstile.specs.Places.{Place}
use Rattle.turnstile.specs.Before.{before}
use Rattle.turnstile_rows.specs.declared.log.Item.{Item}

-- the values that seat n added, in order
abbrev pub made : ℕ → List Item → List ℕ
made n [] = []
made n (x ∷ xs) = if x.by == n then x.value ∷ made n xs else made n xs

abbrev pub seen_of : Place Item → List Item
seen_of p = p.seen

-- pass n of the turnstile z, outside
abbrev pub IsPass : TableId → ℕ → Place Item → Type 0
IsPass z n p = (p.turnstile ≡ z) × (p.number ≡ n) × (p.inside ≡ None)

-- the seat that an item names
abbrev pub who : Item → Option ℕ
who x = Some x.by

-- what was seen afterwards is what the exchange found, and one item more
abbrev pub AddsOne : ℕ → ℕ → List Item → List Item → Type 0
AddsOne n value seen now = now ≡ before who n seen now ++ record { by = n; value = value } ∷ []
