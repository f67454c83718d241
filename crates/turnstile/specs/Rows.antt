-- Rows of seats, and the passes that callers see in them.
use Rattle.std.specs.Prelude.{◌≡◌, ℕ, ◌+◌, List, [], length, Option, Some, None}
use Rattle.std.specs.List.{slice_get}
use Rattle.atomic_table.specs.Seated.{TableId}
use Rattle.atomic_table.specs.declared.shared.Seat.{Seat}
use Rattle.turnstile.specs.declared.view.View.{View}
use Rattle.turnstile.specs.declared.view.Stage.TheVariants.{Outside}
use Rattle.turnstile.specs.Places.{Place}
use Rattle.turnstile.specs.Tidy.{inside_of}

module _ {I : Type 0} where
  -- the passes from number n on, all outside
  abbrev pub ArePasses : TableId → ℕ → List (Place I) → Type 0
  ArePasses z n ps = (k : ℕ) (p : Place I) → slice_get ps k ≡ Some p → (p.turnstile ≡ z) × (p.number ≡ n + k) × (p.inside ≡ None)

module _ {S I : Type 0} where
  abbrev pub place_of : Seat (Option S) (View I) → Place I
  place_of s = record { turnstile = s.table_id; number = s.me.0.number; seen = s.me.0.seen; inside = inside_of s.me.0.stage }

  abbrev pub IsSeat : TableId → ℕ → Seat (Option S) (View I) → Type 0
  IsSeat z k p = (p.table_id ≡ z) × (p.me.0.stage ≡ Outside) × (p.me.1 ≡ []) × (p.me.0.number ≡ k) × (p.me.0.kept ≡ [])

  abbrev pub AreSeats : TableId → ℕ → List (Seat (Option S) (View I)) → Type 0
  AreSeats z n ps = (k : ℕ) (p : Seat (Option S) (View I)) → slice_get ps k ≡ Some p → IsSeat z (n + k) p

  abbrev pub HaveSeen : List I → List (Seat (Option S) (View I)) → Type 0
  HaveSeen opening ps = (k : ℕ) (p : Seat (Option S) (View I)) → slice_get ps k ≡ Some p → p.me.0.seen ≡ opening

  -- the first knows how many there are
  abbrev pub Counts : List (Seat (Option S) (View I)) → Type 0
  Counts ps = (p : Seat (Option S) (View I)) → slice_get ps 0 ≡ Some p → p.me.0.next ≡ length ps
