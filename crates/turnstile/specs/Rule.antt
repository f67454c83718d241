-- What holds of the turnstile's words, slot and passes between any two atomic steps.
use Rattle.std.specs.Prelude.{◌≡◌, ℕ, ◌+◌, ◌<◌, ◌≤◌, ◌%◌, ◌^◌, ◌⊎◌, List, [], ◌∷◌, length, Option, Some}
use Rattle.std.specs.List.{sum_by}
use mathlib.Core.Option.{some, none}
use mathlib.Core.Option as m
use lib.ListN.{get_elem?}
use Rattle.atomic_table.specs.Table.{State}
use Rattle.turnstile.specs.declared.view.View.{View}
use Rattle.turnstile.specs.declared.view.Stage.{Stage}
use Rattle.turnstile.specs.declared.view.Stage.TheVariants.{Outside, Waiting, Inside, Spent}
use Rattle.turnstile.specs.Histories.{Begins, Follows, Since}
use Rattle.turnstile.specs.Stages.{holding, HasTicket, IsLive}

module _ {I : Type 0} where
  -- what pass j + 1 had seen when it was taken in; it made nothing since
  abbrev pub KeptAt : (I → Option ℕ) → List (View I) → List I → ℕ → List I → Type 0
  KeptAt names views base j l = ((u : View I) × (get_elem? views (j + 1) ≡ some u) × (u.stage ≡ Spent)) × Follows names (j + 1) l base

module _ {S I : Type 0} where
  -- who is inside has the ticket that is served, entered at the base, and has what was in the slot
  abbrev pub IsIn : ℕ → List I → List (m.Option (Option S)) → Stage I → Type 0
  IsIn serving base homes Outside = Unit {0}
  IsIn serving base homes (Waiting t) = Unit {0}
  IsIn serving base homes (Inside t e) = (t ≡ serving) × (e ≡ base) × (homes ≡ none ∷ [])
  IsIn serving base homes Spent = Unit {0}

  -- Of a pass that was not taken in: its number is its place among the views, the first knows how many were made, a ticket is one of
  -- those that are out, and what it has seen begins with the opening history and goes on, in the base, with items of others alone.
  pub record Fits (names : I → Option ℕ) (opening : List I) (count out serving : ℕ) (base : List I) (homes : List (m.Option (Option S))) (i : ℕ) (v : View I) : Type 0 where
    pub number : v.number ≡ i
    pub next : i ≡ 0 → v.next ≡ count
    pub ticket : (t : ℕ) → HasTicket v.stage t → (k : ℕ) × (k < out) × (t ≡ (serving + k) % 2 ^ 64)
    pub within : IsIn serving base homes v.stage
    pub begins : Begins opening v.seen
    pub follows : Follows names i v.seen base

  -- the state is in the slot, or with one who is inside
  abbrev pub Lies : (S → List I) → List I → List (m.Option (Option S)) → List (View I) → Type 0
  Lies history base homes views =
      ((x : S) × (homes ≡ some (Some x) ∷ []) × (history x ≡ base))
      ⊎ ((homes ≡ none ∷ []) × ((i : ℕ) × (v : View I) × (t : ℕ) × (get_elem? views i ≡ some v) × (v.stage ≡ Inside t base)))

  -- The rule. `out` is how many tickets are out, `serving` the ticket that is served, and `base` the history at the last entry while
  -- one is inside, else that of the state in the slot.
  pub record Kept (history : S → List I) (names : I → Option ℕ) (opening : List I) (seats : ℕ) (s : State (Option S) (View I)) : Type 0 where
    pub out : ℕ
    pub serving : ℕ
    pub base : List I
    -- both words count modulo 2^64
    pub words : s.words ≡ (serving + out) % 2 ^ 64 ∷ serving ∷ []
    pub served : serving < 2 ^ 64
    -- no more tickets are out than there are seats
    pub counted : sum_by holding s.views ≡ out
    pub few : (length s.views ≤ seats) × (seats < 2 ^ 16)
    pub each : (i : ℕ) (v : View I) → get_elem? s.views i ≡ some v → IsLive v.stage → Fits names opening (length s.views) out serving base s.homes i v
    -- no two passes have one ticket
    pub apart : (i j : ℕ) (v w : View I) → get_elem? s.views i ≡ some v → get_elem? s.views j ≡ some w → (t : ℕ) → HasTicket v.stage t → HasTicket w.stage t → i ≡ j
    -- what was seen by passes that were taken in
    pub kept : (i : ℕ) (v : View I) → get_elem? s.views i ≡ some v → (j : ℕ) (l : List I) → get_elem? v.kept j ≡ some l → KeptAt names s.views base j l
    pub lies : Lies history base s.homes s.views
    pub since : Since names (length s.views) opening base
