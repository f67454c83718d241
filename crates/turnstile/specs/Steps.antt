-- What each kind of atomic step makes of the view of the pass that takes it.
use Rattle.std.specs.Prelude.{◌≡◌, ◌≢◌, ℕ, ◌+◌, List, [], ◌∷◌, ◌++◌, Option, Some}
use Rattle.atomic_table.specs.Table.{Me, Step}
use Rattle.turnstile.specs.declared.view.View.{View}
use Rattle.turnstile.specs.declared.view.Stage.{Stage}
use Rattle.turnstile.specs.declared.view.Stage.TheVariants.{Outside, Waiting, Inside, Spent}
use Rattle.turnstile.specs.Histories.{Enters}

module _ {I : Type 0} where
  abbrev pub staged : View I → Stage I → View I
  staged v st = record { number = v.number; next = v.next; stage = st; seen = v.seen; kept = v.kept }

  -- the view of one who has left, with this history
  abbrev pub back : View I → List I → View I
  back v h = record { number = v.number; next = v.next; stage = Outside; seen = h; kept = v.kept }

  -- the view of the first pass, as the turnstile is made
  abbrev pub maker : List I → View I
  maker opening = record { number = 0; next = 1; stage = Outside; seen = opening; kept = [] }

  -- a pass is cut in two: the left one has made one pass more, and the right one is that pass
  abbrev pub split_left : View I → View I
  split_left v = record { number = v.number; next = v.next + 1; stage = v.stage; seen = v.seen; kept = v.kept }

  abbrev pub split_right : View I → View I
  split_right v = record { number = v.next; next = 0; stage = Outside; seen = v.seen; kept = [] }

  -- one pass takes another in, and keeps what that one had seen
  abbrev pub joined : View I → View I → View I
  joined v w = record { number = v.number; next = v.next; stage = v.stage; seen = v.seen; kept = v.kept ++ w.seen ∷ [] }

  abbrev pub gone : View I
  gone = record { number = 0; next = 0; stage = Spent; seen = []; kept = [] }

module _ {S I : Type 0} where
  -- the ticket that was found is its own
  abbrev pub drew : Step (Option S) → Me (Option S) (View I) → ℕ → Me (Option S) (View I) → Type 0
  drew st me found now = now ≡ (staged me.0 (Waiting found), me.1)

  -- where its ticket is served it is inside, with the state; what others made since it was inside last follows what it has seen
  abbrev pub looked : (S → List I) → (I → Option ℕ) → Step (Option S) → Me (Option S) (View I) → ℕ → Me (Option S) (View I) → Type 0
  looked history names st me found now =
      (t : ℕ) → me.0.stage ≡ Waiting t
      → (found ≡ t → (x : S) × (now ≡ (staged me.0 (Inside t (history x)), (0, Some x) ∷ me.1)) × Enters names me.0.number me.0.seen (history x))
      × (found ≢ t → now ≡ me)

  -- it is outside, and has seen the history of the state that it gave back
  abbrev pub released : (S → List I) → Step (Option S) → Me (Option S) (View I) → ℕ → Me (Option S) (View I) → Type 0
  released history st me found now = (x : S) → me.1 ≡ (0, Some x) ∷ [] → now ≡ (back me.0 (history x), [])
