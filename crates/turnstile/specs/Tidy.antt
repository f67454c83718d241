-- What a pass is between calls.
use Rattle.std.specs.Prelude.{◌≡◌, ℕ, List, [], ◌∷◌, Option, Some, None}
use Rattle.atomic_table.specs.Table.{Me}
use Rattle.turnstile.specs.declared.view.View.{View}
use Rattle.turnstile.specs.declared.view.Stage.{Stage}
use Rattle.turnstile.specs.declared.view.Stage.TheVariants.{Outside, Waiting, Inside, Spent}
use Rattle.turnstile.specs.Histories.{Enters}

-- the history at entry, of one who is inside
abbrev pub inside_of : {I : Type 0} → Stage I → Option (List I)
inside_of Outside = None
inside_of (Waiting t) = None
inside_of (Inside t e) = Some e
inside_of Spent = None

module _ {S I : Type 0} where
  -- Outside it holds no slot. Inside it holds the one slot, empty, and what was made since it was outside is of other seats. Nobody
  -- has a pass that waits, or one that was taken in.
  abbrev pub HoldsRight : (I → Option ℕ) → ℕ → List I → Stage I → List (ℕ × Option S) → Type 0
  HoldsRight names n seen Outside c = c ≡ []
  HoldsRight names n seen (Waiting t) c = ⊥
  HoldsRight names n seen (Inside t e) c = (c ≡ (0, None) ∷ []) × Enters names n seen e
  HoldsRight names n seen Spent c = ⊥

  abbrev pub IsTidy : (I → Option ℕ) → Me (Option S) (View I) → Type 0
  IsTidy names me = (me.0.kept ≡ []) × HoldsRight names me.0.number me.0.seen me.0.stage me.1
