-- A text that isn't empty counts.
use Rattle.std.proofs.Common.{◌≡◌, ℕ, List, [], ◌∷◌, Some, refl}
use Rattle.object_access.specs.StepAnswer.{if_any}

pub any_there : (t : List ℕ) → ¬ (t ≡ []) → if_any (Some t) ≡ Some t
any_there [] h = absurd (h refl)
any_there (x ∷ t) h = refl
