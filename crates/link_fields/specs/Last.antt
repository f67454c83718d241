-- The value that was read last, and its bytes.
use Rattle.std.specs.Prelude.{◌≡◌, ℕ, List, ◌++◌, Option, Some, None, Ok}
use Rattle.link_fields.specs.Field.{Field}

pub record Last (A : Type 0) : Type 0 where
  pub bytes : List ℕ
  pub value : Option A

-- the bytes are read as the value, if there is one, whatever stands behind them
abbrev pub IsReadAs : {A : Type 0} → Field A → List ℕ → Option A → Type 0
IsReadAs f bytes None = Unit {0}
IsReadAs f bytes (Some a) = (rest : List ℕ) → f.read (bytes ++ rest) ≡ Ok (a, rest)
