-- When reading a field and spelling it fit together.
use Rattle.std.specs.Prelude.{◌≡◌, ℕ, ◌<◌, List, ◌++◌, get_or, Ok}
use Rattle.link_fields.specs.Field.{Field}

abbrev pub IsBytes : List ℕ → Type 0
IsBytes bytes = (i : ℕ) → get_or bytes i 0 < 256

-- the bytes are the text and then the rest
pub record Takes (bytes text rest : List ℕ) : Type 0 where
  pub parts : bytes ≡ text ++ rest
  pub rest_fits : IsBytes rest

-- What is read is spelled so, and in range. What is in range and spelled so is read, whatever stands behind it.
pub record IsLawful {A : Type 0} (f : Field A) : Type 0 where
  pub takes : (bytes : List ℕ) (x : A × List ℕ) → IsBytes bytes → f.read bytes ≡ Ok x → Takes bytes (f.spell x.0) x.1 × f.Fits x.0
  pub again : (a : A) (rest : List ℕ) → f.Fits a → f.read (f.spell a ++ rest) ≡ Ok (a, rest)
