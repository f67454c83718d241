-- When a call of a source or of a sink may answer a fault, and how many bytes it moves.
use Rattle.std.specs.Prelude.{◌≡◌, ℕ, ◌+◌, ◌-◌, ◌^◌, ◌<◌, ◌≤◌, min, List, length, take, OnErr, IfOk, Result}
use Rattle.std.specs.Io.KnownBytes.{Appends, Consumes}
use Rattle.std.specs.declared.option.Option.{Option}

-- one more, where a count stands still at 2^64 - 1
abbrev pub counted : ℕ → ℕ
counted count = min (count + 1) (2 ^ 64 - 1)

-- a count has risen, or stands at its end
abbrev pub Rose : ℕ → ℕ → Type 0
Rose before now = counted before ≤ now

-- a count that stands at its end stays there
abbrev pub StandsStill : ℕ → ℕ → Type 0
StandsStill before now = before ≡ 2 ^ 64 - 1 → now ≡ 2 ^ 64 - 1

-- the count doesn't fall, it stays at its end once it is there, and a failure comes only where it rose
pub record HasCause {T E : Type 0} (before now : ℕ) (result : Result T E) : Type 0 where
  pub later : before ≤ now
  pub still : StandsStill before now
  pub failed : OnErr result (Rose before now)

-- nothing of a nonempty piece is taken only where the count rose
abbrev pub StopsWithCause : {E : Type 0} → ℕ → ℕ → Result ℕ E → List ℕ → Type 0
StopsWithCause before now result piece = IfOk result (λ count. count ≡ 0 → 0 < length piece → Rose before now)

-- a front of the bytes was taken
abbrev pub TakesFront : Option (List ℕ) → Option (List ℕ) → List ℕ → Type 0
TakesFront before now bytes = (count : ℕ) × Appends before now (take count bytes)

-- a source gave this many bytes
abbrev pub GivesCount : ℕ → Option (List ℕ) → Option (List ℕ) → Type 0
GivesCount count before now = (bytes : List ℕ) × (length bytes ≡ count) × Consumes before now bytes

-- a source gave no more than this many bytes
abbrev pub GivesAtMost : ℕ → Option (List ℕ) → Option (List ℕ) → Type 0
GivesAtMost limit before now = (bytes : List ℕ) × (length bytes ≤ limit) × Consumes before now bytes
