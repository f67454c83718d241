-- Bytes of which some are written over.
use Rattle.std.specs.Prelude.{◌≡◌, ℕ, List, ◌++◌, length}

-- the bytes at the place are these, and all before and behind them stays
abbrev pub Patches : ℕ → List ℕ → List ℕ → List ℕ → Type 0
Patches place put old new = (a b c : List ℕ) → old ≡ a ++ (b ++ c) → length a ≡ place → length b ≡ length put → new ≡ a ++ (put ++ c)
