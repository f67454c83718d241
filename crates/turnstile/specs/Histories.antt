-- Histories: lists of items, each of which names the seat that made it, or none.
use Rattle.std.specs.Prelude.{◌≡◌, ◌≢◌, ℕ, ◌<◌, List, ◌++◌, Option, Some}
use Rattle.std.specs.List.{All}

module _ {I : Type 0} where
  -- the item names a seat other than n
  abbrev pub NamesOther : (I → Option ℕ) → ℕ → I → Type 0
  NamesOther names n x = (k : ℕ) × (names x ≡ Some k) × (k ≢ n)

  -- the item names a seat below n
  abbrev pub NamesBelow : (I → Option ℕ) → ℕ → I → Type 0
  NamesBelow names n x = (k : ℕ) × (names x ≡ Some k) × (k < n)

  -- ys is xs and then more items
  abbrev pub Begins : List I → List I → Type 0
  Begins xs ys = (rest : List I) × (ys ≡ xs ++ rest)

  -- ys is xs and then items that don't name this seat: each item of ys that names it stands within xs
  abbrev pub Follows : (I → Option ℕ) → ℕ → List I → List I → Type 0
  Follows names n xs ys = (rest : List I) × (ys ≡ xs ++ rest) × All (λ x. names x ≢ Some n) rest

  -- ys is xs and then items of other seats alone
  abbrev pub Enters : (I → Option ℕ) → ℕ → List I → List I → Type 0
  Enters names n xs ys = (rest : List I) × (ys ≡ xs ++ rest) × All (NamesOther names n) rest

  -- ys is xs and then items of this seat alone
  abbrev pub Extends : (I → Option ℕ) → ℕ → List I → List I → Type 0
  Extends names n xs ys = (rest : List I) × (ys ≡ xs ++ rest) × All (λ x. names x ≡ Some n) rest

  -- ys is xs and then items of the seats below n alone: each item of ys that names none, or a seat that was never given, stands within xs
  abbrev pub Since : (I → Option ℕ) → ℕ → List I → List I → Type 0
  Since names n xs ys = (rest : List I) × (ys ≡ xs ++ rest) × All (NamesBelow names n) rest
