-- Data: a tag, and what is inside, to any depth.
use Rattle.std.specs.Prelude.{ℕ, zero, suc, ℤ, pos, negsuc, ◌-◌, ◌^◌, nat_le, nat_lt, ◌==◌, List, [], ◌∷◌, ◌++◌, length, Bool, true, false, cond, Option, Some, None, Ok, if◌then◌else◌}
use Rattle.std.specs.List.{flat_map, AllByRecursion}
use Rattle.std.specs.Int.{w64}
use Rattle.plain_data.specs.Ascending.{is_below}
use Rattle.plain_data.specs.DataLimits.{most_whole}
use Rattle.plain_data.specs.declared.data.Data.{Data, out-Data, roll-Data}
use Rattle.plain_data.specs.declared.data.Data.TheOpen.{Data-F}
use Rattle.link_fields.specs.declared.fault.Flaw.TheVariants.{Range}
use Rattle.link_fields.specs.Field.{Outcome, ◌>>=◌, Field, nothing, ◌⊗◌, only, mapped, keyed, never, row}
use Rattle.link_fields.specs.Basic.{number, u16, small, text}

-- ---- whole numbers

abbrev pub whole_of : ℕ → ℤ
whole_of n = if nat_lt n (2 ^ 63) then pos n else negsuc (2 ^ 64 - 1 - n)

-- two's complement in 64 bits
abbrev pub word_of : ℤ → ℕ
word_of (pos n) = n
word_of (negsuc k) = 2 ^ 64 - 1 - k

-- within plus or minus the limit of wholes
abbrev pub is_exact : ℤ → Bool
is_exact (pos n) = nat_le n most_whole
is_exact (negsuc k) = nat_lt k most_whole

abbrev pub whole : Field ℤ
whole = only Range is_exact (mapped whole_of word_of (number w64 (2 ^ 64)))

-- ---- lists and records

unfoldable pub items_at : {A : Type 0} → (List ℕ → Outcome (A × List ℕ)) → ℕ → List ℕ → Outcome (List A × List ℕ)
items_at read zero bytes = Ok ([], bytes)
items_at read (suc n) bytes = read bytes >>= λ a. items_at read n a.1 >>= λ as'. Ok (a.0 ∷ as'.0, as'.1)

-- a count, and that many items
abbrev pub counted : {A : Type 0} → Field ℕ → Field A → Field (List A)
counted count f = record {
  spell = λ xs. count.spell (length xs) ++ flat_map f.spell xs;
  Fits = λ xs. count.Fits (length xs) × AllByRecursion f.Fits xs;
  read = λ bytes. count.read bytes >>= λ n. items_at f.read n.0 n.1;
}

-- the key comes after the one before, by its bytes
abbrev pub is_after : Option (List ℕ) → List ℕ → Bool
is_after None key = true
is_after (Some before) key = is_below before key

-- a key behind the one before
abbrev pub key_after : Option (List ℕ) → Field (List ℕ)
key_after before = only Range (is_after before) text

abbrev pub member : {A : Type 0} → Field A → Option (List ℕ) → Field (List ℕ × A)
member f before = key_after before ⊗ f

unfoldable pub members_at : {A : Type 0} → Field A → ℕ → Option (List ℕ) → List ℕ → Outcome (List (List ℕ × A) × List ℕ)
members_at f zero before bytes = Ok ([], bytes)
members_at f (suc n) before bytes = (member f before).read bytes >>= λ m. members_at f n (Some m.0.0) m.1 >>= λ ms. Ok (m.0 ∷ ms.0, ms.1)

abbrev pub MembersFit : {A : Type 0} → Field A → Option (List ℕ) → List (List ℕ × A) → Type 0
MembersFit f before [] = Unit {0}
MembersFit f before (m ∷ ms) = (member f before).Fits m × MembersFit f (Some m.0) ms

-- a count, and that many texts and values, the texts strictly ascending
abbrev pub ascending : {A : Type 0} → Field A → Field (List (List ℕ × A))
ascending f = record {
  spell = λ ms. u16.spell (length ms) ++ flat_map (text ⊗ f).spell ms;
  Fits = λ ms. u16.Fits (length ms) × MembersFit f None ms;
  read = λ bytes. u16.read bytes >>= λ n. members_at f n.0 None n.1;
}

-- ---- one level of data

abbrev pub tag_of : {A : Type 0} → Data-F A → ℕ
tag_of Data-F.Undefined = 0
tag_of Data-F.Null = 1
tag_of (Data-F.Truth b) = if b then 3 else 2
tag_of (Data-F.Whole z) = 4
tag_of (Data-F.Text s) = 5
tag_of (Data-F.List xs) = 6
tag_of (Data-F.Record ms) = 7

-- what stands after the tag
abbrev pub inside : {A : Type 0} → Field A → Data-F A → List ℕ
inside f Data-F.Undefined = []
inside f Data-F.Null = []
inside f (Data-F.Truth b) = []
inside f (Data-F.Whole z) = whole.spell z
inside f (Data-F.Text s) = text.spell s
inside f (Data-F.List xs) = (counted u16 f).spell xs
inside f (Data-F.Record ms) = (ascending f).spell ms

abbrev pub level_row : {A : Type 0} → Field A → ℕ → Field (Data-F A)
level_row f tag =
    cond (tag == 0) (nothing Data-F.Undefined)
    (cond (tag == 1) (nothing Data-F.Null)
    (cond (tag == 2) (nothing (Data-F.Truth false))
    (cond (tag == 3) (nothing (Data-F.Truth true))
    (cond (tag == 4) (row (inside f) (λ z. Data-F.Whole z) whole)
    (cond (tag == 5) (row (inside f) (λ s. Data-F.Text s) text)
    (cond (tag == 6) (row (inside f) (λ xs. Data-F.List xs) (counted u16 f))
    (cond (tag == 7) (row (inside f) (λ ms. Data-F.Record ms) (ascending f))
    (never Range))))))))

abbrev pub level : {A : Type 0} → Field A → Field (Data-F A)
level f = keyed tag_of (small 7) (level_row f)

-- data of at most this depth
unfoldable pub value : ℕ → Field Data
value zero = never Range
value (suc n) = mapped roll-Data out-Data (level (value n))
