-- Property keys (ECMA-262, Property Keys): a String, or one of three well-known Symbols.
use Rattle.std.specs.Prelude.{◌≡◌, refl, ℕ, codes, ◌+◌, ◌*◌, ◌-◌, ◌==◌, ◌&&◌, Bool, true, false, not, bytes_eq, nat_lt, nat_le, List, [], ◌∷◌, Option, Some, None, if◌then◌else◌}
use Rattle.std.specs.List.{list_all, list_any}
use Rattle.std.specs.Coded.{×_prop, Unit-prop, Coded-set, coded_bool}
use Rattle.window_props.specs.declared.key.Key.{Key}
use Rattle.window_props.specs.declared.key.Key.TheVariants.{Text, ToStringTag, HasInstance, IsConcatSpreadable}

unfoldable pub same_key : Key → Key → Bool
same_key (Text a) (Text b) = bytes_eq a b
same_key ToStringTag ToStringTag = true
same_key HasInstance HasInstance = true
same_key IsConcatSpreadable IsConcatSpreadable = true
same_key _ _ = false

-- LISTS OF KEYS

abbrev pub has_key : List Key → Key → Bool
has_key keys key = list_any (λ k. same_key k key) keys

-- no key stands twice
abbrev pub AreApart : List Key → Type 0
AreApart [] = Unit {0}
AreApart (key ∷ keys) = (has_key keys key ≡ false) × AreApart keys

pub AreApart-prop : (keys : List Key) → IsProp (AreApart keys)
AreApart-prop [] = Unit-prop
AreApart-prop (key ∷ keys) = ×_prop (Coded-set coded_bool _ _) (AreApart-prop keys)

-- ARRAY INDICES (ECMA-262, Object Type: the canonical numeric strings of 0 to 2 ^ 32 - 2)

-- a byte from `0` to `9`
abbrev pub is_digit : ℕ → Bool
is_digit b = nat_le 48 b && nat_le b 57

-- no zero before other digits
abbrev pub starts_well : List ℕ → Bool
starts_well [] = false
starts_well (b ∷ []) = true
starts_well (b ∷ c ∷ bytes) = not (b == 48)

abbrev pub is_canonical : List ℕ → Bool
is_canonical text = starts_well text && list_all is_digit text

-- the number that digits write, after those read before
abbrev pub value_from : ℕ → List ℕ → ℕ
value_from n [] = n
value_from n (b ∷ bytes) = value_from (n * 10 + (b - 48)) bytes

-- the number, where it is in range
abbrev pub if_index : ℕ → Option ℕ
if_index n = if nat_lt n 4294967295 then Some n else None

unfoldable pub index_of : List ℕ → Option ℕ
index_of text = if is_canonical text then if_index (value_from 0 text) else None

unfoldable pub array_index : Key → Option ℕ
array_index (Text text) = index_of text
array_index _ = None

index_rows : (index_of (codes "0") ≡ Some 0) × (index_of (codes "01") ≡ None) × (index_of (codes "4294967294") ≡ Some 4294967294) × (index_of (codes "4294967295") ≡ None)
unfolding index_of
index_rows = (refl, refl, refl, refl)

-- TEXTS

-- the key that a text names: a symbol by `@@` and its name
unfoldable pub key_read : List ℕ → Key
key_read text =
    if bytes_eq text (codes "@@toStringTag") then ToStringTag
    else if bytes_eq text (codes "@@hasInstance") then HasInstance
    else if bytes_eq text (codes "@@isConcatSpreadable") then IsConcatSpreadable
    else Text text

-- the text that names the key
unfoldable pub key_text : Key → List ℕ
key_text (Text text) = text
key_text ToStringTag = codes "@@toStringTag"
key_text HasInstance = codes "@@hasInstance"
key_text IsConcatSpreadable = codes "@@isConcatSpreadable"
