-- Data within the limits that the platform gives, and the texts of values: those of values within the limits are short.
use Rattle.std.proofs.Common.{◌≡◌, ℕ, ◌+◌, ◌<◌, ◌≤◌, List, length, Option, Some, None, Bool, true, false, refl, sym, ◌∙◌, rules, arith}
use Rattle.std.specs.Prelude.{◌&&◌, ℤ, pos, negsuc, nat_le, nat_lt}
use Rattle.std.specs.Fmt.{signed_decimal}
use Rattle.std.specs.Int.Signed.{mag}
use Rattle.std.proofs.lemmas.Bool.Decides.{nat_tests}
use Rattle.std.proofs.lemmas.Fmt.{length_signed_le}
use Rattle.plain_data.specs.Ascending.{keys_ascend}
use Rattle.plain_data.specs.DataLimits.{most_depth, most_size, depth, encoded_size, is_safe, is_short, parts_in_range, within_limits}
use Rattle.plain_data.specs.declared.data.Data.{Data, the_lemmas}
use Rattle.plain_data.specs.declared.data.Data.TheVariants as plain
use Rattle.window_props.specs.declared.value.Value.{Value}
use Rattle.window_props.specs.declared.value.Value.TheVariants as value
use Rattle.tree_log.specs.Tree.{Tree}
use Rattle.link_fields.proofs.FieldLaws.{at_most}
use Rattle.tree_log.proofs.Admitted.{both}
use Rattle.object_access.specs.Values.{text_of}
use Rattle.step_ranges.specs.Ranges.{is_at_hand}

-- NUMBERS

pub at_least : (n m : ℕ) → n ≤ m → nat_le n m ≡ true
at_least n m h = grind (arith, nat_tests)

pub below : (n m : ℕ) → n < m → nat_lt n m ≡ true
below n m h = grind (arith, nat_tests)

pub not_over : (n : ℕ) → nat_lt 1024 n ≡ false → n ≤ 1024
not_over n h = grind (arith, nat_tests)

-- DATA

all_four : (a b c d : Bool) → a ≡ true → b ≡ true → c ≡ true → d ≡ true → (a && b && c && d) ≡ true
all_four a b c d p q r s = rw (p, q, r, s) refl

-- the four limits
four : (d : Data) → depth d ≤ most_depth → encoded_size d ≤ most_size → parts_in_range d ≡ true → keys_ascend d ≡ true → within_limits d ≡ true
unfolding within_limits
four d deep small range keys = all_four _ _ _ _ (at_least _ _ deep) (at_least _ _ small) range keys

text_depth : (s : List ℕ) → depth (plain.Text s) ≡ 1
text_depth s = search (rules, the_lemmas)

text_size : (s : List ℕ) → encoded_size (plain.Text s) ≡ 3 + length s
text_size s = search (rules, the_lemmas)

text_range : (s : List ℕ) → parts_in_range (plain.Text s) ≡ is_short s
text_range s = search (rules, the_lemmas)

text_keys : (s : List ℕ) → keys_ascend (plain.Text s) ≡ true
text_keys s = search (rules, the_lemmas)

-- a short text is within the limits
pub text_within : (s : List ℕ) → is_short s ≡ true → within_limits (plain.Text s) ≡ true
text_within s short =
    let le : length s ≤ 1024 = at_most (length s) 1024 short in
    let deep : depth (plain.Text s) ≤ 16 = omega (arith, text_depth s) in
    let small : encoded_size (plain.Text s) ≤ 4096 = omega (arith, text_size s) in
    four (plain.Text s) deep small (text_range s ∙ short) (text_keys s)

whole_depth : (z : ℤ) → depth (plain.Whole z) ≡ 1
whole_depth z = search (rules, the_lemmas)

whole_size : (z : ℤ) → encoded_size (plain.Whole z) ≡ 9
whole_size z = search (rules, the_lemmas)

whole_range : (z : ℤ) → parts_in_range (plain.Whole z) ≡ is_safe z
whole_range z = search (rules, the_lemmas)

whole_keys : (z : ℤ) → keys_ascend (plain.Whole z) ≡ true
whole_keys z = search (rules, the_lemmas)

few_safe : (n : ℕ) → n ≤ 9007199254740991 → is_safe (pos n) ≡ true
few_safe n le = at_least n 9007199254740991 le

-- and so is a number that isn't too far from 0
pub whole_within : (n : ℕ) → n ≤ 9007199254740991 → within_limits (plain.Whole (pos n)) ≡ true
whole_within n le =
    let deep : depth (plain.Whole (pos n)) ≤ 16 = omega (arith, whole_depth (pos n)) in
    let small : encoded_size (plain.Whole (pos n)) ≤ 4096 = omega (arith, whole_size (pos n)) in
    four (plain.Whole (pos n)) deep small (whole_range (pos n) ∙ few_safe n le) (whole_keys (pos n))

pub truth_within : (b : Bool) → within_limits (plain.Truth b) ≡ true
unfolding within_limits
truth_within b = search (rules, the_lemmas)

pub undefined_within : within_limits plain.Undefined ≡ true
unfolding within_limits
undefined_within = search (rules, the_lemmas)

pub null_within : within_limits plain.Null ≡ true
unfolding within_limits
null_within = search (rules, the_lemmas)

-- TEXTS OF VALUES

parts_of : (d : Data) → within_limits d ≡ true → parts_in_range d ≡ true
unfolding within_limits
parts_of d h = (both _ _ (both _ (keys_ascend d) h).0).1

safe_mag : (z : ℤ) → is_safe z ≡ true → mag z < 9007199254740992
safe_mag (pos n) h = let le : n ≤ 9007199254740991 = at_most n 9007199254740991 h in omega arith
safe_mag (negsuc n) h = grind (arith, nat_tests)

-- a number that isn't too far from 0 has few digits
decimal_short : (z : ℤ) → is_safe z ≡ true → is_short (signed_decimal z) ≡ true
decimal_short z h =
    let few : mag z < 9007199254740992 = safe_mag z h in
    at_least (length (signed_decimal z)) 1024 (omega (arith, length_signed_le 16 z (omega arith) (omega arith)))

-- what is so of the text, if there is one
abbrev pub IsShortIfAny : Option (List ℕ) → Type 0
IsShortIfAny None = Unit {0}
IsShortIfAny (Some s) = is_short s ≡ true

data_text : (d : Data) → within_limits d ≡ true → IsShortIfAny (text_of (value.Plain d))
unfolding text_of
data_text plain.Undefined h = refl
data_text plain.Null h = refl
data_text (plain.Truth true) h = refl
data_text (plain.Truth false) h = refl
data_text (plain.Whole z) h = decimal_short z (sym (whole_range z) ∙ parts_of (plain.Whole z) h)
data_text (plain.Text s) h = sym (text_range s) ∙ parts_of (plain.Text s) h
data_text d h = tt

-- the text of a value at hand is short
pub short_text : (t : Tree) (v : Value) → is_at_hand t v ≡ true → IsShortIfAny (text_of v)
unfolding text_of
short_text t (value.Plain d) h = data_text d h
short_text t v h = tt
