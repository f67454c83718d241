-- The value of digits.
use Rattle.std.proofs.Common.{◌≡◌, ℕ, ◌+◌, ◌*◌, ◌-◌, ◌/◌, ◌%◌, ◌^◌, ◌<◌, ◌≤◌, ◌==◌, Bool, true, false, not, ◌&&◌, List, [], ◌∷◌, ◌++◌, Some, None, refl, ◌∙◌, sym, ap, arith, subst}
use Rattle.std.specs.Fmt.{decimal}
use Rattle.std.specs.Prelude.{nat_lt, nat_le, unwrap_or}
use Rattle.std.specs.List.{list_all}
use Rattle.std.proofs.lemmas.Bool.{cond_both}
use Rattle.std.proofs.lemmas.List.Folds.{list_all-append}
use Rattle.std.proofs.lemmas.Fmt.{decimal_by_steps}
use Rattle.window_props.specs.declared.key.Key.{Key}
use Rattle.window_props.specs.declared.key.Key.TheVariants.{Text, ToStringTag, HasInstance, IsConcatSpreadable}
use Rattle.std.proofs.lemmas.Bool.Decides.{nat_tests}
use Rattle.window_props.specs.Keys.{is_digit, starts_well, value_from, if_index, index_of, array_index}

grows : (n : ℕ) (bytes : List ℕ) → n ≤ value_from n bytes
grows n [] = omega arith
grows n (b ∷ bytes) = let h = grows (n * 10 + (b - 48)) bytes in omega arith

too_large : (n : ℕ) → 4294967295 ≤ n → None ≡ if_index n
too_large n h = grind (arith, nat_tests)

pub none_left : (n all : ℕ) (bytes : List ℕ) → 4294967295 ≤ n → value_from n bytes ≡ all → None ≡ if_index all
none_left n all bytes h e = let g = grows n bytes in too_large all (subst (λ x. 4294967295 ≤ x) e (omega arith))

-- A NUMBER'S DECIMAL TEXT IS ITS INDEX

split : (a b : Bool) → a && b ≡ true → (a ≡ true) × (b ≡ true)
split true b h = (refl, h)
split false b h = cc

value_from-more : (n : ℕ) (ds : List ℕ) (b : ℕ) → value_from n (ds ++ b ∷ []) ≡ value_from n ds * 10 + (b - 48)
value_from-more n [] b = refl
value_from-more n (d ∷ ds) b = value_from-more (n * 10 + (d - 48)) ds b

digits-more : (ds : List ℕ) (b : ℕ) → list_all is_digit ds ≡ true → is_digit b ≡ true → list_all is_digit (ds ++ b ∷ []) ≡ true
digits-more [] b h e = rw e refl
digits-more (d ∷ ds) b h e = let p = split (is_digit d) (list_all is_digit ds) h in rw p.0 (digits-more ds b p.1 e)

not_zero : (b : ℕ) → 1 ≤ 0 * 10 + (b - 48) → not (b == 48) ≡ true
not_zero b h = grind (arith, nat_tests)

starts_well-more : (ds : List ℕ) (b : ℕ) → starts_well ds ≡ true → 1 ≤ value_from 0 ds → starts_well (ds ++ b ∷ []) ≡ true
starts_well-more [] b h e = cc
starts_well-more (d ∷ []) b h e = not_zero d e
starts_well-more (d ∷ c ∷ ds) b h e = h

record Writes (n : ℕ) (ds : List ℕ) : Type 0 where
  starts : starts_well ds ≡ true
  digits : list_all is_digit ds ≡ true
  value : value_from 0 ds ≡ n

is_digit-below : (d : ℕ) → d < 10 → is_digit (48 + d) ≡ true
is_digit-below d lt = grind (arith, nat_tests)

one_digit : (n : ℕ) → n < 10 → Writes n ((48 + n) ∷ [])
one_digit n lt = record { starts = refl; digits = rw (is_digit-below n lt) refl; value = omega arith }

more_digits : (n : ℕ) (ds : List ℕ) → 10 ≤ n → Writes (n / 10) ds → Writes n (ds ++ ((48 + n % 10) ∷ []))
more_digits n ds le w =
    let some : 1 ≤ value_from 0 ds = rw w.value (omega arith) in
    let last : n % 10 < 10 = omega arith in
    record {
      starts = starts_well-more ds (48 + n % 10) w.starts some;
      digits = digits-more ds (48 + n % 10) w.digits (is_digit-below (n % 10) last);
      value = value_from-more 0 ds (48 + n % 10) ∙ rw w.value (omega arith);
    }

decimal_writes : (n : ℕ) → n < 2 ^ 64 → Writes n (decimal n)
decimal_writes = decimal_by_steps Writes one_digit more_digits

within : (n : ℕ) → n < 4294967295 → if_index n ≡ Some n
within n lt = grind (arith, nat_tests)

pub array_index-decimal : (n : ℕ) → n < 4294967295 → array_index (Text (decimal n)) ≡ Some n
unfolding array_index index_of
array_index-decimal n lt =
    let w = decimal_writes n (omega arith) in
    rw (w.starts, w.digits, w.value) (within n lt)

-- ONLY A NUMBER'S DECIMAL TEXT IS ITS INDEX

digit_range : (b : ℕ) → is_digit b ≡ true → (48 ≤ b) × (b ≤ 57)
digit_range b is = let p = split (nat_le 48 b) (nat_le b 57) is in (grind (arith, nat_tests), grind (arith, nat_tests))

above_zero : (b : ℕ) → 48 ≤ b → not (b == 48) ≡ true → 49 ≤ b
above_zero b le other = grind (arith, nat_tests)

digit_of_value : (n : ℕ) (text : List ℕ) → n < 10 → starts_well text ≡ true → list_all is_digit text ≡ true → value_from 0 text ≡ n → text ≡ (48 + n) ∷ []
digit_of_value n [] lt starts digits is = absurd cc
digit_of_value n (b ∷ []) lt starts digits is =
    let d = digit_range b (split (is_digit b) true digits).0 in
    let e : b ≡ 48 + n = omega (arith, d.0, is) in
    ap (λ x. x ∷ []) e
digit_of_value n (b ∷ c ∷ text) lt starts digits is =
    let d = digit_range b (split (is_digit b) (list_all is_digit (c ∷ text)) digits).0 in
    let first = above_zero b d.0 starts in
    let more = grows ((0 * 10 + (b - 48)) * 10 + (c - 48)) text in
    absurd (omega (arith, first, more, is, lt))

-- a text that isn't empty has a last byte
record IsMore (text : List ℕ) : Type 0 where
  front : List ℕ
  last : ℕ
  is : text ≡ front ++ last ∷ []

more_of : (b : ℕ) (text : List ℕ) → IsMore (b ∷ text)
more_of b [] = record { front = []; last = b; is = refl }
more_of b (c ∷ text) = let m = more_of c text in record { front = b ∷ m.front; last = m.last; is = ap (λ l. b ∷ l) m.is }

front_starts_well : (front : List ℕ) (last : ℕ) → starts_well (front ++ last ∷ []) ≡ true → 1 ≤ value_from 0 front → starts_well front ≡ true
front_starts_well [] last starts some = absurd (omega (arith, some))
front_starts_well (b ∷ []) last starts some = refl
front_starts_well (b ∷ c ∷ front) last starts some = starts

-- the text is that one, where it writes the number
IsOnly : ℕ → List ℕ → Type 0
IsOnly n ds = (text : List ℕ) → starts_well text ≡ true → list_all is_digit text ≡ true → value_from 0 text ≡ n → text ≡ ds

more_of_value : (n : ℕ) (ds front : List ℕ) (last : ℕ) → 10 ≤ n → ((text : List ℕ) → starts_well text ≡ true → list_all is_digit text ≡ true → value_from 0 text ≡ n / 10 → text ≡ ds) → starts_well (front ++ last ∷ []) ≡ true → list_all is_digit (front ++ last ∷ []) ≡ true → value_from 0 (front ++ last ∷ []) ≡ n → front ++ last ∷ [] ≡ ds ++ ((48 + n % 10) ∷ [])
more_of_value n ds front last le only starts digits is =
    let parts = split (list_all is_digit front) (list_all is_digit (last ∷ [])) (sym (list_all-append is_digit front (last ∷ [])) ∙ digits) in
    let d = digit_range last (split (is_digit last) true parts.1).0 in
    let value : value_from 0 front * 10 + (last - 48) ≡ n = sym (value_from-more 0 front last) ∙ is in
    let front_value : value_from 0 front ≡ n / 10 = omega (arith, value, d.0, d.1) in
    let last_value : last ≡ 48 + n % 10 = omega (arith, value, d.0, d.1) in
    let same = only front (front_starts_well front last starts (omega (arith, front_value, le))) parts.0 front_value in
    ap (λ f. f ++ last ∷ []) same ∙ ap (λ b. ds ++ b ∷ []) last_value

only_digit : (n : ℕ) → n < 10 → IsOnly n ((48 + n) ∷ [])
unfolding IsOnly
only_digit n lt = λ text starts digits is. digit_of_value n text lt starts digits is

only_of : (n : ℕ) (ds : List ℕ) → 10 ≤ n → ((text : List ℕ) → starts_well text ≡ true → list_all is_digit text ≡ true → value_from 0 text ≡ n / 10 → text ≡ ds) → (text : List ℕ) → starts_well text ≡ true → list_all is_digit text ≡ true → value_from 0 text ≡ n → text ≡ ds ++ ((48 + n % 10) ∷ [])
only_of n ds le only [] starts digits is = absurd cc
only_of n ds le only (b ∷ text) starts digits is =
    let m = more_of b text in
    let P : List ℕ → Type 0 = λ t. starts_well t ≡ true → list_all is_digit t ≡ true → value_from 0 t ≡ n → t ≡ ds ++ ((48 + n % 10) ∷ []) in
    subst P (sym m.is) (more_of_value n ds m.front m.last le only) starts digits is

only_more : (n : ℕ) (ds : List ℕ) → 10 ≤ n → IsOnly (n / 10) ds → IsOnly n (ds ++ ((48 + n % 10) ∷ []))
unfolding IsOnly
only_more n ds le only = λ text starts digits is. only_of n ds le only text starts digits is

decimal_is_only : (n : ℕ) → n < 2 ^ 64 → IsOnly n (decimal n)
decimal_is_only = decimal_by_steps IsOnly only_digit only_more

value_of_index : (value n : ℕ) → if_index value ≡ Some n → (value ≡ n) × (n < 4294967295)
value_of_index value n is =
    cond_both (nat_lt value 4294967295) (Some value) None (λ o. o ≡ Some n → (value ≡ n) × (n < 4294967295))
    (λ lt e. let same : value ≡ n = ap (λ o. unwrap_or o 0) e in (same, grind (arith, nat_tests)))
    (λ _ e. absurd cc)
    is

text_of_index : (text : List ℕ) (n : ℕ) → index_of text ≡ Some n → (text ≡ decimal n) × (n < 4294967295)
unfolding index_of IsOnly
text_of_index text n is =
    cond_both (starts_well text && list_all is_digit text) (if_index (value_from 0 text)) None (λ o. o ≡ Some n → (text ≡ decimal n) × (n < 4294967295))
    (λ yes e.
    let parts = split (starts_well text) (list_all is_digit text) yes in
    let v = value_of_index (value_from 0 text) n e in
    (decimal_is_only n (omega (arith, v.1)) text parts.0 parts.1 v.0, v.1))
    (λ _ e. absurd cc)
    is

pub key_of_index : (key : Key) (n : ℕ) → array_index key ≡ Some n → key ≡ Text (decimal n)
unfolding array_index
key_of_index (Text text) n is = ap Text (text_of_index text n is).0
key_of_index ToStringTag n is = absurd cc
key_of_index HasInstance n is = absurd cc
key_of_index IsConcatSpreadable n is = absurd cc

pub index_in_range : (key : Key) (n : ℕ) → array_index key ≡ Some n → n < 4294967295
unfolding array_index
index_in_range (Text text) n is = (text_of_index text n is).1
index_in_range ToStringTag n is = absurd cc
index_in_range HasInstance n is = absurd cc
index_in_range IsConcatSpreadable n is = absurd cc
