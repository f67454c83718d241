-- Data fits its field exactly where it is within the limits of data and its texts are UTF-8.
use Rattle.std.proofs.Common.{◌≡◌, ℕ, ℤ, pos, negsuc, zero, suc, ◌+◌, ◌-◌, ◌^◌, ◌<◌, ◌≤◌, Bool, true, false, cond, ltb, nat_le, ◌&&◌, IsTrue, List, [], ◌∷◌, ◌++◌, length, map, Option, Some, None, refl, sym, ap, subst, ◌∙◌, ◌↔◌, arith, rules}
use Rattle.std.specs.List.{flat_map, list_all, AllByRecursion}
use Rattle.std.specs.Int.{Width, w8, w16, w64, byte_len}
use Rattle.std.specs.Str.{is_utf8}
use Rattle.std.proofs.lemmas.Bool.Decides.{nat_tests}
use Rattle.std.proofs.lemmas.List.{length-append}
use Rattle.plain_data.specs.Ascending.{ascend, ascending_step, keys_ascend}
use Rattle.plain_data.specs.DataLimits.{most_depth, most_size, deepest, depth_step, depth, total, size_step, encoded_size, is_safe, is_short, range_step, parts_in_range, within_limits}
use Rattle.plain_data.specs.declared.data.Data.{Data, roll-Data, out-Data, the_lemmas}
use Rattle.plain_data.specs.declared.data.Data.TheFolds.{fold-roll-Data}
use Rattle.plain_data.specs.declared.data.Data.TheOpen.{Data-F}
use Rattle.link_fields.specs.Field.{◌⊗◌}
use Rattle.link_fields.specs.Basic.{number_bytes, u16, small, is_text, text}
use Rattle.link_fields.specs.Values.{word_of, is_exact, whole, counted, is_after, MembersFit, ascending, level, value}
use Rattle.link_fields.specs.Skipping.{data_field}
use Rattle.link_fields.specs.Limits.{utf8_step, texts_are_utf8}
use Rattle.link_fields.proofs.FieldLaws.{IsWide, wide8, wide16, at_most}
use Rattle.link_fields.proofs.ValueLaws.{wide64}

-- ---- tests

one_of : (a b : Bool) → (a && b) ≡ true → (a ≡ true) × (b ≡ true)
one_of true b h = (refl, h)
one_of false b h = absurd cc

both : (a b : Bool) → a ≡ true → b ≡ true → (a && b) ≡ true
both a b p q = rw (p, q) refl

at_least : (n m : ℕ) → n ≤ m → nat_le n m ≡ true
at_least n m h = grind (arith, nat_tests)

-- ---- numbers and texts

safe_if_exact : (z : ℤ) → is_exact z ≡ true → is_safe z ≡ true
safe_if_exact (pos n) h = h
safe_if_exact (negsuc k) h = grind (arith, nat_tests)

exact_if_safe : (z : ℤ) → is_safe z ≡ true → is_exact z ≡ true
exact_if_safe (pos n) h = h
exact_if_safe (negsuc k) h = grind (arith, nat_tests)

exact_fits : (z : ℤ) → is_exact z ≡ true → whole.Fits z
exact_fits (pos n) h =
    let le : n ≤ 9007199254740991 = at_most _ _ h in
    let lt : ltb n (2 ^ 63) ≡ true = grind (arith, nat_tests) in
    ((omega arith, ap (λ b. cond b (pos n) (negsuc (2 ^ 64 - 1 - n))) lt), h)
exact_fits (negsuc k) h =
    let lt : k < 9007199254740991 = grind (arith, nat_tests) in
    let word = 2 ^ 64 - 1 - k in
    let far : ltb word (2 ^ 63) ≡ false = grind (arith, nat_tests) in
    let back : 2 ^ 64 - 1 - word ≡ k = omega arith in
    ((omega arith, ap (λ b. cond b (pos word) (negsuc (2 ^ 64 - 1 - word))) far ∙ ap negsuc back), h)

bytes_long : (w : Width) (limit : ℕ) → IsWide w limit → (n : ℕ) → length (number_bytes w n) ≡ byte_len w
unfolding number_bytes
bytes_long w limit wide n = wide.len n

text_parts : (s : List ℕ) → is_text s ≡ true → (is_utf8 s ≡ true) × (is_short s ≡ true)
unfolding is_text
text_parts s h = one_of (is_utf8 s) (is_short s) h

text_fits : (s : List ℕ) → is_utf8 s ≡ true → is_short s ≡ true → text.Fits s
unfolding is_text
text_fits s u h = let le : length s ≤ 1024 = at_most _ _ h in (omega arith, both _ _ u h)

text_long : (s : List ℕ) → length (text.spell s) ≡ 2 + length s
text_long s = omega (arith, length-append (number_bytes w16 (length s)) s, bytes_long w16 (2 ^ 16) wide16 (length s))

-- ---- one value

-- the limits, but for the size
pub record Within (n : ℕ) (d : Data) : Type 0 where
  pub deep : depth d ≤ n
  pub range : parts_in_range d ≡ true
  pub keys : keys_ascend d ≡ true
  pub utf8 : texts_are_utf8 d ≡ true

-- that data of at most a depth agrees with them
pub record Agrees (n : ℕ) : Type 0 where
  pub into : (d : Data) → (value n).Fits d → Within n d
  pub out : (d : Data) → Within n d → encoded_size d ≤ most_size → (value n).Fits d
  pub size : (d : Data) → depth d ≤ n → length ((value n).spell d) ≡ encoded_size d

roll_out : (d : Data) → roll-Data (out-Data d) ≡ d
roll_out d = search (rules, the_lemmas)

some_size_level : (l : Data-F Data) → 1 ≤ encoded_size (roll-Data l)
some_size_level Data-F.Undefined = omega (arith, fold-roll-Data ℕ size_step Data-F.Undefined)
some_size_level Data-F.Null = omega (arith, fold-roll-Data ℕ size_step Data-F.Null)
some_size_level (Data-F.Truth b) = omega (arith, fold-roll-Data ℕ size_step (Data-F.Truth b))
some_size_level (Data-F.Whole z) = omega (arith, fold-roll-Data ℕ size_step (Data-F.Whole z))
some_size_level (Data-F.Text s) = omega (arith, fold-roll-Data ℕ size_step (Data-F.Text s))
some_size_level (Data-F.List ds) = omega (arith, fold-roll-Data ℕ size_step (Data-F.List ds))
some_size_level (Data-F.Record ms) = omega (arith, fold-roll-Data ℕ size_step (Data-F.Record ms))

some_size : (d : Data) → 1 ≤ encoded_size d
some_size d = subst (λ (x : Data). 1 ≤ encoded_size x) (roll_out d) (some_size_level (out-Data d))

some_depth_level : (l : Data-F Data) → 1 ≤ depth (roll-Data l)
some_depth_level Data-F.Undefined = omega (arith, fold-roll-Data ℕ depth_step Data-F.Undefined)
some_depth_level Data-F.Null = omega (arith, fold-roll-Data ℕ depth_step Data-F.Null)
some_depth_level (Data-F.Truth b) = omega (arith, fold-roll-Data ℕ depth_step (Data-F.Truth b))
some_depth_level (Data-F.Whole z) = omega (arith, fold-roll-Data ℕ depth_step (Data-F.Whole z))
some_depth_level (Data-F.Text s) = omega (arith, fold-roll-Data ℕ depth_step (Data-F.Text s))
some_depth_level (Data-F.List ds) = omega (arith, fold-roll-Data ℕ depth_step (Data-F.List ds))
some_depth_level (Data-F.Record ms) = omega (arith, fold-roll-Data ℕ depth_step (Data-F.Record ms))

some_depth : (d : Data) → 1 ≤ depth d
some_depth d = subst (λ (x : Data). 1 ≤ depth x) (roll_out d) (some_depth_level (out-Data d))

-- ---- the items of a list

pub record ItemsWithin (n : ℕ) (ds : List Data) : Type 0 where
  pub deep : deepest (map depth ds) ≤ n
  pub range : list_all (λ b. b) (map parts_in_range ds) ≡ true
  pub keys : list_all (λ b. b) (map keys_ascend ds) ≡ true
  pub utf8 : list_all (λ b. b) (map texts_are_utf8 ds) ≡ true

items_into : (n : ℕ) → Agrees n → (ds : List Data) → AllByRecursion (value n).Fits ds → ItemsWithin n ds
items_into n a [] h = record { deep = omega arith; range = refl; keys = refl; utf8 = refl }
items_into n a (d ∷ ds) h =
    let w = a.into d h.0 in
    let ws = items_into n a ds h.1 in
    record { deep = omega (arith, w.deep, ws.deep); range = both _ _ w.range ws.range; keys = both _ _ w.keys ws.keys; utf8 = both _ _ w.utf8 ws.utf8 }

items_out : (n : ℕ) → Agrees n → (ds : List Data) → ItemsWithin n ds → total (map encoded_size ds) ≤ most_size → AllByRecursion (value n).Fits ds
items_out n a [] w small = tt
items_out n a (d ∷ ds) w small =
    let range = one_of _ _ w.range in
    let keys = one_of _ _ w.keys in
    let utf8 = one_of _ _ w.utf8 in
    let first : Within n d = record { deep = omega (arith, w.deep); range = range.0; keys = keys.0; utf8 = utf8.0 } in
    let others : ItemsWithin n ds = record { deep = omega (arith, w.deep); range = range.1; keys = keys.1; utf8 = utf8.1 } in
    (a.out d first (omega arith), items_out n a ds others (omega arith))

items_size : (n : ℕ) → Agrees n → (ds : List Data) → deepest (map depth ds) ≤ n → length (flat_map (value n).spell ds) ≡ total (map encoded_size ds)
items_size n a [] deep = refl
items_size n a (d ∷ ds) deep = omega (arith, length-append ((value n).spell d) (flat_map (value n).spell ds), a.size d (omega arith), items_size n a ds (omega arith))

items_count : (ds : List Data) → length ds ≤ total (map encoded_size ds)
items_count [] = omega arith
items_count (d ∷ ds) = omega (arith, some_size d, items_count ds)

-- ---- the members of a record

abbrev valued : {A : Type 0} → (Data → A) → List (List ℕ × Data) → List (List ℕ × A)
valued f ms = map (λ m. (m.0, f m.1)) ms

abbrev values_of : {A : Type 0} → List (List ℕ × A) → List A
values_of ms = map (λ m. m.1) ms

abbrev keys_of : {A : Type 0} → List (List ℕ × A) → List (List ℕ)
keys_of ms = map (λ m. m.0) ms

abbrev sizes_of : List (List ℕ × ℕ) → List ℕ
sizes_of ms = map (λ m. 2 + length m.0 + m.1) ms

abbrev ascend_behind : Option (List ℕ) → List (List ℕ) → Bool
ascend_behind None keys = ascend keys
ascend_behind (Some before) keys = ascend (before ∷ keys)

none_behind : (before : Option (List ℕ)) → ascend_behind before [] ≡ true
none_behind None = refl
none_behind (Some before) = refl

one_behind : (before : Option (List ℕ)) (key : List ℕ) (keys : List (List ℕ)) → ascend_behind before (key ∷ keys) ≡ (is_after before key && ascend_behind (Some key) keys)
one_behind None key keys = refl
one_behind (Some before) key keys = refl

pub record MembersWithin (n : ℕ) (before : Option (List ℕ)) (ms : List (List ℕ × Data)) : Type 0 where
  pub deep : deepest (values_of (valued depth ms)) ≤ n
  pub range : list_all (λ (m : List ℕ × Bool). is_short m.0 && m.1) (valued parts_in_range ms) ≡ true
  pub order : ascend_behind before (keys_of (valued keys_ascend ms)) ≡ true
  pub keys : list_all (λ (m : List ℕ × Bool). m.1) (valued keys_ascend ms) ≡ true
  pub utf8 : list_all (λ (m : List ℕ × Bool). is_utf8 m.0 && m.1) (valued texts_are_utf8 ms) ≡ true

members_into : (n : ℕ) → Agrees n → (before : Option (List ℕ)) (ms : List (List ℕ × Data)) → MembersFit (value n) before ms → MembersWithin n before ms
members_into n a before [] h = record { deep = omega arith; range = refl; order = none_behind before; keys = refl; utf8 = refl }
members_into n a before (m ∷ ms) h =
    let w = a.into m.1 h.0.1 in
    let key = text_parts m.0 h.0.0.0.1 in
    let ws = members_into n a (Some m.0) ms h.1 in
    record {
      deep = omega (arith, w.deep, ws.deep);
      range = both _ _ (both _ _ key.1 w.range) ws.range;
      order = one_behind before m.0 (keys_of (valued keys_ascend ms)) ∙ both _ _ h.0.0.1 ws.order;
      keys = both _ _ w.keys ws.keys;
      utf8 = both _ _ (both _ _ key.0 w.utf8) ws.utf8;
    }

members_out : (n : ℕ) → Agrees n → (before : Option (List ℕ)) (ms : List (List ℕ × Data)) → MembersWithin n before ms → total (sizes_of (valued encoded_size ms)) ≤ most_size → MembersFit (value n) before ms
members_out n a before [] w small = tt
members_out n a before (m ∷ ms) w small =
    let first_deep : depth m.1 ≤ n = omega (arith, w.deep) in
    let others_deep : deepest (values_of (valued depth ms)) ≤ n = omega (arith, w.deep) in
    let first_small : encoded_size m.1 ≤ most_size = omega arith in
    let others_small : total (sizes_of (valued encoded_size ms)) ≤ most_size = omega arith in
    let range = one_of _ _ w.range in
    let short = one_of _ _ range.0 in
    let keys = one_of _ _ w.keys in
    let utf8 = one_of _ _ w.utf8 in
    let first_utf8 = one_of _ _ utf8.0 in
    let order = one_of _ _ (sym (one_behind before m.0 (keys_of (valued keys_ascend ms))) ∙ w.order) in
    let first : Within n m.1 = record { deep = first_deep; range = short.1; keys = keys.0; utf8 = first_utf8.1 } in
    let others : MembersWithin n (Some m.0) ms = record { deep = others_deep; range = range.1; order = order.1; keys = keys.1; utf8 = utf8.1 } in
    (((text_fits m.0 first_utf8.0 short.0, order.0), a.out m.1 first first_small), members_out n a (Some m.0) ms others others_small)

members_size : (n : ℕ) → Agrees n → (ms : List (List ℕ × Data)) → deepest (values_of (valued depth ms)) ≤ n → length (flat_map (text ⊗ value n).spell ms) ≡ total (sizes_of (valued encoded_size ms))
members_size n a [] deep = refl
members_size n a (m ∷ ms) deep =
    omega (arith, length-append ((text ⊗ value n).spell m) (flat_map (text ⊗ value n).spell ms), length-append (text.spell m.0) ((value n).spell m.1), text_long m.0, a.size m.1 (omega arith), members_size n a ms (omega arith))

members_count : (ms : List (List ℕ × Data)) → length ms ≤ total (sizes_of (valued encoded_size ms))
members_count [] = omega arith
members_count (m ∷ ms) = omega (arith, members_count ms)

-- ---- one level

leaf : (n : ℕ) (l : Data-F Data) → depth (roll-Data l) ≡ 1 → parts_in_range (roll-Data l) ≡ true → keys_ascend (roll-Data l) ≡ true → texts_are_utf8 (roll-Data l) ≡ true → Within (suc n) (roll-Data l)
leaf n l d r k u = record { deep = omega arith; range = r; keys = k; utf8 = u }

level_into : (n : ℕ) → Agrees n → (l : Data-F Data) → (level (value n)).Fits l → Within (suc n) (roll-Data l)
level_into n a Data-F.Undefined h = leaf n Data-F.Undefined (fold-roll-Data ℕ depth_step Data-F.Undefined) (fold-roll-Data Bool range_step Data-F.Undefined) (fold-roll-Data Bool ascending_step Data-F.Undefined) (fold-roll-Data Bool utf8_step Data-F.Undefined)
level_into n a Data-F.Null h = leaf n Data-F.Null (fold-roll-Data ℕ depth_step Data-F.Null) (fold-roll-Data Bool range_step Data-F.Null) (fold-roll-Data Bool ascending_step Data-F.Null) (fold-roll-Data Bool utf8_step Data-F.Null)
level_into n a (Data-F.Truth b) h = let l : Data-F Data = Data-F.Truth b in leaf n l (fold-roll-Data ℕ depth_step l) (fold-roll-Data Bool range_step l) (fold-roll-Data Bool ascending_step l) (fold-roll-Data Bool utf8_step l)
level_into n a (Data-F.Whole z) h =
    let l : Data-F Data = Data-F.Whole z in
    let e : h.1.0 ≡ z = cc in
    let exact : is_exact z ≡ true = subst (λ (y : ℤ). is_exact y ≡ true) e h.1.1.1 in
    leaf n l (fold-roll-Data ℕ depth_step l) (fold-roll-Data Bool range_step l ∙ safe_if_exact z exact) (fold-roll-Data Bool ascending_step l) (fold-roll-Data Bool utf8_step l)
level_into n a (Data-F.Text s) h =
    let l : Data-F Data = Data-F.Text s in
    let e : h.1.0 ≡ s = cc in
    let parts = text_parts s (subst (λ (t : List ℕ). is_text t ≡ true) e h.1.1.1) in
    leaf n l (fold-roll-Data ℕ depth_step l) (fold-roll-Data Bool range_step l ∙ parts.1) (fold-roll-Data Bool ascending_step l) (fold-roll-Data Bool utf8_step l ∙ parts.0)
level_into n a (Data-F.List ds) h =
    let l : Data-F Data = Data-F.List ds in
    let e : h.1.0 ≡ ds = cc in
    let w = items_into n a ds (subst (λ (xs : List Data). AllByRecursion (value n).Fits xs) e h.1.1.1) in
    record {
      deep = omega (arith, fold-roll-Data ℕ depth_step l, w.deep);
      range = fold-roll-Data Bool range_step l ∙ w.range;
      keys = fold-roll-Data Bool ascending_step l ∙ w.keys;
      utf8 = fold-roll-Data Bool utf8_step l ∙ w.utf8;
    }
level_into n a (Data-F.Record ms) h =
    let l : Data-F Data = Data-F.Record ms in
    let e : h.1.0 ≡ ms = cc in
    let w = members_into n a None ms (subst (λ (xs : List (List ℕ × Data)). MembersFit (value n) None xs) e h.1.1.1) in
    record {
      deep = omega (arith, fold-roll-Data ℕ depth_step l, w.deep);
      range = fold-roll-Data Bool range_step l ∙ w.range;
      keys = fold-roll-Data Bool ascending_step l ∙ both _ _ w.order w.keys;
      utf8 = fold-roll-Data Bool utf8_step l ∙ w.utf8;
    }

level_out : (n : ℕ) → Agrees n → (l : Data-F Data) → Within (suc n) (roll-Data l) → encoded_size (roll-Data l) ≤ most_size → (level (value n)).Fits l
level_out n a Data-F.Undefined w small = ((omega arith, refl), refl)
level_out n a Data-F.Null w small = ((omega arith, refl), refl)
level_out n a (Data-F.Truth true) w small = ((omega arith, refl), refl)
level_out n a (Data-F.Truth false) w small = ((omega arith, refl), refl)
level_out n a (Data-F.Whole z) w small =
    let l : Data-F Data = Data-F.Whole z in
    ((omega arith, refl), (z, exact_fits z (exact_if_safe z (sym (fold-roll-Data Bool range_step l) ∙ w.range)), refl))
level_out n a (Data-F.Text s) w small =
    let l : Data-F Data = Data-F.Text s in
    ((omega arith, refl), (s, text_fits s (sym (fold-roll-Data Bool utf8_step l) ∙ w.utf8) (sym (fold-roll-Data Bool range_step l) ∙ w.range), refl))
level_out n a (Data-F.List ds) w small =
    let l : Data-F Data = Data-F.List ds in
    let long : encoded_size (roll-Data l) ≡ 3 + total (map encoded_size ds) = fold-roll-Data ℕ size_step l in
    let inside : ItemsWithin n ds = record {
      deep = omega (arith, fold-roll-Data ℕ depth_step l, w.deep);
      range = sym (fold-roll-Data Bool range_step l) ∙ w.range;
      keys = sym (fold-roll-Data Bool ascending_step l) ∙ w.keys;
      utf8 = sym (fold-roll-Data Bool utf8_step l) ∙ w.utf8;
    } in
    ((omega arith, refl), (ds, (omega (arith, items_count ds), items_out n a ds inside (omega arith)), refl))
level_out n a (Data-F.Record ms) w small =
    let l : Data-F Data = Data-F.Record ms in
    let long : encoded_size (roll-Data l) ≡ 3 + total (sizes_of (valued encoded_size ms)) = fold-roll-Data ℕ size_step l in
    let keys = one_of _ _ (sym (fold-roll-Data Bool ascending_step l) ∙ w.keys) in
    let inside : MembersWithin n None ms = record {
      deep = omega (arith, fold-roll-Data ℕ depth_step l, w.deep);
      range = sym (fold-roll-Data Bool range_step l) ∙ w.range;
      order = keys.0;
      keys = keys.1;
      utf8 = sym (fold-roll-Data Bool utf8_step l) ∙ w.utf8;
    } in
    ((omega arith, refl), (ms, (omega (arith, members_count ms), members_out n a None ms inside (omega arith)), refl))

tag_long : (tag : ℕ) (inside : List ℕ) → length ((small 7).spell tag ++ inside) ≡ 1 + length inside
tag_long tag inside = omega (arith, length-append (number_bytes w8 tag) inside, bytes_long w8 (2 ^ 8) wide8 tag)

count_long : (count : ℕ) (inside : List ℕ) → length (u16.spell count ++ inside) ≡ 2 + length inside
count_long count inside = omega (arith, length-append (number_bytes w16 count) inside, bytes_long w16 (2 ^ 16) wide16 count)

level_size : (n : ℕ) → Agrees n → (l : Data-F Data) → depth (roll-Data l) ≤ suc n → length ((level (value n)).spell l) ≡ encoded_size (roll-Data l)
level_size n a Data-F.Undefined deep = tag_long 0 [] ∙ sym (fold-roll-Data ℕ size_step Data-F.Undefined)
level_size n a Data-F.Null deep = tag_long 1 [] ∙ sym (fold-roll-Data ℕ size_step Data-F.Null)
level_size n a (Data-F.Truth true) deep = tag_long 3 [] ∙ sym (fold-roll-Data ℕ size_step (Data-F.Truth true))
level_size n a (Data-F.Truth false) deep = tag_long 2 [] ∙ sym (fold-roll-Data ℕ size_step (Data-F.Truth false))
level_size n a (Data-F.Whole z) deep = tag_long 4 (whole.spell z) ∙ ap (λ k. 1 + k) (bytes_long w64 (2 ^ 64) wide64 (word_of z)) ∙ sym (fold-roll-Data ℕ size_step (Data-F.Whole z))
level_size n a (Data-F.Text s) deep =
    let l : Data-F Data = Data-F.Text s in
    let long : encoded_size (roll-Data l) ≡ 3 + length s = fold-roll-Data ℕ size_step l in
    omega (arith, tag_long 5 (text.spell s), text_long s)
level_size n a (Data-F.List ds) deep =
    let l : Data-F Data = Data-F.List ds in
    let long : encoded_size (roll-Data l) ≡ 3 + total (map encoded_size ds) = fold-roll-Data ℕ size_step l in
    let inside : deepest (map depth ds) ≤ n = omega (arith, fold-roll-Data ℕ depth_step l) in
    omega (arith, tag_long 6 ((counted u16 (value n)).spell ds), count_long (length ds) (flat_map (value n).spell ds), items_size n a ds inside)
level_size n a (Data-F.Record ms) deep =
    let l : Data-F Data = Data-F.Record ms in
    let long : encoded_size (roll-Data l) ≡ 3 + total (sizes_of (valued encoded_size ms)) = fold-roll-Data ℕ size_step l in
    let inside : deepest (values_of (valued depth ms)) ≤ n = omega (arith, fold-roll-Data ℕ depth_step l) in
    omega (arith, tag_long 7 ((ascending (value n)).spell ms), count_long (length ms) (flat_map (text ⊗ value n).spell ms), members_size n a ms inside)

-- ---- values, and the field of data

too_deep : {A : Type 0} (d : Data) → depth d ≤ 0 → A
too_deep d h = absurd (omega (arith, some_depth d, h))

value_agrees : (n : ℕ) → Agrees n
unfolding value
value_agrees zero = record {
  into = λ d h. absurd h;
  out = λ d w small. too_deep d w.deep;
  size = λ d deep. too_deep d deep;
}
value_agrees (suc n) =
    let a : Agrees n = value_agrees n in
    record {
      into = λ d h. subst (Within (suc n)) h.1 (level_into n a (out-Data d) h.0);
      out = λ d w small. (level_out n a (out-Data d) (subst (Within (suc n)) (sym (roll_out d)) w) (subst (λ (x : Data). encoded_size x ≤ most_size) (sym (roll_out d)) small), roll_out d);
      size = λ d deep. level_size n a (out-Data d) (subst (λ (x : Data). depth x ≤ suc n) (sym (roll_out d)) deep) ∙ ap encoded_size (roll_out d);
    }

four : (a b c d : Bool) → a ≡ true → b ≡ true → c ≡ true → d ≡ true → (a && b && c && d) ≡ true
four a b c d p q r s = rw (p, q, r, s) refl

limits_if_fits : (d : Data) → data_field.Fits d → IsTrue (within_limits d) × IsTrue (texts_are_utf8 d)
unfolding within_limits
limits_if_fits d h =
    let a = value_agrees most_depth in
    let w = a.into d h.0 in
    let small : encoded_size d ≤ most_size = omega (arith, a.size d w.deep, h.1) in
    (four _ _ _ _ (at_least _ _ w.deep) (at_least _ _ small) w.range w.keys, w.utf8)

fits_if_limits : (d : Data) → IsTrue (within_limits d) → IsTrue (texts_are_utf8 d) → data_field.Fits d
unfolding within_limits
fits_if_limits d h u =
    let a = value_agrees most_depth in
    let keys = one_of _ _ h in
    let range = one_of _ _ keys.0 in
    let size = one_of _ _ range.0 in
    let w : Within most_depth d = record { deep = at_most _ _ size.0; range = range.1; keys = keys.1; utf8 = u } in
    let small : encoded_size d ≤ most_size = at_most _ _ size.1 in
    (a.out d w small, omega (arith, a.size d w.deep, small))

pub data_fits : (d : Data) → data_field.Fits d ↔ (IsTrue (within_limits d) × IsTrue (texts_are_utf8 d))
data_fits d = (limits_if_fits d, λ h. fits_if_limits d h.0 h.1)
