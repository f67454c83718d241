-- What was read, from the value that a reader gives.
use Rattle.std.proofs.Common.{inl, inr, ◌≡◌, ◌⊎◌, ℕ, ◌+◌, ◌≤◌, List, [], ◌∷◌, ◌++◌, length, Bool, true, false, Some, None, Ok, Err, nat_le, refl, ap, arith, length-append}
use Rattle.std.specs.Prelude.{Option, if◌then◌else◌, ◌&&◌, option_and_then}
use Rattle.std.proofs.lemmas.Bool.Decides.{nat_tests}
use Rattle.serde_json.specs.Data.{Items, no_items, item}
use Rattle.serde_json.specs.Events.{items_len}
use Rattle.serde_json.specs.Find.{get, as_array, as_str, as_number, as_integer}
use Rattle.session_reading.specs.declared.name.Name.{Name}
use Rattle.session_reading.specs.declared.path.Segment.{Segment}
use Rattle.session_reading.specs.declared.path.Segment.TheVariants.{Named, At}
use Rattle.session_reading.specs.declared.error.SessionError.{SessionError}
use Rattle.session_reading.specs.Names.{text_of}
use Rattle.session_reading.specs.Refusing.{Outcome, ◌>>=◌, under, missing, wrong_kind, out_of_range}
use Rattle.plain_data.specs.DataLimits.{most_text}
use Rattle.session_reading.specs.Reading.{Json, or_refuse, natural, whole, text, each, any_list, list_of, field, field_or, optional, field_from}
use Rattle.session_reading.specs.Forms.{Fields, knowing, and_known, read_field, read_field_or, read_optional}

-- STEPS OF A READER

pub bind_ok : {A B : Type 0} (o : Outcome A) (f : A → Outcome B) (b : B) → o >>= f ≡ Ok b → (a : A) × (o ≡ Ok a) × (f a ≡ Ok b)
bind_ok (Ok a) f b e = (a, refl, e)
bind_ok (Err x) f b e = absurd (let bad : ⊥ = cc in bad)

pub then_ok : {A : Type 0} (test : Bool) (o : Outcome A) (x : SessionError) (a : A) → (if test then o else Err x) ≡ Ok a → (test ≡ true) × (o ≡ Ok a)
then_ok true o x a e = (refl, e)
then_ok false o x a e = absurd (let bad : ⊥ = cc in bad)

pub else_ok : {A : Type 0} (test : Bool) (o : Outcome A) (x : SessionError) (a : A) → (if test then Err x else o) ≡ Ok a → (test ≡ false) × (o ≡ Ok a)
else_ok true o x a e = absurd (let bad : ⊥ = cc in bad)
else_ok false o x a e = (refl, e)

pub or_ok : {A : Type 0} (o : Option A) (x : SessionError) (a : A) → or_refuse o (Err x) ≡ Ok a → o ≡ Some a
or_ok (Some b) x a e = cc
or_ok None x a e = absurd (let bad : ⊥ = cc in bad)

under_ok : {A : Type 0} (s : Segment) (o : Outcome A) (a : A) → under s o ≡ Ok a → o ≡ Ok a
under_ok s (Ok b) a e = e
under_ok s (Err x) a e = absurd (let bad : ⊥ = cc in bad)

pub both : (a b : Bool) → a && b ≡ true → (a ≡ true) × (b ≡ true)
both true b e = (refl, e)
both false b e = absurd (let bad : ⊥ = cc in bad)

-- FIELDS

from_ok : {A : Type 0} (read : Json → Outcome A) (found : Option Json) (a : A) → field_from missing read found ≡ Ok a → (j : Json) × (read j ≡ Ok a)
from_ok read (Some j) a e = (j, e)
from_ok read None a e = absurd (let bad : ⊥ = cc in bad)

-- the field's value was read
field_ok : {A : Type 0} (name : Name) (read : Json → Outcome A) (j : Json) (a : A) → field name read j ≡ Ok a → (held : Json) × (read held ≡ Ok a)
unfolding field
field_ok name read j a e = from_ok read (get (text_of name) j) a (under_ok (Named (text_of name)) _ a e)

from_or_ok : {A : Type 0} (absent : A) (read : Json → Outcome A) (found : Option Json) (a : A) → field_from (Ok absent) read found ≡ Ok a → (absent ≡ a) ⊎ ((j : Json) × (read j ≡ Ok a))
from_or_ok absent read (Some j) a e = inr (j, e)
from_or_ok absent read None a e = inl cc

field_or_ok : {A : Type 0} (name : Name) (absent : A) (read : Json → Outcome A) (j : Json) (a : A) → field_or name absent read j ≡ Ok a → (absent ≡ a) ⊎ ((held : Json) × (read held ≡ Ok a))
unfolding field_or
field_or_ok name absent read j a e = from_or_ok absent read (get (text_of name) j) a (under_ok (Named (text_of name)) _ a e)

from_optional_ok : {A : Type 0} (read : Json → Outcome A) (found : Option Json) (o : Option A) → field_from (Ok None) (λ j. read j >>= λ a. Ok (Some a)) found ≡ Ok o → (None ≡ o) ⊎ ((j : Json) × ((a : A) × (read j ≡ Ok a) × (Some a ≡ o)))
from_optional_ok read (Some j) o e = let r = bind_ok (read j) _ o e in inr (j, (r.0, r.1, (let kept = r.2 in cc)))
from_optional_ok read None o e = inl cc

optional_ok : {A : Type 0} (name : Name) (read : Json → Outcome A) (j : Json) (o : Option A) → optional name read j ≡ Ok o → (None ≡ o) ⊎ ((held : Json) × ((a : A) × (read held ≡ Ok a) × (Some a ≡ o)))
unfolding optional
optional_ok name read j o e = from_optional_ok read (get (text_of name) j) o (under_ok (Named (text_of name)) _ o e)

-- FIELDS OF A FORM

known_ok : {A : Type 0} (read : Outcome A) (name : Name) (f : Fields) (x : A × Fields) → and_known read name f ≡ Ok x → read ≡ Ok x.0
known_ok (Ok a) name f x e = let same : (a, knowing name f) ≡ x = cc in ap (λ (y : _ × Fields). Ok y.0) same
known_ok (Err r) name f x e = absurd (let bad : ⊥ = cc in bad)

pub read_field_ok : {A : Type 0} (name : Name) (read : Json → Outcome A) (f : Fields) (x : A × Fields) → read_field name read f ≡ Ok x → (held : Json) × (read held ≡ Ok x.0)
unfolding read_field
read_field_ok name read f x e = field_ok name read f.object x.0 (known_ok (field name read f.object) name f x e)

pub read_field_or_ok : {A : Type 0} (name : Name) (absent : A) (read : Json → Outcome A) (f : Fields) (x : A × Fields) → read_field_or name absent read f ≡ Ok x → (absent ≡ x.0) ⊎ ((held : Json) × (read held ≡ Ok x.0))
unfolding read_field_or
read_field_or_ok name absent read f x e = field_or_ok name absent read f.object x.0 (known_ok (field_or name absent read f.object) name f x e)

pub read_optional_ok : {A : Type 0} (name : Name) (read : Json → Outcome A) (f : Fields) (x : Option A × Fields) → read_optional name read f ≡ Ok x → (None ≡ x.0) ⊎ ((held : Json) × ((a : A) × (read held ≡ Ok a) × (Some a ≡ x.0)))
unfolding read_optional
read_optional_ok name read f x e = optional_ok name read f.object x.0 (known_ok (optional name read f.object) name f x e)

-- NUMBERS AND TEXTS

pub whole_ok : (least most : ℕ) (j : Json) (n : ℕ) → whole least most j ≡ Ok n → (least ≤ n) × (n ≤ most)
unfolding whole
whole_ok least most j n e =
    let z = bind_ok (or_refuse (option_and_then as_integer (as_number j)) wrong_kind) _ n e in
    let m = bind_ok (or_refuse (natural z.0) out_of_range) _ n z.2 in
    let fits = then_ok (nat_le least m.0 && nat_le m.0 most) (Ok m.0) _ n m.2 in
    let within = both (nat_le least m.0) (nat_le m.0 most) fits.0 in
    let same : m.0 ≡ n = let kept = fits.1 in cc in
    rw (← same) (grind (arith, nat_tests, within.0), grind (arith, nat_tests, within.1))

pub text_ok : (j : Json) (s : List ℕ) → text j ≡ Ok s → length s ≤ most_text
unfolding text
text_ok j s e =
    let held = bind_ok (or_refuse (as_str j) wrong_kind) _ s e in
    let short = then_ok (nat_le (length held.0) most_text) (Ok held.0) _ s held.2 in
    let same : held.0 ≡ s = let kept = short.1 in cc in
    rw (← same) (grind (arith, nat_tests, short.0))

-- LISTS

-- what holds of no items, and of one more item that was read after others, holds of a list that was read
pub each_keeps : {A : Type 0} (P : List A → Type 0) (read : List A → Json → Outcome A) (keeps : (before : List A) (j : Json) (a : A) → P before → read before j ≡ Ok a → P (before ++ a ∷ [])) (before : List A) (js : Items) (after : List A) → P before → each read before js ≡ Ok after → P after
unfolding each
each_keeps P read keeps before no_items after p e = let same : before ≡ after = cc in rw (← same) p
each_keeps P read keeps before (item j js) after p e =
    let first = bind_ok (under (At (length before)) (read before j)) (λ a. each read (before ++ a ∷ []) js) after e in
    each_keeps P read keeps (before ++ first.0 ∷ []) js after (keeps before j first.0 p (under_ok _ _ first.0 first.1)) first.2

pub each_length : {A : Type 0} (read : List A → Json → Outcome A) (before : List A) (js : Items) (after : List A) → each read before js ≡ Ok after → length after ≡ length before + items_len js
unfolding each
each_length read before no_items after e = let same : before ≡ after = cc in rw (← same) (omega arith)
each_length read before (item j js) after e =
    let first = bind_ok (under (At (length before)) (read before j)) (λ a. each read (before ++ a ∷ []) js) after e in
    let rest : length after ≡ length (before ++ first.0 ∷ []) + items_len js = each_length read (before ++ first.0 ∷ []) js after first.2 in
    let more : length (before ++ first.0 ∷ []) ≡ length before + 1 = length-append before (first.0 ∷ []) in
    omega arith

-- a list that was read: its items, and how many there are
pub record IsRead {A : Type 0} (least most : ℕ) (read : List A → Json → Outcome A) (found : List A) : Type 0 where
  pub items : (js : Items) × (each read [] js ≡ Ok found)
  pub at_least : least ≤ length found
  pub at_most : length found ≤ most

pub list_ok : {A : Type 0} (least most : ℕ) (read : List A → Json → Outcome A) (j : Json) (found : List A) → list_of least most read j ≡ Ok found → IsRead least most read found
unfolding list_of
list_ok least most read j found e =
    let js = bind_ok (or_refuse (as_array j) _) _ found e in
    let fits = then_ok (nat_le least (items_len js.0) && nat_le (items_len js.0) most) (each read [] js.0) _ found js.2 in
    let within = both (nat_le least (items_len js.0)) (nat_le (items_len js.0) most) fits.0 in
    let count : length found ≡ 0 + items_len js.0 = each_length read [] js.0 found fits.1 in
    record {
      items = (js.0, fits.1);
      at_least = grind (arith, nat_tests, within.0, count);
      at_most = grind (arith, nat_tests, within.1, count);
    }

-- a list of any length that was read
pub any_list_ok : {A : Type 0} (read : List A → Json → Outcome A) (j : Json) (found : List A) → any_list read j ≡ Ok found → (js : Items) × (each read [] js ≡ Ok found)
unfolding any_list
any_list_ok read j found e = let js = bind_ok (or_refuse (as_array j) _) _ found e in (js.0, js.2)
