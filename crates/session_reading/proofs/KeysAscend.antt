-- The keys of the data that a tidy value is ascend.
use Rattle.std.proofs.Common.{◌≡◌, ℕ, List, [], ◌∷◌, ◌++◌, Ok, Bool, true, false, ◌&&◌, refl, ap, ◌∙◌, rules}
use Rattle.std.specs.Prelude.{ℤ}
use Rattle.std.specs.Ordering.{is_lt}
use Rattle.serde_json.specs.Data as json
use Rattle.serde_json.specs.Data.{Items, no_items, item, Members, no_members, member}
use Rattle.plain_data.specs.declared.data.Data.{Data, the_lemmas}
use Rattle.plain_data.specs.declared.data.Data as D
use Rattle.plain_data.specs.Ascending.{is_below, ascend, keys_ascend, keys_of, all_ascend, values_ascend}
use Rattle.plain_data.proofs.AscendingLaws.{keys_ascend-List, keys_ascend-Record}
use Rattle.session_reading.specs.Tidy.{IsBelow, AreAscending, IsTidy, AreTidy, MembersAreTidy}
use Rattle.session_reading.specs.Reading.{Json}
use Rattle.session_reading.specs.PlainData.{safe, plain, plain_items, plain_members}
use Rattle.session_reading.proofs.Read.{bind_ok, both}

and_true : (a b : Bool) → a ≡ true → b ≡ true → a && b ≡ true
and_true true b x y = y
and_true false b x y = x

-- ONE MORE AT THE END

ascend_more : (ks : List (List ℕ)) (a b : List ℕ) → ascend (ks ++ a ∷ []) ≡ true → is_below a b ≡ true → ascend ((ks ++ a ∷ []) ++ b ∷ []) ≡ true
ascend_more [] a b up below = and_true (is_below a b) true below refl
ascend_more (k ∷ []) a b up below =
    let first = both (is_below k a) true up in
    and_true (is_below k a) _ first.0 (and_true (is_below a b) true below refl)
ascend_more (k ∷ m ∷ ks) a b up below =
    let first = both (is_below k m) (ascend (m ∷ (ks ++ a ∷ []))) up in
    and_true (is_below k m) _ first.0 (ascend_more (m ∷ ks) a b first.1 below)

all_more : (values : List Data) (value : Data) → all_ascend values ≡ true → keys_ascend value ≡ true → all_ascend (values ++ value ∷ []) ≡ true
unfolding all_ascend
all_more [] value up fine = and_true (keys_ascend value) true fine refl
all_more (v ∷ values) value up fine =
    let first = both (keys_ascend v) (all_ascend values) up in
    and_true (keys_ascend v) _ first.0 (all_more values value first.1 fine)

values_more : (members : List (List ℕ × Data)) (name : List ℕ) (value : Data) → values_ascend members ≡ true → keys_ascend value ≡ true → values_ascend (members ++ (name, value) ∷ []) ≡ true
unfolding values_ascend
values_more [] name value up fine = and_true (keys_ascend value) true fine refl
values_more (m ∷ members) name value up fine =
    let first = both (keys_ascend m.1) (values_ascend members) up in
    and_true (keys_ascend m.1) _ first.0 (values_more members name value first.1 fine)

keys_more : (members : List (List ℕ × Data)) (name : List ℕ) (value : Data) → keys_of (members ++ (name, value) ∷ []) ≡ keys_of members ++ name ∷ []
keys_more [] name value = refl
keys_more (m ∷ members) name value = ap (λ keys. m.0 ∷ keys) (keys_more members name value)

-- the keys so far ascend, and the next one goes on
abbrev Follows : List (List ℕ × Data) → Members → Type 0
Follows before no_members = ascend (keys_of before) ≡ true
Follows before (member name j ms) = ascend (keys_of before ++ name ∷ []) ≡ true

next_follows : (before : List (List ℕ × Data)) (name : List ℕ) (value : Data) (ms : Members) → ascend (keys_of before ++ name ∷ []) ≡ true → IsBelow name ms → Follows (before ++ (name, value) ∷ []) ms
next_follows before name value no_members up below = ap ascend (keys_more before name value) ∙ up
next_follows before name value (member next j ms) up below =
    ap (λ keys. ascend (keys ++ next ∷ [])) (keys_more before name value) ∙ ascend_more (keys_of before) name next up (ap is_lt below)

first_follows : (ms : Members) → Follows [] ms
first_follows no_members = refl
first_follows (member name j ms) = refl

-- VALUES

none_ascend : all_ascend [] ≡ true
unfolding all_ascend
none_ascend = refl

no_values_ascend : values_ascend [] ≡ true
unfolding values_ascend
no_values_ascend = refl

leaf-Null : keys_ascend D.Null ≡ true
leaf-Null = search (rules, the_lemmas)

leaf-Truth : (b : Bool) → keys_ascend (D.Truth b) ≡ true
leaf-Truth b = search (rules, the_lemmas)

leaf-Whole : (z : ℤ) → keys_ascend (D.Whole z) ≡ true
leaf-Whole z = search (rules, the_lemmas)

leaf-Text : (s : List ℕ) → keys_ascend (D.Text s) ≡ true
leaf-Text s = search (rules, the_lemmas)

mutual
  unfolding plain plain_items plain_members

  pub plain_ascends : (j : Json) (value : Data) → IsTidy j → plain j ≡ Ok value → keys_ascend value ≡ true
  plain_ascends json.null value t e = let same : D.Null ≡ value = let kept = e in cc in rw (← same) leaf-Null
  plain_ascends (json.boolean b) value t e = let same : D.Truth b ≡ value = let kept = e in cc in rw (← same) (leaf-Truth b)
  plain_ascends (json.number n) value t e =
      let read = bind_ok (safe n) _ value e in
      let same : D.Whole read.0 ≡ value = let kept = read.2 in cc in
      rw (← same) (leaf-Whole read.0)
  plain_ascends (json.string s) value t e = let same : D.Text s ≡ value = let kept = e in cc in rw (← same) (leaf-Text s)
  plain_ascends (json.array js) value t e =
      let read = bind_ok (plain_items [] js) _ value e in
      let same : D.List read.0 ≡ value = let kept = read.2 in cc in
      rw (← same) (keys_ascend-List read.0 ∙ items_ascend [] js read.0 none_ascend t read.1)
  plain_ascends (json.object ms) value t e =
      let read = bind_ok (plain_members [] ms) _ value e in
      let same : D.Record read.0 ≡ value = let kept = read.2 in cc in
      let up = members_ascend [] ms read.0 (first_follows ms) no_values_ascend t.0 t.1 read.1 in
      rw (← same) (keys_ascend-Record read.0 ∙ and_true (ascend (keys_of read.0)) (values_ascend read.0) up.0 up.1)

  items_ascend : (before : List Data) (js : Items) (after : List Data) → all_ascend before ≡ true → AreTidy js → plain_items before js ≡ Ok after → all_ascend after ≡ true
  items_ascend before no_items after up t e = let same : before ≡ after = let kept = e in cc in rw (← same) up
  items_ascend before (item j js) after up t e =
      let read = bind_ok (plain j) _ after e in
      items_ascend (before ++ read.0 ∷ []) js after (all_more before read.0 up (plain_ascends j read.0 t.0 read.1)) t.1 read.2

  members_ascend : (before : List (List ℕ × Data)) (ms : Members) (after : List (List ℕ × Data)) → Follows before ms → values_ascend before ≡ true → AreAscending ms → MembersAreTidy ms → plain_members before ms ≡ Ok after → (ascend (keys_of after) ≡ true) × (values_ascend after ≡ true)
  members_ascend before no_members after follows up a t e = let same : before ≡ after = let kept = e in cc in rw (← same) (follows, up)
  members_ascend before (member name j ms) after follows up a t e =
      let read = bind_ok (plain j) _ after e in
      members_ascend (before ++ (name, read.0) ∷ []) ms after (next_follows before name read.0 ms follows a.0) (values_more before name read.0 up (plain_ascends j read.0 t.0 read.1)) a.1 t.1 read.2
