-- Rows of registers after a write.
use Rattle.std.proofs.Common.{◌≡◌, ℕ, zero, suc, ◌+◌, ◌<◌, List, [], ◌∷◌, ◌++◌, take, length, set, get_or, Some, None, Bool, true, false, if◌then◌else◌, refl, ap, sym, ◌∙◌}
use Rattle.std.proofs.lemmas.List.{take_more}
use Rattle.std.proofs.lemmas.Option.{get_or_from_slice_get}
use Rattle.std.specs.Prelude.{slice_get, bytes_eq}
use Rattle.std.proofs.lemmas.Slice.Eq.{bytes_eq-Decides}
use Rattle.window_props.specs.declared.value.Value.{Value}
use Rattle.window_props.proofs.RowLaws.{yes, no}
use Rattle.script_steps.specs.declared.registers.Row.{Row}
use Rattle.script_steps.specs.Rows.{found, IsPlace, IsWritten}

bytes_true : (a b : List ℕ) → bytes_eq a b ≡ true → a ≡ b
bytes_true a b h = (bytes_eq-Decides a b).0 h

pub there : (row : Row) (rows : List Row) (name : List ℕ) → bytes_eq name row.name ≡ true → found (row ∷ rows) name ≡ Some row.value
there row rows name e = yes _ _ _ e

pub past : (row : Row) (rows : List Row) (name : List ℕ) → bytes_eq name row.name ≡ false → found (row ∷ rows) name ≡ found rows name
past row rows name e = no _ _ _ e

pub none_first : (row : Row) (rows : List Row) (name : List ℕ) → found (row ∷ rows) name ≡ None → (bytes_eq name row.name ≡ false) × (found rows name ≡ None)
none_first row rows name h = by (bytes_eq name row.name) refl
  where
    by : (b : Bool) → bytes_eq name row.name ≡ b → (bytes_eq name row.name ≡ false) × (found rows name ≡ None)
    by true e = absurd (let n : Some row.value ≡ None = sym (there row rows name e) ∙ h in cc)
    by false e = (e, sym (past row rows name e) ∙ h)

found-none : (rows more : List Row) (name : List ℕ) → found rows name ≡ None → found (rows ++ more) name ≡ found more name
found-none [] more name h = refl
found-none (row ∷ rows) more name h = let f = none_first row rows name h in past row (rows ++ more) name f.0 ∙ found-none rows more name f.1

pub found-one_more : (rows : List Row) (i : ℕ) (name : List ℕ) (row : Row) → i < length rows → found (take i rows) name ≡ None → bytes_eq name (get_or rows i row).name ≡ false → found (take (i + 1) rows) name ≡ None
found-one_more rows i name row within none other = ap (λ rs. found rs name) (take_more rows i row within) ∙ found-none (take i rows) _ name none ∙ past _ [] name other

-- a new row at the end
pub found-push : (rows : List Row) (name : List ℕ) (v : Value) → found rows name ≡ None
    → (other : List ℕ) → found (rows ++ record { name = name; value = v } ∷ []) other ≡ (if bytes_eq other name then Some v else found rows other)
found-push [] name v none other = refl
found-push (row ∷ rows) name v none other =
    let f = none_first row rows name none in
    by (bytes_eq other name) refl f.0 (found-push rows name v f.1 other)
  where
    by : (b : Bool) → bytes_eq other name ≡ b → bytes_eq name row.name ≡ false
        → found (rows ++ record { name = name; value = v } ∷ []) other ≡ (if bytes_eq other name then Some v else found rows other)
        → (if bytes_eq other row.name then Some row.value else found (rows ++ record { name = name; value = v } ∷ []) other) ≡ (if bytes_eq other name then Some v else (if bytes_eq other row.name then Some row.value else found rows other))
    by true p apart rest =
        let not_here : bytes_eq other row.name ≡ false = ap (λ x. bytes_eq x row.name) (bytes_true other name p) ∙ apart in
        no _ _ _ not_here ∙ rest ∙ yes _ _ _ p ∙ sym (yes _ _ _ p)
    by false p apart rest = ap (λ x. if bytes_eq other row.name then Some row.value else x) (rest ∙ no _ _ _ p) ∙ sym (no _ _ _ p)

-- a row of the same name in its place
pub found-set : (rows : List Row) (i : ℕ) (old : Row) (name : List ℕ) (v : Value) → slice_get rows i ≡ Some old → bytes_eq name old.name ≡ true → found (take i rows) name ≡ None
    → (other : List ℕ) → found (set rows i (record { name = old.name; value = v })) other ≡ (if bytes_eq other name then Some v else found rows other)
found-set [] i old name v at same none other = cc
found-set (row ∷ rows) zero old name v at same none other =
    let is : row ≡ old = cc in
    let old_name : name ≡ old.name = bytes_true name old.name same in
    let row_name : name ≡ row.name = old_name ∙ sym (ap (λ (r : Row). r.name) is) in
    by (bytes_eq other name) refl old_name row_name
  where
    by : (b : Bool) → bytes_eq other name ≡ b → name ≡ old.name → name ≡ row.name
        → (if bytes_eq other old.name then Some v else found rows other) ≡ (if bytes_eq other name then Some v else (if bytes_eq other row.name then Some row.value else found rows other))
    by true p q r = yes _ _ _ (ap (λ x. bytes_eq other x) (sym q) ∙ p) ∙ sym (yes _ _ _ p)
    by false p q r = no _ _ _ (ap (λ x. bytes_eq other x) (sym q) ∙ p) ∙ sym (no _ _ _ (ap (λ x. bytes_eq other x) (sym r) ∙ p)) ∙ sym (no _ _ _ p)
found-set (row ∷ rows) (suc i) old name v at same none other =
    let f = none_first row (take i rows) name none in
    by (bytes_eq other name) refl f.0 (found-set rows i old name v at same f.1 other)
  where
    by : (b : Bool) → bytes_eq other name ≡ b → bytes_eq name row.name ≡ false
        → found (set rows i (record { name = old.name; value = v })) other ≡ (if bytes_eq other name then Some v else found rows other)
        → (if bytes_eq other row.name then Some row.value else found (set rows i (record { name = old.name; value = v })) other) ≡ (if bytes_eq other name then Some v else (if bytes_eq other row.name then Some row.value else found rows other))
    by true p apart rest =
        let not_here : bytes_eq other row.name ≡ false = ap (λ x. bytes_eq x row.name) (bytes_true other name p) ∙ apart in
        no _ _ _ not_here ∙ rest ∙ yes _ _ _ p ∙ sym (yes _ _ _ p)
    by false p apart rest = ap (λ x. if bytes_eq other row.name then Some row.value else x) (rest ∙ no _ _ _ p) ∙ sym (no _ _ _ p)

found-first : (rows : List Row) (i : ℕ) (row : Row) (name : List ℕ) → slice_get rows i ≡ Some row → bytes_eq name row.name ≡ true → found (take i rows) name ≡ None → found rows name ≡ Some row.value
found-first [] i row name at same none = cc
found-first (first ∷ rows) zero row name at same none =
    let is : first ≡ row = cc in
    there first rows name (ap (λ (r : Row). bytes_eq name r.name) is ∙ same) ∙ ap (λ (r : Row). Some r.value) is
found-first (first ∷ rows) (suc i) row name at same none =
    let f = none_first first (take i rows) name none in
    past first rows name f.0 ∙ found-first rows i row name at same f.1

-- what the row at the place holds
pub found_at : (rows : List Row) (i : ℕ) (old : Row) (name : List ℕ) → old ≡ get_or rows i old → IsPlace rows name i → found rows name ≡ Some old.value
found_at rows i old name is place =
    let same : old ≡ place.row = is ∙ get_or_from_slice_get rows i place.row old place.is in
    found-first rows i place.row name place.is place.same place.first ∙ ap (λ (r : Row). Some r.value) (sym same)

-- the row at the place is written
pub written_at : (rows : List Row) (i : ℕ) (old : Row) (name : List ℕ) (v : Value) → old ≡ get_or rows i old → IsPlace rows name i → IsWritten rows (set rows i (record { name = old.name; value = v })) name v
written_at rows i old name v is place =
    let same : place.row ≡ old = sym (is ∙ get_or_from_slice_get rows i place.row old place.is) in
    found-set rows i old name v (place.is ∙ ap Some same) (ap (λ (r : Row). bytes_eq name r.name) (sym same) ∙ place.same) place.first
