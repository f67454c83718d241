-- Rows, one change at a time.
use Rattle.std.proofs.Common.{◌≡◌, ℕ, zero, suc, ◌+◌, ◌<◌, List, [], ◌∷◌, ◌++◌, length, take, get_or, slice_get, Some, None, Bool, true, false, if◌then◌else◌, refl, sym, ap, ◌∙◌}
use Rattle.std.proofs.lemmas.List.{take_more}
use Rattle.std.proofs.Math.ListN.{set}
use Rattle.std.proofs.lemmas.Slice.Eq.{bytes_eq-Decides}
use Rattle.window_props.specs.declared.key.Key.{Key}
use Rattle.window_props.specs.declared.key.Key.TheVariants.{Text, ToStringTag, HasInstance, IsConcatSpreadable}
use Rattle.window_props.specs.declared.rows.Row.{Row}
use Rattle.window_props.specs.Keys.{same_key}
use Rattle.window_props.specs.Rows.{lookup}

-- KEYS

pub same_key-true : (a b : Key) → same_key a b ≡ true → a ≡ b
unfolding same_key
same_key-true (Text a) (Text b) h = ap Text ((bytes_eq-Decides a b).0 h)
same_key-true (Text a) ToStringTag h = cc
same_key-true (Text a) HasInstance h = cc
same_key-true (Text a) IsConcatSpreadable h = cc
same_key-true ToStringTag (Text b) h = cc
same_key-true ToStringTag ToStringTag h = refl
same_key-true ToStringTag HasInstance h = cc
same_key-true ToStringTag IsConcatSpreadable h = cc
same_key-true HasInstance (Text b) h = cc
same_key-true HasInstance ToStringTag h = cc
same_key-true HasInstance HasInstance h = refl
same_key-true HasInstance IsConcatSpreadable h = cc
same_key-true IsConcatSpreadable (Text b) h = cc
same_key-true IsConcatSpreadable ToStringTag h = cc
same_key-true IsConcatSpreadable HasInstance h = cc
same_key-true IsConcatSpreadable IsConcatSpreadable h = refl

pub same_key-itself : (a : Key) → same_key a a ≡ true
unfolding same_key
same_key-itself (Text a) = (bytes_eq-Decides a a).1 refl
same_key-itself ToStringTag = refl
same_key-itself HasInstance = refl
same_key-itself IsConcatSpreadable = refl

pub same_key-sym : (a b : Key) → same_key a b ≡ same_key b a
same_key-sym a b = by (same_key a b) (same_key b a) refl refl
  where
    by : (x y : Bool) → same_key a b ≡ x → same_key b a ≡ y → same_key a b ≡ same_key b a
    by true true p q = p ∙ sym q
    by false false p q = p ∙ sym q
    by true false p q = ap (λ k. same_key a k) (sym (same_key-true a b p)) ∙ ap (λ k. same_key k a) (same_key-true a b p)
    by false true p q = ap (λ k. same_key a k) (same_key-true b a q) ∙ ap (λ k. same_key k a) (sym (same_key-true b a q))

-- LOOKING UP

-- one step, by what the first row's key is
pub there : (row : Row) (rows : List Row) (key : Key) → same_key row.key key ≡ true → lookup (row ∷ rows) key ≡ Some row.property
there row rows key e = rw e refl

pub past : (row : Row) (rows : List Row) (key : Key) → same_key row.key key ≡ false → lookup (row ∷ rows) key ≡ lookup rows key
past row rows key e = rw e refl

-- where nothing is found, the first row has another key, and the rest has nothing
pub none_first : (row : Row) (rows : List Row) (key : Key) → lookup (row ∷ rows) key ≡ None → (same_key row.key key ≡ false) × (lookup rows key ≡ None)
none_first row rows key h = by (same_key row.key key) refl
  where
    by : (b : Bool) → same_key row.key key ≡ b → (same_key row.key key ≡ false) × (lookup rows key ≡ None)
    by true e = absurd (let n : Some row.property ≡ None = sym (there row rows key e) ∙ h in cc)
    by false e = (e, sym (past row rows key e) ∙ h)

pub lookup-none : (rows more : List Row) (key : Key) → lookup rows key ≡ None → lookup (rows ++ more) key ≡ lookup more key
lookup-none [] more key h = refl
lookup-none (row ∷ rows) more key h = let f = none_first row rows key h in past row (rows ++ more) key f.0 ∙ lookup-none rows more key f.1

-- a row of another key at the end
pub lookup-other : (rows : List Row) (last : Row) (key : Key) → same_key last.key key ≡ false → lookup (rows ++ last ∷ []) key ≡ lookup rows key
lookup-other [] last key e = past last [] key e
lookup-other (row ∷ rows) last key e = ap (λ x. if same_key row.key key then Some row.property else x) (lookup-other rows last key e)

pub lookup-one_more : (rows : List Row) (i : ℕ) (key : Key) (row : Row) → i < length rows → lookup (take i rows) key ≡ None → same_key (get_or rows i row).key key ≡ false → lookup (take (i + 1) rows) key ≡ None
lookup-one_more rows i key row within none other = ap (λ rs. lookup rs key) (take_more rows i row within) ∙ lookup-none (take i rows) _ key none ∙ past _ [] key other

pub yes : {A : Type 0} (b : Bool) (x y : A) → b ≡ true → (if b then x else y) ≡ x
yes b x y e = rw e refl

pub no : {A : Type 0} (b : Bool) (x y : A) → b ≡ false → (if b then x else y) ≡ y
no b x y e = rw e refl

-- a row with the same key in its place
pub lookup-set : (rows : List Row) (i : ℕ) (old new : Row) (key k : Key) → slice_get rows i ≡ Some old → new.key ≡ old.key → same_key old.key key ≡ true → lookup (take i rows) key ≡ None → lookup (set rows i new) k ≡ (if same_key key k then Some new.property else lookup rows k)
lookup-set [] i old new key k at e same none = cc
lookup-set (row ∷ rows) zero old new key k at e same none =
    let is : row ≡ old = cc in
    let is_key : key ≡ new.key = sym (same_key-true old.key key same) ∙ sym e in
    let row_key : key ≡ row.key = sym (same_key-true old.key key same) ∙ sym (ap (λ (r : Row). r.key) is) in
    by (same_key key k) refl is_key row_key
  where
    by : (b : Bool) → same_key key k ≡ b → key ≡ new.key → key ≡ row.key → (if same_key new.key k then Some new.property else lookup rows k) ≡ (if same_key key k then Some new.property else (if same_key row.key k then Some row.property else lookup rows k))
    by true p q r = rw (p, ← q, p) refl
    by false p q r = rw (p, ← q, ← r, p) refl
lookup-set (row ∷ rows) (suc i) old new key k at e same none =
    let f = none_first row (take i rows) key none in
    let rest = lookup-set rows i old new key k at e same f.1 in
    by (same_key key k) refl f.0 rest
  where
    by : (b : Bool) → same_key key k ≡ b → same_key row.key key ≡ false → lookup (set rows i new) k ≡ (if same_key key k then Some new.property else lookup rows k) → (if same_key row.key k then Some row.property else lookup (set rows i new) k) ≡ (if same_key key k then Some new.property else (if same_key row.key k then Some row.property else lookup rows k))
    by true p other rest =
        let not_k : same_key row.key k ≡ false = ap (λ x. same_key row.key x) (sym (same_key-true key k p)) ∙ other in
        no _ _ _ not_k ∙ rest ∙ yes _ _ _ p ∙ sym (yes _ _ _ p)
    by false p other rest = ap (λ x. if same_key row.key k then Some row.property else x) (rest ∙ no _ _ _ p) ∙ sym (no _ _ _ p)
