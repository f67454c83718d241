-- What an act leaves of the rows.
use Rattle.std.proofs.Common.{◌≡◌, ℕ, zero, suc, ◌<◌, List, [], ◌∷◌, ◌++◌, length, take, filter, get_or, slice_get, Option, Some, None, Bool, true, false, not, ◌||◌, if◌then◌else◌, refl, sym, ap, ◌∙◌, subst, is_some}
use Rattle.std.proofs.Math.ListN.{set}
use Rattle.std.specs.List.{remove}
use Rattle.std.proofs.lemmas.List.{map-append}
use Rattle.window_props.specs.declared.key.Key.{Key}
use Rattle.window_props.specs.declared.platform.Object.{Object}
use Rattle.window_props.specs.declared.descriptor.Descriptor.{Descriptor}
use Rattle.window_props.specs.declared.props.SetAnswer.{SetAnswer}
use Rattle.window_props.specs.declared.props.SetAnswer.TheVariants.{Truth}
use Rattle.window_props.specs.declared.rows.Row.{Row}
use Rattle.window_props.specs.Keys.{same_key, has_key, AreApart}
use Rattle.window_props.specs.declared.platform.Role.{Role}
use Rattle.window_props.specs.declared.value.Value.{Value}
use Rattle.window_props.specs.declared.descriptor.Change.{Change}
use Rattle.window_props.specs.Ordinary.{Act, Define, Set, Delete, acted, done, Done, ordinary_define, ordinary_delete, set_to, made, plain, is_default, role_at}
use Rattle.std.proofs.lemmas.Option.{slice_get-get_or}
use Rattle.window_props.specs.History.{store_after, keys_after}
use Rattle.window_props.specs.Rows.{lookup, row_key, row_keys, store_of_rows, IsPlace, IsActed}
use Rattle.window_props.proofs.RowLaws.{same_key-true, same_key-itself, same_key-sym, there, past, none_first, lookup-none, lookup-other, lookup-set, yes, no}

-- KEYS OF ROWS

or-false : (a b : Bool) → a || b ≡ false → (a ≡ false) × (b ≡ false)
or-false true b h = cc
or-false false b h = (refl, h)

pub has_key-is : (rows : List Row) (key : Key) → has_key (row_keys rows) key ≡ is_some (lookup rows key)
has_key-is [] key = refl
has_key-is (row ∷ rows) key = by (same_key row.key key) refl (has_key-is rows key)
  where
    by : (b : Bool) → same_key row.key key ≡ b → has_key (row_keys rows) key ≡ is_some (lookup rows key) → same_key row.key key || has_key (row_keys rows) key ≡ is_some (if same_key row.key key then Some row.property else lookup rows key)
    by true e rest = rw e refl
    by false e rest = rw e rest

is_some-false : (o : Option Descriptor) → is_some o ≡ false → o ≡ None
is_some-false None h = refl
is_some-false (Some d) h = cc

missing : (rows : List Row) (key : Key) → has_key (row_keys rows) key ≡ false → lookup rows key ≡ None
missing rows key h = is_some-false (lookup rows key) (sym (has_key-is rows key) ∙ h)

has_key-append : (keys : List Key) (last key : Key) → has_key keys key ≡ false → same_key last key ≡ false → has_key (keys ++ last ∷ []) key ≡ false
has_key-append [] last key h e = rw e refl
has_key-append (k ∷ keys) last key h e = let p = or-false (same_key k key) (has_key keys key) h in rw p.0 (has_key-append keys last key p.1 e)

has_key-filter : (p : Key → Bool) (keys : List Key) (key : Key) → has_key keys key ≡ false → has_key (filter p keys) key ≡ false
has_key-filter p [] key h = refl
has_key-filter p (k ∷ keys) key h = let f = or-false (same_key k key) (has_key keys key) h in by (p k) refl f.0 (has_key-filter p keys key f.1)
  where
    by : (b : Bool) → p k ≡ b → same_key k key ≡ false → has_key (filter p keys) key ≡ false → has_key (filter p (k ∷ keys)) key ≡ false
    by true e other rest = rw (e, other) rest
    by false e other rest = rw e rest

pub apart-push : (keys : List Key) (key : Key) → AreApart keys → has_key keys key ≡ false → AreApart (keys ++ key ∷ [])
apart-push [] key a h = (refl, tt)
apart-push (k ∷ keys) key a h = let p = or-false (same_key k key) (has_key keys key) h in (has_key-append keys key k a.0 (same_key-sym key k ∙ p.0), apart-push keys key a.1 p.1)

pub apart-filter : (p : Key → Bool) (keys : List Key) → AreApart keys → AreApart (filter p keys)
apart-filter p [] a = tt
apart-filter p (k ∷ keys) a = by (p k) refl (apart-filter p keys a.1)
  where
    by : (b : Bool) → p k ≡ b → AreApart (filter p keys) → AreApart (filter p (k ∷ keys))
    by true e rest = rw e (has_key-filter p keys k a.0, rest)
    by false e rest = rw e rest

-- nothing is filtered out where the key is missing
keep_all : (keys : List Key) (key : Key) → has_key keys key ≡ false → filter (λ k. not (same_key key k)) keys ≡ keys
keep_all [] key h = refl
keep_all (k ∷ keys) key h = let p = or-false (same_key k key) (has_key keys key) h in rw (same_key-sym key k, p.0) (ap (λ ks. k ∷ ks) (keep_all keys key p.1))

row_keys-set : (rows : List Row) (i : ℕ) (old new : Row) → slice_get rows i ≡ Some old → new.key ≡ old.key → row_keys (set rows i new) ≡ row_keys rows
row_keys-set [] i old new at e = cc
row_keys-set (row ∷ rows) zero old new at e = let is : row ≡ old = cc in ap (λ k. k ∷ row_keys rows) (e ∙ ap (λ (r : Row). r.key) (sym is))
row_keys-set (row ∷ rows) (suc i) old new at e = ap (λ ks. row.key ∷ ks) (row_keys-set rows i old new at e)

row_keys-remove : (rows : List Row) (i : ℕ) (old : Row) (key : Key) → slice_get rows i ≡ Some old → same_key old.key key ≡ true → lookup (take i rows) key ≡ None → AreApart (row_keys rows) → row_keys (remove rows i) ≡ filter (λ k. not (same_key key k)) (row_keys rows)
row_keys-remove [] i old key at same none a = cc
row_keys-remove (row ∷ rows) zero old key at same none a =
    let is : row ≡ old = cc in
    let row_is : row.key ≡ key = ap (λ (r : Row). r.key) is ∙ same_key-true old.key key same in
    let gone : has_key (row_keys rows) key ≡ false = subst (λ k. has_key (row_keys rows) k ≡ false) row_is a.0 in
    let itself : same_key key row.key ≡ true = ap (λ k. same_key key k) row_is ∙ same_key-itself key in
    sym (rw itself (keep_all (row_keys rows) key gone))
row_keys-remove (row ∷ rows) (suc i) old key at same none a =
    let f = none_first row (take i rows) key none in
    let other : same_key key row.key ≡ false = same_key-sym key row.key ∙ f.0 in
    sym (rw other (ap (λ ks. row.key ∷ ks) (sym (row_keys-remove rows i old key at same f.1 a.1))))

lookup-remove : (rows : List Row) (i : ℕ) (old : Row) (key k : Key) → slice_get rows i ≡ Some old → same_key old.key key ≡ true → lookup (take i rows) key ≡ None → AreApart (row_keys rows) → lookup (remove rows i) k ≡ (if same_key key k then None else lookup rows k)
lookup-remove [] i old key k at same none a = cc
lookup-remove (row ∷ rows) zero old key k at same none a =
    let is : row ≡ old = cc in
    let row_is : row.key ≡ key = ap (λ (r : Row). r.key) is ∙ same_key-true old.key key same in
    by (same_key key k) refl row_is
  where
    by : (b : Bool) → same_key key k ≡ b → row.key ≡ key → lookup rows k ≡ (if same_key key k then None else lookup (row ∷ rows) k)
    by true e is = missing rows k (subst (λ x. has_key (row_keys rows) x ≡ false) (is ∙ same_key-true key k e) a.0) ∙ sym (yes _ _ _ e)
    by false e is = sym (no _ _ _ e ∙ past row rows k (ap (λ x. same_key x k) is ∙ e))
lookup-remove (row ∷ rows) (suc i) old key k at same none a =
    let f = none_first row (take i rows) key none in
    by (same_key key k) refl f.0 (lookup-remove rows i old key k at same f.1 a.1)
  where
    by : (b : Bool) → same_key key k ≡ b → same_key row.key key ≡ false → lookup (remove rows i) k ≡ (if same_key key k then None else lookup rows k) → (if same_key row.key k then Some row.property else lookup (remove rows i) k) ≡ (if same_key key k then None else (if same_key row.key k then Some row.property else lookup rows k))
    by true p other rest =
        let not_k : same_key row.key k ≡ false = ap (λ x. same_key row.key x) (sym (same_key-true key k p)) ∙ other in
        no _ _ _ not_k ∙ rest ∙ yes _ _ _ p ∙ sym (yes _ _ _ p)
    by false p other rest = ap (λ x. if same_key row.key k then Some row.property else x) (rest ∙ no _ _ _ p) ∙ sym (no _ _ _ p)

-- found at its place
lookup-place : (rows : List Row) (i : ℕ) (row : Row) (key : Key) → slice_get rows i ≡ Some row → same_key row.key key ≡ true → lookup (take i rows) key ≡ None → lookup rows key ≡ Some row.property
lookup-place [] i row key at same none = cc
lookup-place (r ∷ rows) zero row key at same none = let is : r ≡ row = cc in there r rows key (ap (λ (x : Row). same_key x.key key) is ∙ same) ∙ ap (λ (x : Row). Some x.property) is
lookup-place (r ∷ rows) (suc i) row key at same none = let f = none_first r (take i rows) key none in past r rows key f.0 ∙ lookup-place rows i row key at same f.1

-- ACTS

after-is : (o : Object) (old new : List Row) (key : Key) (act : Act) (p : Option Descriptor) → (acted o key act (lookup old key)).property ≡ p → ((k : Key) → lookup new k ≡ (if same_key key k then p else lookup old k)) → row_keys new ≡ keys_after key (lookup old key) p (row_keys old) → store_of_rows o new ≡ store_after (store_of_rows o old) (record { key = key; act = act })
unfolding store_after
after-is o old new key act p is looks keys =
    let at : (k : Key) → lookup new k ≡ (if same_key key k then (acted o key act (lookup old key)).property else lookup old k) = λ k. looks k ∙ ap (λ x. if same_key key k then x else lookup old k) (sym is) in
    let ks : row_keys new ≡ keys_after key (lookup old key) (acted o key act (lookup old key)).property (row_keys old) = keys ∙ ap (λ x. keys_after key (lookup old key) x (row_keys old)) (sym is) in
    λ i. record { object = o; at = λ k. at k i; keys = ks i }

keys_same : (key : Key) (p : Option Descriptor) (ks : List Key) → ks ≡ keys_after key p p ks
keys_same key None ks = refl
keys_same key (Some d) ks = refl

-- nothing changed
pub kept : (o : Object) (rows : List Row) (key : Key) (act : Act) (answer : SetAnswer) → AreApart (row_keys rows) → acted o key act (lookup rows key) ≡ record { answer = answer; property = lookup rows key } → IsActed o rows rows key act answer
kept o rows key act answer apart is = record {
  told = ap (λ (d : Done). d.answer) (sym is);
  store = after-is o rows rows key act (lookup rows key) (ap (λ (d : Done). d.property) is) (λ k. by k (same_key key k) refl) (keys_same key (lookup rows key) (row_keys rows));
  apart = apart;
}
  where
    by : (k : Key) (b : Bool) → same_key key k ≡ b → lookup rows k ≡ (if same_key key k then lookup rows key else lookup rows k)
    by k true e = ap (λ x. lookup rows x) (sym (same_key-true key k e)) ∙ sym (yes _ _ _ e)
    by k false e = sym (no _ _ _ e)

-- a missing key was made
pub pushed : (o : Object) (rows : List Row) (act : Act) (row : Row) → AreApart (row_keys rows) → lookup rows row.key ≡ None → acted o row.key act None ≡ done true (Some row.property) → IsActed o rows (rows ++ row ∷ []) row.key act (Truth true)
pushed o rows act row apart none is =
    let now : acted o row.key act (lookup rows row.key) ≡ done true (Some row.property) = ap (acted o row.key act) none ∙ is in
    record {
      told = ap (λ (d : Done). d.answer) (sym now);
      store = after-is o rows (rows ++ row ∷ []) row.key act (Some row.property) (ap (λ (d : Done). d.property) now) (λ k. by k (same_key row.key k) refl) (map-append row_key rows (row ∷ []) ∙ ap (λ x. keys_after row.key x (Some row.property) (row_keys rows)) (sym none));
      apart = subst AreApart (sym (map-append row_key rows (row ∷ []))) (apart-push (row_keys rows) row.key apart (has_key-is rows row.key ∙ ap is_some none));
    }
  where
    by : (k : Key) (b : Bool) → same_key row.key k ≡ b → lookup (rows ++ row ∷ []) k ≡ (if same_key row.key k then Some row.property else lookup rows k)
    by k true e = lookup-none rows (row ∷ []) k (ap (λ x. lookup rows x) (sym (same_key-true row.key k e)) ∙ none) ∙ there row [] k e ∙ sym (yes _ _ _ e)
    by k false e = lookup-other rows row k e ∙ sym (no _ _ _ e)

-- the property at a place was changed
pub changed_at : (o : Object) (rows : List Row) (key : Key) (i : ℕ) (act : Act) (old : Row) (d : Descriptor) (answer : SetAnswer) → AreApart (row_keys rows) → slice_get rows i ≡ Some old → IsPlace rows key i → acted o key act (Some old.property) ≡ record { answer = answer; property = Some d } → IsActed o rows (set rows i (record { key = old.key; property = d })) key act answer
changed_at o rows key i act old d answer apart at place is =
    let old_is : place.row ≡ old = (let e : Some place.row ≡ Some old = sym place.is ∙ at in cc) in
    let same : same_key old.key key ≡ true = ap (λ (r : Row). same_key r.key key) (sym old_is) ∙ place.same in
    let found : lookup rows key ≡ Some old.property = lookup-place rows i old key at same place.first in
    let now : acted o key act (lookup rows key) ≡ record { answer = answer; property = Some d } = ap (acted o key act) found ∙ is in
    let keys : row_keys (set rows i (record { key = old.key; property = d })) ≡ row_keys rows = row_keys-set rows i old (record { key = old.key; property = d }) at refl in
    record {
      told = ap (λ (d : Done). d.answer) (sym now);
      store = after-is o rows (set rows i (record { key = old.key; property = d })) key act (Some d) (ap (λ (d : Done). d.property) now) (λ k. lookup-set rows i old (record { key = old.key; property = d }) key k at refl same place.first) (keys ∙ ap (λ x. keys_after key x (Some d) (row_keys rows)) (sym found));
      apart = subst AreApart (sym keys) apart;
    }

-- the property at a place was removed
pub removed_at : (o : Object) (rows : List Row) (key : Key) (i : ℕ) (act : Act) (old : Row) → AreApart (row_keys rows) → slice_get rows i ≡ Some old → IsPlace rows key i → acted o key act (Some old.property) ≡ done true None → IsActed o rows (remove rows i) key act (Truth true)
removed_at o rows key i act old apart at place is =
    let old_is : place.row ≡ old = (let e : Some place.row ≡ Some old = sym place.is ∙ at in cc) in
    let same : same_key old.key key ≡ true = ap (λ (r : Row). same_key r.key key) (sym old_is) ∙ place.same in
    let found : lookup rows key ≡ Some old.property = lookup-place rows i old key at same place.first in
    let now : acted o key act (lookup rows key) ≡ done true None = ap (acted o key act) found ∙ is in
    let keys = row_keys-remove rows i old key at same place.first apart in
    record {
      told = ap (λ (d : Done). d.answer) (sym now);
      store = after-is o rows (remove rows i) key act None (ap (λ (d : Done). d.property) now) (λ k. lookup-remove rows i old key k at same place.first apart) (keys ∙ ap (λ x. keys_after key x None (row_keys rows)) (sym found));
      apart = subst AreApart (sym keys) (apart-filter (λ k. not (same_key key k)) (row_keys rows) apart);
    }

-- AS THE CODE DOES THEM

read_at : (rows : List Row) (i : ℕ) (old : Row) → i < length rows → old ≡ get_or rows i old → slice_get rows i ≡ Some old
read_at rows i old within h = slice_get-get_or rows i old within ∙ ap Some (sym h)

pub acted_define : (o : Object) (key : Key) (c : Change) (before : Option Descriptor) → is_default o key ≡ false → acted o key (Define c) before ≡ ordinary_define c before
unfolding acted
acted_define o key c before h = no _ _ _ h

pub acted_delete : (o : Object) (key : Key) (before : Option Descriptor) → is_default o key ≡ false → acted o key Delete before ≡ ordinary_delete before
unfolding acted
acted_delete o key before h = no _ _ _ h

pub acted_set : (o : Object) (key : Key) (v : Value) (before : Option Descriptor) → acted o key (Set v) before ≡ set_to (role_at o key) v before
unfolding acted
acted_set o key v before = refl

pub default_defined : (o : Object) (rows : List Row) (key : Key) (c : Change) → AreApart (row_keys rows) → is_default o key ≡ true → IsActed o rows rows key (Define c) (Truth false)
unfolding acted
default_defined o rows key c a h = kept o rows key (Define c) (Truth false) a (yes _ _ _ h)

pub default_deleted : (o : Object) (rows : List Row) (key : Key) → AreApart (row_keys rows) → is_default o key ≡ true → IsActed o rows rows key Delete (Truth false)
unfolding acted
default_deleted o rows key a h = kept o rows key Delete (Truth false) a (yes _ _ _ h)

pub made_one : (o : Object) (rows new : List Row) (key : Key) (act : Act) (row : Row) → AreApart (row_keys rows) → lookup rows key ≡ None → row.key ≡ key → new ≡ rows ++ row ∷ [] → acted o key act None ≡ done true (Some row.property) → IsActed o rows new key act (Truth true)
made_one o rows new key act row a none is all acts =
    subst (λ (ns : List Row). IsActed o rows ns key act (Truth true)) (sym all)
    (subst (λ (k : Key). IsActed o rows (rows ++ row ∷ []) k act (Truth true)) is
    (pushed o rows act row a (ap (lookup rows) is ∙ none) (ap (λ k. acted o k act None) is ∙ acts)))

pub changed_one : (o : Object) (rows : List Row) (key : Key) (i : ℕ) (act : Act) (old : Row) (d : Descriptor) (answer : SetAnswer) → AreApart (row_keys rows) → old ≡ get_or rows i old → IsPlace rows key i → acted o key act (Some old.property) ≡ record { answer = answer; property = Some d } → IsActed o rows (set rows i (record { key = old.key; property = d })) key act answer
changed_one o rows key i act old d answer a h place is = changed_at o rows key i act old d answer a (read_at rows i old place.within h) place is

pub found_one : (rows : List Row) (key : Key) (i : ℕ) (old : Row) → old ≡ get_or rows i old → IsPlace rows key i → lookup rows key ≡ Some old.property
found_one rows key i old h place =
    let at = read_at rows i old place.within h in
    let is : place.row ≡ old = (let e : Some place.row ≡ Some old = sym place.is ∙ at in cc) in
    lookup-place rows i old key at (ap (λ (r : Row). same_key r.key key) (sym is) ∙ place.same) place.first

pub stays : (o : Object) (rows : List Row) (key : Key) (i : ℕ) (old : Row) → AreApart (row_keys rows) → old ≡ get_or rows i old → IsPlace rows key i → is_default o key ≡ false → old.property.configurable ≡ false → IsActed o rows rows key Delete (Truth false)
unfolding ordinary_delete
stays o rows key i old a h place default fixed =
    let found = found_one rows key i old h place in
    kept o rows key Delete (Truth false) a (acted_delete o key (lookup rows key) default ∙ ap ordinary_delete found ∙ no _ _ _ fixed ∙ ap (done false) (sym found))

pub gone : (o : Object) (rows new : List Row) (key : Key) (i : ℕ) (old : Row) → AreApart (row_keys rows) → old ≡ get_or rows i old → IsPlace rows key i → new ≡ remove rows i → is_default o key ≡ false → old.property.configurable ≡ true → IsActed o rows new key Delete (Truth true)
unfolding ordinary_delete
gone o rows new key i old a h place all default free =
    subst (λ (ns : List Row). IsActed o rows ns key Delete (Truth true)) (sym all)
    (removed_at o rows key i Delete old a (read_at rows i old place.within h) place (acted_delete o key (Some old.property) default ∙ yes _ _ _ free))

pub never_there : (o : Object) (rows : List Row) (key : Key) → AreApart (row_keys rows) → lookup rows key ≡ None → is_default o key ≡ false → IsActed o rows rows key Delete (Truth true)
unfolding ordinary_delete
never_there o rows key a none default = kept o rows key Delete (Truth true) a (acted_delete o key (lookup rows key) default ∙ ap ordinary_delete none ∙ ap (done true) (sym none))

pub defined_new : (c : Change) → ordinary_define c None ≡ done true (Some (made c))
unfolding ordinary_define
defined_new c = refl

pub set_new : (role : Role) (v : Value) → set_to role v None ≡ done true (Some (plain v))
unfolding set_to
set_new role v = refl
