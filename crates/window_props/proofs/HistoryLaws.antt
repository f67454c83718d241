-- Laws of the properties after any list of changes.
use Rattle.std.proofs.Common.{◌≡◌, List, [], ◌∷◌, ◌++◌, map, find, filter, option_map, Option, Some, None, Bool, true, false, not, ◌||◌, if◌then◌else◌, refl, sym, ap, ◌∙◌, is_some}
use Rattle.window_props.specs.declared.key.Key.{Key}
use Rattle.window_props.specs.declared.platform.Object.{Object}
use Rattle.window_props.specs.declared.platform.Platform.{Platform}
use Rattle.window_props.specs.declared.descriptor.Descriptor.{Descriptor}
use Rattle.window_props.specs.Keys.{same_key, has_key, AreApart}
use Rattle.window_props.specs.Platform.{key_of, names_of, named, platform, platform_keys, made_by_platform}
use Rattle.window_props.specs.Ordinary.{acted}
use Rattle.window_props.specs.History.{Call, property, keys, keys_after}
use Rattle.window_props.proofs.RowLaws.{same_key-true, same_key-sym, yes, no}
use Rattle.window_props.proofs.ActLaws.{apart-push, apart-filter}
use Rattle.window_props.proofs.PlatformLaws.{platform_keys_apart}

-- THE KEYS ARE EXACTLY WHERE A PROPERTY IS

platform_has : (o : Object) (names : List Platform) (key : Key) → has_key (map key_of names) key ≡ is_some (option_map (made_by_platform o) (find (λ name. same_key (key_of name) key) names))
platform_has o [] key = refl
platform_has o (n ∷ names) key = by (same_key (key_of n) key) refl (platform_has o names key)
  where
    by : (b : Bool) → same_key (key_of n) key ≡ b → has_key (map key_of names) key ≡ is_some (option_map (made_by_platform o) (find (λ name. same_key (key_of name) key) names)) → has_key (map key_of (n ∷ names)) key ≡ is_some (option_map (made_by_platform o) (find (λ name. same_key (key_of name) key) (n ∷ names)))
    by true e rest = rw e refl
    by false e rest = rw e rest

has_key-push : (ks : List Key) (last key : Key) → has_key (ks ++ last ∷ []) key ≡ (if same_key last key then true else has_key ks key)
has_key-push [] last key = by (same_key last key) refl
  where
    by : (b : Bool) → same_key last key ≡ b → same_key last key || false ≡ (if same_key last key then true else false)
    by true e = rw e refl
    by false e = rw e refl
has_key-push (k ∷ ks) last key = ap (λ b. same_key k key || b) (has_key-push ks last key) ∙ by (same_key k key) (same_key last key) (has_key ks key)
  where
    by : (a b c : Bool) → a || (if b then true else c) ≡ (if b then true else a || c)
    by true true c = refl
    by true false c = refl
    by false b c = refl

has_key-without : (ks : List Key) (gone key : Key) → has_key (filter (λ k. not (same_key gone k)) ks) key ≡ (if same_key gone key then false else has_key ks key)
has_key-without [] gone key = by (same_key gone key) refl
  where
    by : (b : Bool) → same_key gone key ≡ b → false ≡ (if same_key gone key then false else false)
    by true e = rw e refl
    by false e = rw e refl
has_key-without (k ∷ ks) gone key = by (same_key gone k) (same_key gone key) refl refl (has_key-without ks gone key)
  where
    by : (a b : Bool) → same_key gone k ≡ a → same_key gone key ≡ b → has_key (filter (λ k. not (same_key gone k)) ks) key ≡ (if same_key gone key then false else has_key ks key) → has_key (filter (λ k. not (same_key gone k)) (k ∷ ks)) key ≡ (if same_key gone key then false else same_key k key || has_key ks key)
    by true true e f rest = rw (e, f) (rest ∙ yes _ _ _ f)
    by true false e f rest =
        let k_is : same_key k key ≡ false = ap (λ x. same_key x key) (sym (same_key-true gone k e)) ∙ f in
        rw (e, f, k_is) (rest ∙ no _ _ _ f)
    by false true e f rest =
        let k_is : same_key k key ≡ false = ap (λ x. same_key k x) (sym (same_key-true gone key f)) ∙ same_key-sym k gone ∙ e in
        rw (e, k_is, f) (rest ∙ yes _ _ _ f)
    by false false e f rest = rw (e, f) (ap (λ b. same_key k key || b) (rest ∙ no _ _ _ f))

has_key-after : (key k : Key) (before now : Option Descriptor) (ks : List Key) (p : Bool) → has_key ks k ≡ p → has_key ks key ≡ is_some before → (same_key key k ≡ true → p ≡ is_some before) → has_key (keys_after key before now ks) k ≡ (if same_key key k then is_some now else p)
has_key-after key k None None ks p h hk same = by (same_key key k) refl
  where
    by : (b : Bool) → same_key key k ≡ b → has_key ks k ≡ (if same_key key k then false else p)
    by true e = h ∙ same e ∙ sym (yes _ _ _ e)
    by false e = h ∙ sym (no _ _ _ e)
has_key-after key k (Some d) (Some f) ks p h hk same = by (same_key key k) refl
  where
    by : (b : Bool) → same_key key k ≡ b → has_key ks k ≡ (if same_key key k then true else p)
    by true e = h ∙ same e ∙ sym (yes _ _ _ e)
    by false e = h ∙ sym (no _ _ _ e)
has_key-after key k None (Some f) ks p h hk same = has_key-push ks key k ∙ ap (λ b. if same_key key k then true else b) h
has_key-after key k (Some d) None ks p h hk same = has_key-without ks key k ∙ ap (λ b. if same_key key k then false else b) h

some_if : (b : Bool) (x y : Option Descriptor) → is_some (if b then x else y) ≡ (if b then is_some x else is_some y)
some_if true x y = refl
some_if false x y = refl

-- after any changes, a key is listed exactly where it has a property
pub keys_exact : (o : Object) (calls : List Call) (key : Key) → has_key (keys o calls) key ≡ is_some (property o calls key)
unfolding platform platform_keys named
keys_exact o [] key = platform_has o (names_of o) key
keys_exact o (call ∷ older) key =
    has_key-after call.key key (property o older call.key) (acted o call.key call.act (property o older call.key)).property (keys o older) (is_some (property o older key)) (keys_exact o older key) (keys_exact o older call.key)
    (λ e. ap (λ k. is_some (property o older k)) (sym (same_key-true call.key key e)))
    ∙ sym (some_if (same_key call.key key) (acted o call.key call.act (property o older call.key)).property (property o older key))

-- NO KEY STANDS TWICE

apart-after : (key : Key) (before now : Option Descriptor) (ks : List Key) → AreApart ks → has_key ks key ≡ is_some before → AreApart (keys_after key before now ks)
apart-after key None None ks a h = a
apart-after key (Some d) (Some f) ks a h = a
apart-after key None (Some f) ks a h = apart-push ks key a h
apart-after key (Some d) None ks a h = apart-filter (λ k. not (same_key key k)) ks a

pub keys_apart : (o : Object) (calls : List Call) → AreApart (keys o calls)
keys_apart o [] = platform_keys_apart o
keys_apart o (call ∷ older) =
    apart-after call.key (property o older call.key) (acted o call.key call.act (property o older call.key)).property (keys o older) (keys_apart o older) (keys_exact o older call.key)
