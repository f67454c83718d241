-- The rows that the platform makes.
use Rattle.std.proofs.Common.{◌≡◌, List, [], ◌∷◌, map, find, option_map, Bool, true, false, not, ◌&&◌, refl, sym, ap, subst, ◌∙◌}
use Rattle.window_props.specs.declared.key.Key.{Key}
use Rattle.window_props.specs.declared.platform.Object.{Object}
use Rattle.window_props.specs.declared.platform.Object.TheVariants as object
use Rattle.window_props.specs.declared.platform.Platform.{Platform}
use Rattle.window_props.specs.Keys.{same_key, has_key, AreApart}
use Rattle.window_props.specs.Platform.{spelled, key_of, names_of, named, platform, platform_keys, made_by_platform}
use Rattle.window_props.specs.History.{store_of}
use Rattle.window_props.specs.Rows.{lookup, row_keys, store_of_rows, platform_row, platform_rows}

looked_up : (o : Object) (names : List Platform) (k : Key) → lookup (map (platform_row o) names) k ≡ option_map (made_by_platform o) (find (λ name. same_key (key_of name) k) names)
looked_up o [] k = refl
looked_up o (n ∷ names) k = by (same_key (key_of n) k) refl (looked_up o names k)
  where
    by : (b : Bool) → same_key (key_of n) k ≡ b → lookup (map (platform_row o) names) k ≡ option_map (made_by_platform o) (find (λ name. same_key (key_of name) k) names) → lookup (map (platform_row o) (n ∷ names)) k ≡ option_map (made_by_platform o) (find (λ name. same_key (key_of name) k) (n ∷ names))
    by true e rest = rw e refl
    by false e rest = rw e rest

keys_made : (o : Object) (names : List Platform) → row_keys (map (platform_row o) names) ≡ map key_of names
keys_made o [] = refl
keys_made o (n ∷ names) = ap (λ ks. key_of n ∷ ks) (keys_made o names)

pub platform_store : (o : Object) → store_of_rows o (platform_rows o) ≡ store_of o []
unfolding store_of platform platform_keys named
platform_store o = λ i. record { object = o; at = λ k. looked_up o (names_of o) k i; keys = keys_made o (names_of o) i }

abbrev are_apart : List Key → Bool
are_apart [] = true
are_apart (k ∷ keys) = not (has_key keys k) && are_apart keys

told : (keys : List Key) → are_apart keys ≡ true → AreApart keys
told [] h = tt
told (k ∷ keys) h = by (has_key keys k) refl (told keys)
  where
    by : (b : Bool) → has_key keys k ≡ b → (are_apart keys ≡ true → AreApart keys) → AreApart (k ∷ keys)
    by true e rest = absurd (let n : false ≡ true = sym (ap (λ b. not b && are_apart keys) e) ∙ h in cc)
    by false e rest = (e, rest (sym (ap (λ b. not b && are_apart keys) e) ∙ h))

pub platform_apart : (o : Object) → AreApart (row_keys (platform_rows o))
unfolding spelled same_key
platform_apart (object.Window d) = told (row_keys (platform_rows (object.Window d))) refl
platform_apart (object.Location d) = told (row_keys (platform_rows (object.Location d))) refl

pub platform_keys_apart : (o : Object) → AreApart (platform_keys o)
unfolding platform_keys
platform_keys_apart o = subst AreApart (keys_made o (names_of o)) (platform_apart o)
