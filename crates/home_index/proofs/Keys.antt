-- Keys that are found by their test are equal.
use Rattle.std.proofs.Common.{◌≡◌, ℕ, false, refl, ap, sym, ◌∙◌, eq-eqb}
use Rattle.std.specs.Prelude.{◌&&◌, ◌==◌}
use Rattle.std.specs.Bool.{Decides}
use Rattle.std.proofs.lemmas.Bool.{false≢true, and_parts, eqb-true}
use Rattle.home_index.specs.declared.key.Key.{Key}
use Rattle.home_index.specs.declared.key.Place.{Place}
use Rattle.home_index.specs.declared.key.Place.TheVariants.{Http, Https, Opaque}
use Rattle.home_index.specs.contracts.key.KeyPartialEq.TheImpl.{eq-value}
use Rattle.home_index.specs.Keyed.{is_same_key}

abbrev at : ℕ → Place → Key
at g p = record { group = g; place = p }

-- two keys with one kind of place
one_kind : (make : ℕ → Place) (read : Place → ℕ) → ((n : ℕ) → read (make n) ≡ n) → (g h i j : ℕ) → Decides (g == h && i == j) (at g (make i) ≡ at h (make j))
one_kind make read back g h i j = (
  λ e. let both = and_parts _ _ e in let group = eqb-true g h both.0 in let place = ap make (eqb-true i j both.1) in λ n. at (group n) (place n),
  λ e. let group : g ≡ h = ap (λ (k : Key). k.group) e in let number : i ≡ j = sym (back i) ∙ ap (λ (k : Key). read k.place) e ∙ back j in rw (eq-eqb g h group, eq-eqb i j number) refl,
)

abbrev number : Place → ℕ
number (Http i) = i
number (Https i) = i
number (Opaque i) = i

other_kinds : (g h : ℕ) (p q : Place) → (p ≡ q → ⊥) → Decides (g == h && false) (at g p ≡ at h q)
other_kinds g h p q differ = (λ e. absurd (false≢true (and_parts _ _ e).1), λ e. absurd (differ (ap (λ (k : Key). k.place) e)))

decide_at : (g h : ℕ) (p q : Place) → Decides (is_same_key (at g p) (at h q)) (at g p ≡ at h q)
decide_at g h (Http i) (Http j) = one_kind Http number (λ n. refl) g h i j
decide_at g h (Https i) (Https j) = one_kind Https number (λ n. refl) g h i j
decide_at g h (Opaque i) (Opaque j) = one_kind Opaque number (λ n. refl) g h i j
decide_at g h (Http i) (Https j) = other_kinds g h (Http i) (Https j) (λ e. cc)
decide_at g h (Http i) (Opaque j) = other_kinds g h (Http i) (Opaque j) (λ e. cc)
decide_at g h (Https i) (Http j) = other_kinds g h (Https i) (Http j) (λ e. cc)
decide_at g h (Https i) (Opaque j) = other_kinds g h (Https i) (Opaque j) (λ e. cc)
decide_at g h (Opaque i) (Http j) = other_kinds g h (Opaque i) (Http j) (λ e. cc)
decide_at g h (Opaque i) (Https j) = other_kinds g h (Opaque i) (Https j) (λ e. cc)

pub keys_decide : (a b : Key) → Decides (is_same_key a b) (a ≡ b)
keys_decide a b = decide_at a.group b.group a.place b.place

-- what `==` on keys says
tests_at : (g h : ℕ) (p q : Place) → eq-value.it (at g p) (at h q) ≡ is_same_key (at g p) (at h q)
tests_at g h (Http i) (Http j) = refl
tests_at g h (Http i) (Https j) = refl
tests_at g h (Http i) (Opaque j) = refl
tests_at g h (Https i) (Http j) = refl
tests_at g h (Https i) (Https j) = refl
tests_at g h (Https i) (Opaque j) = refl
tests_at g h (Opaque i) (Http j) = refl
tests_at g h (Opaque i) (Https j) = refl
tests_at g h (Opaque i) (Opaque j) = refl

pub key_tests : (a : Key) → eq-value.it a ≡ is_same_key a
key_tests a = λ i b. tests_at a.group b.group a.place b.place i
